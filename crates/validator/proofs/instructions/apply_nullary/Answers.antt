use Rattle.std.proofs.Common.{refl}
use Rattle.validator.proofs.OperandStack.{Takes-nothing}
use Rattle.validator.proofs.Steps.{type_steps}
use Rattle.validator.proofs.instructions.apply_nullary.Goals as goal

pub returns : goal.returns
returns c = λ lent o type.
    let old = c.args.stacks.now in
    (type_steps o _ type refl refl (Takes-nothing old.innermost.unreachable old.innermost.height old.operands) tt c.in_ok-push.ensures, tt)
