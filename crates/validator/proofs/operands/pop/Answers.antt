use Rattle.std.proofs.Common.{refl}
use Rattle.validator.proofs.OperandStack.{Takes-popped}
use Rattle.validator.proofs.operands.pop.Goals as goal

pub returns-clause-some : goal.returns-clause-some
returns-clause-some c =
    Takes-popped c.args.frame.now.unreachable c.args.frame.now.height c.args.operands.now c.pop.new.self c.pop.result c.pop.ensures.popped (c.if-not-is_above.ensures.0 refl)
