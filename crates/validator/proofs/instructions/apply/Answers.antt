use Rattle.validator.proofs.Steps.{type_refused, type_steps}
use Rattle.validator.proofs.instructions.apply.Goals as goal

pub returns : goal.returns
returns c = λ lent o type.
    let (given, takes, fits) = c.if-not-pop_operands.ensures.operands in
    (type_steps o _ type (c.pop_operands.ensures.frames.innermost) (c.pop_operands.ensures.frames.outer) takes fits c.in_ok-push_types.ensures, tt)

pub returns-then-not-pop_operands : goal.returns-then-not-pop_operands
returns-then-not-pop_operands c = λ lent o type. (tt, λ invalid. type_refused o _ type c.if-not-pop_operands.ensures.operands)
