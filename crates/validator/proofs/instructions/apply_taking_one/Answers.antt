use Rattle.std.proofs.Common.{append-nil, refl, sym}
use Rattle.validator.proofs.Steps.{type_refused, type_steps}
use Rattle.validator.proofs.instructions.apply_taking_one.Goals as goal

pub returns : goal.returns
returns c = λ lent o type.
    let (given, takes, fits) = c.if-not-pop_one.ensures in
    (type_steps o _ type refl refl takes fits (sym (append-nil _)), tt)

pub returns-then-not-pop_one : goal.returns-then-not-pop_one
returns-then-not-pop_one c = λ lent o type. (tt, λ invalid. type_refused o _ type c.if-not-pop_one.ensures)
