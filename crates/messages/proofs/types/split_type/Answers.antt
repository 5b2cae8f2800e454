use Rattle.std.proofs.Common.{refl, sym, ◌∙◌, arith}
use Rattle.messages.specs.Types.{number_of}
use Rattle.messages.proofs.Fitting.{number_of-fits}
use Rattle.messages.proofs.Spellings.{number_is_long, same_number}
use Rattle.messages.proofs.types.split_type.Goals as goal

pub returns-in_err-number-clause-none : goal.returns-in_err-number-clause-none
returns-in_err-number-clause-none c _ ty rest e =
    let long = number_is_long (number_of ty) rest _ e in
    omega (arith, c.in_err-number.ensures.none refl)

pub returns-in-None-clause-none : goal.returns-in-None-clause-none
returns-in-None-clause-none c _ ty rest e =
    let same = same_number (number_of ty) c.in_ok-number.number rest _ (number_of-fits ty) c.in_ok-number.ensures.fits (e ∙ sym c.in_ok-number.ensures.found) in
    c.in-None.ensures.none refl ty same.0
