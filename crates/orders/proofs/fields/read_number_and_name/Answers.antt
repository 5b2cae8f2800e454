use Rattle.std.proofs.Common.{refl, sym, ◌∙◌, subst, arith}
use Rattle.std.specs.Prelude.{IsUtf8}
use Rattle.messages.proofs.Spellings.{number_is_long, same_number}
use Rattle.orders.proofs.fields.read_number_and_name.Goals as goal

pub returns-in_err-number-clause-none : goal.returns-in_err-number-clause-none
returns-in_err-number-clause-none c _ n name fits utf8 e =
    let long = number_is_long n name _ e in
    omega (arith, c.in_err-number.ensures.none refl)

pub returns-in-Err-clause-none : goal.returns-in-Err-clause-none
returns-in-Err-clause-none c _ n name fits utf8 e =
    let same = same_number n c.in_ok-number.number name _ fits c.in_ok-number.ensures.fits (e ∙ sym c.in_ok-number.ensures.found) in
    c.in-Err.ensures.cases.0 (subst IsUtf8 same.1 utf8)
