use Rattle.std.proofs.Common.{[], length, refl, sym, ap, ◌∙◌, arith, append-nil}
use Rattle.std.proofs.lemmas.Bool.Decides.{nat_tests}
use Rattle.messages.specs.Numbers.{number_bytes}
use Rattle.messages.proofs.Spellings.{number_is_long, same_number}
use Rattle.orders.proofs.fields.read_number.Goals as goal

pub returns-in_err-number-clause-none : goal.returns-in_err-number-clause-none
returns-in_err-number-clause-none c _ n fits e =
    let long = number_is_long n [] _ (append-nil (number_bytes n) ∙ e) in
    omega (arith, c.in_err-number.ensures.none refl)

pub returns-else-is_empty-clause-none : goal.returns-else-is_empty-clause-none
returns-else-is_empty-clause-none c _ n fits e =
    let same = same_number n c.in_ok-number.number [] _ fits c.in_ok-number.ensures.fits (append-nil (number_bytes n) ∙ e ∙ sym c.in_ok-number.ensures.found) in
    let empty = ap length same.1 in
    grind (arith, nat_tests)
