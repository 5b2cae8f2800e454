-- Numbers that texts encode.
use Rattle.std.proofs.Common.{◌≡◌, ℕ, ◌<◌, ◌^◌, List, true, length, arith, rules}
use Rattle.std.specs.Prelude.{Result, Ok, Err}
use Rattle.std.specs.Char.{is_ascii_digit}
use Rattle.std.specs.List.{list_all}
use Rattle.std.specs.Result.{OkIff, result_ok}
use Rattle.std.specs.Str.Parse.{ParsesUnsigned}
use Rattle.std.proofs.lemmas.Grind.{common_steps}
use Rattle.std.proofs.lemmas.Str.Parse.{IsNumeralModel, numerals_by_fold, parse_digits}
use Rattle.scripts.specs.Reading.{digits_behind, is_number, number_below}

own : IsNumeralModel (λ ds. list_all is_ascii_digit ds ≡ true) (digits_behind 0)
own = numerals_by_fold _ (search rules) digits_behind (search rules)

only_digits : (bs : List ℕ) → is_number bs ≡ true → list_all is_ascii_digit bs ≡ true
only_digits bs number = grind (arith, common_steps)

below : {E : Type 0} (bound : ℕ) (bs : List ℕ) (r : Result ℕ E) → is_number bs ≡ true
    → OkIff r ((0 < length bs) × (digits_behind 0 bs < bound)) (digits_behind 0 bs) → result_ok r ≡ number_below bound bs
below bound bs (Ok x) number h = grind (arith, common_steps)
below bound bs (Err e) number h = grind (arith, common_steps)

pub parsed-below : {E : Type 0} (k : ℕ) (bs : List ℕ) (r : Result ℕ E) → is_number bs ≡ true → ParsesUnsigned k 10 bs r
    → result_ok r ≡ number_below (2 ^ k) bs
parsed-below k bs r number parses = below (2 ^ k) bs r number (parse_digits own k bs r parses (only_digits bs number))
