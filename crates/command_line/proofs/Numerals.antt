-- Numbers that texts of digits represent.
use Rattle.std.proofs.Common.{◌≡◌, ℕ, ◌<◌, ◌^◌, List, get_or, arith}
use Rattle.std.specs.Prelude.{Result, Ok, Err, SomeIff, OkIff}
use Rattle.std.specs.Result.{result_ok}
use Rattle.std.specs.Str.Parse.{IsNumeral, ParsesUnsigned, digits_value}
use Rattle.std.proofs.lemmas.Str.Parse.{digit_at, without_leading_plus_none}

-- A text that begins with a plus sign represents no number.
pub no_plus : (text : List ℕ) → get_or text 0 0 ≡ 43 → IsNumeral 10 text → ⊥
no_plus text plus numeral =
    let digit = digit_at text 0 numeral.1 numeral.0 in omega (arith, digit, plus)

some-if-ok : {E : Type 0} (P : Type 0) (n : ℕ) (r : Result ℕ E) → OkIff r P n → SomeIff (result_ok r) P n
some-if-ok P n (Ok found) h = h
some-if-ok P n (Err error) h = h

-- Any other text is parsed unchanged.
pub parsed : {E : Type 0} (text : List ℕ) (r : Result ℕ E) → (get_or text 0 0 ≡ 43 → ⊥) → ParsesUnsigned 64 10 text r
    → SomeIff (result_ok r) (IsNumeral 10 text × (digits_value 10 text < 2 ^ 64)) (digits_value 10 text)
parsed text r plain parses = some-if-ok _ _ r (rw (without_leading_plus_none text plain) at parses)
