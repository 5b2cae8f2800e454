-- The remainder of a rounded quotient.
use Rattle.std.proofs.Common.{ℕ, ◌≡◌, ◌-◌, ◌*◌, ◌/◌, ◌%◌, ◌∙◌, ap, ap₂, false, arith}
use Rattle.std.specs.Prelude.{ℤ, ◌-ℤ◌, ◌*ℤ◌, ◌==◌, int_div, int_rem, FitsSigned, Ok}
use Rattle.std.specs.Int.{Width, cast_signed, cast_unsigned}
use Rattle.std.proofs.Math.Nat.{mod_def}
use Rattle.std.proofs.Math.IntN.{*ℤ_comm}
use Rattle.std.proofs.lemmas.Int.{ints, quot-rem, to_z-of_z}
use Rattle.meaning.specs.execution.Numerics.{integer, signed, remainder_signed}

pub remainder_is : (a b : ℕ) → a % b ≡ a - b * (a / b)
remainder_is a b = mod_def a b

rest_is : (a d : ℤ) → int_rem a d ≡ a -ℤ (d *ℤ int_div a d)
rest_is a d = omega (arith, ints, quot-rem a d, *ℤ_comm d (int_div a d))

not_zero : (b : ℕ) → ¬ (b ≡ 0) → (b == 0) ≡ false
not_zero b some = grind arith

-- the remainder n of a and b, which represent the signed numbers x and y
pub remainder_from : (w : Width) (bits a b n : ℕ) (x y r : ℤ) → ¬ (b ≡ 0) → x ≡ signed bits a → y ≡ signed bits b → FitsSigned w x → FitsSigned w y
    → FitsSigned w r → r ≡ int_rem (cast_signed w (cast_unsigned w x)) (cast_signed w (cast_unsigned w y)) → n
    ≡ integer bits (cast_signed w (cast_unsigned w r)) → Ok n ≡ remainder_signed bits a b
remainder_from w bits a b n x y r some ex ey fx fy fr er en =
    let left : r ≡ signed bits a -ℤ (signed bits b *ℤ int_div (signed bits a) (signed bits b)) =
    er ∙ ap₂ int_rem (to_z-of_z w x fx ∙ ex) (to_z-of_z w y fy ∙ ey) ∙ rest_is (signed bits a) (signed bits b) in
    rw (not_zero b some) (ap Ok (en ∙ ap (integer bits) (to_z-of_z w r fr ∙ left)))
