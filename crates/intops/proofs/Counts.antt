-- The library's counts of bits are those of the formulas.
use Rattle.std.proofs.Common.{ℕ, zero, suc, ◌≡◌, ◌<◌, ◌+◌, ◌-◌, ◌/◌, ◌%◌, ◌^◌, ◌∙◌, sym, ap, refl, arith}
use Rattle.std.specs.Prelude.{if◌then◌else◌, ◌==◌}
use Rattle.std.specs.Int.Count.{count_leading_zeros, count_trailing_zeros, ones, ones_step, under}
use Rattle.std.proofs.Math.Nat.{pow-suc}
use Rattle.meaning.specs.execution.Numerics.{digits, sum_of_bits, twos}

pub leading_is : (k n : ℕ) → count_leading_zeros k n ≡ k - digits k n
unfolding digits count_leading_zeros
leading_is zero n = refl
leading_is (suc k) zero = omega arith
leading_is (suc k) (suc n) = omega (arith, leading_is k (suc n / 2))

counted : (d t u : ℕ) → t ≡ u → under d t ≡ (if d == 0 then suc u else 0)
counted zero t u e = ap suc e
counted (suc d) t u e = grind arith

pub trailing_is : (k n : ℕ) → count_trailing_zeros k n ≡ twos k n
unfolding twos count_trailing_zeros
trailing_is zero n = refl
trailing_is (suc k) n = counted (n % 2) _ _ (trailing_is k (n / 2))

none_of : (n : ℕ) → n < 2 ^ 0 → 0 ≡ ones n
unfolding ones
none_of zero h = refl
none_of (suc n) h = absurd (omega (arith, h))

pub ones_are : (k n : ℕ) → n < 2 ^ k → sum_of_bits k n ≡ ones n
unfolding sum_of_bits
ones_are zero n h = none_of n h
ones_are (suc k) n h =
    ap (λ x. n % 2 + x) (ones_are k (n / 2) (omega (arith, h, pow-suc 2 k))) ∙ sym (ones_step n)
