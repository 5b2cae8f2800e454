-- The library's rotations, which join two shifted parts, are sums of the parts.
use Rattle.std.proofs.Common.{ℕ, zero, suc, ◌≡◌, ◌<◌, ◌+◌, ◌-◌, ◌*◌, ◌/◌, ◌%◌, ◌^◌, ◌∙◌, sym, ap, refl, arith, add-zero}
use Rattle.std.specs.Prelude.{bit_or}
use Rattle.std.specs.Int.{rotate_left, rotate_right, w32, w64}
use Rattle.std.specs.Int.Bits.{or_self}
use Rattle.std.proofs.Math.Nat.{mod-lt, mod_self, mod-eq_of_lt, div-eq_of_lt, div-one, mul-one, mod-one, zero-mul, sub-zero, zero-lt-suc, add_comm}
use Rattle.std.proofs.lemmas.Nat.{or_shifted, or_comm, shr_below}
use Rattle.meaning.specs.execution.Numerics.{rotated_left, rotated_right}
use Rattle.meaning.proofs.lemmas.Formulas.{high_part, low_part}

-- with j + k bits
joined_left : (a j k : ℕ) → a < 2 ^ (j + k) → bit_or ((a * 2 ^ k) % 2 ^ (j + k)) (a / 2 ^ j) ≡ (a * 2 ^ k) % 2 ^ (j + k) + (a * 2 ^ k) / 2 ^ (j + k)
joined_left a j k h =
    let small : a < 2 ^ (k + j) = rw (add_comm k j) h in
    simp (low_part, high_part) (or_shifted (a % 2 ^ j) k (a / 2 ^ j) (shr_below a k j small))

joined_right : (a j k : ℕ) → a < 2 ^ (j + k) → bit_or (a / 2 ^ k) ((a * 2 ^ j) % 2 ^ (k + j)) ≡ a / 2 ^ k + (a % 2 ^ k) * 2 ^ j
joined_right a j k h =
    ap (λ x. bit_or (a / 2 ^ k) x) (low_part a k j)
    ∙ or_comm (a / 2 ^ k) ((a % 2 ^ k) * 2 ^ j)
    ∙ or_shifted (a % 2 ^ k) j (a / 2 ^ k) (shr_below a j k h)
    ∙ add_comm ((a % 2 ^ k) * 2 ^ j) (a / 2 ^ k)

-- by no place
unmoved_left : (a n : ℕ) → a < n → bit_or ((a * 1) % n) (a / 1) ≡ (a * 1) % n + (a * 1) / n
unmoved_left a n h = simp (mul-one, div-one, mod-eq_of_lt h, div-eq_of_lt h, or_self, add-zero) refl

unmoved_right : (a n p : ℕ) → a < n → bit_or (a / 1) ((a * 1) % n) ≡ a / 1 + (a % 1) * p
unmoved_right a n p h = simp (mul-one, div-one, mod-one, zero-mul, mod-eq_of_lt h, or_self, add-zero) refl

left_at : (a bits k m : ℕ) → a < 2 ^ bits → k < bits → m ≡ (bits - k) % bits → bit_or ((a * 2 ^ k) % 2 ^ bits) (a / 2 ^ m) ≡ (a * 2 ^ k) % 2 ^ bits + (a * 2 ^ k) / 2 ^ bits
left_at a bits zero m h l e =
    let none : m ≡ 0 = e ∙ simp (sub-zero, mod_self) refl in
    rw none (unmoved_left a (2 ^ bits) h)
left_at a bits (suc k) m h l e =
    let rest : m ≡ bits - suc k = e ∙ mod-eq_of_lt (omega (arith, l)) in
    let whole : bits ≡ m + suc k = omega (arith, rest, l) in
    rw whole (joined_left a m (suc k) (rw (sym whole) h))

right_at : (a bits k m : ℕ) → a < 2 ^ bits → k < bits → m ≡ (bits - k) % bits → bit_or (a / 2 ^ k) ((a * 2 ^ m) % 2 ^ bits) ≡ a / 2 ^ k + (a % 2 ^ k) * 2 ^ (bits - k)
right_at a bits zero m h l e =
    let none : m ≡ 0 = e ∙ simp (sub-zero, mod_self) refl in
    rw none (unmoved_right a (2 ^ bits) (2 ^ (bits - 0)) h)
right_at a bits (suc k) m h l e =
    let rest : m ≡ bits - suc k = e ∙ mod-eq_of_lt (omega (arith, l)) in
    let whole : bits ≡ suc k + m = omega (arith, rest, l) in
    rw (sym rest) (ap (λ n. bit_or (a / 2 ^ suc k) ((a * 2 ^ m) % 2 ^ n)) whole ∙ joined_right a m (suc k) (rw (add_comm m (suc k)) (rw (sym whole) h)))

pub left_32_is : (a k : ℕ) → a < 2 ^ 32 → rotate_left w32 a k ≡ rotated_left 32 a (k % 32)
left_32_is a k h = left_at a 32 (k % 32) _ h (mod-lt k (zero-lt-suc 31)) refl

pub left_64_is : (a k : ℕ) → a < 2 ^ 64 → rotate_left w64 a k ≡ rotated_left 64 a (k % 64)
left_64_is a k h = left_at a 64 (k % 64) _ h (mod-lt k (zero-lt-suc 63)) refl

pub right_32_is : (a k : ℕ) → a < 2 ^ 32 → rotate_right w32 a k ≡ rotated_right 32 a (k % 32)
right_32_is a k h = right_at a 32 (k % 32) _ h (mod-lt k (zero-lt-suc 31)) refl

pub right_64_is : (a k : ℕ) → a < 2 ^ 64 → rotate_right w64 a k ≡ rotated_right 64 a (k % 64)
right_64_is a k h = right_at a 64 (k % 64) _ h (mod-lt k (zero-lt-suc 63)) refl
