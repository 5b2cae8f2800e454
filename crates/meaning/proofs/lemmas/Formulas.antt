-- What the formulas of the integer operators state of numbers and of bits.
use Rattle.std.proofs.Common.{ℕ, zero, suc, ◌≡◌, ◌<◌, ◌≤◌, ◌+◌, ◌-◌, ◌*◌, ◌/◌, ◌%◌, ◌^◌, ◌∙◌, true, false, inl, inr, sym, ap, refl, arith, add-zero}
use Rattle.std.specs.Prelude.{pos, negsuc, neg_ℤ, ◌-ℤ◌, ◌≤ℤ◌, ◌<ℤ◌, unsigned_abs, if◌then◌else◌, nat_lt, ◌==◌}
use Rattle.std.specs.Int.{bit_at, int_rem_euclid}
use Rattle.std.proofs.Math.Nat.{mod-eq_of_lt, mul-mod_left, mul_assoc, pow-suc, add_comm, add-mod-mod, mod-add-mod, mod-eq-sub-mod, mod-lt, add-mod_right}
use Rattle.std.proofs.lemmas.Int.{ints}
use Rattle.std.proofs.lemmas.Nat.{mod-pow-add, shl-shr, shr-shr, shr_below, shr_split}
use Rattle.std.proofs.lemmas.Bool.{cases_lt}
use Rattle.std.proofs.lemmas.Nat.Bits.{bit_at-suc, bit_at_lowest, bit_at_cat_low, bit_at_cat_high}
use Rattle.meaning.specs.execution.Numerics.{digits, integer, rotated_left, rotated_right, signed, sum_of_bits, twos}

-- ---- signed numbers

below_zero : (a p : ℕ) → a < p → pos a -ℤ pos p ≡ negsuc (p - suc a)
below_zero a p h = omega (arith, ints)

back_from : (a h p : ℕ) → a < p → unsigned_abs (int_rem_euclid (if nat_lt a h then pos a else pos a -ℤ pos p) (pos p)) ≡ a
back_from a h p small =
    let rest : (p - suc a) % p ≡ p - suc a = mod-eq_of_lt (omega (arith, small)) in
    elim (nat_lt a h) as (λ t. unsigned_abs (int_rem_euclid (if t then pos a else pos a -ℤ pos p) (pos p)) ≡ a) [
      | true ↦ mod-eq_of_lt small
      | false ↦ rw (below_zero a p small) (omega (arith, rest, small))
    ]

pub back : (bits a : ℕ) → a < 2 ^ bits → integer bits (signed bits a) ≡ a
back bits a small = back_from a (2 ^ (bits - 1)) (2 ^ bits) small

least_from : (a h p : ℕ) → a < p → p ≤ h + h → neg_ℤ (pos h) ≤ℤ (if nat_lt a h then pos a else pos a -ℤ pos p)
least_from a h p small halves = grind (arith, ints)

greatest_from : (a h p : ℕ) → a < p → p ≤ h + h → (if nat_lt a h then pos a else pos a -ℤ pos p) <ℤ pos h
greatest_from a h p small halves = grind (arith, ints)

halves_of : (bits : ℕ) → 0 < bits → 2 ^ bits ≤ 2 ^ (bits - 1) + 2 ^ (bits - 1)
halves_of zero some = absurd (omega (arith, some))
halves_of (suc k) some = let e : suc k - 1 ≡ k = omega arith in rw e (omega (arith, pow-suc 2 k))

pub least : (bits a : ℕ) → 0 < bits → a < 2 ^ bits → neg_ℤ (pos (2 ^ (bits - 1))) ≤ℤ signed bits a
least bits a some small = least_from a (2 ^ (bits - 1)) (2 ^ bits) small (halves_of bits some)

pub greatest : (bits a : ℕ) → 0 < bits → a < 2 ^ bits → signed bits a <ℤ pos (2 ^ (bits - 1))
greatest bits a some small = greatest_from a (2 ^ (bits - 1)) (2 ^ bits) small (halves_of bits some)

-- ---- counts of bits

half_below : (k n : ℕ) → n < 2 ^ suc k → n / 2 < 2 ^ k
half_below k n h = omega (arith, h, pow-suc 2 k)

pub digits_suffice : (k a : ℕ) → a < 2 ^ k → a < 2 ^ digits k a
unfolding digits
digits_suffice zero a h = h
digits_suffice (suc k) zero h = omega arith
digits_suffice (suc k) (suc n) h =
    omega (arith, digits_suffice k (suc n / 2) (half_below k (suc n) h), pow-suc 2 (digits k (suc n / 2)))

pub no_fewer : (k a j : ℕ) → a < 2 ^ j → digits k a ≤ j
unfolding digits
no_fewer zero a j h = omega arith
no_fewer (suc k) zero j h = omega arith
no_fewer (suc k) (suc n) zero h = absurd (omega (arith, h))
no_fewer (suc k) (suc n) (suc j) h = omega (arith, no_fewer k (suc n / 2) j (half_below j (suc n) h))

is_some : (d : ℕ) → (suc d == 0) ≡ false
is_some d = grind arith

pub twos_divide : (k a : ℕ) → 0 < a → a < 2 ^ k → (m : ℕ) × (a ≡ (2 * m + 1) * 2 ^ twos k a)
unfolding twos
twos_divide zero a some h = absurd (omega (arith, some, h))
twos_divide (suc k) a some h = go (a % 2) refl (twos_divide k (a / 2))
  where
    go : (d : ℕ) → a % 2 ≡ d → (0 < a / 2 → a / 2 < 2 ^ k → (m : ℕ) × (a / 2 ≡ (2 * m + 1) * 2 ^ twos k (a / 2))) → (m : ℕ) × (a ≡ (2 * m + 1) * 2 ^ (if d == 0 then suc (twos k (a / 2)) else 0))
    go zero e rest =
        let half = rest (omega (arith, some, e)) (half_below k a h) in
        let t = twos k (a / 2) in
        let twice : a ≡ a / 2 * 2 = omega (arith, e) in
        (half.0, twice ∙ ap (λ x. x * 2) half.1 ∙ mul_assoc (2 * half.0 + 1) (2 ^ t) 2 ∙ ap (λ x. (2 * half.0 + 1) * x) (sym (pow-suc 2 t)))
    go (suc d) e rest = (a / 2, rw (is_some d) (omega (arith, e)))

pub twos_of_zero : (k : ℕ) → twos k 0 ≡ k
unfolding twos
twos_of_zero zero = refl
twos_of_zero (suc k) = ap suc (twos_of_zero k)

pub no_bits : (a : ℕ) → sum_of_bits 0 a ≡ 0
unfolding sum_of_bits
no_bits a = refl

pub one_more_bit : (k a : ℕ) → sum_of_bits (suc k) a ≡ sum_of_bits k a + bit_at a k
unfolding sum_of_bits
one_more_bit zero a = omega (arith, bit_at_lowest a)
one_more_bit (suc k) a = omega (arith, one_more_bit k (a / 2), bit_at-suc a k)

-- ---- rotations: with j + k bits

-- the low j bits, moved up by k places
pub low_part : (a j k : ℕ) → (a * 2 ^ k) % 2 ^ (j + k) ≡ (a % 2 ^ j) * 2 ^ k
low_part a j k = simp (mod-pow-add, shl-shr, mul-mod_left, add-zero) refl

-- the bits above them
pub high_part : (a j k : ℕ) → (a * 2 ^ k) / 2 ^ (j + k) ≡ a / 2 ^ j
high_part a j k =
    ap (λ x. (a * 2 ^ k) / 2 ^ x) (add_comm j k) ∙ sym (shr-shr (a * 2 ^ k) k j) ∙ ap (λ x. x / 2 ^ j) (shl-shr a k)

low_bits : (a j i : ℕ) → i < j → bit_at (a % 2 ^ j) i ≡ bit_at a i
low_bits a j i h = sym (bit_at_cat_low (a / 2 ^ j) j (a % 2 ^ j) i h) ∙ ap (λ x. bit_at x i) (shr_split a j)

high_bits : (a j i m : ℕ) → j + m ≡ i → bit_at (a / 2 ^ j) m ≡ bit_at a i
high_bits a j i m e = ap (λ x. x % 2) (shr-shr a j m) ∙ ap (bit_at a) e

-- the two parts exchange their places
moved : (a j k i place : ℕ) → a < 2 ^ (k + j) → i < j + k → place ≡ (i + k) % (j + k) → bit_at ((a % 2 ^ j) * 2 ^ k + a / 2 ^ j) place ≡ bit_at a i
moved a j k i place h l e = elim (cases_lt i j) [
  | inl below ↦
      let up : place ≡ i + k = e ∙ mod-eq_of_lt (omega (arith, below)) in
      let same : place - k ≡ i = omega (arith, up) in
      bit_at_cat_high (a % 2 ^ j) k (a / 2 ^ j) place (shr_below a k j h) (omega (arith, up)) ∙ ap (bit_at (a % 2 ^ j)) same ∙ low_bits a j i below
  | inr above ↦
      let wraps : (i + k) % (j + k) ≡ (i + k - (j + k)) % (j + k) = mod-eq-sub-mod (omega (arith, above)) in
      let low : (i + k - (j + k)) % (j + k) ≡ i + k - (j + k) = mod-eq_of_lt (omega (arith, l)) in
      let down : j + place ≡ i = omega (arith, e, wraps, low, above) in
      bit_at_cat_low (a % 2 ^ j) k (a / 2 ^ j) place (omega (arith, down, l)) ∙ high_bits a j i place down
]

left_moves : (bits j k a i : ℕ) → bits ≡ j + k → a < 2 ^ bits → i < bits → bit_at (rotated_left bits a k) ((i + k) % bits) ≡ bit_at a i
left_moves bits j k a i e h l =
    let small : a < 2 ^ (k + j) = rw (add_comm k j) (rw (sym e) h) in
    let within : i < j + k = rw (sym e) l in
    rw e (simp (low_part, high_part) (moved a j k i ((i + k) % (j + k)) small within refl))

right_moves : (bits j k a i : ℕ) → bits ≡ j + k → a < 2 ^ bits → i < bits → bit_at (rotated_right bits a k) i ≡ bit_at a ((i + k) % bits)
right_moves bits j k a i e h l =
    let small : a < 2 ^ (j + k) = rw (sym e) h in
    let sum : i + k + j ≡ i + bits = omega (arith, e) in
    let returns : ((i + k) % bits + j) % bits ≡ i = mod-add-mod (i + k) bits j ∙ ap (λ x. x % bits) sum ∙ add-mod_right i bits ∙ mod-eq_of_lt l in
    let whole : bits ≡ k + j = omega (arith, e) in
    let within : (i + k) % bits < k + j = rw (sym whole) (mod-lt (i + k) (omega (arith, l))) in
    let rest : bits - k ≡ j = omega (arith, e) in
    ap (λ m. bit_at (a / 2 ^ k + (a % 2 ^ k) * 2 ^ m) i) rest
    ∙ ap (λ n. bit_at n i) (add_comm (a / 2 ^ k) ((a % 2 ^ k) * 2 ^ j))
    ∙ moved a k j ((i + k) % bits) i small within (sym returns ∙ ap (λ n. ((i + k) % bits + j) % n) whole)

-- a rotation by b places is one by the remainder of b modulo the number of bits
pub whole_of : (bits b : ℕ) → 0 < bits → bits ≡ (bits - b % bits) + b % bits
whole_of bits b some = omega (arith, mod-lt b some)

pub left_by_bits : (bits a b i : ℕ) → a < 2 ^ bits → i < bits → bit_at (rotated_left bits a (b % bits)) ((i + b) % bits) ≡ bit_at a i
left_by_bits bits a b i h l =
    ap (bit_at (rotated_left bits a (b % bits))) (sym (add-mod-mod i b bits))
    ∙ left_moves bits (bits - b % bits) (b % bits) a i (whole_of bits b (omega (arith, l))) h l

pub right_by_bits : (bits a b i : ℕ) → a < 2 ^ bits → i < bits → bit_at (rotated_right bits a (b % bits)) i ≡ bit_at a ((i + b) % bits)
right_by_bits bits a b i h l =
    right_moves bits (bits - b % bits) (b % bits) a i (whole_of bits b (omega (arith, l))) h l
    ∙ ap (bit_at a) (add-mod-mod i b bits)
