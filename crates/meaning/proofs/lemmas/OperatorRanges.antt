-- The results of the integer operators are integers of their width.
use Rattle.std.proofs.Common.{◌≡◌, ℕ, zero, suc, ◌+◌, ◌-◌, ◌*◌, ◌/◌, ◌%◌, ◌<◌, ◌≤◌, ◌^◌, ap, ◌∙◌, arith, true, false, Bool}
use Rattle.std.specs.Prelude.{Result, IfOk, ℤ, pos, negsuc, if◌then◌else◌, ◌==◌, int_div, int_lt}
use Rattle.std.specs.Int.Bits.{and_lt}
use Rattle.std.proofs.lemmas.Nat.{mul-add-lt, or_lt, pow-add, pow_pos, shr_below, shr_le, xor_lt}
use Rattle.std.proofs.Math.Nat.{add_comm, div-le_self, mod-lt, pow-suc}
use Rattle.core_types.specs.declared.op.BinaryOp.{BinaryOp}
use Rattle.core_types.specs.declared.op.BinaryOp.TheVariants.{Add, Sub, Mul, DivS, DivU, RemS, RemU, And, Or, Xor, Shl, ShrS, ShrU, Rotl, Rotr}
use Rattle.core_types.specs.declared.op.Comparison.{Comparison}
use Rattle.core_types.specs.declared.op.Comparison.TheVariants.{Eq, Ne, LtS, LtU, GtS, GtU, LeS, LeU, GeS, GeU}
use Rattle.core_types.specs.declared.op.Conversion.{Conversion}
use Rattle.core_types.specs.declared.op.Conversion.TheVariants.{I32WrapI64, I64ExtendI32S, I64ExtendI32U, I64Extend32S}
use Rattle.core_types.specs.declared.op.UnaryOp.{UnaryOp}
use Rattle.core_types.specs.declared.op.UnaryOp.TheVariants.{Clz, Ctz, Popcnt, Extend8S, Extend16S}
use Rattle.core_types.specs.declared.outcome.Trap.{Trap}
use Rattle.meaning.specs.execution.Numerics.{binary_operator, comparison_operator, conversion_operator, eqz_operator, integer, rotated_left, signed, sum_of_bits, truth, twos, unary_operator}
use Rattle.meaning.proofs.lemmas.Formulas.{high_part, low_part, whole_of}

integer_range : (bits : ℕ) (z : ℤ) → integer bits z < 2 ^ bits
integer_range bits (pos a) = mod-lt a (pow_pos bits)
integer_range bits (negsuc a) = omega (arith, pow_pos bits)

-- ---- operators on one integer

width_range : (bits : ℕ) → bits < 2 ^ bits
width_range zero = omega arith
width_range (suc k) = omega (arith, width_range k, pow-suc 2 k)

twos_range : (k a : ℕ) → twos k a ≤ k
unfolding twos
twos_range zero a = omega arith
twos_range (suc k) a =
    elim (a % 2 == 0) as (λ t. (if t then suc (twos k (a / 2)) else 0) ≤ suc k) [
      | true ↦ omega (arith, twos_range k (a / 2))
      | false ↦ omega arith
    ]

sum_of_bits_range : (k a : ℕ) → sum_of_bits k a ≤ k
unfolding sum_of_bits
sum_of_bits_range zero a = omega arith
sum_of_bits_range (suc k) a = omega (arith, sum_of_bits_range k (a / 2))

pub unary_range : (bits : ℕ) (op : UnaryOp) (a : ℕ) → unary_operator bits op a < 2 ^ bits
unary_range bits Clz a = omega (arith, width_range bits)
unary_range bits Ctz a = omega (arith, width_range bits, twos_range bits a)
unary_range bits Popcnt a = omega (arith, width_range bits, sum_of_bits_range bits a)
unary_range bits Extend8S a = integer_range bits _
unary_range bits Extend16S a = integer_range bits _

-- ---- operators on two integers

-- The two parts of a rotated integer, the low j bits above the others.
parts_range : (bits a j k : ℕ) → bits ≡ k + j → a < 2 ^ bits → (a % 2 ^ j) * 2 ^ k + a / 2 ^ j < 2 ^ bits
parts_range bits a j k e h =
    let small : a < 2 ^ (k + j) = rw e at h in
    rw (e, pow-add 2 k j) (mul-add-lt (a % 2 ^ j) (2 ^ k) (a / 2 ^ j) (2 ^ j) (mod-lt a (pow_pos j)) (shr_below a k j small))

left_range : (bits a j k : ℕ) → bits ≡ j + k → a < 2 ^ bits → rotated_left bits a k < 2 ^ bits
left_range bits a j k e h =
    let low = ap (λ n. (a * 2 ^ k) % 2 ^ n) e ∙ low_part a j k in
    let high = ap (λ n. (a * 2 ^ k) / 2 ^ n) e ∙ high_part a j k in
    rw (low, high) (parts_range bits a j k (e ∙ add_comm j k) h)

-- The result that a test selects.
either_range : (P : ℕ → Type 0) (test : Bool) (first second : Result ℕ Trap) → IfOk first P → IfOk second P → IfOk (if test then first else second) P
either_range P true first second h k = h
either_range P false first second h k = k

pub binary_range : (bits : ℕ) (op : BinaryOp) (a b : ℕ) → 0 < bits → a < 2 ^ bits → b < 2 ^ bits → IfOk (binary_operator bits op a b) (λ n. n < 2 ^ bits)
binary_range bits Add a b some h l = mod-lt (a + b) (pow_pos bits)
binary_range bits Sub a b some h l = mod-lt (a + 2 ^ bits - b) (pow_pos bits)
binary_range bits Mul a b some h l = mod-lt (a * b) (pow_pos bits)
binary_range bits DivS a b some h l =
    let quotient = int_div (signed bits a) (signed bits b) in
    either_range _ (b == 0) _ _ tt (either_range _ (int_lt quotient (pos (2 ^ (bits - 1)))) _ _ (integer_range bits quotient) tt)
binary_range bits DivU a b some h l = either_range _ (b == 0) _ _ tt (omega (arith, div-le_self a b))
binary_range bits RemS a b some h l = either_range _ (b == 0) _ _ tt (integer_range bits _)
binary_range bits RemU a b some h l = either_range _ (b == 0) _ _ tt (omega arith)
binary_range bits And a b some h l = and_lt bits a b h l
binary_range bits Or a b some h l = or_lt bits a b h l
binary_range bits Xor a b some h l = xor_lt bits a b h l
binary_range bits Shl a b some h l = mod-lt (a * 2 ^ (b % bits)) (pow_pos bits)
binary_range bits ShrS a b some h l = integer_range bits _
binary_range bits ShrU a b some h l = omega (arith, shr_le a (b % bits))
binary_range bits Rotl a b some h l = left_range bits a (bits - b % bits) (b % bits) (whole_of bits b some) h
binary_range bits Rotr a b some h l = omega (arith, parts_range bits a (b % bits) (bits - b % bits) (whole_of bits b some) h)

-- ---- tests, comparisons and conversions

truth_range : (b : Bool) → truth b ≤ 1
truth_range true = omega arith
truth_range false = omega arith

pub eqz_range : (a : ℕ) → eqz_operator a ≤ 1
eqz_range a = truth_range _

pub comparison_range : (bits : ℕ) (op : Comparison) (a b : ℕ) → comparison_operator bits op a b ≤ 1
comparison_range bits Eq a b = truth_range _
comparison_range bits Ne a b = truth_range _
comparison_range bits LtS a b = truth_range _
comparison_range bits LtU a b = truth_range _
comparison_range bits GtS a b = truth_range _
comparison_range bits GtU a b = truth_range _
comparison_range bits LeS a b = truth_range _
comparison_range bits LeU a b = truth_range _
comparison_range bits GeS a b = truth_range _
comparison_range bits GeU a b = truth_range _

pub conversion_range : (op : Conversion) (a : ℕ) → a < 2 ^ 64 → conversion_operator op a < 2 ^ 64
conversion_range I32WrapI64 a h = omega arith
conversion_range I64ExtendI32S a h = integer_range 64 _
conversion_range I64ExtendI32U a h = h
conversion_range I64Extend32S a h = integer_range 64 _
