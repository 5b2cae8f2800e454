-- The integer operators (Execution, Numerics), as formulas over whole numbers.
use Rattle.std.specs.Prelude.{ℕ, zero, suc, ◌+◌, ◌-◌, ◌*◌, ◌/◌, ◌%◌, ◌^◌, Bool, true, false, Result, Ok, Err, if◌then◌else◌, ◌==◌, not, nat_lt, nat_le, ℤ, pos}
use Rattle.std.specs.Prelude.{◌-ℤ◌, ◌*ℤ◌, int_lt, int_le, int_div, unsigned_abs, bit_and, bit_or, bit_xor}
use Rattle.std.specs.Int.{int_div_euclid, int_rem_euclid}
use Rattle.core_types.specs.declared.op.UnaryOp.{UnaryOp}
use Rattle.core_types.specs.declared.op.UnaryOp.TheVariants.{Clz, Ctz, Popcnt, Extend8S, Extend16S}
use Rattle.core_types.specs.declared.op.BinaryOp.{BinaryOp}
use Rattle.core_types.specs.declared.op.BinaryOp.TheVariants.{Add, Sub, Mul, DivS, DivU, RemS, RemU, And, Or, Xor, Shl, ShrS, ShrU, Rotl, Rotr}
use Rattle.core_types.specs.declared.op.Comparison.{Comparison}
use Rattle.core_types.specs.declared.op.Comparison.TheVariants.{Eq, Ne, LtS, LtU, GtS, GtU, LeS, LeU, GeS, GeU}
use Rattle.core_types.specs.declared.op.Conversion.{Conversion}
use Rattle.core_types.specs.declared.op.Conversion.TheVariants.{I32WrapI64, I64ExtendI32S, I64ExtendI32U, I64Extend32S}
use Rattle.core_types.specs.declared.outcome.Trap.{Trap}
use Rattle.core_types.specs.declared.outcome.Trap.TheVariants.{DivideByZero, IntegerOverflow}

-- ---- Signed numbers (Integer Operations, Sign Interpretation). An integer of `bits` bits is a number below 2 ^ bits.

-- The signed number that an integer represents: itself if it is below half of 2 ^ bits, and otherwise the integer minus 2 ^ bits
-- (signed).
abbrev pub signed : ℕ → ℕ → ℤ
signed bits a = if nat_lt a (2 ^ (bits - 1)) then pos a else pos a -ℤ pos (2 ^ bits)

-- The integer that represents a signed number: the number modulo 2 ^ bits (the inverse of signed).
abbrev pub integer : ℕ → ℤ → ℕ
integer bits z = unsigned_abs (int_rem_euclid z (pos (2 ^ bits)))

-- The low bits of an integer, read as signed, in more bits (iextendM_s).
abbrev pub extended : ℕ → ℕ → ℕ → ℕ
extended low bits a = integer bits (signed low (a % 2 ^ low))

-- ---- Operators on one integer (Integer Operations)

-- The number of binary digits of a number, the first of which is 1. The number has at most `bits` digits.
unfoldable pub digits : ℕ → ℕ → ℕ
digits zero a = 0
digits (suc k) zero = 0
digits (suc k) (suc n) = suc (digits k (suc n / 2))

-- How often 2 divides a number, up to a bound, which 0 reaches.
unfoldable pub twos : ℕ → ℕ → ℕ
twos zero a = 0
twos (suc k) a = if a % 2 == 0 then suc (twos k (a / 2)) else 0

-- The sum of the bits, and their number.
unfoldable pub sum_of_bits : ℕ → ℕ → ℕ
sum_of_bits zero a = 0
sum_of_bits (suc k) a = a % 2 + sum_of_bits k (a / 2)

-- t.unop (iclz, ictz, ipopcnt, iextendM_s).
abbrev pub unary_operator : ℕ → UnaryOp → ℕ → ℕ
unary_operator bits Clz a = bits - digits bits a
unary_operator bits Ctz a = twos bits a
unary_operator bits Popcnt a = sum_of_bits bits a
unary_operator bits Extend8S a = extended 8 bits a
unary_operator bits Extend16S a = extended 16 bits a

-- ---- Operators on two integers (Integer Operations)

-- The quotient, rounded toward zero. By zero there is none (idiv_u).
abbrev pub quotient_unsigned : ℕ → ℕ → Result ℕ Trap
quotient_unsigned a b = if b == 0 then Err DivideByZero else Ok (a / b)

-- The remainder of `a` for the rounded quotient (irem_u).
abbrev pub remainder_unsigned : ℕ → ℕ → Result ℕ Trap
remainder_unsigned a b = if b == 0 then Err DivideByZero else Ok (a - b * (a / b))

-- The quotient of the signed numbers, rounded toward zero. By zero there is none, and 2 ^ (bits - 1) is not a signed number of that many
-- bits (idiv_s).
abbrev pub quotient_signed : ℕ → ℕ → ℕ → Result ℕ Trap
quotient_signed bits a b =
    let quotient = int_div (signed bits a) (signed bits b) in
    if b == 0 then Err DivideByZero
    else (if int_lt quotient (pos (2 ^ (bits - 1))) then Ok (integer bits quotient)
    else Err IntegerOverflow)

-- The remainder of `a` for the rounded quotient of the signed numbers (irem_s).
abbrev pub remainder_signed : ℕ → ℕ → ℕ → Result ℕ Trap
remainder_signed bits a b =
    let quotient = int_div (signed bits a) (signed bits b) in
    if b == 0 then Err DivideByZero
    else Ok (integer bits (signed bits a -ℤ (signed bits b *ℤ quotient)))

-- The bits moved up by k places. Those that would be above the highest place come back from the lowest one on (irotl).
abbrev pub rotated_left : ℕ → ℕ → ℕ → ℕ
rotated_left bits a k = (a * 2 ^ k) % 2 ^ bits + (a * 2 ^ k) / 2 ^ bits

-- The bits moved down by k places. The k lowest ones come back as the highest (irotr).
abbrev pub rotated_right : ℕ → ℕ → ℕ → ℕ
rotated_right bits a k = a / 2 ^ k + (a % 2 ^ k) * 2 ^ (bits - k)

-- t.binop: a number, or a trap (iadd, isub, imul, idiv, irem, iand, ior, ixor, ishl, ishr, irotl, irotr). The distance of a
-- shift or a rotation is taken modulo the number of bits.
abbrev pub binary_operator : ℕ → BinaryOp → ℕ → ℕ → Result ℕ Trap
binary_operator bits Add a b = Ok ((a + b) % 2 ^ bits)
binary_operator bits Sub a b = Ok ((a + 2 ^ bits - b) % 2 ^ bits)
binary_operator bits Mul a b = Ok ((a * b) % 2 ^ bits)
binary_operator bits DivS a b = quotient_signed bits a b
binary_operator bits DivU a b = quotient_unsigned a b
binary_operator bits RemS a b = remainder_signed bits a b
binary_operator bits RemU a b = remainder_unsigned a b
binary_operator bits And a b = Ok (bit_and a b)
binary_operator bits Or a b = Ok (bit_or a b)
binary_operator bits Xor a b = Ok (bit_xor a b)
binary_operator bits Shl a b = Ok ((a * 2 ^ (b % bits)) % 2 ^ bits)
binary_operator bits ShrS a b =
    Ok (integer bits (int_div_euclid (signed bits a) (pos (2 ^ (b % bits)))))
binary_operator bits ShrU a b = Ok (a / 2 ^ (b % bits))
binary_operator bits Rotl a b = Ok (rotated_left bits a (b % bits))
binary_operator bits Rotr a b = Ok (rotated_right bits a (b % bits))

-- ---- Tests and comparisons (Integer Operations)

-- A truth value as an integer (Boolean Interpretation).
abbrev pub truth : Bool → ℕ
truth true = 1
truth false = 0

-- t.eqz (ieqz).
abbrev pub eqz_operator : ℕ → ℕ
eqz_operator a = truth (a == 0)

-- t.relop (ieq, ine, ilt, igt, ile, ige).
abbrev pub comparison_operator : ℕ → Comparison → ℕ → ℕ → ℕ
comparison_operator bits Eq a b = truth (a == b)
comparison_operator bits Ne a b = truth (not (a == b))
comparison_operator bits LtS a b = truth (int_lt (signed bits a) (signed bits b))
comparison_operator bits LtU a b = truth (nat_lt a b)
comparison_operator bits GtS a b = truth (int_lt (signed bits b) (signed bits a))
comparison_operator bits GtU a b = truth (nat_lt b a)
comparison_operator bits LeS a b = truth (int_le (signed bits a) (signed bits b))
comparison_operator bits LeU a b = truth (nat_le a b)
comparison_operator bits GeS a b = truth (int_le (signed bits b) (signed bits a))
comparison_operator bits GeU a b = truth (nat_le b a)

-- ---- Conversions (Conversions: wrap, extend_u, extend_s)

abbrev pub conversion_operator : Conversion → ℕ → ℕ
conversion_operator I32WrapI64 a = a % 2 ^ 32
conversion_operator I64ExtendI32S a = integer 64 (signed 32 a)
conversion_operator I64ExtendI32U a = a
conversion_operator I64Extend32S a = extended 32 64 a
