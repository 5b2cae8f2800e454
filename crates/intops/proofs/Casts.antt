-- An integer and the signed number that it represents, as the library casts them.
use Rattle.std.proofs.Common.{ℕ, ◌≡◌, ◌<◌, ◌^◌, arith}
use Rattle.std.specs.Prelude.{ℤ, pos, negsuc, FitsSigned}
use Rattle.std.specs.Int.{cast_signed, cast_unsigned, w8, w16, w32, w64}
use Rattle.std.proofs.lemmas.Int.{ints}
use Rattle.meaning.specs.execution.Numerics.{integer, signed}

pub signed_8_is : (a : ℕ) → a < 2 ^ 8 → cast_signed w8 a ≡ signed 8 a
signed_8_is a small = grind (arith, ints)

pub signed_16_is : (a : ℕ) → a < 2 ^ 16 → cast_signed w16 a ≡ signed 16 a
signed_16_is a small = grind (arith, ints)

pub signed_32_is : (a : ℕ) → a < 2 ^ 32 → cast_signed w32 a ≡ signed 32 a
signed_32_is a small = grind (arith, ints)

pub signed_64_is : (a : ℕ) → a < 2 ^ 64 → cast_signed w64 a ≡ signed 64 a
signed_64_is a small = grind (arith, ints)

pub integer_32_is : (z : ℤ) → FitsSigned w32 z → cast_unsigned w32 z ≡ integer 32 z
integer_32_is (pos n) fits = omega (arith, fits.sfits)
integer_32_is (negsuc n) fits = omega (arith, fits.sfits)

pub integer_64_is : (z : ℤ) → FitsSigned w64 z → cast_unsigned w64 z ≡ integer 64 z
integer_64_is (pos n) fits = omega (arith, fits.sfits)
integer_64_is (negsuc n) fits = omega (arith, fits.sfits)
