-- A shift that copies the sign bit rounds down.
use Rattle.std.proofs.Common.{ℕ, ◌≡◌, ◌^◌, refl}
use Rattle.std.specs.Prelude.{ℤ, pos, negsuc}
use Rattle.std.specs.Int.{int_div_euclid, int_shr}

pub shifted_is : (z : ℤ) (k : ℕ) → int_shr z k ≡ int_div_euclid z (pos (2 ^ k))
shifted_is (pos n) k = refl
shifted_is (negsuc n) k = refl
