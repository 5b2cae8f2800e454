-- Powers of 2 are ordered as their exponents are.
use Rattle.std.proofs.Common.{◌≡◌, ◌<◌, ◌≤◌, ◌^◌, Bool, true, false, ℕ, refl, arith}
use Rattle.std.proofs.Math.Dec.{leb}
use Rattle.std.proofs.Math.Pow.{pow_mono}
use Rattle.std.proofs.lemmas.Bool.{leb-true, leb-false}
use Rattle.std.proofs.lemmas.Nat.{pow_below}
use Rattle.std.specs.Prelude.{IsTrue, ◌↔◌}

pub aligned : (a b : ℕ) → IsTrue (leb a b) ↔ (2 ^ a ≤ 2 ^ b)
aligned a b = (λ small. pow_mono (leb-true a b small), go (leb a b) refl)
  where
    go : (small : Bool) → leb a b ≡ small → 2 ^ a ≤ 2 ^ b → IsTrue (leb a b)
    go true e less = e
    go false e less = let more : 2 ^ b < 2 ^ a = pow_below b a (leb-false a b e) in absurd (omega (arith, less, more))
