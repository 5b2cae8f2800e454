-- Powers of two at the widths that are read.
use Rattle.std.proofs.Common.{◌≡◌, ℕ, ◌+◌, ◌-◌, ◌*◌, ◌^◌, ◌<◌, ◌≤◌, ap, arith, ◌∙◌}
use Rattle.std.proofs.Math.Pow.{pow_mono}
use Rattle.std.proofs.lemmas.Nat.{pow-add}

pub seven_or_more : (bits number : ℕ) → 7 ≤ bits → number < 2 ^ 7 → number < 2 ^ bits
seven_or_more bits number wide small = let more : 2 ^ 7 ≤ 2 ^ bits = pow_mono wide in omega (arith, more)

pub pow_at_most : (bits most : ℕ) → bits ≤ most → 2 ^ bits ≤ 2 ^ most
pow_at_most bits most narrow = pow_mono narrow

pub half-seven_more : (bits : ℕ) → 0 < bits → 2 ^ (bits + 7 - 1) ≡ 2 ^ (bits - 1) * 2 ^ 7
half-seven_more bits some =
    let parts : bits + 7 - 1 ≡ bits - 1 + 7 = omega arith in
    ap (λ (k : ℕ). 2 ^ k) parts ∙ pow-add 2 (bits - 1) 7

pub pow-seven_more : (bits : ℕ) → 2 ^ (bits + 7) ≡ 2 ^ bits * 2 ^ 7
pow-seven_more bits = pow-add 2 bits 7
