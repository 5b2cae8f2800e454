-- The range of signed integers.
use Rattle.std.specs.Prelude.{ℕ, ◌-◌, ◌^◌, ℤ, pos, ◌+ℤ◌, ◌≤ℤ◌, ◌<ℤ◌}

-- That many bits can represent the signed integer: it is from - 2 ^ (bits - 1) up, and below 2 ^ (bits - 1).
abbrev pub IsInRange : ℕ → ℤ → Type 0
IsInRange bits z = (pos 0 ≤ℤ (z +ℤ pos (2 ^ (bits - 1)))) × (z <ℤ pos (2 ^ (bits - 1)))
