-- The bound on the frames that a call may have open at once, as the arguments set it.
use Rattle.std.specs.Prelude.{◌≡◌, ◌≤◌, ◌<◌, ◌⊎◌, ℕ}

-- A bound that the arguments may set.
abbrev pub IsDepth : ℕ → Type 0
IsDepth n = (1 ≤ n) × (n ≤ 65535)

-- A bound that the arguments may not set.
abbrev pub IsNoDepth : ℕ → Type 0
IsNoDepth n = (n ≡ 0) ⊎ (65535 < n)
