-- What a meter shows.
use Rattle.std.specs.Prelude.{◌≡◌, ◌≤◌, ℕ}

pub record Metered : Type 0 where
  pub left : ℕ
  pub bound : ℕ
  pub frames : ℕ

abbrev pub metered : ℕ → ℕ → ℕ → Metered
metered left bound frames = record { left = left; bound = bound; frames = frames }

-- A run from outside spent some of the fuel. The bound stays, and no frame is open.
pub record Charges (old new : Metered) : Type 0 where
  pub spends : new.left ≤ old.left
  pub bound : new.bound ≡ old.bound
  pub closed : new.frames ≡ 0
