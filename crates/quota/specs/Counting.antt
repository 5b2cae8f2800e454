-- What a quota shows.
use Rattle.std.specs.Prelude.{◌≡◌, ◌+◌, ◌-◌, ℕ}

-- The most bytes that may be held, those that stay, and those that the running call has borrowed.
pub record Counted : Type 0 where
  pub most : ℕ
  pub kept : ℕ
  pub borrowed : ℕ

abbrev pub counted : ℕ → ℕ → ℕ → Counted
counted most kept borrowed = record { most = most; kept = kept; borrowed = borrowed }

-- How many more bytes may be held.
abbrev pub left_of : Counted → ℕ
left_of quota = quota.most - (quota.kept + quota.borrowed)
