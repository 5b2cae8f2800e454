-- The side tables of flat code, in which operations have their entries, their 64-bit constants and their pairs of indices.
use Rattle.std.specs.Prelude.{◌≡◌, ℕ, List, ◌++◌, get_or}
use Rattle.sidetable.specs.declared.operations.Entry.{Entry}
use Rattle.sidetable.specs.declared.side_tables.BranchRange.{BranchRange}
use Rattle.sidetable.specs.declared.side_tables.IndexPair.{IndexPair}
pub use Rattle.sidetable.specs.declared.side_tables.SideTables.{SideTables}

-- ---- what has a number

abbrev pub entry_of_number : SideTables → ℕ → Entry
entry_of_number t n = get_or t.entries.items n (record { target = 0; kept = 0; height = 0 })

abbrev pub branch_range_of : SideTables → ℕ → BranchRange
branch_range_of t n = get_or t.branch_ranges.items n (record { first = 0; count = 0; default = 0 })

abbrev pub constant_of : SideTables → ℕ → ℕ
constant_of t n = get_or t.constants.items n 0

abbrev pub pair_of : SideTables → ℕ → IndexPair
pair_of t n = get_or t.pairs.items n (record { first = 0; second = 0 })

-- ---- growth

-- The second list begins with the first.
abbrev pub Continues : {X : Type 0} → List X → List X → Type 0
Continues {X} old new = (more : List X) × (new ≡ old ++ more)

-- Nothing is removed and nothing changes.
pub record Grows (old new : SideTables) : Type 0 where
  pub entries : Continues old.entries.items new.entries.items
  pub branch_ranges : Continues old.branch_ranges.items new.branch_ranges.items
  pub constants : Continues old.constants.items new.constants.items
  pub pairs : Continues old.pairs.items new.pairs.items
