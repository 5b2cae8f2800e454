-- Entries that are completed later: a label's entry gets its target when its body ends, and copies of labels' entries are made
-- when the function ends.
use Rattle.std.specs.Prelude.{◌≡◌, ◌⊎◌, ℕ, ◌+◌, ◌<◌, ◌≤◌, List, [], ◌∷◌, ◌++◌, length, map, take, drop, set, get_or}
use Rattle.std.specs.List.{All}
use Rattle.sidetable.specs.SideTables.{Continues, Grows, SideTables}
use Rattle.sidetable.specs.declared.operations.Entry.{Entry}
use Rattle.sidetable.specs.declared.side_tables.BranchRange.{BranchRange}

abbrev pub entry_in : List Entry → ℕ → Entry
entry_in es n = get_or es n (record { target = 0; kept = 0; height = 0 })

-- Only the entries change. These are the new ones.
pub record ChangesEntries (old new : SideTables) (es : List Entry) : Type 0 where
  pub entries : new.entries.items ≡ es
  pub branch_ranges : new.branch_ranges ≡ old.branch_ranges
  pub constants : new.constants ≡ old.constants
  pub pairs : new.pairs ≡ old.pairs

-- ---- targets

abbrev pub aimed_at : ℕ → Entry → Entry
aimed_at target e = record { target = target; kept = e.kept; height = e.height }

-- With this target in the entry with a number.
abbrev pub with_target : List Entry → (number target : ℕ) → List Entry
with_target es number target = set es number (aimed_at target (entry_in es number))

-- The same for a list of numbers and targets, from the first one to the last.
abbrev pub with_targets : List Entry → List (ℕ × ℕ) → List Entry
with_targets es [] = es
with_targets es (t ∷ targets) = with_targets (with_target es t.0 t.1) targets

-- ---- copies

-- What stands for a copy of a label's entry while the function is open: an entry with the label's number as its target.
abbrev pub copy_of : (number : ℕ) → Entry
copy_of number = record { target = number; kept = 0; height = 0 }

-- With copies in the range of a branch: each number is replaced by the final entry with this number.
abbrev pub copied : (final es : List Entry) → BranchRange → List Entry
copied final es r =
    take r.first es
    ++ (map (λ (e : Entry). entry_in final e.target) (take r.count (drop r.first es))
    ++ drop (r.first + r.count) es)

abbrev pub all_copied : (final : List Entry) → List BranchRange → (es : List Entry) → List Entry
all_copied final [] es = es
all_copied final (r ∷ rs) es = all_copied final rs (copied final es r)

-- The entries of a range hold numbers of entries before the range.
pub record IsCopying (es : List Entry) (r : BranchRange) : Type 0 where
  pub within : r.first + r.count ≤ length es
  pub before : All (λ (e : Entry). e.target < r.first) (take r.count (drop r.first es))

-- Ranges from a place on, in order, which do not overlap.
abbrev pub AreInOrder : (from : ℕ) → List BranchRange → Type 0
AreInOrder from [] = Unit {0}
AreInOrder from (r ∷ rs) = (from ≤ r.first) × AreInOrder (r.first + r.count) rs

-- These ranges from a place on hold numbers that copies will replace.
pub record AreCopies (from : ℕ) (es : List Entry) (rs : List BranchRange) : Type 0 where
  pub in_order : AreInOrder from rs
  pub copying : All (IsCopying es) rs

-- ---- side tables that grow by copies

-- The ranges that were pushed since the side tables were these.
abbrev pub ranges_since : (before now : SideTables) → List BranchRange
ranges_since before now = drop (length before.branch_ranges.items) now.branch_ranges.items

-- Nothing that was there changes. What is pushed may have ranges of copies.
pub record Adds (old new : SideTables) : Type 0 where
  pub grows : Grows old new
  pub copies : AreCopies (length old.entries.items) new.entries.items grows.branch_ranges.0

-- Except for the entries, the final side tables begin with these.
pub record KeepsOthers (now final : SideTables) : Type 0 where
  pub branch_ranges : Continues now.branch_ranges.items final.branch_ranges.items
  pub constants : Continues now.constants.items final.constants.items
  pub pairs : Continues now.pairs.items final.pairs.items

-- The final entries have these, with copies in these ranges, after a number of others.
abbrev pub EndsBehind : (count : ℕ) → List BranchRange → List Entry → (final : List Entry) → Type 0
EndsBehind count ranges es final =
    (front : List Entry) × (length front ≡ count)
    × Continues (all_copied final ranges (front ++ es)) final

-- The final side tables have what was added to old ones, whatever became of the old entries.
pub record HasAdded (old new final : SideTables) : Type 0 where
  pub entries : EndsBehind (length old.entries.items) (ranges_since old new)
      (drop (length old.entries.items) new.entries.items) final.entries.items
  pub within : length new.entries.items ≤ length final.entries.items
  pub others : KeepsOthers new final

-- The final side tables begin with those of now, with these targets, and with copies in the ranges that were pushed since.
pub record Completes (before now : SideTables) (targets : List (ℕ × ℕ)) (final : SideTables)
    : Type 0 where
  pub entries : Continues (all_copied final.entries.items (ranges_since before now)
      (with_targets now.entries.items targets)) final.entries.items
  pub others : KeepsOthers now final

-- ---- labels

-- No copy in the range has this number.
abbrev pub IsOutside : ℕ → BranchRange → Type 0
IsOutside number r = (number < r.first) ⊎ (r.first + r.count ≤ number)

-- The number of an entry between two places that is no copy.
pub record IsLabel (from to : ℕ) (ranges : List BranchRange) (number : ℕ) : Type 0 where
  pub since : from ≤ number
  pub within : number < to
  pub outside : All (IsOutside number) ranges

-- The number of a label's entry that was pushed since the side tables were others.
abbrev pub IsLabelSince : (before now : SideTables) → ℕ → Type 0
IsLabelSince before now number =
    IsLabel (length before.entries.items) (length now.entries.items) (ranges_since before now)
    number
