-- The exports of a module in the order of their names.
use Rattle.std.specs.Prelude.{◌≡◌, ℕ, List, [], All, length, map, slice_index_or}
use Rattle.std.specs.Cmp.Lexicographic.{slice_cmp}
use Rattle.std.specs.List.{range_with_len}
use Rattle.std.specs.List.Sorted.{IsPermutation, IsSorted}
use Rattle.std.specs.Ordering.{nat_cmp}
use Rattle.std.specs.Borrow.{Bor}
use Rattle.core_types.specs.declared.module.Export.{Export}

abbrev pub names : List Export → List (List ℕ)
names exports = map (λ (e : Export). e.name) exports

-- The names of the exports of these indices.
abbrev pub names_at : List Export → (indices : List ℕ) → List (List ℕ)
names_at exports indices = map (λ k. slice_index_or (names exports) k []) indices

-- No name is less than the one before it, compared by bytes.
abbrev pub Ascend : List (List ℕ) → Type 0
Ascend = IsSorted (slice_cmp nat_cmp)

-- Each index occurs once, and the names ascend.
pub record IsNameOrder (exports : List Export) (order : List ℕ) : Type 0 where
  pub permutes : IsPermutation (range_with_len 0 (length exports)) order
  pub ascends : Ascend (names_at exports order)

-- Names with the indices of the exports that have them.
abbrev pub Numbered : Type 0
Numbered = List (Bor (List ℕ) × ℕ)

abbrev pub indices_of : Numbered → List ℕ
indices_of found = map (λ (p : Bor (List ℕ) × ℕ). p.1) found

abbrev pub HaveNames : List Export → Numbered → Type 0
HaveNames exports found =
    All (λ (p : Bor (List ℕ) × ℕ). p.0.now ≡ slice_index_or (names exports) p.1 []) found

-- Each export has an entry with its name and its index.
pub record AreNumbered (exports : List Export) (found : Numbered) : Type 0 where
  pub indices : indices_of found ≡ range_with_len 0 (length exports)
  pub named : HaveNames exports found
