-- The steps of control operations, in a frame.
use Rattle.std.specs.Prelude.{◌≡◌, ℕ, suc, ◌+◌, ◌-◌, ◌<◌, ◌≤◌, List, ◌++◌, length, take, drop, get_or}
use Rattle.sidetable.specs.Flat.{Br, BrIf, BrTable, Enter, If, Jump}
use Rattle.sidetable.specs.declared.operations.Entry.{Entry}
use Rattle.simulation.specs.Runs.{Ghost, IsBefore, Lacks, FrameReaches}

-- ---- results of steps

-- Without a unit of fuel, the code lacks fuel.
abbrev pub IsDear : Ghost → List ℕ → (at top : ℕ) → Type 0
IsDear g cells at top = (fuel : ℕ) → fuel < 1 → Lacks g fuel cells at top fuel

-- For one unit of fuel, the code continues at this place and this top, with the same cells.
abbrev pub IsCharged : Ghost → List ℕ → (at top : ℕ) → (next_at next_top : ℕ) → Type 0
IsCharged g cells at top next_at next_top =
    ((fuel left : ℕ) → 1 ≤ fuel → left ≡ fuel - 1
    → FrameReaches g fuel g.store cells next_at next_top left)
    × IsDear g cells at top

-- The topmost cells, as many as the entry keeps, are moved down to its height, which is above the locals. The code continues where the
-- entry states.
abbrev pub IsLanded : Ghost → List ℕ → (at top : ℕ) → (above : ℕ) → Entry → Type 0
IsLanded g cells at top above e =
    (e.height + e.kept ≤ above) × (above ≤ length cells)
    × ((cells' : List ℕ) (fuel left : ℕ)
    → take (e.height + e.kept) cells'
    ≡ take e.height cells ++ take e.kept (drop (above - e.kept) cells)
    → length cells' ≡ length cells → 1 ≤ fuel → left ≡ fuel - 1
    → FrameReaches g fuel g.store cells' e.target (e.height + e.kept) left)
    × IsDear g cells at top
    × (g.code.locals ≤ e.height)

-- The topmost cell exists, and what follows depends on whether it is zero.
abbrev pub IsChosen : List ℕ → (top : ℕ) → (zero other : Type 0) → Type 0
IsChosen cells top zero other =
    (1 ≤ top) × (top ≤ length cells) × (get_or cells (top - 1) 0 ≡ 0 → zero)
    × ((get_or cells (top - 1) 0 ≡ 0 → ⊥) → other)

-- ---- control

-- The start of a block or a loop.
abbrev pub Enters : Type 0
Enters =
    (g : Ghost) (cells : List ℕ) (at top : ℕ) → IsBefore Enter g cells at top
    → IsCharged g cells at top (suc at) top

-- The start of an if. The code continues after its first body if the topmost cell is zero.
abbrev pub Chooses : Type 0
Chooses =
    (g : Ghost) (cells : List ℕ) (at top : ℕ) (e : Entry) → IsBefore (If e) g cells at top
    → IsChosen cells top (IsCharged g cells at top e.target (top - 1))
    (IsCharged g cells at top (suc at) (top - 1))

-- A jump moves forward, at no cost.
abbrev pub Jumps : Type 0
Jumps =
    (g : Ghost) (cells : List ℕ) (at top : ℕ) (e : Entry) → IsBefore (Jump e) g cells at top
    → (at < e.target) × ((fuel : ℕ) → FrameReaches g fuel g.store cells e.target top fuel)

-- br.
abbrev pub Branches : Type 0
Branches =
    (g : Ghost) (cells : List ℕ) (at top : ℕ) (e : Entry) → IsBefore (Br e) g cells at top
    → IsLanded g cells at top top e

-- br_if: the code continues with the next operation if the topmost cell is zero.
abbrev pub BranchesIf : Type 0
BranchesIf =
    (g : Ghost) (cells : List ℕ) (at top : ℕ) (e : Entry) → IsBefore (BrIf e) g cells at top
    → IsChosen cells top (IsCharged g cells at top (suc at) (top - 1))
    (IsLanded g cells at top (top - 1) e)

-- br_table: the entry that the topmost cell counts, or the default one.
abbrev pub BranchesByTable : Type 0
BranchesByTable =
    (g : Ghost) (cells : List ℕ) (at top : ℕ) (es : List Entry) (e : Entry)
    → IsBefore (BrTable es e) g cells at top
    → (1 ≤ top) × (top ≤ length cells)
    × IsLanded g cells at top (top - 1) (get_or es (get_or cells (top - 1) 0) e)
