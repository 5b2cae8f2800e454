-- The steps of instructions without control, in a frame.
use Rattle.std.specs.Prelude.{◌≡◌, ℕ, suc, ◌+◌, ◌-◌, ◌<◌, ◌≤◌, List, [], ◌∷◌, ◌++◌, length, take, get_or, Some, slice_get, Result, Ok, Err}
use Rattle.core_types.specs.declared.op.ControlOp.TheVariants.{Nop, Unreachable}
use Rattle.core_types.specs.declared.op.ParametricOp.TheVariants.{DropOperand, Select}
use Rattle.core_types.specs.declared.op.PlainOp.{PlainOp}
use Rattle.core_types.specs.declared.op.PlainOp.TheVariants.{Control, Parametric, Reference}
use Rattle.core_types.specs.declared.op.ReferenceOp.TheVariants.{Func, IsNull, Null}
use Rattle.core_types.specs.declared.outcome.Trap.{Trap}
use Rattle.core_types.specs.declared.outcome.Trap.TheVariants.{Unreachable as UnreachableTrap}
use Rattle.core_types.specs.declared.types.RefType.{RefType}
use Rattle.core_types.specs.declared.types.ValType.TheVariants.{I32}
use Rattle.meaning.specs.execution.Store.{Store, instance_of}
use Rattle.cells.specs.Cells.{IsCellOf}
use Rattle.sidetable.specs.Flat.{Plain}
use Rattle.simulation.specs.Operations.{IsCharged, IsChosen, IsDear}
use Rattle.simulation.specs.Runs.{Fails, Ghost, IsBefore, FrameReaches}

-- ---- results of steps

-- With these cells up to a height, and this store, the code continues with the next operation.
abbrev pub IsKept : Ghost → Store → List ℕ → (at below : ℕ) → Type 0
IsKept g store' cells at below =
    (cells' : List ℕ) (next_at next_top fuel left : ℕ)
    → take below cells' ≡ take below cells → length cells' ≡ length cells
    → next_at ≡ suc at → next_top ≡ below → 1 ≤ fuel → left ≡ fuel - 1
    → FrameReaches g fuel store' cells' next_at next_top left

-- The cell at a height is written, and the code continues with the next operation.
abbrev pub IsPut : Ghost → List ℕ → (at : ℕ) → (cell below : ℕ) → Type 0
IsPut g cells at cell below =
    (cells' : List ℕ) (next_at next_top fuel left : ℕ)
    → take (suc below) cells' ≡ take below cells ++ (cell ∷ [])
    → length cells' ≡ length cells → next_at ≡ suc at → next_top ≡ suc below → 1 ≤ fuel
    → left ≡ fuel - 1 → FrameReaches g fuel g.store cells' next_at next_top left

-- The code fails with a trap.
abbrev pub IsTrapped : Ghost → List ℕ → (at top : ℕ) → Trap → Type 0
IsTrapped g cells at top trap =
    (fuel left : ℕ) → 1 ≤ fuel → left ≡ fuel - 1 → Fails g fuel cells at top left trap

-- A result's number is written at a height, or the code fails with the result's trap.
abbrev pub IsAnswered : Ghost → List ℕ → (at top below : ℕ) → Result ℕ Trap → Type 0
IsAnswered g cells at top below (Ok n) = IsPut g cells at n below
IsAnswered g cells at top below (Err trap) = IsTrapped g cells at top trap

-- An instruction on no operands writes a cell for one unit of fuel.
abbrev pub PutsOne : PlainOp → (cell : ℕ) → Type 0
PutsOne op cell =
    (g : Ghost) (cells : List ℕ) (at top : ℕ) → IsBefore (Plain op) g cells at top
    → (top < length cells) × IsPut g cells at cell top × IsDear g cells at top

-- ---- control and parametric instructions

-- nop: the code continues with the same cells.
abbrev pub DoesNothing : Type 0
DoesNothing =
    (g : Ghost) (cells : List ℕ) (at top : ℕ) → IsBefore (Plain (Control Nop)) g cells at top
    → IsCharged g cells at top (suc at) top

-- unreachable: the code fails.
abbrev pub AlwaysFails : Type 0
AlwaysFails =
    (g : Ghost) (cells : List ℕ) (at top : ℕ)
    → IsBefore (Plain (Control Unreachable)) g cells at top
    → IsTrapped g cells at top UnreachableTrap × IsDear g cells at top

-- drop: the cells below the topmost one are kept.
abbrev pub Drops : Type 0
Drops =
    (g : Ghost) (cells : List ℕ) (at top : ℕ)
    → IsBefore (Plain (Parametric DropOperand)) g cells at top
    → (1 ≤ top) × (top ≤ length cells) × IsKept g g.store cells at (top - 1)
    × IsDear g cells at top

-- select: the second of two cells if the topmost one is zero, and otherwise the first.
abbrev pub Selects : Type 0
Selects =
    (g : Ghost) (cells : List ℕ) (at top : ℕ)
    → IsBefore (Plain (Parametric Select)) g cells at top
    → (3 ≤ top) × IsCellOf I32 (get_or cells (top - 1) 0)
    × IsChosen cells top (IsPut g cells at (get_or cells (top - 2) 0) (top - 3))
    (IsPut g cells at (get_or cells (top - 3) 0) (top - 3))
    × IsDear g cells at top

-- ---- references

-- ref.null: zero, of either type.
abbrev pub PutsNull : Type 0
PutsNull = (t : RefType) → PutsOne (Reference (Null t)) 0

-- ref.is_null: one if the topmost cell is zero, and otherwise zero.
abbrev pub TestsNull : Type 0
TestsNull =
    (g : Ghost) (cells : List ℕ) (at top : ℕ)
    → IsBefore (Plain (Reference IsNull)) g cells at top
    → IsChosen cells top (IsPut g cells at 1 (top - 1)) (IsPut g cells at 0 (top - 1))
    × IsDear g cells at top

-- ref.func: one more than the function's address.
abbrev pub RefersToFunction : Type 0
RefersToFunction =
    (g : Ghost) (cells : List ℕ) (at top : ℕ) (x : ℕ)
    → IsBefore (Plain (Reference (Func x))) g cells at top
    → (address : ℕ)
    × (slice_get (instance_of g.store (Some g.instance)).functions x ≡ Some address)
    × (top < length cells) × IsPut g cells at (address + 1) top × IsDear g cells at top
