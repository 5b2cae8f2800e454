-- The steps of instructions on locals and globals, in a frame.
use Rattle.std.specs.Prelude.{◌≡◌, ℕ, ◌-◌, ◌<◌, ◌≤◌, List, length, set, get_or, Some, slice_get}
use Rattle.core_types.specs.declared.op.PlainOp.{PlainOp}
use Rattle.core_types.specs.declared.op.PlainOp.TheVariants.{Variable}
use Rattle.core_types.specs.declared.op.VariableOp.TheVariants.{GlobalGet, GlobalSet, LocalGet, LocalSet, LocalTee}
use Rattle.core_types.specs.declared.types.Mutability.TheVariants.{Var}
use Rattle.meaning.specs.execution.Store.{GlobalInstance, instance_of, locate, with_global}
use Rattle.cells.specs.Cells.{IsCellOf, cell_of, value_of}
use Rattle.sidetable.specs.Flat.{Plain}
use Rattle.simulation.specs.Instructions.{IsKept, IsPut}
use Rattle.simulation.specs.Operations.{IsDear}
use Rattle.simulation.specs.Runs.{Ghost, IsBefore}

-- ---- locals

-- local.get: the local's cell.
abbrev pub GetsLocal : Type 0
GetsLocal =
    (g : Ghost) (cells : List ℕ) (at top : ℕ) (x : ℕ)
    → IsBefore (Plain (Variable (LocalGet x))) g cells at top
    → (x < length g.locals) × (x < length cells) × (top < length cells)
    × IsPut g cells at (get_or cells x 0) top × IsDear g cells at top

-- The topmost cell is written to the local's. The code continues with the cells below this height.
abbrev pub WritesLocal : PlainOp → (x : ℕ) → (below : ℕ → ℕ) → Type 0
WritesLocal op x below =
    (g : Ghost) (cells : List ℕ) (at top : ℕ) → IsBefore (Plain op) g cells at top
    → (1 ≤ top) × (top ≤ length cells) × (x < length g.locals) × (x < top - 1)
    × IsKept g g.store (set cells x (get_or cells (top - 1) 0)) at (below top)
    × IsDear g cells at top

-- local.set: the topmost cell is popped.
abbrev pub SetsLocal : Type 0
SetsLocal = (x : ℕ) → WritesLocal (Variable (LocalSet x)) x (λ top. top - 1)

-- local.tee: the topmost cell stays.
abbrev pub TeesLocal : Type 0
TeesLocal = (x : ℕ) → WritesLocal (Variable (LocalTee x)) x (λ top. top)

-- ---- globals

-- The global that the frame's instance has under an index, and its address.
abbrev pub HasGlobal : Ghost → (x address : ℕ) → GlobalInstance → Type 0
HasGlobal g x address global =
    locate g.store.globals (slice_get (instance_of g.store (Some g.instance)).globals x)
    ≡ Some (address, global)

-- global.get: the cell of the global's value.
abbrev pub GetsGlobal : Type 0
GetsGlobal =
    (g : Ghost) (cells : List ℕ) (at top : ℕ) (x : ℕ)
    → IsBefore (Plain (Variable (GlobalGet x))) g cells at top
    → (address : ℕ) × (global : GlobalInstance) × HasGlobal g x address global
    × (top < length cells) × IsPut g cells at (cell_of global.value) top × IsDear g cells at top

-- global.set: the global may change, and its value is then that of the topmost cell.
abbrev pub SetsGlobal : Type 0
SetsGlobal =
    (g : Ghost) (cells : List ℕ) (at top : ℕ) (x : ℕ)
    → IsBefore (Plain (Variable (GlobalSet x))) g cells at top
    → (address : ℕ) × (global : GlobalInstance) × HasGlobal g x address global
    × (global.ty.mutability ≡ Var) × (1 ≤ top) × (top ≤ length cells)
    × IsCellOf global.ty.value (get_or cells (top - 1) 0)
    × IsKept g (with_global g.store address (record {
      ty = global.ty;
      value = value_of global.ty.value (get_or cells (top - 1) 0);
    })) cells at (top - 1)
    × IsDear g cells at top
