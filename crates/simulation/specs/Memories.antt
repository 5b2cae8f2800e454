-- The steps of loads, stores and the size of a memory, in a frame.
use Rattle.std.specs.Prelude.{◌≡◌, ℕ, ◌+◌, ◌-◌, ◌<◌, ◌≤◌, List, length, get_or, Some, slice_get, Result, Ok, Err}
use Rattle.core_types.specs.declared.op.LoadOp.{LoadOp}
use Rattle.core_types.specs.declared.op.MemoryOp.TheVariants.{Load, Size, Store as StoreNumber}
use Rattle.core_types.specs.declared.op.PlainOp.TheVariants.{Memory}
use Rattle.core_types.specs.declared.op.StoreOp.{StoreOp}
use Rattle.core_types.specs.declared.outcome.Trap.{Trap}
use Rattle.core_types.specs.declared.types.ValType.TheVariants.{I32}
use Rattle.meaning.specs.execution.Memories.{MemoryInstance, load_from, store_into}
use Rattle.meaning.specs.validation.Instructions.{store_width, load_type, store_type}
use Rattle.meaning.specs.execution.Store.{instance_of, locate, with_memory}
use Rattle.cells.specs.Cells.{IsCellOf, value_of_result}
use Rattle.sidetable.specs.Flat.{Plain, at_offset}
use Rattle.simulation.specs.Instructions.{IsKept, IsPut, IsTrapped, IsAnswered}
use Rattle.simulation.specs.Operations.{IsDear}
use Rattle.simulation.specs.Runs.{Ghost, IsBefore}

-- The memory of the frame's instance, and its address.
abbrev pub HasMemory : Ghost → (address : ℕ) → MemoryInstance → Type 0
HasMemory g address m =
    locate g.store.memories (slice_get (instance_of g.store (Some g.instance)).memories 0)
    ≡ Some (address, m)

-- A load at an offset from the topmost cell. The number read replaces that cell, or the load fails.
abbrev pub LoadsNumber : Type 0
LoadsNumber =
    (g : Ghost) (cells : List ℕ) (at top : ℕ) (op : LoadOp) (offset : ℕ)
    → IsBefore (Plain (Memory (Load op (at_offset offset)))) g cells at top
    → (address : ℕ) × (m : MemoryInstance) × HasMemory g address m
    × (1 ≤ top) × (top ≤ length cells) × IsCellOf I32 (get_or cells (top - 1) 0)
    × ((result : Result ℕ Trap)
    → load_from op m.bytes (get_or cells (top - 1) 0 + offset)
    ≡ value_of_result (load_type op) result
    → IsAnswered g cells at top (top - 1) result)
    × IsDear g cells at top

-- With a result's bytes in the memory, the code continues two operands lower. Otherwise it fails with the trap.
abbrev pub IsStored : Ghost → (address : ℕ) → MemoryInstance → List ℕ → (at top : ℕ)
    → Result (List ℕ) Trap → Type 0
IsStored g address m cells at top (Ok bytes) =
    IsKept g (with_memory g.store address (record { limits = m.limits; bytes = bytes })) cells
    at (top - 2)
IsStored g address m cells at top (Err trap) = IsTrapped g cells at top trap

-- A store of the topmost cell, at an offset from the second one.
abbrev pub StoresNumber : Type 0
StoresNumber =
    (g : Ghost) (cells : List ℕ) (at top : ℕ) (op : StoreOp) (offset : ℕ)
    → IsBefore (Plain (Memory (StoreNumber op (at_offset offset)))) g cells at top
    → (address : ℕ) × (m : MemoryInstance) × HasMemory g address m
    × (2 ≤ top) × (top ≤ length cells) × IsCellOf I32 (get_or cells (top - 2) 0)
    × IsCellOf (store_type op) (get_or cells (top - 1) 0)
    × ((result : Result (List ℕ) Trap)
    → store_into m.bytes (get_or cells (top - 2) 0 + offset) (store_width op)
    (get_or cells (top - 1) 0)
    ≡ result
    → IsStored g address m cells at top result)
    × IsDear g cells at top

-- memory.size: the number of its pages.
abbrev pub MeasuresMemory : Type 0
MeasuresMemory =
    (g : Ghost) (cells : List ℕ) (at top : ℕ) → IsBefore (Plain (Memory Size)) g cells at top
    → (address : ℕ) × (m : MemoryInstance) × HasMemory g address m
    × (top < length cells) × IsPut g cells at m.limits.min top × IsDear g cells at top
