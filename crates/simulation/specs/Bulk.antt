-- The steps of growth, bulk instructions on the memory and data.drop, in a frame.
use Rattle.std.specs.Prelude.{◌≡◌, ℕ, ◌-◌, List, [], ◌∷◌, get_or, Some, slice_get, Bool, true, false, Result, Ok, Err}
use Rattle.core_types.specs.declared.op.MemoryOp.TheVariants.{Copy, DataDrop, Fill, Grow, Init}
use Rattle.core_types.specs.declared.op.PlainOp.TheVariants.{Memory}
use Rattle.core_types.specs.declared.outcome.Trap.{Trap}
use Rattle.core_types.specs.declared.outcome.Val.TheVariants as value
use Rattle.core_types.specs.declared.types.ValType.TheVariants.{I32}
use Rattle.meaning.specs.execution.Costs.{bulk_cost, growth_cost}
use Rattle.meaning.specs.execution.Memories.{MemoryInstance, can_grow, copy_bytes, fill_bytes, grow_by}
use Rattle.meaning.specs.validation.Types.{most_pages}
use Rattle.meaning.specs.execution.Store.{DataInstance, Store, instance_of, locate, with_data, with_memory}
use Rattle.sidetable.specs.Flat.{Plain}
use Rattle.simulation.specs.Memories.{HasMemory}
use Rattle.simulation.specs.Outcomes.{Answers, HasOutcome, Outcome, failed, grown, made}
use Rattle.simulation.specs.Runs.{Ghost, IsBefore}

-- The data segment that the frame's instance has under an index, and its address.
abbrev pub HasData : Ghost → (x address : ℕ) → DataInstance → Type 0
HasData g x address d =
    locate g.store.datas (slice_get (instance_of g.store (Some g.instance)).datas x)
    ≡ Some (address, d)

-- ---- outcomes

-- The outcome of a write of bytes into the memory at an address. The topmost cell is the number of bytes.
abbrev pub written_memory : Store → (count address : ℕ) → MemoryInstance → Result (List ℕ) Trap
    → Outcome
written_memory store count address m (Ok bytes) =
    made (bulk_cost count)
    (with_memory store address (record { limits = m.limits; bytes = bytes })) []
written_memory store count address m (Err trap) = failed trap

-- The outcome of a growth by that many pages: the size before, or -1 if it may not grow.
abbrev pub grown_memory : Store → (address : ℕ) → MemoryInstance → (pages : ℕ) → Bool → Outcome
grown_memory store address m pages true =
    grown (growth_cost pages) (with_memory store address (grow_by m pages))
    (value.I32 m.limits.min ∷ [])
grown_memory store address m pages false = made 1 store (value.I32 4294967295 ∷ [])

-- ---- instructions

-- memory.grow: the topmost cell is the number of pages.
abbrev pub GrowsMemory : Type 0
GrowsMemory =
    (g : Ghost) (cells : List ℕ) (at top : ℕ) → IsBefore (Plain (Memory Grow)) g cells at top
    → (address : ℕ) × (m : MemoryInstance) × HasMemory g address m
    × Answers g cells at top (I32 ∷ [])
    (can_grow g.store.pages most_pages m.limits (get_or cells (top - 1) 0))
    (grown_memory g.store address m (get_or cells (top - 1) 0))

-- memory.fill: from the lowest cell on, with the second one. The topmost one is the number of bytes.
abbrev pub FillsMemory : Type 0
FillsMemory =
    (g : Ghost) (cells : List ℕ) (at top : ℕ) → IsBefore (Plain (Memory Fill)) g cells at top
    → (address : ℕ) × (m : MemoryInstance) × HasMemory g address m
    × Answers g cells at top (I32 ∷ I32 ∷ I32 ∷ [])
    (fill_bytes m.bytes (get_or cells (top - 3) 0) (get_or cells (top - 2) 0)
    (get_or cells (top - 1) 0))
    (written_memory g.store (get_or cells (top - 1) 0) address m)

-- From the second cell on in a source to the lowest one. The topmost one is the number of bytes.
abbrev pub CopiesBytes : Ghost → List ℕ → (at top address : ℕ) → MemoryInstance
    → (source : List ℕ) → Type 0
CopiesBytes g cells at top address m source =
    Answers g cells at top (I32 ∷ I32 ∷ I32 ∷ [])
    (copy_bytes m.bytes source (get_or cells (top - 3) 0) (get_or cells (top - 2) 0)
    (get_or cells (top - 1) 0))
    (written_memory g.store (get_or cells (top - 1) 0) address m)

-- memory.copy.
abbrev pub CopiesMemory : Type 0
CopiesMemory =
    (g : Ghost) (cells : List ℕ) (at top : ℕ) → IsBefore (Plain (Memory Copy)) g cells at top
    → (address : ℕ) × (m : MemoryInstance) × HasMemory g address m
    × CopiesBytes g cells at top address m m.bytes

-- memory.init.
abbrev pub InitializesMemory : Type 0
InitializesMemory =
    (g : Ghost) (cells : List ℕ) (at top segment : ℕ)
    → IsBefore (Plain (Memory (Init segment))) g cells at top
    → (address : ℕ) × (m : MemoryInstance) × HasMemory g address m
    × (other : ℕ) × (d : DataInstance) × HasData g segment other d
    × CopiesBytes g cells at top address m d.bytes

-- data.drop: the segment has no bytes from then on.
abbrev pub DropsData : Type 0
DropsData =
    (g : Ghost) (cells : List ℕ) (at top segment : ℕ)
    → IsBefore (Plain (Memory (DataDrop segment))) g cells at top
    → (address : ℕ) × (d : DataInstance) × HasData g segment address d
    × HasOutcome g cells at top top
    (made 1 (with_data g.store address (record { bytes = [] })) [])
