-- The steps of instructions on tables and element segments, in a frame.
use Rattle.std.specs.Prelude.{◌≡◌, ℕ, ◌-◌, ◌<◌, List, [], ◌∷◌, length, get_or, Some, slice_get, Bool, true, false, Result, Ok, Err}
use Rattle.core_types.specs.declared.op.PlainOp.TheVariants.{Table}
use Rattle.core_types.specs.declared.op.TableOp.TheVariants.{Copy, ElemDrop, Fill, Get, Grow, Init, Set, Size}
use Rattle.core_types.specs.declared.outcome.Trap.{Trap}
use Rattle.core_types.specs.declared.outcome.Val.{Val}
use Rattle.core_types.specs.declared.outcome.Val.TheVariants as value
use Rattle.core_types.specs.declared.types.ValType.{ValType}
use Rattle.core_types.specs.declared.types.ValType.TheVariants.{I32}
use Rattle.meaning.specs.execution.Costs.{entries_cost}
use Rattle.meaning.specs.execution.Memories.{can_grow}
use Rattle.meaning.specs.execution.Store.{Store, instance_of, locate, with_elements, with_table}
use Rattle.meaning.specs.execution.Tables.{ElementInstance, TableInstance, copy_entries, fill_entries, grow_entries, most_entries, read_entry, write_entry}
use Rattle.meaning.specs.validation.Types.{reference_type}
use Rattle.cells.specs.Cells.{value_of}
use Rattle.sidetable.specs.Flat.{Plain}
use Rattle.simulation.specs.Outcomes.{Answers, HasOutcome, Outcome, failed, grown, made}
use Rattle.simulation.specs.Runs.{Ghost, IsBefore}

-- ---- what exists

-- The table that the frame's instance has under an index, and its address.
abbrev pub HasTable : Ghost → (x address : ℕ) → TableInstance → Type 0
HasTable g x address t =
    locate g.store.tables (slice_get (instance_of g.store (Some g.instance)).tables x)
    ≡ Some (address, t)

-- The element segment that the frame's instance has under an index, and its address.
abbrev pub HasElements : Ghost → (x address : ℕ) → ElementInstance → Type 0
HasElements g x address e =
    locate g.store.elements (slice_get (instance_of g.store (Some g.instance)).elements x)
    ≡ Some (address, e)

-- The type of a table's entries.
abbrev pub entry_of : TableInstance → ValType
entry_of t = reference_type t.ty.element

-- ---- outcomes

-- The outcome of a read.
abbrev pub read_outcome : Store → Result Val Trap → Outcome
read_outcome store (Ok v) = made 1 store (v ∷ [])
read_outcome store (Err trap) = failed trap

-- The outcome of a write of entries, at a cost, into the table at an address.
abbrev pub written_table : Store → (cost address : ℕ) → TableInstance → Result (List Val) Trap
    → Outcome
written_table store cost address t (Ok entries) =
    made cost (with_table store address (record { ty = t.ty; entries = entries })) []
written_table store cost address t (Err trap) = failed trap

-- The outcome of a growth by that many entries of a value: the size before, or -1 if it may not grow.
abbrev pub grown_table : Store → (address : ℕ) → TableInstance → Val → (count : ℕ) → Bool → Outcome
grown_table store address t v count true =
    grown (entries_cost count) (with_table store address (grow_entries t v count))
    (value.I32 t.ty.limits.min ∷ [])
grown_table store address t v count false = made 1 store (value.I32 4294967295 ∷ [])

-- ---- instructions on one table

-- table.get.
abbrev pub GetsEntry : Type 0
GetsEntry =
    (g : Ghost) (cells : List ℕ) (at top x : ℕ) → IsBefore (Plain (Table (Get x))) g cells at top
    → (address : ℕ) × (t : TableInstance) × HasTable g x address t
    × Answers g cells at top (I32 ∷ []) (read_entry t.entries (get_or cells (top - 1) 0))
    (read_outcome g.store)

-- table.set: the topmost cell is written.
abbrev pub SetsEntry : Type 0
SetsEntry =
    (g : Ghost) (cells : List ℕ) (at top x : ℕ) → IsBefore (Plain (Table (Set x))) g cells at top
    → (address : ℕ) × (t : TableInstance) × HasTable g x address t
    × Answers g cells at top (I32 ∷ entry_of t ∷ [])
    (write_entry t.entries (get_or cells (top - 2) 0)
    (value_of (entry_of t) (get_or cells (top - 1) 0)))
    (written_table g.store 1 address t)

-- table.size: the number of entries.
abbrev pub MeasuresTable : Type 0
MeasuresTable =
    (g : Ghost) (cells : List ℕ) (at top x : ℕ) → IsBefore (Plain (Table (Size x))) g cells at top
    → (address : ℕ) × (t : TableInstance) × HasTable g x address t × (top < length cells)
    × HasOutcome g cells at top top (made 1 g.store (value.I32 t.ty.limits.min ∷ []))

-- table.grow: the topmost cell is the number of entries, which get the value of the second one.
abbrev pub GrowsTable : Type 0
GrowsTable =
    (g : Ghost) (cells : List ℕ) (at top x : ℕ) → IsBefore (Plain (Table (Grow x))) g cells at top
    → (address : ℕ) × (t : TableInstance) × HasTable g x address t
    × Answers g cells at top (entry_of t ∷ I32 ∷ [])
    (can_grow g.store.entries most_entries t.ty.limits (get_or cells (top - 1) 0))
    (grown_table g.store address t (value_of (entry_of t) (get_or cells (top - 2) 0))
    (get_or cells (top - 1) 0))

-- table.fill: from the lowest cell on, with the second one. The topmost one is the number of entries.
abbrev pub FillsTable : Type 0
FillsTable =
    (g : Ghost) (cells : List ℕ) (at top x : ℕ) → IsBefore (Plain (Table (Fill x))) g cells at top
    → (address : ℕ) × (t : TableInstance) × HasTable g x address t
    × Answers g cells at top (I32 ∷ entry_of t ∷ I32 ∷ [])
    (fill_entries t.entries (get_or cells (top - 3) 0)
    (value_of (entry_of t) (get_or cells (top - 2) 0)) (get_or cells (top - 1) 0))
    (written_table g.store (entries_cost (get_or cells (top - 1) 0)) address t)

-- ---- from one object to another

-- From the second cell on in a source to the lowest one. The topmost one is the number of entries.
abbrev pub CopiesEntries : Ghost → List ℕ → (at top address : ℕ) → TableInstance
    → (source : List Val) → Type 0
CopiesEntries g cells at top address t source =
    Answers g cells at top (I32 ∷ I32 ∷ I32 ∷ [])
    (copy_entries t.entries source (get_or cells (top - 3) 0) (get_or cells (top - 2) 0)
    (get_or cells (top - 1) 0))
    (written_table g.store (entries_cost (get_or cells (top - 1) 0)) address t)

-- table.copy.
abbrev pub CopiesTable : Type 0
CopiesTable =
    (g : Ghost) (cells : List ℕ) (at top x y : ℕ)
    → IsBefore (Plain (Table (Copy x y))) g cells at top
    → (address : ℕ) × (t : TableInstance) × HasTable g x address t
    × (other : ℕ) × (source : TableInstance) × HasTable g y other source
    × CopiesEntries g cells at top address t source.entries

-- table.init.
abbrev pub InitializesTable : Type 0
InitializesTable =
    (g : Ghost) (cells : List ℕ) (at top segment x : ℕ)
    → IsBefore (Plain (Table (Init segment x))) g cells at top
    → (address : ℕ) × (t : TableInstance) × HasTable g x address t
    × (other : ℕ) × (e : ElementInstance) × HasElements g segment other e
    × CopiesEntries g cells at top address t e.references

-- elem.drop: the segment has no references from then on.
abbrev pub DropsElements : Type 0
DropsElements =
    (g : Ghost) (cells : List ℕ) (at top segment : ℕ)
    → IsBefore (Plain (Table (ElemDrop segment))) g cells at top
    → (address : ℕ) × (e : ElementInstance) × HasElements g segment address e
    × HasOutcome g cells at top top
    (made 1 (with_elements g.store address (record { ty = e.ty; references = [] })) [])
