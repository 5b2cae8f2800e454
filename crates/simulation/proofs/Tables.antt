-- Instructions on tables and element segments.
use Rattle.std.proofs.Common.{◌≡◌, ℕ, ◌-◌, List, [], ◌∷◌, ◌++◌, reverse, get_or, refl, ap, ◌∙◌, arith, true, false}
use Rattle.std.specs.Prelude.{Bool, Option, Some, Result, Ok, Err, if◌then◌else◌}
use Rattle.core_types.specs.declared.op.PlainOp.TheVariants.{Table}
use Rattle.core_types.specs.declared.op.TableOp.{TableOp}
use Rattle.core_types.specs.declared.op.TableOp.TheVariants.{Copy, ElemDrop, Fill, Get, Grow, Init, Set, Size}
use Rattle.core_types.specs.declared.outcome.Trap.{Trap}
use Rattle.core_types.specs.declared.outcome.Val.{Val}
use Rattle.core_types.specs.declared.outcome.Val.TheVariants as value
use Rattle.core_types.specs.declared.types.RefType.{RefType}
use Rattle.core_types.specs.declared.types.ValType.{ValType}
use Rattle.core_types.specs.declared.types.ValType.TheVariants.{I32}
use Rattle.meaning.specs.execution.Configurations.{Frame}
use Rattle.meaning.specs.execution.Costs.{entries_cost}
use Rattle.meaning.specs.execution.Effects.{Done, Grown, copy_table, drop_elements, effect, elements_at, init_table, on_table, push_read, table_at, write_table}
use Rattle.meaning.specs.execution.Memories.{can_grow}
use Rattle.meaning.specs.execution.Store.{Store, instance_of, with_elements, with_table}
use Rattle.meaning.specs.execution.Tables.{ElementInstance, TableInstance, copy_entries, fill_entries, grow_entries, most_entries, read_entry, write_entry}
use Rattle.meaning.specs.validation.Instructions.{IsElement}
use Rattle.meaning.specs.validation.Types.{function_type}
use Rattle.soundness.specs.Places.{context_at}
use Rattle.soundness.specs.Stores.{StoreIsValid}
use Rattle.soundness.proofs.Extension.{instance-valid, types-found}
use Rattle.sidetable.specs.Flat.{Plain}
use Rattle.cells.specs.Cells.{value_of}
use Rattle.simulation.specs.Outcomes.{Answers, IsOutcome, effect_of, entry_type, made, instruction_type}
use Rattle.simulation.specs.Runs.{Ghost, IsBefore, frame_of, place_of}
use Rattle.simulation.specs.Tables.{CopiesEntries, CopiesTable, DropsElements, FillsTable, GetsEntry, GrowsTable, HasElements, InitializesTable, MeasuresTable}
use Rattle.simulation.specs.Tables.{SetsEntry, entry_of, grown_table, read_outcome, written_table}
use Rattle.simulation.proofs.Operands.{operands_of}
use Rattle.simulation.proofs.Outcomes.{acts-alone, answers-by, rule-on, table-there, triple}
use Rattle.simulation.proofs.Typed.{with_labels}

-- ---- outcomes

module _ (store : Store) (frame : Frame) where
  read-outcome : (result : Result Val Trap) → IsOutcome store 1 (read_outcome store result)
  read-outcome (Ok v) = (refl, refl)
  read-outcome (Err trap) = tt

  read-effect : (result : Result Val Trap) (values : List Val) → push_read store frame result values ≡ effect_of (read_outcome store result) frame.locals values
  read-effect (Ok v) values = refl
  read-effect (Err trap) values = refl

  module _ (cost address : ℕ) (t : TableInstance) where
    pub write-outcome : (result : Result (List Val) Trap) → IsOutcome store 0 (written_table store cost address t result)
    write-outcome (Ok entries) = (refl, refl)
    write-outcome (Err trap) = tt

    pub write-effect : (result : Result (List Val) Trap) (values : List Val) → write_table store frame cost address t result values
        ≡ effect_of (written_table store cost address t result) frame.locals values
    write-effect (Ok entries) values = refl
    write-effect (Err trap) values = refl

  module _ (address : ℕ) (t : TableInstance) (v : Val) (count : ℕ) where
    grow-outcome : (may : Bool) → IsOutcome store 1 (grown_table store address t v count may)
    grow-outcome true = (refl, refl)
    grow-outcome false = (refl, refl)

    grow-effect : (may : Bool) (values : List Val)
        → (if may then Grown (entries_cost count) (with_table store address (grow_entries t v count)) frame.locals
        (value.I32 t.ty.limits.min ∷ values) else Done 1 store frame.locals (value.I32 4294967295 ∷ values))
        ≡ effect_of (grown_table store address t v count may) frame.locals values
    grow-effect true values = refl
    grow-effect false values = refl

-- ---- what exists

-- The element segment of the context exists.
elements-there : (g : Ghost) → StoreIsValid g.store → (carried : List (List ValType)) (x : ℕ) (t : RefType)
    → IsElement (context_at g.store (with_labels (place_of g) carried)) x t → (address : ℕ) × (e : ElementInstance) × HasElements g x address e
elements-there g valid carried x t is =
    let (address, e, at_address, there, same) = types-found _ _ g.store.elements (instance_of g.store (Some g.instance)).elements x t (instance-valid g.store valid (Some g.instance)).elements is in
    (address, e, rw (at_address, there) refl)

-- ---- instructions on one table

pub gets-entry : GetsEntry
gets-entry g cells at top x b =
    let (carried, takes, gives, (u, there, type)) = rule-on (Table (Get x)) (tt {0}) g cells at top b in
    let (address, t, located, element, kept) = table-there g b.runs.typed.valid carried x u there in
    let i : ℕ = get_or cells (top - 1) 0 in (
      address,
      t,
      located,
      answers-by (Table (Get x)) (tt {0}) g cells at top b (function_type (I32 ∷ []) (entry_of t ∷ [])) (ap (λ (o : Option (ℕ × TableInstance)). function_type (I32 ∷ []) (entry_type o ∷ [])) located)
          (read_entry t.entries (get_or cells (top - 1) 0)) (read_outcome g.store) (read-outcome g.store (frame_of g))
          (λ result values is. ap (λ (o : Option (ℕ × TableInstance)). on_table g.store (frame_of g) o (Get x) (value.I32 i ∷ values)) located
          ∙ ap (λ (r : Result Val Trap). push_read g.store (frame_of g) r values) is ∙ read-effect g.store (frame_of g) result values),
    )

-- Entries are written.
writes : (op : TableOp) (g : Ghost) (cells : List ℕ) (at top : ℕ) (b : IsBefore (Plain (Table op)) g cells at top) (types : List ValType) → instruction_type g (Table op) ≡ function_type types []
    → (cost address : ℕ) (t : TableInstance) (result : Result (List Val) Trap)
    → ((values : List Val) → effect g.store (frame_of g) (Table op) (operands_of cells top 0 (reverse types) ++ values) ≡ write_table g.store (frame_of g) cost address t result values)
    → Answers g cells at top types result (written_table g.store cost address t)
writes op g cells at top b types type_is cost address t result effect_is =
    answers-by (Table op) (tt {0}) g cells at top b (function_type types []) type_is result (written_table g.store cost address t) (write-outcome g.store (frame_of g) cost address t)
    (λ found values is. effect_is values ∙ ap (λ (r : Result (List Val) Trap). write_table g.store (frame_of g) cost address t r values) is ∙
    write-effect g.store (frame_of g) cost address t found values)

pub sets-entry : SetsEntry
sets-entry g cells at top x b =
    let (carried, takes, gives, (u, there, type)) = rule-on (Table (Set x)) (tt {0}) g cells at top b in
    let (address, t, located, element, kept) = table-there g b.runs.typed.valid carried x u there in (
      address,
      t,
      located,
      writes (Set x) g cells at top b (I32 ∷ entry_of t ∷ []) (ap (λ (o : Option (ℕ × TableInstance)). function_type (I32 ∷ entry_type o ∷ []) []) located) 1 address t
          (write_entry t.entries (get_or cells (top - 2) 0) (value_of (entry_of t) (get_or cells (top - 1) 0)))
          (λ values. ap (λ (o : Option (ℕ × TableInstance)).
          on_table g.store (frame_of g) o (Set x)
          (value_of (entry_of t) (get_or cells (top - 1) 0) ∷ (value.I32 (get_or cells (top - 2) 0) ∷ values))) located),
    )

pub measures-table : MeasuresTable
measures-table g cells at top x b =
    let (carried, takes, gives, (u, there, type)) = rule-on (Table (Size x)) (tt {0}) g cells at top b in
    let (address, t, located, element, kept) = table-there g b.runs.typed.valid carried x u there in
    let (room, has) = acts-alone (Table (Size x)) (tt {0}) g cells at top b (function_type [] (I32 ∷ [])) refl refl (made 1 g.store (value.I32 t.ty.limits.min ∷ [])) (refl, refl)
    (λ values. ap (λ (o : Option (ℕ × TableInstance)). on_table g.store (frame_of g) o (Size x) values) located) in
    (address, t, located, omega (arith, room), has)

pub grows-table : GrowsTable
grows-table g cells at top x b =
    let (carried, takes, gives, (u, there, type)) = rule-on (Table (Grow x)) (tt {0}) g cells at top b in
    let (address, t, located, element, kept) = table-there g b.runs.typed.valid carried x u there in
    let v : Val = value_of (entry_of t) (get_or cells (top - 2) 0) in
    let count : ℕ = get_or cells (top - 1) 0 in (
      address,
      t,
      located,
      answers-by (Table (Grow x)) (tt {0}) g cells at top b (function_type (entry_of t ∷ I32 ∷ []) (I32 ∷ []))
          (ap (λ (o : Option (ℕ × TableInstance)). function_type (entry_type o ∷ I32 ∷ []) (I32 ∷ [])) located)
          (can_grow g.store.entries most_entries t.ty.limits (get_or cells (top - 1) 0)) (grown_table g.store address t (value_of (entry_of t) (get_or cells (top - 2) 0)) (get_or cells (top - 1) 0))
          (grow-outcome g.store (frame_of g) address t v count)
          (λ may values is. ap (λ (o : Option (ℕ × TableInstance)). on_table g.store (frame_of g) o (Grow x) (value.I32 count ∷ (v ∷ values))) located
          ∙ ap (λ (b : Bool). if b then Grown (entries_cost count) (with_table g.store address (grow_entries t v count)) g.locals
          (value.I32 t.ty.limits.min ∷ values) else Done 1 g.store g.locals (value.I32 4294967295 ∷ values)) is
          ∙ grow-effect g.store (frame_of g) address t v count may values),
    )

pub fills-table : FillsTable
fills-table g cells at top x b =
    let (carried, takes, gives, (u, there, type)) = rule-on (Table (Fill x)) (tt {0}) g cells at top b in
    let (address, t, located, element, kept) = table-there g b.runs.typed.valid carried x u there in (
      address,
      t,
      located,
      writes (Fill x) g cells at top b (I32 ∷ entry_of t ∷ I32 ∷ [])
          (ap (λ (o : Option (ℕ × TableInstance)). function_type (I32 ∷ entry_type o ∷ I32 ∷ []) []) located)
          (entries_cost (get_or cells (top - 1) 0)) address t
          (fill_entries t.entries (get_or cells (top - 3) 0) (value_of (entry_of t) (get_or cells (top - 2) 0)) (get_or cells (top - 1) 0))
          (λ values. ap (λ (o : Option (ℕ × TableInstance)).
          on_table g.store (frame_of g) o (Fill x)
          (value.I32 (get_or cells (top - 1) 0) ∷
          (value_of (entry_of t) (get_or cells (top - 2) 0) ∷ (value.I32 (get_or cells (top - 3) 0) ∷ values)))) located),
    )

-- ---- from one object to another

module _ (op : TableOp) (g : Ghost) (cells : List ℕ) (at top : ℕ) (b : IsBefore (Plain (Table op)) g cells at top)
    (type_is : instruction_type g (Table op) ≡ function_type (I32 ∷ I32 ∷ I32 ∷ []) []) (address : ℕ) (t : TableInstance) (source : List Val) where
  copies : ((values : List Val) → effect g.store (frame_of g) (Table op) (triple cells top values)
      ≡ write_table g.store (frame_of g) (entries_cost (get_or cells (top - 1) 0)) address t
      (copy_entries t.entries source (get_or cells (top - 3) 0) (get_or cells (top - 2) 0) (get_or cells (top - 1) 0)) values)
      → CopiesEntries g cells at top address t source
  copies effect_is =
      writes op g cells at top b (I32 ∷ I32 ∷ I32 ∷ []) type_is (entries_cost (get_or cells (top - 1) 0)) address t
      (copy_entries t.entries source (get_or cells (top - 3) 0) (get_or cells (top - 2) 0) (get_or cells (top - 1) 0)) effect_is

pub copies-table : CopiesTable
copies-table g cells at top x y b =
    let (carried, takes, gives, (u, into, from, type)) = rule-on (Table (Copy x y)) (tt {0}) g cells at top b in
    let (address, t, located, element, kept) = table-there g b.runs.typed.valid carried x u into in
    let (other, source, found_at, element, kept) = table-there g b.runs.typed.valid carried y u from in (
      address,
      t,
      located,
      other,
      source,
      found_at,
      copies (Copy x y) g cells at top b refl address t source.entries
          (λ values. ap (λ (o : Option (ℕ × TableInstance)). copy_table g.store (frame_of g) o (table_at g.store (frame_of g) y) (triple cells top values)) located
          ∙ ap (λ (o : Option (ℕ × TableInstance)). copy_table g.store (frame_of g) (Some (address, t)) o (triple cells top values)) found_at),
    )

pub initializes-table : InitializesTable
initializes-table g cells at top segment x b =
    let (carried, takes, gives, (u, into, from, type)) = rule-on (Table (Init segment x)) (tt {0}) g cells at top b in
    let (address, t, located, element, kept) = table-there g b.runs.typed.valid carried x u into in
    let (other, e, found_at) = elements-there g b.runs.typed.valid carried segment u from in (
      address,
      t,
      located,
      other,
      e,
      found_at,
      copies (Init segment x) g cells at top b refl address t e.references
          (λ values. ap (λ (o : Option (ℕ × TableInstance)). init_table g.store (frame_of g) o (elements_at g.store (frame_of g) segment) (triple cells top values)) located
          ∙ ap (λ (o : Option (ℕ × ElementInstance)). init_table g.store (frame_of g) (Some (address, t)) o (triple cells top values)) found_at),
    )

pub drops-elements : DropsElements
drops-elements g cells at top segment b =
    let (carried, takes, gives, (u, there, type)) = rule-on (Table (ElemDrop segment)) (tt {0}) g cells at top b in
    let (address, e, located) = elements-there g b.runs.typed.valid carried segment u there in
    let (room, has) = acts-alone (Table (ElemDrop segment)) (tt {0}) g cells at top b (function_type [] []) refl refl
    (made 1 (with_elements g.store address (record { ty = e.ty; references = [] })) []) (refl, refl)
    (λ values. ap (λ (o : Option (ℕ × ElementInstance)). drop_elements g.store (frame_of g) o values) located) in
    (address, e, located, has)
