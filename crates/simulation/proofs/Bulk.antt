-- Growth, bulk instructions on the memory, and data.drop.
use Rattle.std.proofs.Common.{◌≡◌, ℕ, ◌-◌, ◌<◌, List, [], ◌∷◌, length, get_or, refl, ap, ◌∙◌, true, false}
use Rattle.std.proofs.lemmas.Option.{slice_get-get_or}
use Rattle.std.specs.Prelude.{Bool, Option, Some, Result, Ok, Err, if◌then◌else◌}
use Rattle.core_types.specs.declared.op.MemoryOp.{MemoryOp}
use Rattle.core_types.specs.declared.op.MemoryOp.TheVariants.{Copy, DataDrop, Fill, Grow, Init}
use Rattle.core_types.specs.declared.op.PlainOp.TheVariants.{Memory}
use Rattle.core_types.specs.declared.outcome.Trap.{Trap}
use Rattle.core_types.specs.declared.outcome.Val.{Val}
use Rattle.core_types.specs.declared.outcome.Val.TheVariants as value
use Rattle.core_types.specs.declared.types.ValType.{ValType}
use Rattle.core_types.specs.declared.types.ValType.TheVariants.{I32}
use Rattle.meaning.specs.execution.Configurations.{Frame}
use Rattle.meaning.specs.execution.Costs.{bulk_cost, growth_cost}
use Rattle.meaning.specs.execution.Effects.{Done, Grown, drop_data, effect, in_memory, init_memory, write_memory}
use Rattle.meaning.specs.execution.Memories.{MemoryInstance, can_grow, copy_bytes, fill_bytes, grow_by}
use Rattle.meaning.specs.execution.Store.{DataInstance, Store, instance_of, with_data, with_memory}
use Rattle.meaning.specs.validation.Types.{function_type, most_pages}
use Rattle.soundness.specs.Places.{context_at}
use Rattle.soundness.specs.Stores.{StoreIsValid}
use Rattle.soundness.proofs.Extension.{instance-valid}
use Rattle.soundness.proofs.Values.{All-at}
use Rattle.sidetable.specs.Flat.{Plain}
use Rattle.simulation.specs.Bulk.{CopiesMemory, DropsData, FillsMemory, GrowsMemory, HasData, InitializesMemory, grown_memory, written_memory}
use Rattle.simulation.specs.Outcomes.{Answers, IsOnStore, IsOutcome, effect_of, made, instruction_type}
use Rattle.simulation.specs.Runs.{Ghost, IsBefore, frame_of, place_of}
use Rattle.simulation.proofs.Memories.{memory-there}
use Rattle.simulation.proofs.Outcomes.{acts-alone, answers-by, rule-on, triple}
use Rattle.simulation.proofs.Typed.{with_labels}

-- ---- outcomes

module _ (store : Store) (frame : Frame) (count address : ℕ) (m : MemoryInstance) where
  pub write-outcome : (result : Result (List ℕ) Trap) → IsOutcome store 0 (written_memory store count address m result)
  write-outcome (Ok bytes) = (refl, refl)
  write-outcome (Err trap) = tt

  pub write-effect : (result : Result (List ℕ) Trap) (values : List Val) → write_memory store frame (bulk_cost count) address m result values
      ≡ effect_of (written_memory store count address m result) frame.locals values
  write-effect (Ok bytes) values = refl
  write-effect (Err trap) values = refl

  grow-outcome : (may : Bool) → IsOutcome store 1 (grown_memory store address m count may)
  grow-outcome true = (refl, refl)
  grow-outcome false = (refl, refl)

  grow-effect : (may : Bool) (values : List Val)
      → (if may then Grown (growth_cost count) (with_memory store address (grow_by m count)) frame.locals (value.I32 m.limits.min ∷ values) else Done
      1 store frame.locals (value.I32 4294967295 ∷ values))
      ≡ effect_of (grown_memory store address m count may) frame.locals values
  grow-effect true values = refl
  grow-effect false values = refl

-- ---- what exists

-- The data segment of the context exists.
data-there : (g : Ghost) → StoreIsValid g.store → (carried : List (List ValType)) (x : ℕ)
    → x < (context_at g.store (with_labels (place_of g) carried)).datas → (address : ℕ) × (d : DataInstance) × HasData g x address d
data-there g valid carried x inside =
    let addresses = (instance_of g.store (Some g.instance)).datas in
    let named = slice_get-get_or addresses x 0 inside in
    let below = All-at (λ (a : ℕ). a < length g.store.datas) addresses x (get_or addresses x 0) named (instance-valid g.store valid (Some g.instance)).datas in
    let there = slice_get-get_or g.store.datas (get_or addresses x 0) (record { bytes = [] }) below in
    (get_or addresses x 0, get_or g.store.datas (get_or addresses x 0) (record { bytes = [] }), rw (named, there) refl)

-- ---- growth

pub grows-memory : GrowsMemory
grows-memory g cells at top b =
    let (carried, takes, gives, (has, type)) = rule-on (Memory Grow) (tt {0}) g cells at top b in
    let (address, m, located) = memory-there g b.runs.typed.valid carried has in
    let count : ℕ = get_or cells (top - 1) 0 in (
      address,
      m,
      located,
      answers-by (Memory Grow) (tt {0}) g cells at top b (function_type (I32 ∷ []) (I32 ∷ [])) refl
          (can_grow g.store.pages most_pages m.limits (get_or cells (top - 1) 0)) (grown_memory g.store address m (get_or cells (top - 1) 0))
          (grow-outcome g.store (frame_of g) count address m)
          (λ may values is. ap (λ (o : Option (ℕ × MemoryInstance)). in_memory g.store (frame_of g) o Grow (value.I32 count ∷ values)) located
          ∙ ap (λ (b : Bool). if b then Grown (growth_cost count) (with_memory g.store address (grow_by m count)) g.locals
          (value.I32 m.limits.min ∷ values) else Done 1 g.store g.locals (value.I32 4294967295 ∷ values)) is
          ∙ grow-effect g.store (frame_of g) count address m may values),
    )

-- ---- bulk instructions

-- Bytes are written.
writes : (op : MemoryOp) (is : IsOnStore (Memory op)) (g : Ghost) (cells : List ℕ) (at top : ℕ) (b : IsBefore (Plain (Memory op)) g cells at top)
    → instruction_type g (Memory op) ≡ function_type (I32 ∷ I32 ∷ I32 ∷ []) []
    → (address : ℕ) (m : MemoryInstance) (result : Result (List ℕ) Trap)
    → ((values : List Val) → effect g.store (frame_of g) (Memory op) (triple cells top values) ≡ write_memory g.store (frame_of g) (bulk_cost (get_or cells (top - 1) 0)) address m result values)
    → Answers g cells at top (I32 ∷ I32 ∷ I32 ∷ []) result (written_memory g.store (get_or cells (top - 1) 0) address m)
writes op is g cells at top b type_is address m result effect_is =
    answers-by (Memory op) is g cells at top b (function_type (I32 ∷ I32 ∷ I32 ∷ []) []) type_is result (written_memory g.store (get_or cells (top - 1) 0) address m)
    (write-outcome g.store (frame_of g) (get_or cells (top - 1) 0) address m)
    (λ found values same. effect_is values ∙ ap (λ (r : Result (List ℕ) Trap). write_memory g.store (frame_of g) (bulk_cost (get_or cells (top - 1) 0)) address m r values) same
    ∙ write-effect g.store (frame_of g) (get_or cells (top - 1) 0) address m found values)

pub fills-memory : FillsMemory
fills-memory g cells at top b =
    let (carried, takes, gives, (has, type)) = rule-on (Memory Fill) (tt {0}) g cells at top b in
    let (address, m, located) = memory-there g b.runs.typed.valid carried has in (
      address,
      m,
      located,
      writes Fill (tt {0}) g cells at top b refl address m (fill_bytes m.bytes (get_or cells (top - 3) 0) (get_or cells (top - 2) 0) (get_or cells (top - 1) 0))
          (λ values. ap (λ (o : Option (ℕ × MemoryInstance)). in_memory g.store (frame_of g) o Fill (triple cells top values)) located),
    )

pub copies-memory : CopiesMemory
copies-memory g cells at top b =
    let (carried, takes, gives, (has, type)) = rule-on (Memory Copy) (tt {0}) g cells at top b in
    let (address, m, located) = memory-there g b.runs.typed.valid carried has in (
      address,
      m,
      located,
      writes Copy (tt {0}) g cells at top b refl address m (copy_bytes m.bytes m.bytes (get_or cells (top - 3) 0) (get_or cells (top - 2) 0) (get_or cells (top - 1) 0))
          (λ values. ap (λ (o : Option (ℕ × MemoryInstance)). in_memory g.store (frame_of g) o Copy (triple cells top values)) located),
    )

pub initializes-memory : InitializesMemory
initializes-memory g cells at top segment b =
    let (carried, takes, gives, (has, inside, type)) = rule-on (Memory (Init segment)) (tt {0}) g cells at top b in
    let (address, m, located) = memory-there g b.runs.typed.valid carried has in
    let (other, d, found_at) = data-there g b.runs.typed.valid carried segment inside in (
      address,
      m,
      located,
      other,
      d,
      found_at,
      writes (Init segment) (tt {0}) g cells at top b refl address m (copy_bytes m.bytes d.bytes (get_or cells (top - 3) 0) (get_or cells (top - 2) 0) (get_or cells (top - 1) 0))
          (λ values. ap (λ (o : Option (ℕ × MemoryInstance)). in_memory g.store (frame_of g) o (Init segment) (triple cells top values)) located
          ∙ ap (λ (o : Option (ℕ × DataInstance)). init_memory g.store (frame_of g) address m o (triple cells top values)) found_at),
    )

pub drops-data : DropsData
drops-data g cells at top segment b =
    let (carried, takes, gives, (inside, type)) = rule-on (Memory (DataDrop segment)) (tt {0}) g cells at top b in
    let (address, d, located) = data-there g b.runs.typed.valid carried segment inside in
    let (room, has) = acts-alone (Memory (DataDrop segment)) (tt {0}) g cells at top b (function_type [] []) refl refl (made 1 (with_data g.store address (record { bytes = [] })) []) (refl, refl)
    (λ values. ap (λ (o : Option (ℕ × DataInstance)). drop_data g.store (frame_of g) o values) located) in
    (address, d, located, has)
