-- What instructions on tables, memories and segments need, and their outcomes, at rest.
use Rattle.std.proofs.Common.{◌≡◌, ℕ, zero, suc, ◌+◌, ◌-◌, ◌<◌, ◌≤◌, List, [], ◌∷◌, length, reverse, set, get_or, refl, ap, sym, subst, ◌∙◌, arith}
use Rattle.std.proofs.lemmas.List.{length-reverse, length-set}
use Rattle.std.proofs.lemmas.Option.{get_or_from_slice_get, slice_get_within}
use Rattle.std.specs.Prelude.{Option, Some, None, Result, Ok, Err, slice_get}
use Rattle.core_types.specs.declared.op.MemoryOp.TheVariants as memory
use Rattle.core_types.specs.declared.op.PlainOp.{PlainOp}
use Rattle.core_types.specs.declared.op.PlainOp.TheVariants.{Memory, Table}
use Rattle.core_types.specs.declared.op.TableOp.TheVariants as table
use Rattle.core_types.specs.declared.outcome.Val.TheVariants as value
use Rattle.core_types.specs.declared.types.ValType.{ValType}
use Rattle.core_types.specs.declared.types.ValType.TheVariants.{I32}
use Rattle.meaning.specs.execution.Costs.{entries_cost}
use Rattle.meaning.specs.execution.Memories.{MemoryInstance, can_grow, copy_bytes, fill_bytes}
use Rattle.meaning.specs.validation.Types.{most_pages}
use Rattle.meaning.specs.execution.Store.{DataInstance, ModuleInstance, Store, instance_of, locate, locate_at, with_data, with_elements}
use Rattle.meaning.specs.execution.Tables.{ElementInstance, TableInstance, copy_entries, fill_entries, most_entries, read_entry, write_entry}
use Rattle.cells.specs.Cells.{IsCellOf, value_of}
use Rattle.sidetable.specs.Flat.{Plain}
use Rattle.simulation.specs.Bulk.{grown_memory, written_memory}
use Rattle.simulation.specs.Outcomes.{HasOutcome, Outcome, made, HasOperands as HasOperandCells}
use Rattle.simulation.specs.Runs.{Ghost}
use Rattle.simulation.specs.Tables.{entry_of, grown_table, read_outcome, written_table}
use Rattle.simulation.proofs.Bulk.{copies-memory, drops-data, fills-memory, grows-memory, initializes-memory}
use Rattle.simulation.proofs.Tables.{copies-table, drops-elements, fills-table, gets-entry, grows-table, initializes-table, measures-table, sets-entry}
use Rattle.store.specs.State.{no_elements, no_memory, no_table}
use Rattle.interpreter.specs.Running.{Machine, RunsAt, cells_in, height_in}
use Rattle.interpreter.specs.Whole.{Whole}
use Rattle.interpreter.proofs.Cells.{frame-length}
use Rattle.interpreter.proofs.Forms.{IsAt, inside, topmost, under}
use Rattle.effects.specs.Outcomes.{AreInCell, Gives}
use Rattle.effects.specs.declared.payment.Paid.{Paid}
use Rattle.effects.specs.declared.payment.Fault.{Fault}
use Rattle.exec.specs.Instructions.{HasOperands, HasRoom, HasRoomFor, RestsBefore, instance_in, operand_of}
use Rattle.exec.specs.Resting.{AtRest, machine_of, store_around}

-- ---- objects by address

module _ {T : Type 0} where
  located-at : (a b : ℕ) (o : Option T) (t : T) → locate_at a o ≡ Some (b, t) → (a ≡ b) × (o ≡ Some t)
  located-at a b None t e = absurd cc
  located-at a b (Some y) t e = let both : (a, y) ≡ (b, t) = cc in (ap (λ (p : ℕ × T). p.0) both, ap (λ (p : ℕ × T). Some p.1) both)

  located : (items : List T) (o : Option ℕ) (a : ℕ) (t : T) → locate items o ≡ Some (a, t) → (o ≡ Some a) × (slice_get items a ≡ Some t)
  located items None a t e = absurd cc
  located items (Some b) a t e = let (same, there) = located-at b a (slice_get items b) t e in (ap Some same, ap (slice_get items) (sym same) ∙ there)

-- An object of the store that an instance names.
pub record IsThere {T : Type 0} (items : List T) (none : T) (name : Option ℕ) (address : ℕ) (t : T) : Type 0 where
  pub named : name ≡ Some address
  pub inside : address < length items
  pub is : get_or items address none ≡ t

module _ (bound : ℕ) (r : AtRest) (op : PlainOp) (u : Whole) (b : RestsBefore bound r op u) where
  abbrev m : Machine
  m = machine_of r

  abbrev g : Ghost
  g = u.ghost

  abbrev runs : RunsAt b.rests.world m g
  runs = b.rests.runs.runs

  before : IsAt m g (Plain op)
  before = record { runs = runs.runs; more = b.there.0; there = b.there.1 }

  store-is : g.store ≡ store_around r
  store-is = runs.store ∙ b.rests.sees.store

  instance-is : instance_of g.store (Some g.instance) ≡ instance_in r.code r.call
  instance-is = ap (λ (s : Store). instance_of s (Some g.instance)) store-is ∙ ap (λ (n : ℕ). instance_of (store_around r) (Some n)) (runs.number ∙ b.rests.sees.seen_from)

  found : {T : Type 0} (none : T) (items : Store → List T) (names : ModuleInstance → List ℕ) (x a : ℕ) (t : T)
      → locate (items g.store) (slice_get (names (instance_of g.store (Some g.instance))) x) ≡ Some (a, t)
      → IsThere (items (store_around r)) none (slice_get (names (instance_in r.code r.call)) x) a t
  found {T} none items names x a t e =
      let (named, there) = located (items (store_around r)) (slice_get (names (instance_in r.code r.call)) x) a t
      (ap (λ (i : ModuleInstance). locate (items (store_around r)) (slice_get (names i) x)) (sym instance-is)
      ∙ ap (λ (s : Store). locate (items s) (slice_get (names (instance_of g.store (Some g.instance))) x)) (sym store-is) ∙ e) in
      record { named = named; inside = slice_get_within (items (store_around r)) a t there; is = get_or_from_slice_get (items (store_around r)) a t none there }

  -- ---- operands

  operand-is : (n : ℕ) → m.base + g.code.locals + n ≤ m.top → (k : ℕ) → k < n → get_or (cells_in g m) (height_in m - suc k) 0 ≡ operand_of r.call k
  operand-is n low zero less = topmost b.rests.world m g runs n (omega arith) low
  operand-is n low (suc j) less = under b.rests.world m g runs (suc (suc j)) (omega arith) (omega arith) (omega arith) (m.top - suc j) (omega arith)

  -- Operands of these types, the topmost first.
  pub record Operands (types : List ValType) : Type 0 where
    pub low : m.base + g.code.locals + length types ≤ m.top
    pub has : HasOperands r.call types

  operands : (types : List ValType) → HasOperandCells g (cells_in g m) (height_in m) types → Operands (reverse types)
  operands types h =
      let many : length (reverse types) ≡ length types = simp length-reverse in
      let low : m.base + g.code.locals + length types ≤ m.top = omega (arith, h.above, runs.runs.holds.count, runs.low) in
      let inside_is = inside b.rests.world m g runs in record {
        low = omega (arith, many, low);
        has = record {
          low = omega (arith, many, low);
          inside = inside_is;
          cells = λ k less.
              let few : k < length types = omega (arith, many, less) in
              subst (IsCellOf (get_or (reverse types) k I32)) (operand-is (length types) low k few) (h.each k few);
        };
      }

  -- No operands.
  no-operands : Operands []
  no-operands = record { low = omega (arith, runs.low); has = record { low = omega arith; inside = inside b.rests.world m g runs; cells = λ k less. absurd (omega (arith, less)) } }

  -- There is room for one more operand.
  room-above : height_in m < length (cells_in g m) → m.top + 1 < length m.cells
  room-above room =
      let written = length-set m.cells m.top m.operand in
      let size = frame-length g.code.locals m.base (set m.cells m.top m.operand) (omega (arith, written, runs.scrap)) in
      omega (arith, written, size, room, runs.low)

  -- ---- outcomes, over the store and the operands at rest

  abbrev HasAt : (below : ℕ) → Outcome → Type 0
  HasAt below o = HasOutcome g (cells_in g m) m.place (height_in m) below o

  abbrev cell : (k : ℕ) → ℕ
  cell k = get_or (cells_in g m) (height_in m - suc k) 0

  over-none : (below : ℕ) (outcome : Store → Outcome) → HasAt below (outcome g.store) → HasAt below (outcome (store_around r))
  over-none below outcome = subst (λ (s : Store). HasAt below (outcome s)) store-is

  -- Below no operands.
  over-all : (outcome : Store → Outcome) → HasAt (height_in m) (outcome g.store) → HasAt (height_in m - 0) (outcome (store_around r))
  over-all outcome h =
      let same : height_in m ≡ height_in m - 0 = omega arith in
      over-none (height_in m - 0) outcome (subst (λ (n : ℕ). HasAt n (outcome g.store)) same h)

  module _ (n : ℕ) (low : m.base + g.code.locals + n ≤ m.top) (below : ℕ) where
    over-cell : (k : ℕ) → k < n → (outcome : ℕ → Outcome) → HasAt below (outcome (cell k)) → HasAt below (outcome (operand_of r.call k))
    over-cell k less outcome = subst (λ (x : ℕ). HasAt below (outcome x)) (operand-is n low k less)

    over-one : 1 ≤ n → (outcome : Store → ℕ → Outcome) → HasAt below (outcome g.store (cell 0)) → HasAt below (outcome (store_around r) (operand_of r.call 0))
    over-one few outcome h = over-cell 0 few (outcome (store_around r)) (over-none below (λ (s : Store). outcome s (cell 0)) h)

    over-two : 2 ≤ n → (outcome : Store → ℕ → ℕ → Outcome) → HasAt below (outcome g.store (cell 0) (cell 1)) → HasAt below (outcome (store_around r) (operand_of r.call 0) (operand_of r.call 1))
    over-two few outcome h = over-cell 1 few (outcome (store_around r) (operand_of r.call 0)) (over-one (omega arith) (λ (s : Store) (x : ℕ). outcome s x (cell 1)) h)

    over-three : 3 ≤ n → (outcome : Store → ℕ → ℕ → ℕ → Outcome) → HasAt below (outcome g.store (cell 0) (cell 1) (cell 2))
        → HasAt below (outcome (store_around r) (operand_of r.call 0) (operand_of r.call 1) (operand_of r.call 2))
    over-three few outcome h = over-cell 2 few (outcome (store_around r) (operand_of r.call 0) (operand_of r.call 1)) (over-two (omega arith) (λ (s : Store) (x y : ℕ). outcome s x y (cell 2)) h)

-- ---- room for a result

module _ (m : Machine) (taken : ℕ) where
  -- In the place of operands.
  pub room-taken : 1 ≤ taken → (below : ℕ) → below + taken ≤ m.top → m.top < length m.cells → (result : Result Paid Fault) → HasRoomFor m taken result
  room-taken some below low inside (Ok paid) = by paid.result
    where
      by : (result : Option ℕ) → HasRoom m taken result
      by None = tt
      by (Some cell) = omega (arith, some, low, inside)
  room-taken some below low inside (Err fault) = tt

  -- If there is no result.
  pub room-none : (cost : ℕ) (store old new : Store) (fuel : ℕ) (result : Result Paid Fault) → Gives (made cost store []) old new fuel result → HasRoomFor m taken result
  room-none cost store old new fuel (Ok paid) (is, left) = by paid.result is.result
    where
      by : (result : Option ℕ) → AreInCell [] result → HasRoom m taken result
      by None none = tt
      by (Some cell) wrong = absurd cc
  room-none cost store old new fuel (Err fault) gives = tt

  -- Above all operands.
  pub room-one : m.top + 1 < length m.cells → (result : Result Paid Fault) → HasRoomFor m taken result
  room-one inside (Ok paid) = by paid.result
    where
      by : (result : Option ℕ) → HasRoom m taken result
      by None = tt
      by (Some cell) = omega (arith, inside)
  room-one inside (Err fault) = tt

-- ---- what is ready

abbrev no_data : DataInstance
no_data = record { bytes = [] }

-- An instruction on one object, at an address, with operands of types: it has an outcome.
pub record Ready {T : Type 0} (r : AtRest) (g : Ghost) (items : List T) (none : T) (name : Option ℕ) (types : T → List ValType) (outcome : ℕ → T → Outcome) : Type 0 where
  pub address : ℕ
  pub named : name ≡ Some address
  pub inside : address < length items
  pub has_operands : HasOperands r.call (types (get_or items address none))
  pub low : (machine_of r).base + g.code.locals + length (types (get_or items address none)) ≤ (machine_of r).top
  pub has : HasOutcome g (cells_in g (machine_of r)) (machine_of r).place (height_in (machine_of r))
      (height_in (machine_of r) - length (types (get_or items address none))) (outcome address (get_or items address none))

-- The operands of the call.
abbrev topmost_of : AtRest → ℕ
topmost_of r = operand_of r.call 0

abbrev second_of : AtRest → ℕ
second_of r = operand_of r.call 1

abbrev third_of : AtRest → ℕ
third_of r = operand_of r.call 2

module _ {T : Type 0} (bound : ℕ) (r : AtRest) (op : PlainOp) (u : Whole) (b : RestsBefore bound r op u) (items : List T) (none : T) (name : Option ℕ)
    (types : T → List ValType) (outcome : ℕ → T → Outcome) where
  abbrev OutcomeOf : ℕ → T → Type 0
  OutcomeOf address t = HasOutcome u.ghost (cells_in u.ghost (machine_of r)) (machine_of r).place (height_in (machine_of r)) (height_in (machine_of r) - length (types t)) (outcome address t)

  ready : (a : ℕ) (t : T) → IsThere items none name a t → Operands bound r op u b (types t) → OutcomeOf a t → Ready r u.ghost items none name types outcome
  ready a t there o has = record {
    address = a;
    named = there.named;
    inside = there.inside;
    has_operands = subst (λ (z : T). HasOperands r.call (types z)) (sym there.is) o.has;
    low = subst (λ (z : T). (machine_of r).base + u.ghost.code.locals + length (types z) ≤ (machine_of r).top) (sym there.is) o.low;
    has = subst (OutcomeOf a) (sym there.is) has;
  }

module _ (r : AtRest) (u : Whole) where
  abbrev machine : Machine
  machine = machine_of r

  abbrev frame_cells : List ℕ
  frame_cells = cells_in u.ghost machine

  abbrev height : ℕ
  height = height_in machine

  abbrev its : ModuleInstance
  its = instance_in r.code r.call

  abbrev its_store : Store
  its_store = store_around r

  -- The table of an index, with an outcome.
  abbrev ReadyOnTable : (x : ℕ) → (TableInstance → List ValType) → (ℕ → TableInstance → Outcome) → Type 0
  ReadyOnTable x types outcome = Ready r u.ghost its_store.tables no_table (slice_get its.tables x) types outcome

  abbrev ReadyOnMemory : List ValType → (ℕ → MemoryInstance → Outcome) → Type 0
  ReadyOnMemory types outcome = Ready r u.ghost its_store.memories no_memory (slice_get its.memories 0) (λ (t : MemoryInstance). types) outcome

  module _ (bound : ℕ) where
    -- ---- instructions on one object

    -- table.get.
    pub gets : (index : ℕ) → RestsBefore bound r (Table (table.Get index)) u
        → ReadyOnTable index (λ (t : TableInstance). I32 ∷ []) (λ (a : ℕ) (t : TableInstance). read_outcome its_store (read_entry t.entries (topmost_of r)))
    gets index b =
        let (a, t, there, (cells, leads)) = gets-entry u.ghost frame_cells machine.place height index (before bound r (Table (table.Get index)) u b) in
        let o = operands bound r (Table (table.Get index)) u b (I32 ∷ []) cells in
        ready bound r (Table (table.Get index)) u b its_store.tables no_table (slice_get its.tables index) _ _ a t
        (found bound r (Table (table.Get index)) u b no_table (λ (s : Store). s.tables) (λ (i : ModuleInstance). i.tables) index a t there) o
        (over-one bound r (Table (table.Get index)) u b 1 o.low _ (omega arith) (λ (s : Store) (x : ℕ). read_outcome s (read_entry t.entries x)) (leads _ refl))

    -- table.set.
    pub sets : (index : ℕ) → RestsBefore bound r (Table (table.Set index)) u
        → ReadyOnTable index (λ (t : TableInstance). entry_of t ∷ I32 ∷ [])
        (λ (a : ℕ) (t : TableInstance). written_table its_store 1 a t (write_entry t.entries (second_of r) (value_of (entry_of t) (topmost_of r))))
    sets index b =
        let (a, t, there, (cells, leads)) = sets-entry u.ghost frame_cells machine.place height index (before bound r (Table (table.Set index)) u b) in
        let o = operands bound r (Table (table.Set index)) u b (I32 ∷ entry_of t ∷ []) cells in
        ready bound r (Table (table.Set index)) u b its_store.tables no_table (slice_get its.tables index) _ _ a t
        (found bound r (Table (table.Set index)) u b no_table (λ (s : Store). s.tables) (λ (i : ModuleInstance). i.tables) index a t there) o
        (over-two bound r (Table (table.Set index)) u b 2 o.low _ (omega arith) (λ (s : Store) (x y : ℕ). written_table s 1 a t (write_entry t.entries y (value_of (entry_of t) x))) (leads _ refl))

    -- table.grow.
    pub grows : (index : ℕ) → RestsBefore bound r (Table (table.Grow index)) u
        → ReadyOnTable index (λ (t : TableInstance). I32 ∷ entry_of t ∷ [])
        (λ (a : ℕ) (t : TableInstance).
        grown_table its_store a t (value_of (entry_of t) (second_of r)) (topmost_of r) (can_grow its_store.entries most_entries t.ty.limits (topmost_of r)))
    grows index b =
        let (a, t, there, (cells, leads)) = grows-table u.ghost frame_cells machine.place height index (before bound r (Table (table.Grow index)) u b) in
        let o = operands bound r (Table (table.Grow index)) u b (entry_of t ∷ I32 ∷ []) cells in
        ready bound r (Table (table.Grow index)) u b its_store.tables no_table (slice_get its.tables index) _ _ a t
        (found bound r (Table (table.Grow index)) u b no_table (λ (s : Store). s.tables) (λ (i : ModuleInstance). i.tables) index a t there) o
        (over-two bound r (Table (table.Grow index)) u b 2 o.low _ (omega arith)
        (λ (s : Store) (x y : ℕ). grown_table s a t (value_of (entry_of t) y) x (can_grow s.entries most_entries t.ty.limits x)) (leads _ refl))

    -- table.fill.
    pub fills : (index : ℕ) → RestsBefore bound r (Table (table.Fill index)) u
        → ReadyOnTable index (λ (t : TableInstance). I32 ∷ entry_of t ∷ I32 ∷ [])
        (λ (a : ℕ) (t : TableInstance).
        written_table its_store (entries_cost (topmost_of r)) a t (fill_entries t.entries (third_of r) (value_of (entry_of t) (second_of r)) (topmost_of r)))
    fills index b =
        let (a, t, there, (cells, leads)) = fills-table u.ghost frame_cells machine.place height index (before bound r (Table (table.Fill index)) u b) in
        let o = operands bound r (Table (table.Fill index)) u b (I32 ∷ entry_of t ∷ I32 ∷ []) cells in
        ready bound r (Table (table.Fill index)) u b its_store.tables no_table (slice_get its.tables index) _ _ a t
        (found bound r (Table (table.Fill index)) u b no_table (λ (s : Store). s.tables) (λ (i : ModuleInstance). i.tables) index a t there) o
        (over-three bound r (Table (table.Fill index)) u b 3 o.low _ (omega arith)
        (λ (s : Store) (x y z : ℕ). written_table s (entries_cost x) a t (fill_entries t.entries z (value_of (entry_of t) y) x)) (leads _ refl))

    -- memory.grow.
    pub grows-bytes : RestsBefore bound r (Memory memory.Grow) u
        → ReadyOnMemory (I32 ∷ []) (λ (a : ℕ) (t : MemoryInstance).
        grown_memory its_store a t (topmost_of r) (can_grow its_store.pages most_pages t.limits (topmost_of r)))
    grows-bytes b =
        let (a, t, there, (cells, leads)) = grows-memory u.ghost frame_cells machine.place height (before bound r (Memory memory.Grow) u b) in
        let o = operands bound r (Memory memory.Grow) u b (I32 ∷ []) cells in
        ready bound r (Memory memory.Grow) u b its_store.memories no_memory (slice_get its.memories 0) _ _ a t
        (found bound r (Memory memory.Grow) u b no_memory (λ (s : Store). s.memories) (λ (i : ModuleInstance). i.memories) 0 a t there) o
        (over-one bound r (Memory memory.Grow) u b 1 o.low _ (omega arith) (λ (s : Store) (x : ℕ). grown_memory s a t x (can_grow s.pages most_pages t.limits x)) (leads _ refl))

    -- memory.fill.
    pub fills-bytes : RestsBefore bound r (Memory memory.Fill) u
        → ReadyOnMemory (I32 ∷ I32 ∷ I32 ∷ [])
        (λ (a : ℕ) (t : MemoryInstance). written_memory its_store (topmost_of r) a t (fill_bytes t.bytes (third_of r) (second_of r) (topmost_of r)))
    fills-bytes b =
        let (a, t, there, (cells, leads)) = fills-memory u.ghost frame_cells machine.place height (before bound r (Memory memory.Fill) u b) in
        let o = operands bound r (Memory memory.Fill) u b (I32 ∷ I32 ∷ I32 ∷ []) cells in
        ready bound r (Memory memory.Fill) u b its_store.memories no_memory (slice_get its.memories 0) _ _ a t
        (found bound r (Memory memory.Fill) u b no_memory (λ (s : Store). s.memories) (λ (i : ModuleInstance). i.memories) 0 a t there) o
        (over-three bound r (Memory memory.Fill) u b 3 o.low _ (omega arith) (λ (s : Store) (x y z : ℕ). written_memory s x a t (fill_bytes t.bytes z y x)) (leads _ refl))

    -- memory.copy.
    pub copies-bytes : RestsBefore bound r (Memory memory.Copy) u
        → ReadyOnMemory (I32 ∷ I32 ∷ I32 ∷ [])
        (λ (a : ℕ) (t : MemoryInstance). written_memory its_store (topmost_of r) a t (copy_bytes t.bytes t.bytes (third_of r) (second_of r) (topmost_of r)))
    copies-bytes b =
        let (a, t, there, (cells, leads)) = copies-memory u.ghost frame_cells machine.place height (before bound r (Memory memory.Copy) u b) in
        let o = operands bound r (Memory memory.Copy) u b (I32 ∷ I32 ∷ I32 ∷ []) cells in
        ready bound r (Memory memory.Copy) u b its_store.memories no_memory (slice_get its.memories 0) _ _ a t
        (found bound r (Memory memory.Copy) u b no_memory (λ (s : Store). s.memories) (λ (i : ModuleInstance). i.memories) 0 a t there) o
        (over-three bound r (Memory memory.Copy) u b 3 o.low _ (omega arith) (λ (s : Store) (x y z : ℕ). written_memory s x a t (copy_bytes t.bytes t.bytes z y x)) (leads _ refl))

    -- table.size. There is room for its result.
    pub measures : (index : ℕ) → RestsBefore bound r (Table (table.Size index)) u
        → ReadyOnTable index (λ (t : TableInstance). []) (λ (a : ℕ) (t : TableInstance). made 1 its_store (value.I32 t.ty.limits.min ∷ [])) × (machine.top + 1 < length machine.cells)
    measures index b =
        let (a, t, there, room, has) = measures-table u.ghost frame_cells machine.place height index (before bound r (Table (table.Size index)) u b) in (
          ready bound r (Table (table.Size index)) u b its_store.tables no_table (slice_get its.tables index) _ _ a t
              (found bound r (Table (table.Size index)) u b no_table (λ (s : Store). s.tables) (λ (i : ModuleInstance). i.tables) index a t there) (no-operands bound r (Table (table.Size index)) u b)
              (over-all bound r (Table (table.Size index)) u b (λ (s : Store). made 1 s (value.I32 t.ty.limits.min ∷ [])) has),
          room-above bound r (Table (table.Size index)) u b room,
        )

    -- elem.drop.
    pub drops : (index : ℕ) → RestsBefore bound r (Table (table.ElemDrop index)) u
        → Ready r u.ghost its_store.elements no_elements (slice_get its.elements index) (λ (e : ElementInstance). [])
        (λ (a : ℕ) (e : ElementInstance). made 1 (with_elements its_store a (record { ty = e.ty; references = [] })) [])
    drops index b =
        let (a, e, there, has) = drops-elements u.ghost frame_cells machine.place height index (before bound r (Table (table.ElemDrop index)) u b) in
        ready bound r (Table (table.ElemDrop index)) u b its_store.elements no_elements (slice_get its.elements index) _ _ a e
        (found bound r (Table (table.ElemDrop index)) u b no_elements (λ (s : Store). s.elements) (λ (i : ModuleInstance). i.elements) index a e
        there) (no-operands bound r (Table (table.ElemDrop index)) u b)
        (over-all bound r (Table (table.ElemDrop index)) u b (λ (s : Store). made 1 (with_elements s a (record { ty = e.ty; references = [] })) []) has)

    -- data.drop.
    pub drops-bytes : (index : ℕ) → RestsBefore bound r (Memory (memory.DataDrop index)) u
        → Ready r u.ghost its_store.datas no_data (slice_get its.datas index) (λ (d : DataInstance). []) (λ (a : ℕ) (d : DataInstance). made 1 (with_data its_store a (record { bytes = [] })) [])
    drops-bytes index b =
        let (a, d, there, has) = drops-data u.ghost frame_cells machine.place height index (before bound r (Memory (memory.DataDrop index)) u b) in
        ready bound r (Memory (memory.DataDrop index)) u b its_store.datas no_data (slice_get its.datas index) _ _ a d
        (found bound r (Memory (memory.DataDrop index)) u b no_data (λ (s : Store). s.datas) (λ (i : ModuleInstance). i.datas) index a d there)
        (no-operands bound r (Memory (memory.DataDrop index)) u b)
        (over-all bound r (Memory (memory.DataDrop index)) u b (λ (s : Store). made 1 (with_data s a (record { bytes = [] })) []) has)

    -- ---- from one object to another

    -- table.copy.
    pub copies : (x y : ℕ) → RestsBefore bound r (Table (table.Copy x y)) u
        → (other : ℕ) × (slice_get its.tables y ≡ Some other) × (other < length its_store.tables)
        × ReadyOnTable x (λ (t : TableInstance). I32 ∷ I32 ∷ I32 ∷ [])
        (λ (a : ℕ) (t : TableInstance).
        written_table its_store (entries_cost (topmost_of r)) a t
        (copy_entries t.entries (get_or its_store.tables other no_table).entries (third_of r) (second_of r) (topmost_of r)))
    copies x y b =
        let (a, t, there, other, source, there_too, (cells, leads)) = copies-table u.ghost frame_cells machine.place height x y (before bound r (Table (table.Copy x y)) u b) in
        let o = operands bound r (Table (table.Copy x y)) u b (I32 ∷ I32 ∷ I32 ∷ []) cells in
        let named = found bound r (Table (table.Copy x y)) u b no_table (λ (s : Store). s.tables) (λ (i : ModuleInstance). i.tables) y other source there_too in
        let has = over-three bound r (Table (table.Copy x y)) u b 3 o.low _ (omega arith)
        (λ (s : Store) (n from target : ℕ). written_table s (entries_cost n) a t (copy_entries t.entries source.entries target from n)) (leads _ refl) in (
          other,
          named.named,
          named.inside,
          ready bound r (Table (table.Copy x y)) u b its_store.tables no_table (slice_get its.tables x) _ _ a t
              (found bound r (Table (table.Copy x y)) u b no_table (λ (s : Store). s.tables) (λ (i : ModuleInstance). i.tables) x a t there) o
              (subst (λ (z : TableInstance). HasAt bound r (Table (table.Copy x y)) u b (height - 3)
              (written_table its_store (entries_cost (topmost_of r)) a t
              (copy_entries t.entries z.entries (third_of r) (second_of r) (topmost_of r)))) (sym named.is) has),
        )

    -- table.init.
    pub initializes : (segment x : ℕ) → RestsBefore bound r (Table (table.Init segment x)) u
        → (other : ℕ) × (slice_get its.elements segment ≡ Some other) × (other < length its_store.elements)
        × ReadyOnTable x (λ (t : TableInstance). I32 ∷ I32 ∷ I32 ∷ [])
        (λ (a : ℕ) (t : TableInstance).
        written_table its_store (entries_cost (topmost_of r)) a t
        (copy_entries t.entries (get_or its_store.elements other no_elements).references (third_of r) (second_of r) (topmost_of r)))
    initializes segment x b =
        let (a, t, there, other, source, there_too, (cells, leads)) = initializes-table u.ghost frame_cells machine.place height segment x (before bound r (Table (table.Init segment x)) u b) in
        let o = operands bound r (Table (table.Init segment x)) u b (I32 ∷ I32 ∷ I32 ∷ []) cells in
        let named = found bound r (Table (table.Init segment x)) u b no_elements (λ (s : Store). s.elements) (λ (i : ModuleInstance). i.elements) segment other source there_too in
        let has = over-three bound r (Table (table.Init segment x)) u b 3 o.low _ (omega arith)
        (λ (s : Store) (n from target : ℕ). written_table s (entries_cost n) a t (copy_entries t.entries source.references target from n))
        (leads _ refl) in (
          other,
          named.named,
          named.inside,
          ready bound r (Table (table.Init segment x)) u b its_store.tables no_table (slice_get its.tables x) _ _ a t
              (found bound r (Table (table.Init segment x)) u b no_table (λ (s : Store). s.tables) (λ (i : ModuleInstance). i.tables) x a t there) o
              (subst (λ (z : ElementInstance).
              HasAt bound r (Table (table.Init segment x)) u b (height - 3)
              (written_table its_store (entries_cost (topmost_of r)) a t
              (copy_entries t.entries z.references (third_of r) (second_of r) (topmost_of r)))) (sym named.is) has),
        )

    -- memory.init.
    pub initializes-bytes : (segment : ℕ) → RestsBefore bound r (Memory (memory.Init segment)) u
        → (other : ℕ) × (slice_get its.datas segment ≡ Some other) × (other < length its_store.datas)
        × ReadyOnMemory (I32 ∷ I32 ∷ I32 ∷ [])
        (λ (a : ℕ) (t : MemoryInstance).
        written_memory its_store (topmost_of r) a t
        (copy_bytes t.bytes (get_or its_store.datas other no_data).bytes (third_of r) (second_of r) (topmost_of r)))
    initializes-bytes segment b =
        let (a, t, there, other, source, there_too, (cells, leads)) = initializes-memory u.ghost frame_cells machine.place height segment (before bound r (Memory (memory.Init segment)) u b) in
        let o = operands bound r (Memory (memory.Init segment)) u b (I32 ∷ I32 ∷ I32 ∷ []) cells in
        let named = found bound r (Memory (memory.Init segment)) u b no_data (λ (s : Store). s.datas) (λ (i : ModuleInstance). i.datas) segment other source there_too in
        let has = over-three bound r (Memory (memory.Init segment)) u b 3 o.low _ (omega arith)
        (λ (s : Store) (n from target : ℕ). written_memory s n a t (copy_bytes t.bytes source.bytes target from n)) (leads _ refl) in (
          other,
          named.named,
          named.inside,
          ready bound r (Memory (memory.Init segment)) u b its_store.memories no_memory (slice_get its.memories 0) _ _ a t
              (found bound r (Memory (memory.Init segment)) u b no_memory (λ (s : Store). s.memories) (λ (i : ModuleInstance). i.memories) 0 a t there) o
              (subst (λ (z : DataInstance). HasAt bound r (Memory (memory.Init segment)) u b (height - 3)
              (written_memory its_store (topmost_of r) a t (copy_bytes t.bytes z.bytes (third_of r) (second_of r) (topmost_of r)))) (sym named.is) has),
        )
