-- Writes to a valid store: what stays valid, and what the write must show.
use Rattle.std.proofs.Common.{◌≡◌, ℕ, zero, suc, ◌≤◌, ◌⊎◌, List, [], ◌∷◌, length, Some, refl, arith, slice_get, slice_set, inl, inr}
use Rattle.std.proofs.lemmas.List.{length-set}
use Rattle.std.specs.List.{All}
use Rattle.core_types.specs.declared.outcome.Val.{Val}
use Rattle.core_types.specs.declared.types.FuncType.{FuncType}
use Rattle.core_types.specs.declared.types.ValType.{ValType}
use Rattle.meaning.specs.execution.Configurations.{Frame}
use Rattle.meaning.specs.execution.Effects.{Done, Grown}
use Rattle.meaning.specs.execution.Memories.{MemoryInstance}
use Rattle.meaning.specs.execution.Store.{DataInstance, FunctionInstance, GlobalInstance, Implementation, InCode, InHost, ModuleInstance, Store, with_data}
use Rattle.meaning.specs.execution.Store.{with_elements, with_global, with_memory, with_table}
use Rattle.meaning.specs.execution.Tables.{ElementInstance, TableInstance}
use Rattle.meaning.specs.soundness.Values.{ValueHasType, ValuesHaveTypes}
use Rattle.meaning.specs.validation.Types.{reference_type}
use Rattle.soundness.specs.Stores.{AreThere, DataIsValid, DataStays, ElementIsValid, ElementStays, Extends, FunctionIsValid, GlobalIsValid, GlobalStays}
use Rattle.soundness.specs.Stores.{HasFewObjects, ImplementationIsValid, InstanceIsValid, Keeps, MemoryIsValid, MemoryStays, StoreIsValid, TableIsValid}
use Rattle.soundness.specs.Stores.{TableStays, body_place}
use Rattle.soundness.proofs.Extension.{Keeps-length, RunsOn-extended, functions-more}
use Rattle.soundness.specs.Configurations.{FrameHasPlace}
use Rattle.soundness.specs.Places.{Place}
use Rattle.soundness.proofs.Effects.{EffectIsGood, Extends-same}
use Rattle.soundness.proofs.Values.{All-from, All-at, value-extended, values-extended}

-- ---- one item of a list

module _ {X : Type 0} where
  pub set-at : (items : List X) (address : ℕ) (new : X) (k : ℕ) (x : X) → slice_get (slice_set items address new) k ≡ Some x → (x ≡ new) ⊎ (slice_get items k ≡ Some x)
  set-at [] address new k x is = inr is
  set-at (y ∷ ys) zero new zero x is = inl cc
  set-at (y ∷ ys) zero new (suc k) x is = inr is
  set-at (y ∷ ys) (suc address) new zero x is = inr is
  set-at (y ∷ ys) (suc address) new (suc k) x is = set-at ys address new k x is

  pub All-set : (P : X → Type 0) (items : List X) (address : ℕ) (new : X) → All P items → P new → All P (slice_set items address new)
  All-set P items address new all holds = All-from P (slice_set items address new) (λ k x is. elim (set-at items address new k x is) [
    | inl same ↦ rw same holds
    | inr there ↦ All-at P items k x there all
  ])

  pub Keeps-set : (Stays : X → X → Type 0) → ((x : X) → Stays x x) → (items : List X) (address : ℕ) (old new : X) → slice_get items address ≡ Some old
      → Stays old new → Keeps Stays items (slice_set items address new)
  Keeps-set Stays same [] address old new at stays k x is = absurd cc
  Keeps-set Stays same (y ∷ ys) zero old new at stays zero x is = let first : x ≡ old = cc in (new, refl, rw first stays)
  Keeps-set Stays same (y ∷ ys) zero old new at stays (suc k) x is = (x, is, same x)
  Keeps-set Stays same (y ∷ ys) (suc address) old new at stays zero x is = (x, is, same x)
  Keeps-set Stays same (y ∷ ys) (suc address) old new at stays (suc k) x is = Keeps-set Stays same ys address old new at stays k x is

-- ---- what stays valid

module _ (old new : Store) (valid : StoreIsValid old) (more : Extends old new) where
  value-still : (v : Val) (t : ValType) → ValueHasType old v t → ValueHasType new v t
  value-still = value-extended old new (functions-more old new valid more)

  implementation-still : (t : FuncType) (i : Implementation) → ImplementationIsValid old t i → ImplementationIsValid new t i
  implementation-still t (InCode instance code) (there, runs) =
      let longer = Keeps-length (λ (i j : ModuleInstance). i ≡ j) old.instances new.instances more.instances in
      (omega (arith, there, longer), RunsOn-extended old new valid more (body_place t instance code) code.body [] t.results runs)
  implementation-still t (InHost number) valid = tt

  pub functions-still : (fs : List FunctionInstance) → All (FunctionIsValid old) fs → All (FunctionIsValid new) fs
  functions-still fs all = λ k f inside. implementation-still _ _ (all k f inside)

  there-still : {X : Type 0} (before now : List X) → length before ≤ length now → (addresses : List ℕ) → AreThere before addresses → AreThere now addresses
  there-still before now longer addresses there = λ k d inside. let below = there k d inside in omega (arith, below, longer)

  pub instances-still : (is : List ModuleInstance) → All (InstanceIsValid old) is → All (InstanceIsValid new) is
  instances-still is all = λ k i inside. let valid_there = all k i inside in record {
    functions = there-still _ _ (functions-more old new valid more) _ valid_there.functions;
    tables = there-still _ _ (Keeps-length TableStays old.tables new.tables more.tables) _ valid_there.tables;
    memories = there-still _ _ (Keeps-length MemoryStays old.memories new.memories more.memories) _ valid_there.memories;
    globals = there-still _ _ (Keeps-length GlobalStays old.globals new.globals more.globals) _ valid_there.globals;
    elements = there-still _ _ (Keeps-length ElementStays old.elements new.elements more.elements) _ valid_there.elements;
    datas = there-still _ _ (Keeps-length DataStays old.datas new.datas more.datas) _ valid_there.datas;
    exports = valid_there.exports;
  }

  pub table-still : (t : TableInstance) → TableIsValid old t → TableIsValid new t
  table-still t is = record {
    size = record { bounded = rw more.entries is.size.bounded; few = is.size.few; ordered = is.size.ordered };
    entries_are = is.entries_are;
    entries = λ k d inside. value-still _ (reference_type t.ty.element) (is.entries k d inside);
  }

  pub tables-still : (ts : List TableInstance) → All (TableIsValid old) ts → All (TableIsValid new) ts
  tables-still ts all = λ k t inside. table-still _ (all k t inside)

  pub globals-still : (gs : List GlobalInstance) → All (GlobalIsValid old) gs → All (GlobalIsValid new) gs
  globals-still gs all = λ k g inside. value-still _ _ (all k g inside)

  pub elements-still : (es : List ElementInstance) → All (ElementIsValid old) es → All (ElementIsValid new) es
  elements-still es all = λ k e inside. λ j d there. value-still _ _ (all k e inside j d there)

-- A store whose lists are as long also has few objects.
few-still : (old new : Store) → HasFewObjects old → length new.functions ≡ length old.functions → length new.instances ≡ length old.instances
    → length new.tables ≡ length old.tables → length new.memories ≡ length old.memories
    → length new.globals ≡ length old.globals → length new.elements ≡ length old.elements → length new.datas ≡ length old.datas → HasFewObjects new
few-still old new few functions instances tables memories globals elements datas = record {
  functions = omega (arith, few.functions, functions);
  instances = omega (arith, few.instances, instances);
  tables = omega (arith, few.tables, tables);
  memories = omega (arith, few.memories, memories);
  globals = omega (arith, few.globals, globals);
  elements = omega (arith, few.elements, elements);
  datas = omega (arith, few.datas, datas);
}

-- ---- writes

module _ (store : Store) (valid : StoreIsValid store) (address : ℕ) where
  -- A mutable global gets another value of its type.
  module _ (g : GlobalInstance) (value : Val) (at : slice_get store.globals address ≡ Some g)
      (stays : GlobalStays g (record { ty = g.ty; value = value })) (typed : ValueHasType store value g.ty.value) where
    abbrev pub with_value : Store
    with_value = with_global store address (record { ty = g.ty; value = value })

    pub global-extends : Extends store with_value
    global-extends = record {
      functions = (Extends-same store).functions;
      instances = (Extends-same store).instances;
      tables = (Extends-same store).tables;
      memories = (Extends-same store).memories;
      globals = Keeps-set GlobalStays (λ h. (refl, λ constant. refl)) store.globals address g _ at stays;
      elements = (Extends-same store).elements;
      datas = (Extends-same store).datas;
      pages = refl;
      entries = refl;
    }

    pub global-valid : StoreIsValid with_value
    global-valid = record {
      functions = functions-still store with_value valid global-extends store.functions valid.functions;
      instances = instances-still store with_value valid global-extends store.instances valid.instances;
      tables = tables-still store with_value valid global-extends store.tables valid.tables;
      memories = valid.memories;
      globals = All-set (GlobalIsValid with_value) store.globals address _ (globals-still store with_value valid global-extends store.globals valid.globals) typed;
      elements = elements-still store with_value valid global-extends store.elements valid.elements;
      datas = valid.datas;
      few = few-still store with_value valid.few refl refl refl refl (length-set store.globals address _) refl refl;
    }

  -- A table has other entries, or more entries.
  module _ (table new : TableInstance) (at : slice_get store.tables address ≡ Some table) (stays : TableStays table new) (new_valid : TableIsValid store new) where
    pub table-extends : Extends store (with_table store address new)
    table-extends = record {
      functions = (Extends-same store).functions;
      instances = (Extends-same store).instances;
      tables = Keeps-set TableStays (λ t. (refl, (omega (arith), refl))) store.tables address table new at stays;
      memories = (Extends-same store).memories;
      globals = (Extends-same store).globals;
      elements = (Extends-same store).elements;
      datas = (Extends-same store).datas;
      pages = refl;
      entries = refl;
    }

    pub table-valid : StoreIsValid (with_table store address new)
    table-valid = record {
      functions = functions-still store (with_table store address new) valid table-extends store.functions valid.functions;
      instances = instances-still store (with_table store address new) valid table-extends store.instances valid.instances;
      tables = All-set (TableIsValid (with_table store address new)) store.tables address new (tables-still store (with_table store address new) valid table-extends store.tables valid.tables)
          (table-still store (with_table store address new) valid table-extends new new_valid);
      memories = valid.memories;
      globals = globals-still store (with_table store address new) valid table-extends store.globals valid.globals;
      elements = elements-still store (with_table store address new) valid table-extends store.elements valid.elements;
      datas = valid.datas;
      few = few-still store (with_table store address new) valid.few refl refl (length-set store.tables address new) refl refl refl refl;
    }

  -- A memory has other bytes, or more bytes.
  module _ (memory new : MemoryInstance) (at : slice_get store.memories address ≡ Some memory) (stays : MemoryStays memory new) (new_valid : MemoryIsValid store.pages new) where
    pub memory-extends : Extends store (with_memory store address new)
    memory-extends = record {
      functions = (Extends-same store).functions;
      instances = (Extends-same store).instances;
      tables = (Extends-same store).tables;
      memories = Keeps-set MemoryStays (λ m. (omega (arith), refl)) store.memories address memory new at stays;
      globals = (Extends-same store).globals;
      elements = (Extends-same store).elements;
      datas = (Extends-same store).datas;
      pages = refl;
      entries = refl;
    }

    pub memory-valid : StoreIsValid (with_memory store address new)
    memory-valid = record {
      functions = functions-still store (with_memory store address new) valid memory-extends store.functions valid.functions;
      instances = instances-still store (with_memory store address new) valid memory-extends store.instances valid.instances;
      tables = tables-still store (with_memory store address new) valid memory-extends store.tables valid.tables;
      memories = All-set (MemoryIsValid store.pages) store.memories address new valid.memories new_valid;
      globals = globals-still store (with_memory store address new) valid memory-extends store.globals valid.globals;
      elements = elements-still store (with_memory store address new) valid memory-extends store.elements valid.elements;
      datas = valid.datas;
      few = few-still store (with_memory store address new) valid.few refl refl refl (length-set store.memories address new) refl refl refl;
    }

  -- An element segment was dropped.
  module _ (segment : ElementInstance) (at : slice_get store.elements address ≡ Some segment) where
    abbrev pub without_references : Store
    without_references = with_elements store address (record { ty = segment.ty; references = [] })

    pub elements-dropped-extends : Extends store without_references
    elements-dropped-extends = record {
      functions = (Extends-same store).functions;
      instances = (Extends-same store).instances;
      tables = (Extends-same store).tables;
      memories = (Extends-same store).memories;
      globals = (Extends-same store).globals;
      elements = Keeps-set ElementStays (λ e. (refl, inl refl)) store.elements address segment _ at (refl, inr refl);
      datas = (Extends-same store).datas;
      pages = refl;
      entries = refl;
    }

    pub elements-dropped-valid : StoreIsValid without_references
    elements-dropped-valid = record {
      functions = functions-still store without_references valid elements-dropped-extends store.functions valid.functions;
      instances = instances-still store without_references valid elements-dropped-extends store.instances valid.instances;
      tables = tables-still store without_references valid elements-dropped-extends store.tables valid.tables;
      memories = valid.memories;
      globals = globals-still store without_references valid elements-dropped-extends store.globals valid.globals;
      elements = All-set (ElementIsValid without_references) store.elements address _ (elements-still store without_references valid elements-dropped-extends store.elements valid.elements)
          (λ k d inside. let wrong : ⊥ = omega (arith, inside) in absurd wrong);
      datas = valid.datas;
      few = few-still store without_references valid.few refl refl refl refl refl (length-set store.elements address _) refl;
    }

  -- A data segment was dropped.
  module _ (segment : DataInstance) (at : slice_get store.datas address ≡ Some segment) where
    abbrev pub without_bytes : Store
    without_bytes = with_data store address (record { bytes = [] })

    pub data-dropped-extends : Extends store without_bytes
    data-dropped-extends = record {
      functions = (Extends-same store).functions;
      instances = (Extends-same store).instances;
      tables = (Extends-same store).tables;
      memories = (Extends-same store).memories;
      globals = (Extends-same store).globals;
      elements = (Extends-same store).elements;
      datas = Keeps-set DataStays (λ d. inl refl) store.datas address segment _ at (inr refl);
      pages = refl;
      entries = refl;
    }

    pub data-dropped-valid : StoreIsValid without_bytes
    data-dropped-valid = record {
      functions = functions-still store without_bytes valid data-dropped-extends store.functions valid.functions;
      instances = instances-still store without_bytes valid data-dropped-extends store.instances valid.instances;
      tables = tables-still store without_bytes valid data-dropped-extends store.tables valid.tables;
      memories = valid.memories;
      globals = globals-still store without_bytes valid data-dropped-extends store.globals valid.globals;
      elements = elements-still store without_bytes valid data-dropped-extends store.elements valid.elements;
      datas = All-set DataIsValid store.datas address _ valid.datas (λ k d inside. let wrong : ⊥ = omega (arith, inside) in absurd wrong);
      few = few-still store without_bytes valid.few refl refl refl refl refl refl (length-set store.datas address _);
    }

-- ---- effects

-- After a step to another store, which is valid and extends the one before, typed values and locals are still typed.
module _ (store : Store) (valid : StoreIsValid store) (place : Place) (frame : Frame) (own : FrameHasPlace store frame place) (new : Store)
    (more : Extends store new) (new_valid : StoreIsValid new) (same : new.functions ≡ store.functions) where
  pub leaves : (cost : ℕ) (values : List Val) (stack : List ValType) → ValuesHaveTypes store values stack → EffectIsGood store place stack (Done cost new frame.locals values)
  leaves cost values stack typed =
      let longer = functions-more store new valid more in
      (record { extends = more; functions = same }, new_valid, values-extended store new longer frame.locals place.locals own.1, values-extended store new longer values stack typed)

  pub grows : (cost : ℕ) (values : List Val) (stack : List ValType) → ValuesHaveTypes store values stack → EffectIsGood store place stack (Grown cost new frame.locals values)
  grows cost values stack typed = leaves cost values stack typed
