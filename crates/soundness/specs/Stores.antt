-- Valid stores, and the changes that steps can make to a store (Appendix, Soundness, Store Validity and Store Extension).
use Rattle.std.specs.Prelude.{◌≡◌, ℕ, ◌*◌, ◌^◌, ◌<◌, ◌≤◌, ◌⊎◌, List, [], ◌∷◌, ◌++◌, length, Some, slice_get}
use Rattle.std.specs.List.{All}
use Rattle.core_types.specs.declared.module.Export.{Export}
use Rattle.core_types.specs.declared.module.ExportDesc.{ExportDesc}
use Rattle.core_types.specs.declared.module.ExportDesc.TheVariants as export
use Rattle.core_types.specs.declared.outcome.Val.{Val}
use Rattle.core_types.specs.declared.types.FuncType.{FuncType}
use Rattle.core_types.specs.declared.types.Limits.{Limits}
use Rattle.core_types.specs.declared.types.Mutability.TheVariants.{Const}
use Rattle.meaning.specs.execution.Memories.{MemoryInstance, page_size}
use Rattle.meaning.specs.execution.Storage.{AreBytes}
use Rattle.meaning.specs.execution.Store.{Code, DataInstance, FunctionInstance, GlobalInstance, Implementation, InCode, InHost, ModuleInstance, Store}
use Rattle.meaning.specs.execution.Tables.{ElementInstance, TableInstance, most_entries}
use Rattle.meaning.specs.soundness.Values.{ValueHasType}
use Rattle.meaning.specs.validation.Types.{AreOrdered, reference_type, most_pages}
use Rattle.soundness.specs.Places.{Place, RunsOn}

-- ---- functions

-- The place where the body of a function runs: in a frame of the instance, within a label that carries the results.
abbrev pub body_place : FuncType → (instance : ℕ) → Code → Place
body_place t instance code = record {
  instance = Some instance;
  locals = t.params ++ code.locals;
  labels = t.results ∷ [];
  results = Some t.results;
}

-- The body leads to the results, in an instance that exists. The type of a host function is that of its object (Host Functions).
abbrev pub ImplementationIsValid : Store → FuncType → Implementation → Type 0
ImplementationIsValid store t (InCode instance code) =
    (instance < length store.instances)
    × RunsOn store (body_place t instance code) code.body [] t.results
ImplementationIsValid store t (InHost number) = Unit {0}

abbrev pub FunctionIsValid : Store → FunctionInstance → Type 0
FunctionIsValid store f = ImplementationIsValid store f.ty f.implementation

-- ---- objects

-- The present size is within the bound of the embedding, within what any may have, and within the maximum.
pub record SizeIsValid (limits : Limits) (bound most : ℕ) : Type 0 where
  pub bounded : limits.min ≤ bound
  pub few : limits.min ≤ most
  pub ordered : AreOrdered limits

pub record TableIsValid (store : Store) (table : TableInstance) : Type 0 where
  pub size : SizeIsValid table.ty.limits store.entries most_entries
  pub entries_are : length table.entries ≡ table.ty.limits.min
  pub entries : All (λ (v : Val). ValueHasType store v (reference_type table.ty.element))
      table.entries

pub record MemoryIsValid (pages : ℕ) (memory : MemoryInstance) : Type 0 where
  pub size : SizeIsValid memory.limits pages most_pages
  pub bytes_are : length memory.bytes ≡ page_size * memory.limits.min
  pub bytes : AreBytes memory.bytes

abbrev pub GlobalIsValid : Store → GlobalInstance → Type 0
GlobalIsValid store g = ValueHasType store g.value g.ty.value

abbrev pub ElementIsValid : Store → ElementInstance → Type 0
ElementIsValid store e = All (λ (v : Val). ValueHasType store v (reference_type e.ty)) e.references

abbrev pub DataIsValid : DataInstance → Type 0
DataIsValid d = AreBytes d.bytes

-- ---- instances and stores

-- The store has something at each of the addresses.
abbrev pub AreThere : {X : Type 0} → List X → List ℕ → Type 0
AreThere items addresses = All (λ (address : ℕ). address < length items) addresses

-- An export names something that the instance has.
abbrev pub ExportIsThere : ModuleInstance → ExportDesc → Type 0
ExportIsThere i (export.Func x) = x < length i.functions
ExportIsThere i (export.Table x) = x < length i.tables
ExportIsThere i (export.Memory x) = x < length i.memories
ExportIsThere i (export.Global x) = x < length i.globals

pub record InstanceIsValid (store : Store) (i : ModuleInstance) : Type 0 where
  pub functions : AreThere store.functions i.functions
  pub tables : AreThere store.tables i.tables
  pub memories : AreThere store.memories i.memories
  pub globals : AreThere store.globals i.globals
  pub elements : AreThere store.elements i.elements
  pub datas : AreThere store.datas i.datas
  pub exports : All (λ (e : Export). ExportIsThere i e.desc) i.exports

-- Each list has so few items that their addresses have 32 bits.
pub record HasFewObjects (store : Store) : Type 0 where
  pub functions : length store.functions < 2 ^ 32
  pub instances : length store.instances < 2 ^ 32
  pub tables : length store.tables < 2 ^ 32
  pub memories : length store.memories < 2 ^ 32
  pub globals : length store.globals < 2 ^ 32
  pub elements : length store.elements < 2 ^ 32
  pub datas : length store.datas < 2 ^ 32

pub record StoreIsValid (store : Store) : Type 0 where
  pub functions : All (FunctionIsValid store) store.functions
  pub instances : All (InstanceIsValid store) store.instances
  pub tables : All (TableIsValid store) store.tables
  pub memories : All (MemoryIsValid store.pages) store.memories
  pub globals : All (GlobalIsValid store) store.globals
  pub elements : All (ElementIsValid store) store.elements
  pub datas : All DataIsValid store.datas
  pub few : HasFewObjects store

-- ---- extension

-- What is at an address is still there, in this relation to what it was.
abbrev pub Keeps : {X : Type 0} → (X → X → Type 0) → (old new : List X) → Type 0
Keeps {X} Stays old new =
    (address : ℕ) (x : X) → slice_get old address ≡ Some x
    → (y : X) × (slice_get new address ≡ Some y) × Stays x y

-- The minimum may rise, and the maximum stays.
abbrev pub LimitsStay : Limits → Limits → Type 0
LimitsStay old new = (old.min ≤ new.min) × (old.max ≡ new.max)

abbrev pub TableStays : TableInstance → TableInstance → Type 0
TableStays old new = (old.ty.element ≡ new.ty.element) × LimitsStay old.ty.limits new.ty.limits

abbrev pub MemoryStays : MemoryInstance → MemoryInstance → Type 0
MemoryStays old new = LimitsStay old.limits new.limits

-- A constant global keeps its value.
abbrev pub GlobalStays : GlobalInstance → GlobalInstance → Type 0
GlobalStays old new = (old.ty ≡ new.ty) × (old.ty.mutability ≡ Const → old.value ≡ new.value)

-- A segment keeps its contents, or was dropped.
abbrev pub ElementStays : ElementInstance → ElementInstance → Type 0
ElementStays old new =
    (old.ty ≡ new.ty) × ((old.references ≡ new.references) ⊎ (new.references ≡ []))

abbrev pub DataStays : DataInstance → DataInstance → Type 0
DataStays old new = (old.bytes ≡ new.bytes) ⊎ (new.bytes ≡ [])

-- Addresses stay, and so do functions, instances, types and the bounds of the embedding. Tables and memories may grow.
pub record Extends (old new : Store) : Type 0 where
  pub functions : Keeps (λ (f g : FunctionInstance). f ≡ g) old.functions new.functions
  pub instances : Keeps (λ (i j : ModuleInstance). i ≡ j) old.instances new.instances
  pub tables : Keeps TableStays old.tables new.tables
  pub memories : Keeps MemoryStays old.memories new.memories
  pub globals : Keeps GlobalStays old.globals new.globals
  pub elements : Keeps ElementStays old.elements new.elements
  pub datas : Keeps DataStays old.datas new.datas
  pub pages : new.pages ≡ old.pages
  pub entries : new.entries ≡ old.entries

-- The changes of a store by a step of code: the new store extends the old one, and has no new function.
pub record Follows (old new : Store) : Type 0 where
  pub extends : Extends old new
  pub functions : new.functions ≡ old.functions
