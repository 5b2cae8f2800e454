-- Regions of a store, specific to this project.
use Rattle.std.specs.Prelude.{◌≡◌, ℕ, ◌<◌, ◌≤◌, ◌⊎◌, List, [], ◌∷◌, Option, Some, None, Bool, true, length, slice_get}
use Rattle.std.specs.List.{All}
use Rattle.core_types.specs.declared.outcome.Extern.{Extern}
use Rattle.core_types.specs.declared.outcome.Extern.TheVariants as value
use Rattle.core_types.specs.declared.outcome.Val.{Val}
use Rattle.core_types.specs.declared.outcome.Val.TheVariants.{I32, I64, FuncRef, ExternRef}
use Rattle.meaning.specs.execution.Configurations.{Configuration, Frame, InFrame, InLabel, Invoking, Running}
use Rattle.meaning.specs.execution.Store.{FunctionInstance, GlobalInstance, Implementation, InCode, InHost, ModuleInstance, Store}
use Rattle.meaning.specs.execution.Tables.{ElementInstance, TableInstance}

-- The addresses of each kind that are in a region, and the numbers of its host functions.
pub record Region : Type 1 where
  pub functions : ℕ → Type 0
  pub instances : ℕ → Type 0
  pub tables : ℕ → Type 0
  pub memories : ℕ → Type 0
  pub globals : ℕ → Type 0
  pub elements : ℕ → Type 0
  pub datas : ℕ → Type 0
  pub hosts : ℕ → Type 0

abbrev pub Has : (ℕ → Type 0) → (address : ℕ) → Type 0
Has Addresses address = Addresses address

abbrev pub HasNot : (ℕ → Type 0) → (address : ℕ) → Type 0
HasNot Addresses address = Addresses address → ⊥

abbrev pub HasAll : (ℕ → Type 0) → List ℕ → Type 0
HasAll Addresses list = All (Has Addresses) list

module _ (region : Region) where
  -- ---- what is within

  -- A reference to a function refers to one in the region. Other values refer to nothing in a store.
  abbrev pub ValueIsWithin : Val → Type 0
  ValueIsWithin (I32 n) = Unit {0}
  ValueIsWithin (I64 n) = Unit {0}
  ValueIsWithin (FuncRef None) = Unit {0}
  ValueIsWithin (FuncRef (Some address)) = Has region.functions address
  ValueIsWithin (ExternRef x) = Unit {0}

  abbrev pub ValuesAreWithin : List Val → Type 0
  ValuesAreWithin [] = Unit {0}
  ValuesAreWithin (v ∷ values) = ValueIsWithin v × ValuesAreWithin values

  -- Code runs in an instance of the region. The object of a host function is in the region.
  abbrev pub ImplementationIsWithin : Implementation → Type 0
  ImplementationIsWithin (InCode instance code) = Has region.instances instance
  ImplementationIsWithin (InHost number) = Has region.hosts number

  abbrev pub FunctionIsWithin : FunctionInstance → Type 0
  FunctionIsWithin f = ImplementationIsWithin f.implementation

  -- Everything that an instance has is in the region.
  pub record InstanceIsWithin (i : ModuleInstance) : Type 0 where
    pub functions : HasAll region.functions i.functions
    pub tables : HasAll region.tables i.tables
    pub memories : HasAll region.memories i.memories
    pub globals : HasAll region.globals i.globals
    pub elements : HasAll region.elements i.elements
    pub datas : HasAll region.datas i.datas

  abbrev pub TableIsWithin : TableInstance → Type 0
  TableIsWithin table = ValuesAreWithin table.entries

  abbrev pub GlobalIsWithin : GlobalInstance → Type 0
  GlobalIsWithin g = ValueIsWithin g.value

  abbrev pub ElementIsWithin : ElementInstance → Type 0
  ElementIsWithin e = ValuesAreWithin e.references

  -- ---- closed regions

  -- Each item at an address of the region is within the region.
  abbrev pub EachLeads : {X : Type 0} → (ℕ → Type 0) → List X → (X → Type 0) → Type 0
  EachLeads {X} addresses items IsWithin =
      (address : ℕ) (x : X) → Has addresses address → slice_get items address ≡ Some x → IsWithin x

  -- Nothing in the region leads out of it. Memories and data segments lead nowhere.
  pub record IsClosed (store : Store) : Type 0 where
    pub functions : EachLeads region.functions store.functions FunctionIsWithin
    pub instances : EachLeads region.instances store.instances InstanceIsWithin
    pub tables : EachLeads region.tables store.tables TableIsWithin
    pub globals : EachLeads region.globals store.globals GlobalIsWithin
    pub elements : EachLeads region.elements store.elements ElementIsWithin

  -- ---- configurations

  abbrev pub IsInstanceWithin : Option ℕ → Type 0
  IsInstanceWithin None = Unit {0}
  IsInstanceWithin (Some instance) = Has region.instances instance

  pub record FrameIsWithin (frame : Frame) : Type 0 where
    pub instance : IsInstanceWithin frame.instance
    pub locals : ValuesAreWithin frame.locals

  -- The values and frames of a configuration, and the function that is called, are within the region.
  abbrev pub ConfigurationIsWithin : Configuration → Type 0
  ConfigurationIsWithin (Running values rest) = ValuesAreWithin values
  ConfigurationIsWithin (InLabel label inside) =
      ValuesAreWithin label.values × ConfigurationIsWithin inside
  ConfigurationIsWithin (InFrame activation frame inside) =
      ValuesAreWithin activation.values × FrameIsWithin frame × ConfigurationIsWithin inside
  ConfigurationIsWithin (Invoking arguments address) =
      ValuesAreWithin arguments × Has region.functions address

  -- ---- inside and outside

  abbrev pub StaysOutside : {X : Type 0} → (ℕ → Type 0) → (old new : List X) → Type 0
  StaysOutside addresses old new =
      (address : ℕ) → HasNot addresses address → slice_get new address ≡ slice_get old address

  -- What is outside of the region is as it was, and so are the bounds on memories and tables.
  pub record LeavesOutside (old new : Store) : Type 0 where
    pub functions : StaysOutside region.functions old.functions new.functions
    pub instances : StaysOutside region.instances old.instances new.instances
    pub tables : StaysOutside region.tables old.tables new.tables
    pub memories : StaysOutside region.memories old.memories new.memories
    pub globals : StaysOutside region.globals old.globals new.globals
    pub elements : StaysOutside region.elements old.elements new.elements
    pub datas : StaysOutside region.datas old.datas new.datas
    pub pages : new.pages ≡ old.pages
    pub entries : new.entries ≡ old.entries

  abbrev pub IsSameWithin : {X : Type 0} → (ℕ → Type 0) → (a b : List X) → Type 0
  IsSameWithin addresses a b =
      (address : ℕ) → Has addresses address → slice_get b address ≡ slice_get a address

  -- What is in the region is the same in both stores, and so are the bounds on memories and tables.
  pub record AgreeWithin (a b : Store) : Type 0 where
    pub functions : IsSameWithin region.functions a.functions b.functions
    pub instances : IsSameWithin region.instances a.instances b.instances
    pub tables : IsSameWithin region.tables a.tables b.tables
    pub memories : IsSameWithin region.memories a.memories b.memories
    pub globals : IsSameWithin region.globals a.globals b.globals
    pub elements : IsSameWithin region.elements a.elements b.elements
    pub datas : IsSameWithin region.datas a.datas b.datas
    pub pages : b.pages ≡ a.pages
    pub entries : b.entries ≡ a.entries

-- Functions and instances stay as they are, and none is added.
pub record AllocatesNothing (old new : Store) : Type 0 where
  pub functions : new.functions ≡ old.functions
  pub instances : new.instances ≡ old.instances

-- Each function and each instance that was there is as it was.
pub record KeepsCode (old new : Store) : Type 0 where
  pub functions : (address : ℕ) → address < length old.functions
      → slice_get new.functions address ≡ slice_get old.functions address
  pub instances : (address : ℕ) → address < length old.instances
      → slice_get new.instances address ≡ slice_get old.instances address

-- What is given for an import is in the region.
abbrev pub ExternIsWithin : Region → Extern → Type 0
ExternIsWithin region (value.Func address) = Has region.functions address
ExternIsWithin region (value.Table address) = Has region.tables address
ExternIsWithin region (value.Memory address) = Has region.memories address
ExternIsWithin region (value.Global address) = Has region.globals address

abbrev pub ExternsAreWithin : Region → List Extern → Type 0
ExternsAreWithin region [] = Unit {0}
ExternsAreWithin region (e ∷ externs) = ExternIsWithin region e × ExternsAreWithin region externs

-- These addresses, and all from a first one on.
abbrev pub and_from : (ℕ → Type 0) → (first : ℕ) → ℕ → Type 0
and_from Addresses first address = Addresses address ⊎ (first ≤ address)

-- The region, and all addresses at which nothing is allocated yet.
abbrev pub with_new : Region → Store → Region
with_new region store = record {
  functions = and_from region.functions (length store.functions);
  instances = and_from region.instances (length store.instances);
  tables = and_from region.tables (length store.tables);
  memories = and_from region.memories (length store.memories);
  globals = and_from region.globals (length store.globals);
  elements = and_from region.elements (length store.elements);
  datas = and_from region.datas (length store.datas);
  hosts = region.hosts;
}

-- The stores have the same number of objects of each kind.
pub record HaveSameCounts (a b : Store) : Type 0 where
  pub functions : length b.functions ≡ length a.functions
  pub instances : length b.instances ≡ length a.instances
  pub tables : length b.tables ≡ length a.tables
  pub memories : length b.memories ≡ length a.memories
  pub globals : length b.globals ≡ length a.globals
  pub elements : length b.elements ≡ length a.elements
  pub datas : length b.datas ≡ length a.datas

-- At each address of the region something is allocated.
pub record IsThere (region : Region) (store : Store) : Type 0 where
  pub functions : (address : ℕ) → Has region.functions address → address < length store.functions
  pub instances : (address : ℕ) → Has region.instances address → address < length store.instances
  pub tables : (address : ℕ) → Has region.tables address → address < length store.tables
  pub memories : (address : ℕ) → Has region.memories address → address < length store.memories
  pub globals : (address : ℕ) → Has region.globals address → address < length store.globals
  pub elements : (address : ℕ) → Has region.elements address → address < length store.elements
  pub datas : (address : ℕ) → Has region.datas address → address < length store.datas

-- No table, memory, global or segment is in both regions. Functions and instances may be, since no run changes them.
pub record AreApart (region theirs : Region) : Type 0 where
  pub tables : (address : ℕ) → Has region.tables address → HasNot theirs.tables address
  pub memories : (address : ℕ) → Has region.memories address → HasNot theirs.memories address
  pub globals : (address : ℕ) → Has region.globals address → HasNot theirs.globals address
  pub elements : (address : ℕ) → Has region.elements address → HasNot theirs.elements address
  pub datas : (address : ℕ) → Has region.datas address → HasNot theirs.datas address

-- Marks on addresses of each kind. Statements quantify over marks, since a region is not of `Type 0`.
pub record Marks : Type 0 where
  pub functions : ℕ → Bool
  pub instances : ℕ → Bool
  pub tables : ℕ → Bool
  pub memories : ℕ → Bool
  pub globals : ℕ → Bool
  pub elements : ℕ → Bool
  pub datas : ℕ → Bool
  pub hosts : ℕ → Bool

-- The region of all addresses that are marked.
abbrev pub marked : Marks → Region
marked marks = record {
  functions = λ address. marks.functions address ≡ true;
  instances = λ address. marks.instances address ≡ true;
  tables = λ address. marks.tables address ≡ true;
  memories = λ address. marks.memories address ≡ true;
  globals = λ address. marks.globals address ≡ true;
  elements = λ address. marks.elements address ≡ true;
  datas = λ address. marks.datas address ≡ true;
  hosts = λ number. marks.hosts number ≡ true;
}
