-- What can be reached in a store, specific to this project.
use Rattle.std.specs.Prelude.{◌≡◌, ℕ, ◌⊎◌, List, Some, Bool, true, slice_get, ◌<◌, length}
use Rattle.core_types.specs.declared.module.Module.{Module}
use Rattle.core_types.specs.declared.outcome.Extern.{Extern}
use Rattle.core_types.specs.declared.outcome.Extern.TheVariants as value
use Rattle.core_types.specs.declared.outcome.Val.{Val}
use Rattle.core_types.specs.declared.outcome.Val.TheVariants.{FuncRef}
use Rattle.meaning.specs.embedding.Commands.{Command, Load, Link, Register, Call, GetGlobal, SetFuel}
use Rattle.meaning.specs.embedding.Machine.{Embedding, resolve_imports}
use Rattle.meaning.specs.execution.Store.{Code, FunctionInstance, GlobalInstance, InCode, InHost, ModuleInstance, Store}
use Rattle.meaning.specs.execution.Tables.{ElementInstance, TableInstance}
use Rattle.soundness.specs.Stores.{StoreIsValid}
use Rattle.isolation.specs.Regions.{Has, IsClosed, IsThere, Marks, Region, marked}

-- An address of a kind, or the number of a host function.
pub data Place : Type 0 where
  Function : (address : ℕ) → Place
  Instance : (address : ℕ) → Place
  Table : (address : ℕ) → Place
  Memory : (address : ℕ) → Place
  Global : (address : ℕ) → Place
  Element : (address : ℕ) → Place
  Data : (address : ℕ) → Place
  Host : (number : ℕ) → Place

-- The item is in the list.
abbrev pub IsAmong : {X : Type 0} → List X → X → Type 0
IsAmong items x = (k : ℕ) × (slice_get items k ≡ Some x)

abbrev pub IsInstanceAt : Store → (address : ℕ) → (ModuleInstance → Type 0) → Type 0
IsInstanceAt store address Is =
    (i : ModuleInstance) × (slice_get store.instances address ≡ Some i) × Is i

-- One place leads to another. A function with code leads to its instance, a host function to its object, and an instance to everything
-- that it has. A table, a global or an element segment leads to the functions that it refers to. Memories and data segments lead nowhere.
abbrev pub Leads : Store → Place → Place → Type 0
Leads store (Function a) (Instance b) = (f : FunctionInstance) × (code : Code)
    × (slice_get store.functions a ≡ Some f) × (f.implementation ≡ InCode b code)
Leads store (Function a) (Host b) = (f : FunctionInstance)
    × (slice_get store.functions a ≡ Some f) × (f.implementation ≡ InHost b)
Leads store (Instance a) (Function b) = IsInstanceAt store a (λ i. IsAmong i.functions b)
Leads store (Instance a) (Table b) = IsInstanceAt store a (λ i. IsAmong i.tables b)
Leads store (Instance a) (Memory b) = IsInstanceAt store a (λ i. IsAmong i.memories b)
Leads store (Instance a) (Global b) = IsInstanceAt store a (λ i. IsAmong i.globals b)
Leads store (Instance a) (Element b) = IsInstanceAt store a (λ i. IsAmong i.elements b)
Leads store (Instance a) (Data b) = IsInstanceAt store a (λ i. IsAmong i.datas b)
Leads store (Table a) (Function b) = (t : TableInstance)
    × (slice_get store.tables a ≡ Some t) × IsAmong t.entries (FuncRef (Some b))
Leads store (Global a) (Function b) = (g : GlobalInstance)
    × (slice_get store.globals a ≡ Some g) × (g.value ≡ FuncRef (Some b))
Leads store (Element a) (Function b) = (e : ElementInstance)
    × (slice_get store.elements a ≡ Some e) × IsAmong e.references (FuncRef (Some b))
Leads store a b = ⊥

-- A place is reached from those that are started from.
pub data IsReached (store : Store) (Starts : Place → Type 0) : Place → Type 0 where
  start : {place : Place} → Starts place → IsReached store Starts place
  onward : {from to : Place} → IsReached store Starts from → Leads store from to
      → IsReached store Starts to

-- The region of everything that is reached.
abbrev pub reach : Store → (Place → Type 0) → Region
reach store Starts = record {
  functions = λ address. IsReached store Starts (Function address);
  instances = λ address. IsReached store Starts (Instance address);
  tables = λ address. IsReached store Starts (Table address);
  memories = λ address. IsReached store Starts (Memory address);
  globals = λ address. IsReached store Starts (Global address);
  elements = λ address. IsReached store Starts (Element address);
  datas = λ address. IsReached store Starts (Data address);
  hosts = λ number. IsReached store Starts (Host number);
}

-- The place is in the region.
abbrev pub IsIn : Region → Place → Type 0
IsIn region (Function a) = Has region.functions a
IsIn region (Instance a) = Has region.instances a
IsIn region (Table a) = Has region.tables a
IsIn region (Memory a) = Has region.memories a
IsIn region (Global a) = Has region.globals a
IsIn region (Element a) = Has region.elements a
IsIn region (Data a) = Has region.datas a
IsIn region (Host n) = Has region.hosts n

-- The store has given the address. Host functions are not in the store.
abbrev pub IsPlaceIn : Store → Place → Type 0
IsPlaceIn store (Function a) = a < length store.functions
IsPlaceIn store (Instance a) = a < length store.instances
IsPlaceIn store (Table a) = a < length store.tables
IsPlaceIn store (Memory a) = a < length store.memories
IsPlaceIn store (Global a) = a < length store.globals
IsPlaceIn store (Element a) = a < length store.elements
IsPlaceIn store (Data a) = a < length store.datas
IsPlaceIn store (Host n) = Unit {0}

-- What is reached from marked places is the least closed region that has them.
pub record ReachIsLeast : Type 0 where
  pub closed : (store : Store) (starts : Place → Bool)
      → IsClosed (reach store (λ place. starts place ≡ true)) store
  pub has : (store : Store) (starts : Place → Bool) (place : Place) → starts place ≡ true
      → IsIn (reach store (λ at. starts at ≡ true)) place
  pub least : (store : Store) (starts : Place → Bool) (marks : Marks)
      → IsClosed (marked marks) store
      → ((place : Place) → starts place ≡ true → IsIn (marked marks) place)
      → (place : Place) → IsReached store (λ at. starts at ≡ true) place → IsIn (marked marks) place

-- In a valid store everything that is reached exists, if the starting points exist.
abbrev pub WhatIsReachedIsThere : Type 0
WhatIsReachedIsThere = (store : Store) (starts : Place → Bool) → StoreIsValid store
    → ((place : Place) → starts place ≡ true → IsPlaceIn store place)
    → IsThere (reach store (λ place. starts place ≡ true)) store

-- What is given for an import.
abbrev pub IsGivenAt : Extern → Place → Type 0
IsGivenAt (value.Func a) place = place ≡ Function a
IsGivenAt (value.Table a) place = place ≡ Table a
IsGivenAt (value.Memory a) place = place ≡ Memory a
IsGivenAt (value.Global a) place = place ≡ Global a

-- The arguments refer to a function.
abbrev pub ReferTo : List Val → Place → Type 0
ReferTo arguments place =
    (address : ℕ) × (place ≡ Function address) × IsAmong arguments (FuncRef (Some address))

-- The arguments of a call refer to a function.
abbrev pub Mentions : Command → Place → Type 0
Mentions (Load bytes) place = ⊥
Mentions (Link number) place = ⊥
Mentions (Register number name) place = ⊥
Mentions (Call number name arguments) place = ReferTo arguments place
Mentions (GetGlobal number name) place = ⊥
Mentions (SetFuel fuel) place = ⊥

abbrev pub AreMentioned : List Command → Place → Type 0
AreMentioned commands place =
    (command : Command) × IsAmong commands command × Mentions command place

module _ {H : Type 0} where
  -- The instance of a number.
  abbrev pub IsInstanceOf : Embedding H → (number : ℕ) → Place → Type 0
  IsInstanceOf at number place =
      (instance : ℕ) × (place ≡ Instance instance) × (slice_get at.instances number ≡ Some instance)

  -- What the instance of a number can reach.
  abbrev pub reach_from : Embedding H → (number : ℕ) → Region
  reach_from at number = reach at.state.store (IsInstanceOf at number)

  -- What the module of a number imports.
  abbrev pub IsImportOf : Embedding H → (number : ℕ) → Place → Type 0
  IsImportOf at number place = (m : Module) × (given : List Extern) × (e : Extern)
      × (slice_get at.modules number ≡ Some m)
      × (resolve_imports at.state.store at.names m.imports ≡ Some given)
      × IsAmong given e × IsGivenAt e place

  -- A call starts from its instance and the functions that its arguments refer to, a link from what its module imports. Other
  -- commands start from nowhere.
  abbrev pub StartsFrom : Embedding H → Command → Place → Type 0
  StartsFrom at (Load bytes) place = ⊥
  StartsFrom at (Link number) place = IsImportOf at number place
  StartsFrom at (Register number name) place = ⊥
  StartsFrom at (Call number name arguments) place =
      IsInstanceOf at number place ⊎ ReferTo arguments place
  StartsFrom at (GetGlobal number name) place = ⊥
  StartsFrom at (SetFuel fuel) place = ⊥

  -- What a command can reach.
  abbrev pub reach_of : Embedding H → Command → Region
  reach_of at command = reach at.state.store (StartsFrom at command)

  -- Commands that ask an instance start from it and from the functions that their arguments refer to.
  abbrev pub AsksFrom : Embedding H → (number : ℕ) → List Command → Place → Type 0
  AsksFrom at number commands place = IsInstanceOf at number place ⊎ AreMentioned commands place

  -- What the instance of a number can reach when it is asked by these commands.
  abbrev pub reach_when_asked : Embedding H → (number : ℕ) → List Command → Region
  reach_when_asked at number commands = reach at.state.store (AsksFrom at number commands)
