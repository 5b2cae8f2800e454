-- What the store contains, in the terms of the definitions.
use Rattle.std.specs.List.{All}
use Rattle.std.specs.Prelude.{◌≡◌, ℕ, ◌+◌, ◌<◌, List, [], ◌∷◌, ◌++◌, length, map, Option, Some, None, IsSome, option_map, unwrap_or, slice_get}
use Rattle.core_types.specs.declared.types.FuncType.{FuncType}
use Rattle.core_types.specs.declared.module.Func.{Func}
use Rattle.core_types.specs.declared.module.Module.{Module}
use Rattle.meaning.specs.structure.Bodies.{Empty, writing}
use Rattle.meaning.specs.execution.Modules.{code_of, consecutive, new_function}
use Rattle.meaning.specs.execution.Store.{FunctionInstance as Function, InCode, InHost as InHostNumber, ModuleInstance, Store, instance_of}
use Rattle.meaning.specs.validation.Context.{Context}
use Rattle.meaning.specs.validation.Modules.{functions_of}
use Rattle.meaning.specs.validation.Types.{function_type}
use Rattle.soundness.specs.Places.{instance_context, types_at}
use Rattle.soundness.specs.Stores.{AreThere}
use Rattle.store.specs.declared.instances.Addresses.{Addresses}
use Rattle.store.specs.declared.instances.Callee.{Callee}
use Rattle.store.specs.declared.instances.Callee.TheVariants as callee
use Rattle.store.specs.declared.instances.FunctionInstance.{FunctionInstance}
use Rattle.store.specs.declared.instances.FunctionInstance.TheVariants.{InModule, InHost}
use Rattle.store.specs.declared.instances.Instance.{Instance}
use Rattle.sidetable.specs.Counts.{Signatures}
use Rattle.sidetable.specs.FlatModules.{IsFlat, IsFlatModule, module_signatures, operations_of}
use Rattle.store.specs.State.{StateContents}

-- The functions, the instances and the types of the host functions, as they are kept.
pub record Contents : Type 0 where
  pub functions : List FunctionInstance
  pub instances : List Instance
  pub hosts : List FuncType

abbrev pub contents_of : List FunctionInstance → List Instance → List FuncType → Contents
contents_of functions instances hosts =
    record { functions = functions; instances = instances; hosts = hosts }

-- The host function of a number, of this type.
abbrev pub host_function : (number : ℕ) → FuncType → Function
host_function number t = record { ty = t; implementation = InHostNumber number }

-- A function of a module, of this type, in this instance.
abbrev pub function_of : FuncType → ℕ → Func → Function
function_of t instance f = record { ty = t; implementation = InCode instance (code_of f) }

abbrev pub typed_function : ℕ → Option FuncType → Func → Option Function
typed_function instance None f = None
typed_function instance (Some t) f = Some (function_of t instance f)

abbrev pub module_function : ℕ → Module → Option Func → Option Function
module_function instance m None = None
module_function instance m (Some f) = typed_function instance (slice_get m.types f.ty) f

abbrev pub instance_function : (instance index : ℕ) → Option Instance → Option Function
instance_function instance index None = None
instance_function instance index (Some i) =
    module_function instance i.loaded.value.source (slice_get i.loaded.value.source.funcs index)

-- The function that an entry represents.
abbrev pub entry_function : List FuncType → List Instance → FunctionInstance → Option Function
entry_function hosts instances (InModule instance index) =
    instance_function instance index (slice_get instances instance)
entry_function hosts instances (InHost number) =
    option_map (host_function number) (slice_get hosts number)

-- An entry finds its function.
abbrev pub IsFound : List FuncType → List Instance → FunctionInstance → Type 0
IsFound hosts instances f = IsSome (entry_function hosts instances f)

-- Each of these entries finds its function.
abbrev pub AllFound : List FuncType → List Instance → List FunctionInstance → Type 0
AllFound hosts instances [] = Unit {0}
AllFound hosts instances (f ∷ fs) = IsFound hosts instances f × AllFound hosts instances fs

-- The function of an entry that finds none. A store has no such entry.
abbrev pub no_function : Function
no_function = record {
  ty = record { params = []; results = [] };
  implementation = InCode 0 (record { locals = []; body = Empty });
}

abbrev pub function_at : List FuncType → List Instance → FunctionInstance → Function
function_at hosts instances f = unwrap_or (entry_function hosts instances f) no_function

-- The function that is read.
abbrev pub callee_function : Callee → Function
callee_function (callee.InModule f) = function_of f.ty.now f.instance f.func.now
callee_function (callee.InHost f) = host_function f.number f.ty.now

-- The types that the code of an instance refers to: those of its module.
abbrev pub signatures_of_instance : Option Instance → Signatures
signatures_of_instance None = record { types = []; functions = [] }
signatures_of_instance (Some i) = module_signatures i.loaded.value.source

-- The addresses of what an instance has, one list for each kind.
pub record AddressLists : Type 0 where
  pub functions : List ℕ
  pub tables : List ℕ
  pub memories : List ℕ
  pub globals : List ℕ
  pub elements : List ℕ
  pub datas : List ℕ

abbrev pub lists_of : Addresses → AddressLists
lists_of addresses = record {
  functions = addresses.functions.items;
  tables = addresses.tables.items;
  memories = addresses.memories.items;
  globals = addresses.globals.items;
  elements = addresses.elements.items;
  datas = addresses.datas.items;
}

-- An instance of a module, with these addresses.
abbrev pub module_instance : AddressLists → Module → ModuleInstance
module_instance addresses m = record {
  types = m.types;
  functions = addresses.functions;
  tables = addresses.tables;
  memories = addresses.memories;
  globals = addresses.globals;
  elements = addresses.elements;
  datas = addresses.datas;
  exports = m.exports;
}

abbrev pub module_instance_of : Instance → ModuleInstance
module_instance_of i = module_instance (lists_of i.addresses) i.loaded.value.source

-- The functions and the instances that are kept.
abbrev pub functions_in : Contents → List Function
functions_in s = map (function_at s.hosts s.instances) s.functions

abbrev pub instances_in : Contents → List ModuleInstance
instances_in s = map module_instance_of s.instances

-- The functions that are kept, followed by those of the module of the next instance.
abbrev pub functions_with : Contents → Instance → List Function
functions_with s i =
    functions_in s ++ map (new_function (length (instances_in s)) i.loaded.value.source)
    i.loaded.value.source.funcs

-- The type of a function of a module is the one that the module gives it, and its code is the writing of its body.
abbrev pub HasDeclaredBody : List Instance → Callee → Type 0
HasDeclaredBody instances (callee.InModule f) =
    (slice_get (signatures_of_instance (slice_get instances f.instance)).types f.func.now.ty
    ≡ Some f.ty.now)
    × (f.func.now.body ≡ writing (code_of f.func.now).body)
HasDeclaredBody instances (callee.InHost f) = Unit {0}

-- The functions of an instance exist, and have the types that they have in its module.
pub record HasModuleTypes (functions : List Function) (i : Instance) : Type 0 where
  pub there : AreThere functions i.addresses.functions.items
  pub types : types_at (λ (f : Function). f.ty) (function_type [] []) functions
      i.addresses.functions.items
      ≡ functions_of i.loaded.value.source

-- An instance has the function of an index of its module at this address. The index in the instance is larger by the number of imported
-- functions.
pub record IsOwnFunction (functions : List FunctionInstance) (number : ℕ) (i : Instance)
    (index address : ℕ) : Type 0 where
  pub named : slice_get i.addresses.functions.items (i.imported + index) ≡ Some address
  pub there : slice_get functions address ≡ Some (InModule number index)

-- The functions of an instance of this number are those that it imports, followed by those of its module.
pub record HasOwnFunctions (functions : List FunctionInstance) (number : ℕ) (i : Instance)
    : Type 0 where
  pub count : length i.addresses.functions.items
      ≡ i.imported + length i.loaded.value.source.funcs
  pub own : (index : ℕ) → index < length i.loaded.value.source.funcs
      → (address : ℕ) × IsOwnFunction functions number i index address

-- An instance to be added has the functions that it imports, followed by those of its module, which are at addresses from this one on.
pub record AddsFunctions (first : ℕ) (i : Instance) : Type 0 where
  pub given : List ℕ
  pub imported : i.imported ≡ length given
  pub behind : i.addresses.functions.items
      ≡ given ++ consecutive first (length i.loaded.value.source.funcs)

-- There is an instance of this number, the flat code of its module is that of its functions, and its functions are at their addresses.
pub record IsLoaded (code : Contents) (number : ℕ) (i : Instance) : Type 0 where
  pub there : slice_get code.instances number ≡ Some i
  pub flat : IsFlatModule i.loaded.value.source i.loaded.value.flat
  pub types : HasModuleTypes (functions_in code) i
  pub own : HasOwnFunctions code.functions number i

-- The flat code of a function of a module is that of its body, among the operations of its instance's module.
abbrev pub HasFlatCode : Contents → Callee → Type 0
HasFlatCode code (callee.InModule f) =
    (i : Instance) × IsLoaded code f.instance i
    × IsFlat (signatures_of_instance (slice_get code.instances f.instance))
    (operations_of i.loaded.value.flat) f.func.now f.flat.now
HasFlatCode code (callee.InHost f) = Unit {0}

-- The invariant of a store's code.
pub record IsSound (c : Contents) : Type 0 where
  pub found : AllFound c.hosts c.instances c.functions
  pub types : All (HasModuleTypes (functions_in c)) c.instances
  pub own : (number : ℕ) (i : Instance) → slice_get c.instances number ≡ Some i
      → HasOwnFunctions c.functions number i

-- The store of this code, with these objects.
abbrev pub store_with : Contents → StateContents → Store
store_with code state = record {
  functions = functions_in code;
  instances = instances_in code;
  tables = state.contents.tables;
  memories = state.contents.memories;
  globals = state.contents.globals;
  elements = state.contents.elements;
  datas = state.contents.datas;
  pages = state.bounds.pages;
  entries = state.bounds.entries;
}

-- The store of this code alone.
abbrev pub code_store : Contents → Store
code_store code = record {
  functions = functions_in code;
  instances = instances_in code;
  tables = [];
  memories = [];
  globals = [];
  elements = [];
  datas = [];
  pages = 0;
  entries = 0;
}

-- The types that a module's code refers to are those of the context of its instance.
pub record AreOfContext (s : Signatures) (context : Context) : Type 0 where
  pub types : context.types ≡ s.types
  pub functions : context.functions ≡ s.functions

abbrev pub HasContextTypes : Contents → Callee → Type 0
HasContextTypes code (callee.InModule f) =
    AreOfContext (signatures_of_instance (slice_get code.instances f.instance))
    (instance_context (code_store code) (instance_of (code_store code) (Some f.instance)))
HasContextTypes code (callee.InHost f) = Unit {0}

-- The function at an address, with its flat code. Its body and the types that it refers to are those of its module.
pub record IsCalleeAt (code : Contents) (address : ℕ) (f : Callee) : Type 0 where
  pub there : slice_get (functions_in code) address ≡ Some (callee_function f)
  pub flat : HasFlatCode code f
  pub declared : HasDeclaredBody code.instances f
  pub types : HasContextTypes code f

-- The contents of both parts of the store.
pub record BothParts : Type 0 where
  pub code : Contents
  pub state : StateContents

-- The store that is kept.
abbrev pub store_of : BothParts → Store
store_of s = store_with s.code s.state

-- The entries of an instance's functions of these indices.
abbrev pub entries_of : (instance : ℕ) → (indices : List ℕ) → List FunctionInstance
entries_of instance indices = map (λ (k : ℕ). InModule instance k) indices

-- The store with one more function.
abbrev pub with_function : Store → Function → Store
with_function store f = record store { functions = store.functions ++ f ∷ [] }
