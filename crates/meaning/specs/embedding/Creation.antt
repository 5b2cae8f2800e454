-- New embeddings, which are this project's own: host functions are defined under names, in order.
use Rattle.std.specs.Prelude.{◌≡◌, ℕ, suc, List, [], ◌∷◌, map, Bool, true, false, Option, Some, None, Result, Ok, Err, is_some, if◌then◌else◌}
use Rattle.std.specs.Option.{option_or}
use Rattle.core_types.specs.declared.types.FuncType.{FuncType}
use Rattle.core_types.specs.declared.types.ValType.{ValType}
use Rattle.core_types.specs.declared.types.ValType.TheVariants as ty
use Rattle.meaning.specs.execution.Store.{FunctionInstance, InHost, Store}
use Rattle.meaning.specs.embedding.Machine.{Embedding, Setup}
use Rattle.meaning.specs.embedding.Names.{NamesContents, host_of, no_names, with_host}

-- A host function that is defined under the name of a module and a name in it.
pub record HostDefinition (H : Type 0) : Type 0 where
  pub module_name : List ℕ
  pub name : List ℕ
  pub host : H

-- Why a definition is refused.
pub data Fault : Type 0 where
  -- a result is a funcref
  HostFuncRef : Fault
  -- a host function is defined under both names
  NameTaken : Fault
  OutOfMemory : Fault

-- A funcref is among the types.
abbrev pub has_funcref : List ValType → Bool
has_funcref [] = false
has_funcref (ty.I32 ∷ types) = has_funcref types
has_funcref (ty.I64 ∷ types) = has_funcref types
has_funcref (ty.FuncRef ∷ types) = true
has_funcref (ty.ExternRef ∷ types) = has_funcref types

module _ {H : Type 0} (host_type : H → FuncType) where
  -- Why a definition is refused, if it is, when these names are taken.
  abbrev pub fault_of : NamesContents → HostDefinition H → Option Fault
  fault_of names d =
      if has_funcref (host_type d.host).results then Some HostFuncRef
      else (if is_some (host_of names d.module_name d.name) then Some NameTaken else None)

  -- The first fault of definitions, whose functions have the addresses from this one on.
  abbrev pub first_fault : NamesContents → (address : ℕ) → List (HostDefinition H) → Option Fault
  first_fault names address [] = None
  first_fault names address (d ∷ ds) =
      option_or (fault_of names d) (first_fault (with_host names d.module_name d.name address)
      (suc address) ds)

  -- Their names, each with its function's address.
  abbrev pub with_definitions : NamesContents → (address : ℕ) → List (HostDefinition H)
      → NamesContents
  with_definitions names address [] = names
  with_definitions names address (d ∷ ds) =
      with_definitions (with_host names d.module_name d.name address) (suc address) ds

  -- Their functions, whose numbers count up from this one.
  abbrev pub host_functions : (number : ℕ) → List (HostDefinition H) → List FunctionInstance
  host_functions number [] = []
  host_functions number (d ∷ ds) =
      record { ty = host_type d.host; implementation = InHost number } ∷
      host_functions (suc number) ds

  -- A store with functions only.
  abbrev pub store_of_hosts : (pages entries : ℕ) → List (HostDefinition H) → Store
  store_of_hosts pages entries definitions = record {
    functions = host_functions 0 definitions;
    instances = [];
    tables = [];
    memories = [];
    globals = [];
    elements = [];
    datas = [];
    pages = pages;
    entries = entries;
  }

  -- An embedding before any command.
  abbrev pub fresh : Setup → List (HostDefinition H) → Embedding H
  fresh setup definitions = record {
    setup = setup;
    modules = [];
    instances = [];
    names = with_definitions no_names 0 definitions;
    state = record {
      store = store_of_hosts setup.pages setup.entries definitions;
      hosts = map (λ (d : HostDefinition H). d.host) definitions;
      fuel = setup.fuel;
    };
  }

  -- What is created: a fresh embedding, unless a definition is refused. Memory may run out for any definitions.
  abbrev pub Creates : Setup → List (HostDefinition H) → Result (Embedding H) Fault → Type 0
  Creates setup definitions (Ok at) =
      (first_fault no_names 0 definitions ≡ None) × (at ≡ fresh setup definitions)
  Creates setup definitions (Err HostFuncRef) =
      first_fault no_names 0 definitions ≡ Some HostFuncRef
  Creates setup definitions (Err NameTaken) = first_fault no_names 0 definitions ≡ Some NameTaken
  Creates setup definitions (Err OutOfMemory) = Unit {0}
