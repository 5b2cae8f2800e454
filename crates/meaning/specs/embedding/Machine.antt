-- The embedding machine, which is this project's own: the reply to a command, and what the command leaves.
use Rattle.std.specs.Prelude.{◌≡◌, ℕ, List, [], ◌∷◌, ◌++◌, filter_map, length, reverse, Option, Some, None, Result, Ok, Err, option_and_then, option_map, slice_get}
use Rattle.core_types.specs.declared.module.Export.{Export}
use Rattle.core_types.specs.declared.module.Import.{Import}
use Rattle.core_types.specs.declared.module.Module.{Module}
use Rattle.core_types.specs.declared.outcome.Extern.{Extern}
use Rattle.core_types.specs.declared.outcome.Extern.TheVariants as value
use Rattle.core_types.specs.declared.outcome.Val.{Val}
use Rattle.core_types.specs.declared.types.ExternType.{ExternType}
use Rattle.meaning.specs.binary.Limits.{IsWithinLimits as HasSmallParts}
use Rattle.meaning.specs.binary.Modules.{SpellsModule}
use Rattle.meaning.specs.validation.Modules.{IsValid}
use Rattle.meaning.specs.execution.Configurations.{Invoking, no_frame}
use Rattle.meaning.specs.execution.Modules.{AreGiven, HasNoValues, Instantiation, IsAllowed, IsWithinLimits, map_all}
use Rattle.meaning.specs.execution.Runs.{Answer, Ending, Run, State, WithValues}
use Rattle.meaning.specs.execution.Store.{GlobalInstance, ModuleInstance, Store, extern_type, instance_of}
use Rattle.meaning.specs.soundness.Values.{TakesArguments}
use Rattle.meaning.specs.embedding.Commands.{Command, Load, Link, Register, Call, GetGlobal, SetFuel}
use Rattle.meaning.specs.embedding.Commands.{Refusal, Malformed, Unsupported, Limit, Invalid, UnknownModule, UnknownImport, IncompatibleImport, UnknownInstance}
use Rattle.meaning.specs.embedding.Commands.{UnknownExport, WrongKind, BadArguments, NameTaken, OutOfMemory}
use Rattle.meaning.specs.embedding.Commands.{Reply, Loaded, Linked, Done, Ended, Refused}
use Rattle.meaning.specs.embedding.Names.{HasHosts, NamesContents, export_of, extern_of, resolve_name, with_instance}

-- ---- states

-- The setup of an embedding: the initial fuel, the bound on open frames, the most pages of a memory, and the most entries of a table.
pub record Setup : Type 0 where
  pub fuel : ℕ
  pub depth : ℕ
  pub pages : ℕ
  pub entries : ℕ

-- The setup, the modules by number, the addresses of the instances by number, the names, and the state of runs. An instance whose link
-- did not end with values has an address, but no number.
pub record Embedding (H : Type 0) : Type 0 where
  pub setup : Setup
  pub modules : List Module
  pub instances : List ℕ
  pub names : NamesContents
  pub state : State H

-- ---- modules and imports

-- The bytes encode the module, and it is within the limits.
pub record IsDecoded (bytes : List ℕ) (m : Module) : Type 0 where
  pub spelt : SpellsModule bytes m
  pub small : HasSmallParts bytes m

-- Bytes that encode no module within the limits are refused with one of these. Which one is unspecified.
pub data IsOfBytes : Refusal → Type 0 where
  malformed : IsOfBytes Malformed
  unsupported : IsOfBytes Unsupported
  limit : IsOfBytes Limit

-- What the names of imports stand for, in their order, if those of each stand for something.
abbrev pub resolve_imports : Store → NamesContents → List Import → Option (List Extern)
resolve_imports store names imports =
    map_all (λ (i : Import). resolve_name store names i.module_name i.name) imports

-- ---- exports

-- What the instance at an address exports under a name, or why there is nothing.
abbrev pub export_in : Option Extern → Result Extern Refusal
export_in None = Err UnknownExport
export_in (Some e) = Ok e

abbrev pub export_from : Store → (name : List ℕ) → (instance : Option ℕ) → Result Extern Refusal
export_from store name None = Err UnknownInstance
export_from store name (Some instance) =
    export_in (export_of (instance_of store (Some instance)) name)

-- The address of the function that is exported.
abbrev pub as_function : Result Extern Refusal → Result ℕ Refusal
as_function (Ok (value.Func address)) = Ok address
as_function (Ok e) = Err WrongKind
as_function (Err refusal) = Err refusal

-- The address of the global that is exported.
abbrev pub as_global : Result Extern Refusal → Result ℕ Refusal
as_global (Ok (value.Global address)) = Ok address
as_global (Ok e) = Err WrongKind
as_global (Err refusal) = Err refusal

-- The type of what is exported, if there is something.
abbrev pub type_in : Store → Result Extern Refusal → Option ExternType
type_in store (Ok e) = extern_type store e
type_in store (Err refusal) = None

-- The name and the type of an export of an instance, if it stands for something.
abbrev pub named_type : Store → ModuleInstance → Export → Option (List ℕ × ExternType)
named_type store instance e =
    option_map (λ (ty : ExternType). (e.name, ty))
    (option_and_then (extern_type store) (extern_of instance e.desc))

abbrev pub exports_in : Store → ModuleInstance → List (List ℕ × ExternType)
exports_in store instance = filter_map (named_type store instance) instance.exports

-- ---- steps

module _ {H : Type 0} where
  -- What the instance of a number exports under a name.
  abbrev pub export_at : Embedding H → (number : ℕ) → (name : List ℕ) → Result Extern Refusal
  export_at at number name = export_from at.state.store name (slice_get at.instances number)

  -- The type of what the instance of a number exports under a name, if there is something.
  abbrev pub export_type : Embedding H → (number : ℕ) → (name : List ℕ) → Option ExternType
  export_type at number name = type_in at.state.store (export_at at number name)

  -- What the instance of a number exports, in order: each name with its type.
  abbrev pub exports_at : Embedding H → (number : ℕ) → List (List ℕ × ExternType)
  exports_at at number =
      exports_in at.state.store (instance_of at.state.store (slice_get at.instances number))

  -- A refusal changes nothing.
  abbrev pub Refuses : Embedding H → Refusal → Reply → Embedding H → Type 0
  Refuses old refusal reply new = (reply ≡ Refused refusal) × (new ≡ old)

  -- The module that the bytes encode gets the next number.
  pub data Loads (old : Embedding H) (bytes : List ℕ) (reply : Reply) (new : Embedding H) : Type 0
    where
      loaded : {m : Module} → IsDecoded bytes m → IsValid m → reply ≡ Loaded (length old.modules)
          → new ≡ record old { modules = old.modules ++ (m ∷ []) } → Loads old bytes reply new
      no_module : {refusal : Refusal} → ((m : Module) → IsDecoded bytes m → ⊥) → IsOfBytes refusal
          → Refuses old refusal reply new → Loads old bytes reply new
      not_valid : {m : Module} → IsDecoded bytes m → (IsValid m → ⊥) → Refuses old Invalid reply new
          → Loads old bytes reply new
      no_memory : Refuses old OutOfMemory reply new → Loads old bytes reply new

  -- The instance at an address is registered under a name, and replaces the one that was.
  pub data Registers (old : Embedding H) (name : List ℕ) (instance : ℕ) (reply : Reply)
      (new : Embedding H) : Type 0 where
    registered : (HasHosts old.names name → ⊥) → reply ≡ Done
        → new ≡ record old { names = with_instance old.names name instance }
        → Registers old name instance reply new
    taken : HasHosts old.names name → Refuses old NameTaken reply new
        → Registers old name instance reply new
    no_memory : (HasHosts old.names name → ⊥) → Refuses old OutOfMemory reply new
        → Registers old name instance reply new

  abbrev pub RegistersAt : Embedding H → (name : List ℕ) → (instance : Option ℕ) → Reply
      → Embedding H → Type 0
  RegistersAt old name None reply new = Refuses old UnknownInstance reply new
  RegistersAt old name (Some instance) reply new = Registers old name instance reply new

  -- The value of the global at an address.
  pub data Gets (old : Embedding H) (address : ℕ) (reply : Reply) (new : Embedding H) : Type 0 where
    got : {g : GlobalInstance} → slice_get old.state.store.globals address ≡ Some g
        → reply ≡ Ended (WithValues (g.value ∷ []))
        → new ≡ old → Gets old address reply new
    no_memory : Refuses old OutOfMemory reply new → Gets old address reply new

  abbrev pub GetsAt : Embedding H → Result ℕ Refusal → Reply → Embedding H → Type 0
  GetsAt old (Ok address) reply new = Gets old address reply new
  GetsAt old (Err refusal) reply new = Refuses old refusal reply new

  abbrev pub with_fuel : Embedding H → (fuel : ℕ) → Embedding H
  with_fuel old fuel = record old { state = record old.state { fuel = fuel } }

  abbrev pub SetsFuel : Embedding H → (fuel : ℕ) → Reply → Embedding H → Type 0
  SetsFuel old fuel reply new = (reply ≡ Done) × (new ≡ with_fuel old fuel)

module _ {H : Type 0} (HostStep : List H → ℕ → Option ℕ → List Val → Store → Answer → Store
    → List H → Type 0) where
  -- A module is instantiated with what the names of its imports stand for, and the instance gets the next number if its link ends with
  -- values. Refusals for imports that stand for nothing come first, then for those that do not match, and then for the limits.
  pub data Links (old : Embedding H) (m : Module) (reply : Reply) (new : Embedding H) : Type 0 where
    linked : {externs : List Extern} {state : State H}
        → resolve_imports old.state.store old.names m.imports ≡ Some externs
        → IsAllowed old.state.store m externs
        → Instantiation HostStep old.setup.depth m externs old.state (WithValues []) state
        → reply ≡ Linked (length old.instances)
        → new ≡ record old {
          instances = old.instances ++ (length old.state.store.instances ∷ []);
          state = state;
        }
        → Links old m reply new
    ended : {externs : List Extern} {ending : Ending} {state : State H}
        → resolve_imports old.state.store old.names m.imports ≡ Some externs
        → IsAllowed old.state.store m externs
        → Instantiation HostStep old.setup.depth m externs old.state ending state
        → HasNoValues ending → reply ≡ Ended ending → new ≡ record old { state = state }
        → Links old m reply new
    unknown : resolve_imports old.state.store old.names m.imports ≡ None
        → Refuses old UnknownImport reply new → Links old m reply new
    incompatible : {externs : List Extern}
        → resolve_imports old.state.store old.names m.imports ≡ Some externs
        → (AreGiven old.state.store m m.imports externs → ⊥)
        → Refuses old IncompatibleImport reply new → Links old m reply new
    too_large : {externs : List Extern}
        → resolve_imports old.state.store old.names m.imports ≡ Some externs
        → AreGiven old.state.store m m.imports externs → (IsWithinLimits old.state.store m → ⊥)
        → Refuses old Limit reply new → Links old m reply new
    no_memory : Refuses old OutOfMemory reply new → Links old m reply new

  abbrev pub LinksAt : Embedding H → Option Module → Reply → Embedding H → Type 0
  LinksAt old None reply new = Refuses old UnknownModule reply new
  LinksAt old (Some m) reply new = Links old m reply new

  -- The function at an address is called from outside, within the fuel left.
  pub data Calls (old : Embedding H) (address : ℕ) (arguments : List Val) (reply : Reply)
      (new : Embedding H) : Type 0 where
    called : {ending : Ending} {state : State H} → TakesArguments old.state.store address arguments
        → Run HostStep old.setup.depth no_frame old.state (Invoking (reverse arguments) address)
        ending state
        → reply ≡ Ended ending → new ≡ record old { state = state }
        → Calls old address arguments reply new
    bad_arguments : (TakesArguments old.state.store address arguments → ⊥)
        → Refuses old BadArguments reply new
        → Calls old address arguments reply new

  abbrev pub CallsAt : Embedding H → Result ℕ Refusal → (arguments : List Val) → Reply
      → Embedding H → Type 0
  CallsAt old (Ok address) arguments reply new = Calls old address arguments reply new
  CallsAt old (Err refusal) arguments reply new = Refuses old refusal reply new

  -- The reply to a command, and what the command leaves.
  abbrev pub Applies : Embedding H → Command → Reply → Embedding H → Type 0
  Applies old (Load bytes) reply new = Loads old bytes reply new
  Applies old (Link number) reply new = LinksAt old (slice_get old.modules number) reply new
  Applies old (Register number name) reply new =
      RegistersAt old name (slice_get old.instances number) reply new
  Applies old (Call number name arguments) reply new =
      CallsAt old (as_function (export_at old number name)) arguments reply new
  Applies old (GetGlobal number name) reply new =
      GetsAt old (as_global (export_at old number name)) reply new
  Applies old (SetFuel fuel) reply new = SetsFuel old fuel reply new

  -- The replies to commands in a row, one for each command, and what the commands leave.
  pub data AppliesAll : Embedding H → List Command → List Reply → Embedding H → Type 0 where
    none : {at : Embedding H} → AppliesAll at [] [] at
    then_on : {old between last : Embedding H} {command : Command} {commands : List Command}
        {reply : Reply} {replies : List Reply}
        → Applies old command reply between → AppliesAll between commands replies last
        → AppliesAll old (command ∷ commands) (reply ∷ replies) last
