-- Commands to an embedding never go wrong (Appendix, Soundness, Theorems).
use Rattle.std.specs.Prelude.{◌≡◌, ℕ, ◌<◌, ◌≤◌, ◌^◌, List, [], ◌∷◌, Option, Some, None, Result, Ok, Err, length, slice_get}
use Rattle.std.specs.List.{All}
use Rattle.core_types.specs.declared.module.Module.{Module}
use Rattle.core_types.specs.declared.outcome.Val.{Val}
use Rattle.core_types.specs.declared.types.FuncType.{FuncType}
use Rattle.core_types.specs.declared.types.ValType.{ValType}
use Rattle.meaning.specs.embedding.Commands.{Command, Load, Link, Register, Call, GetGlobal, SetFuel}
use Rattle.meaning.specs.embedding.Commands.{Refusal, Reply, Loaded, Linked, Done, Ended, Refused}
use Rattle.meaning.specs.embedding.Creation.{Creates, HostDefinition}
use Rattle.meaning.specs.embedding.Machine.{AppliesAll, Embedding, Setup, as_function, as_global, export_at, none, then_on}
use Rattle.meaning.specs.execution.Hosts.{IsHostStep}
use Rattle.meaning.specs.execution.Runs.{Answer}
use Rattle.meaning.specs.execution.Storage.{AreBytes}
use Rattle.meaning.specs.execution.Store.{FunctionInstance, GlobalInstance, Store}
use Rattle.soundness.specs.Hosts.{AreReady}
use Rattle.soundness.specs.Links.{IsSoundModule}
use Rattle.soundness.specs.Runs.{EndsWell}
use Rattle.soundness.specs.Stores.{Extends, StoreIsValid}

-- The types of the values of a function or a global, if it exists.
abbrev pub results_of : Option FunctionInstance → List ValType
results_of None = []
results_of (Some f) = f.ty.results

abbrev pub value_of : Option GlobalInstance → List ValType
value_of None = []
value_of (Some g) = g.ty.value ∷ []

abbrev pub function_results : Store → Result ℕ Refusal → List ValType
function_results store (Ok address) = results_of (slice_get store.functions address)
function_results store (Err refusal) = []

abbrev pub global_value : Store → Result ℕ Refusal → List ValType
global_value store (Ok address) = value_of (slice_get store.globals address)
global_value store (Err refusal) = []

-- The values in a reply have these types.
abbrev pub RepliesWell : Store → List ValType → Reply → Type 0
RepliesWell store types (Loaded number) = Unit {0}
RepliesWell store types (Linked number) = Unit {0}
RepliesWell store types Done = Unit {0}
RepliesWell store types (Ended ending) = EndsWell store types ending
RepliesWell store types (Refused refusal) = Unit {0}

-- The fuel left is what it is set to, or at most what there was.
abbrev pub Spends : Command → (old new : ℕ) → Type 0
Spends (Load bytes) old new = new ≤ old
Spends (Link number) old new = new ≤ old
Spends (Register number name) old new = new ≤ old
Spends (Call number name arguments) old new = new ≤ old
Spends (GetGlobal number name) old new = new ≤ old
Spends (SetFuel fuel) old new = new ≡ fuel

-- The numbers that a command loads are bytes.
abbrev pub LoadsBytes : Command → Type 0
LoadsBytes (Load bytes) = AreBytes bytes
LoadsBytes other = Unit {0}

module _ {H : Type 0} where
  -- The types of the values that a command asks for.
  abbrev pub asked_types : Embedding H → Command → List ValType
  asked_types at (Load bytes) = []
  asked_types at (Link number) = []
  asked_types at (Register number name) = []
  asked_types at (Call number name arguments) =
      function_results at.state.store (as_function (export_at at number name))
  asked_types at (GetGlobal number name) =
      global_value at.state.store (as_global (export_at at number name))
  asked_types at (SetFuel fuel) = []

  -- The module that a command links can be linked.
  abbrev pub LinksSoundModule : Embedding H → Command → Type 0
  LinksSoundModule at (Load bytes) = Unit {0}
  LinksSoundModule at (Link number) =
      (m : Module) → slice_get at.modules number ≡ Some m → IsSoundModule m
  LinksSoundModule at (Register number name) = Unit {0}
  LinksSoundModule at (Call number name arguments) = Unit {0}
  LinksSoundModule at (GetGlobal number name) = Unit {0}
  LinksSoundModule at (SetFuel fuel) = Unit {0}

  -- A command goes well: it leaves a valid store that extends the one before, and values in the reply have the types that were asked for.
  -- The fuel left is at most what there was, or what was set.
  pub record GoesWell (old : Embedding H) (command : Command) (reply : Reply) (new : Embedding H)
      : Type 0 where
    pub valid : StoreIsValid new.state.store
    pub extends : Extends old.state.store new.state.store
    pub replies : RepliesWell new.state.store (asked_types old command) reply
    pub spends : Spends command old.state.fuel new.state.fuel

module _ {H : Type 0} (HostStep : List H → ℕ → Option ℕ → List Val → Store → Answer → Store
    → List H → Type 0) where
  -- Each command of a run goes well.
  abbrev pub AllGoWell : {old last : Embedding H} {commands : List Command} {replies : List Reply}
      → AppliesAll HostStep old commands replies last → Type 0
  AllGoWell none = Unit {0}
  AllGoWell (then_on {old = at} {between = next} {command = command} {reply = reply} step rest) =
      GoesWell at command reply next × AllGoWell rest

module _ {H : Type 0} (host_type : H → FuncType) where
  -- An embedding is sound: its store is valid, and its host functions are ready.
  pub record IsSound (at : Embedding H) : Type 0 where
    pub valid : StoreIsValid at.state.store
    pub ready : AreReady host_type at.state.store at.state.hosts

  -- Each created embedding is sound, and has fewer host functions than there are addresses.
  abbrev pub FreshOnesAreSound : Type 0
  FreshOnesAreSound = (setup : Setup) (definitions : List (HostDefinition H)) (at : Embedding H)
      → length definitions < 2 ^ 32 → Creates host_type setup definitions (Ok at) → IsSound at

module _ {H : Type 0} (host_type : H → FuncType)
    (Answers : H → List Val → List ℕ → Answer → List ℕ → H → Type 0) where
  -- Each command of a run from a sound embedding, whose modules can be linked, goes well, and the embedding at the end is sound.
  abbrev pub CommandsGoWell : Type 0
  CommandsGoWell = (old last : Embedding H) (commands : List Command) (replies : List Reply)
      (run : AppliesAll (IsHostStep host_type Answers) old commands replies last)
      → IsSound host_type old → All IsSoundModule old.modules → All LoadsBytes commands
      → AllGoWell (IsHostStep host_type Answers) run × IsSound host_type last

-- Host functions that are only their types, and never answer.
abbrev pub own_type : FuncType → FuncType
own_type t = t

abbrev pub NeverAnswers : FuncType → List Val → List ℕ → Answer → List ℕ → FuncType → Type 0
NeverAnswers t arguments bytes answer bytes' t' = ⊥
