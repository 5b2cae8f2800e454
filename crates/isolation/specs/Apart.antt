-- Instances that share nothing stay apart, until a command reaches what both can reach.
use Rattle.std.specs.Prelude.{◌≡◌, ℕ, ◌<◌, ◌^◌, ◌↔◌, ◌⊎◌, List, ◌∷◌, Option, Some, None, Ok, length, slice_get}
use Rattle.std.specs.List.{All}
use Rattle.core_types.specs.declared.module.Module.{Module}
use Rattle.core_types.specs.declared.outcome.Extern.{Extern}
use Rattle.core_types.specs.declared.outcome.Extern.TheVariants as value
use Rattle.core_types.specs.declared.outcome.Val.{Val}
use Rattle.core_types.specs.declared.outcome.Val.TheVariants.{I32, I64, FuncRef, ExternRef}
use Rattle.core_types.specs.declared.types.FuncType.{FuncType}
use Rattle.meaning.specs.embedding.Commands.{Command, Load, Link, Register, Call, GetGlobal, SetFuel, Reply, Linked}
use Rattle.meaning.specs.embedding.Creation.{Creates, HostDefinition}
use Rattle.meaning.specs.embedding.Machine.{Applies, AppliesAll, Embedding, Setup, none, resolve_imports, then_on}
use Rattle.meaning.specs.execution.Hosts.{IsHostStep}
use Rattle.meaning.specs.execution.Runs.{Answer}
use Rattle.meaning.specs.execution.Store.{FunctionInstance, InHost, Store}
use Rattle.soundness.specs.Embedding.{LoadsBytes}
use Rattle.isolation.specs.Commands.{Asks, LeavesHosts, MayReply}
use Rattle.isolation.specs.Hosts.{AnswersBy, Behaviour}
use Rattle.isolation.specs.Reach.{reach_from, reach_of}
use Rattle.isolation.specs.Regions.{AreApart}

-- ---- what is passed on

-- The value refers to no function.
abbrev pub RefersToNone : Val → Type 0
RefersToNone (I32 n) = Unit {0}
RefersToNone (I64 n) = Unit {0}
RefersToNone (FuncRef None) = Unit {0}
RefersToNone (FuncRef (Some address)) = ⊥
RefersToNone (ExternRef x) = Unit {0}

-- The command passes nothing from one instance to another: it registers no instance, so that none can be imported from, and its
-- arguments refer to no functions.
abbrev pub GivesNothing : Command → Type 0
GivesNothing (Load bytes) = Unit {0}
GivesNothing (Link number) = Unit {0}
GivesNothing (Register number name) = ⊥
GivesNothing (Call number name arguments) = All RefersToNone arguments
GivesNothing (GetGlobal number name) = Unit {0}
GivesNothing (SetFuel fuel) = Unit {0}

-- The command does not call the instance of a number.
abbrev pub DoesNotCall : (number : ℕ) → Command → Type 0
DoesNotCall number (Load bytes) = Unit {0}
DoesNotCall number (Link other) = Unit {0}
DoesNotCall number (Register other name) = Unit {0}
DoesNotCall number (Call other name arguments) = other ≡ number → ⊥
DoesNotCall number (GetGlobal other name) = Unit {0}
DoesNotCall number (SetFuel fuel) = Unit {0}

-- ---- what a command reaches

-- What is given for an import is a host function.
abbrev pub IsOfHost : Store → Extern → Type 0
IsOfHost store (value.Func address) = (f : FunctionInstance) × (number : ℕ)
    × (slice_get store.functions address ≡ Some f) × (f.implementation ≡ InHost number)
IsOfHost store (value.Table address) = ⊥
IsOfHost store (value.Memory address) = ⊥
IsOfHost store (value.Global address) = ⊥

module _ {H : Type 0} where
  -- The module of a number imports host functions only, or nothing.
  abbrev pub ImportsFromHost : Embedding H → (number : ℕ) → Type 0
  ImportsFromHost at number = (m : Module) (given : List Extern)
      → slice_get at.modules number ≡ Some m
      → resolve_imports at.state.store at.names m.imports ≡ Some given
      → All (IsOfHost at.state.store) given

  -- A command shares nothing: the module that it links imports host functions only, or nothing, and the arguments of a call refer
  -- to no functions.
  abbrev pub SharesNothing : Embedding H → Command → Type 0
  SharesNothing at (Load bytes) = Unit {0}
  SharesNothing at (Link number) = ImportsFromHost at number
  SharesNothing at (Register number name) = Unit {0}
  SharesNothing at (Call number name arguments) = All RefersToNone arguments
  SharesNothing at (GetGlobal number name) = Unit {0}
  SharesNothing at (SetFuel fuel) = Unit {0}

  -- A command leaves an instance alone: it does not link it, and it reaches no table, memory, global or segment that the instance
  -- can reach.
  pub record LeavesAlone (at : Embedding H) (number : ℕ) (command : Command) (reply : Reply)
      : Type 0 where
    pub makes_another : reply ≡ Linked number → ⊥
    pub apart : AreApart (reach_from at number) (reach_of at command)

module _ {H : Type 0} (HostStep : List H → ℕ → Option ℕ → List Val → Store → Answer → Store
    → List H → Type 0) where
  -- Each command of a run leaves one of two instances alone.
  abbrev pub AllLeaveOneAlone : (one other : ℕ) → {old last : Embedding H}
      {commands : List Command} {replies : List Reply}
      → AppliesAll HostStep old commands replies last → Type 0
  AllLeaveOneAlone one other none = Unit {0}
  AllLeaveOneAlone one other (then_on {old = at} {command = command} {reply = reply} step rest) =
      (LeavesAlone at one command reply ⊎ LeavesAlone at other command reply)
      × AllLeaveOneAlone one other rest

  -- Each command of a run shares nothing.
  abbrev pub AllShareNothing : {old last : Embedding H} {commands : List Command}
      {replies : List Reply} → AppliesAll HostStep old commands replies last → Type 0
  AllShareNothing none = Unit {0}
  AllShareNothing (then_on {old = at} {command = command} step rest) =
      SharesNothing at command × AllShareNothing rest

-- ---- the laws

module _ {H : Type 0} (host_type : H → FuncType)
    (Answers : H → List Val → List ℕ → Answer → List ℕ → H → Type 0) where
  -- Two instances are apart if each command leaves one of them alone. This includes the links of the two: what either imports
  -- must be apart from the other.
  abbrev pub LinksAreApart : Type 0
  LinksAreApart = (setup : Setup) (definitions : List (HostDefinition H))
      (fresh last : Embedding H) (commands : List Command) (replies : List Reply) (one other : ℕ)
      → length definitions < 2 ^ 32 → Creates host_type setup definitions (Ok fresh)
      → All LoadsBytes commands
      → (run : AppliesAll (IsHostStep host_type Answers) fresh commands replies last)
      → AllLeaveOneAlone (IsHostStep host_type Answers) one other run
      → AreApart (reach_from last one) (reach_from last other)

  -- If each command shares nothing, any two instances are apart.
  abbrev pub StrangersAreApart : Type 0
  StrangersAreApart = (setup : Setup) (definitions : List (HostDefinition H))
      (fresh last : Embedding H) (commands : List Command) (replies : List Reply) (one other : ℕ)
      → length definitions < 2 ^ 32 → Creates host_type setup definitions (Ok fresh)
      → All LoadsBytes commands
      → (run : AppliesAll (IsHostStep host_type Answers) fresh commands replies last)
      → AllShareNothing (IsHostStep host_type Answers) run → (one ≡ other → ⊥)
      → AreApart (reach_from last one) (reach_from last other)

  -- Commands that pass nothing on share nothing.
  abbrev pub OnlyRegisteredOnesAreShared : Type 0
  OnlyRegisteredOnesAreShared = (setup : Setup) (definitions : List (HostDefinition H))
      (fresh last : Embedding H) (commands : List Command) (replies : List Reply)
      → Creates host_type setup definitions (Ok fresh) → All GivesNothing commands
      → (run : AppliesAll (IsHostStep host_type Answers) fresh commands replies last)
      → AllShareNothing (IsHostStep host_type Answers) run

  -- If nothing was passed on, a command that does not call an instance, and does not change the host functions that it can reach, never
  -- changes its replies. After the command, once the fuel is set, the same replies are possible as before.
  abbrev pub StrangersChangeNoAnswers : Type 0
  StrangersChangeNoAnswers = (setup : Setup) (definitions : List (HostDefinition H))
      (fresh old new : Embedding H) (before commands : List Command) (replied replies : List Reply)
      (number fuel : ℕ) (command : Command) (reply : Reply)
      → length definitions < 2 ^ 32 → Creates host_type setup definitions (Ok fresh)
      → All LoadsBytes before → All GivesNothing before
      → AppliesAll (IsHostStep host_type Answers) fresh before replied old
      → number < length old.instances
      → GivesNothing command → DoesNotCall number command
      → Applies (IsHostStep host_type Answers) old command reply new
      → LeavesHosts (reach_from old number) (reach_of old command) old new
      → All (Asks number) commands → All GivesNothing commands
      → MayReply (IsHostStep host_type Answers) old (SetFuel fuel ∷ commands) replies
      ↔ MayReply (IsHostStep host_type Answers) new (SetFuel fuel ∷ commands) replies

-- For all host functions.
pub record InstancesAreApart (H : Type 0) : Type 0 where
  pub links : (hosts : Behaviour H) → LinksAreApart hosts.type (AnswersBy hosts)
  pub strangers : (hosts : Behaviour H) → StrangersAreApart hosts.type (AnswersBy hosts)
  pub registered : (hosts : Behaviour H) → OnlyRegisteredOnesAreShared hosts.type (AnswersBy hosts)
  pub answers : (hosts : Behaviour H) → StrangersChangeNoAnswers hosts.type (AnswersBy hosts)
