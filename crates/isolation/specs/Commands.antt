-- What a command changes of an embedding, and what it cannot change.
use Rattle.std.specs.Prelude.{◌≡◌, ℕ, ◌↔◌, List, ◌∷◌, Option, Some, Ok, slice_get, ◌<◌, ◌^◌, length, ◌⊎◌}
use Rattle.std.specs.List.{All}
use Rattle.core_types.specs.declared.module.Module.{Module}
use Rattle.core_types.specs.declared.outcome.Extern.{Extern}
use Rattle.core_types.specs.declared.outcome.Val.{Val}
use Rattle.core_types.specs.declared.types.FuncType.{FuncType}
use Rattle.meaning.specs.embedding.Commands.{Command, Load, Link, Register, Call, GetGlobal, SetFuel, Reply, Loaded, Linked, Done, Ended, Refused}
use Rattle.meaning.specs.embedding.Creation.{Creates, HostDefinition}
use Rattle.meaning.specs.embedding.Machine.{Applies, AppliesAll, Embedding, Setup, none, resolve_imports, then_on}
use Rattle.meaning.specs.execution.Hosts.{IsHostStep}
use Rattle.meaning.specs.execution.Runs.{Answer}
use Rattle.meaning.specs.execution.Store.{Store}
use Rattle.isolation.specs.Hosts.{AnswersBy, Behaviour}
use Rattle.isolation.specs.Isolation.{EndingIsWithin}
use Rattle.isolation.specs.Regions.{AreApart, ExternsAreWithin, Has, HasNot, IsClosed, IsThere, KeepsCode, LeavesOutside, Marks, Region, StaysOutside, ValuesAreWithin, marked, with_new}
use Rattle.isolation.specs.Reach.{AreMentioned, IsPlaceIn, Place, reach_when_asked, reach_of}
use Rattle.soundness.specs.Embedding.{LoadsBytes}

-- The values of a reply refer to no function outside of the region.
abbrev pub ReplyIsWithin : Region → Reply → Type 0
ReplyIsWithin region (Loaded number) = Unit {0}
ReplyIsWithin region (Linked number) = Unit {0}
ReplyIsWithin region Done = Unit {0}
ReplyIsWithin region (Ended ending) = EndingIsWithin region ending
ReplyIsWithin region (Refused refusal) = Unit {0}

-- The command asks the instance of a number alone: it calls it, reads a global of it, or sets the fuel.
abbrev pub Asks : (number : ℕ) → Command → Type 0
Asks number (Load bytes) = ⊥
Asks number (Link other) = ⊥
Asks number (Register other name) = ⊥
Asks number (Call other name arguments) = other ≡ number
Asks number (GetGlobal other name) = other ≡ number
Asks number (SetFuel fuel) = Unit {0}

-- The same, with arguments that refer to no function outside of a region.
abbrev pub AsksWithin : Region → (number : ℕ) → Command → Type 0
AsksWithin region number (Load bytes) = ⊥
AsksWithin region number (Link other) = ⊥
AsksWithin region number (Register other name) = ⊥
AsksWithin region number (Call other name arguments) =
    (other ≡ number) × ValuesAreWithin region arguments
AsksWithin region number (GetGlobal other name) = other ≡ number
AsksWithin region number (SetFuel fuel) = Unit {0}

module _ {H : Type 0} where
  -- The instance of a number, if there is one, is in the region.
  abbrev pub AnyInstanceIsIn : Region → Embedding H → (number : ℕ) → Type 0
  AnyInstanceIsIn region at number = (instance : ℕ)
      → slice_get at.instances number ≡ Some instance → Has region.instances instance

  -- There is an instance of a number, and it is in the region.
  abbrev pub HasInstance : Region → Embedding H → (number : ℕ) → Type 0
  HasInstance region at number =
      (instance : ℕ) × (slice_get at.instances number ≡ Some instance)
      × Has region.instances instance

  -- What the module of a number imports is in the region.
  abbrev pub HasImports : Region → Embedding H → (number : ℕ) → Type 0
  HasImports region at number = (m : Module) (given : List Extern)
      → slice_get at.modules number ≡ Some m
      → resolve_imports at.state.store at.names m.imports ≡ Some given
      → ExternsAreWithin region given

  -- A command reaches no further than a region. It calls an instance of the region, with arguments that refer to no function outside of
  -- it. Or it links a module whose imports are in it. Other commands reach nothing.
  abbrev pub ReachesNoFurther : Region → Embedding H → Command → Type 0
  ReachesNoFurther region at (Load bytes) = Unit {0}
  ReachesNoFurther region at (Link number) = HasImports region at number
  ReachesNoFurther region at (Register number name) = Unit {0}
  ReachesNoFurther region at (Call number name arguments) =
      AnyInstanceIsIn region at number × ValuesAreWithin region arguments
  ReachesNoFurther region at (GetGlobal number name) = Unit {0}
  ReachesNoFurther region at (SetFuel fuel) = Unit {0}

  -- Each host function of a region is not in the other, or stays as it is.
  abbrev pub LeavesHosts : (region theirs : Region) → Embedding H → Embedding H → Type 0
  LeavesHosts region theirs old new = (number : ℕ) → Has region.hosts number
      → HasNot theirs.hosts number
      ⊎ (slice_get new.state.hosts number ≡ slice_get old.state.hosts number)

  -- The store and the host functions stay as they are.
  abbrev pub ChangesNothing : Embedding H → Embedding H → Type 0
  ChangesNothing old new =
      (new.state.store ≡ old.state.store) × (new.state.hosts ≡ old.state.hosts)

  -- What a command may change that reaches no further than a closed region: what is in the region, and for a link what it
  -- allocates. Functions and instances never change, and a call returns no reference to a function outside of the region.
  abbrev pub ChangesNoMore : Region → Embedding H → Command → Reply → Embedding H → Type 0
  ChangesNoMore region old (Load bytes) reply new = ChangesNothing old new
  ChangesNoMore region old (Link number) reply new =
      LeavesOutside (with_new region old.state.store) old.state.store new.state.store
      × KeepsCode old.state.store new.state.store
      × IsClosed (with_new region old.state.store) new.state.store
      × StaysOutside region region.hosts old.state.hosts new.state.hosts
  ChangesNoMore region old (Register number name) reply new = ChangesNothing old new
  ChangesNoMore region old (Call number name arguments) reply new =
      LeavesOutside region old.state.store new.state.store
      × KeepsCode old.state.store new.state.store × IsClosed region new.state.store
      × ReplyIsWithin region reply
      × StaysOutside region region.hosts old.state.hosts new.state.hosts
  ChangesNoMore region old (GetGlobal number name) reply new = ChangesNothing old new
  ChangesNoMore region old (SetFuel fuel) reply new = ChangesNothing old new

  -- A command changes only what it can reach.
  abbrev pub KeepsToItsReach : Embedding H → Command → Reply → Embedding H → Type 0
  KeepsToItsReach old command reply new =
      ChangesNoMore (reach_of old command) old command reply new

  -- A command changes only what is in each closed region that it reaches no further than.
  abbrev pub KeepsToRegions : Embedding H → Command → Reply → Embedding H → Type 0
  KeepsToRegions old command reply new = (marks : Marks)
      → IsClosed (marked marks) old.state.store → ReachesNoFurther (marked marks) old command
      → ChangesNoMore (marked marks) old command reply new

module _ {H : Type 0} (HostStep : List H → ℕ → Option ℕ → List Val → Store → Answer → Store
    → List H → Type 0) where
  -- Each command of a run changes only what it can reach.
  abbrev pub AllKeepToTheirReach : {old last : Embedding H} {commands : List Command}
      {replies : List Reply} → AppliesAll HostStep old commands replies last → Type 0
  AllKeepToTheirReach none = Unit {0}
  AllKeepToTheirReach (then_on {old = at} {between = next} {command = command} {reply = reply}
      step rest) =
      KeepsToItsReach at command reply next × KeepsToRegions at command reply next
      × AllKeepToTheirReach rest

  -- These replies to these commands are possible.
  abbrev pub MayReply : Embedding H → List Command → List Reply → Type 0
  MayReply at commands replies = (last : Embedding H) × AppliesAll HostStep at commands replies last

module _ {H : Type 0} (host_type : H → FuncType)
    (Answers : H → List Val → List ℕ → Answer → List ℕ → H → Type 0) where
  -- Whatever list of commands is applied to a fresh embedding, each changes only what it can reach.
  abbrev pub CommandsKeepToTheirReach : Type 0
  CommandsKeepToTheirReach = (setup : Setup) (definitions : List (HostDefinition H))
      (fresh last : Embedding H) (commands : List Command) (replies : List Reply)
      → Creates host_type setup definitions (Ok fresh)
      → (run : AppliesAll (IsHostStep host_type Answers) fresh commands replies last)
      → AllKeepToTheirReach (IsHostStep host_type Answers) run

  -- An instance is in a region, and a command reaches no further than another region, which is apart from it.
  pub record IsOthersCommand (region theirs : Region) (old : Embedding H) (number : ℕ)
      (command : Command) (reply : Reply) (new : Embedding H) : Type 0 where
    pub closed : IsClosed region old.state.store
    pub there : IsThere region old.state.store
    pub instance : HasInstance region old number
    pub their_closed : IsClosed theirs old.state.store
    pub apart : AreApart region theirs
    pub reach : ReachesNoFurther theirs old command
    pub applies : Applies (IsHostStep host_type Answers) old command reply new
    pub hosts : LeavesHosts region theirs old new

  -- Such a command never changes what the instance replies: after it the same replies are possible as before, once the fuel is
  -- set.
  abbrev pub OthersChangeNoAnswers : Type 0
  OthersChangeNoAnswers = (setup : Setup) (definitions : List (HostDefinition H))
      (fresh old new : Embedding H) (before commands : List Command) (replied replies : List Reply)
      (mine theirs : Marks) (number fuel : ℕ) (command : Command) (reply : Reply)
      → Creates host_type setup definitions (Ok fresh)
      → AppliesAll (IsHostStep host_type Answers) fresh before replied old
      → IsOthersCommand (marked mine) (marked theirs) old number command reply new
      → All (AsksWithin (marked mine) number) commands
      → MayReply (IsHostStep host_type Answers) old (SetFuel fuel ∷ commands) replies
      ↔ MayReply (IsHostStep host_type Answers) new (SetFuel fuel ∷ commands) replies

  -- The same, by what can be reached: the command reaches no table, memory, global or segment that an instance can reach when it
  -- is asked by these commands. The functions that arguments refer to are there.
  pub record IsOutOfReach (old : Embedding H) (number : ℕ) (commands : List Command)
      (command : Command) (reply : Reply) (new : Embedding H) : Type 0 where
    pub instance : ℕ
    pub is : slice_get old.instances number ≡ Some instance
    pub arguments : (place : Place) → AreMentioned commands place
        → IsPlaceIn old.state.store place
    pub apart : AreApart (reach_when_asked old number commands) (reach_of old command)
    pub applies : Applies (IsHostStep host_type Answers) old command reply new
    pub hosts : LeavesHosts (reach_when_asked old number commands) (reach_of old command) old new

  abbrev pub OutOfReachChangesNoAnswers : Type 0
  OutOfReachChangesNoAnswers = (setup : Setup) (definitions : List (HostDefinition H))
      (fresh old new : Embedding H) (before commands : List Command) (replied replies : List Reply)
      (number fuel : ℕ) (command : Command) (reply : Reply)
      → length definitions < 2 ^ 32 → Creates host_type setup definitions (Ok fresh)
      → All LoadsBytes before
      → AppliesAll (IsHostStep host_type Answers) fresh before replied old
      → IsOutOfReach old number commands command reply new
      → All (Asks number) commands
      → MayReply (IsHostStep host_type Answers) old (SetFuel fuel ∷ commands) replies
      ↔ MayReply (IsHostStep host_type Answers) new (SetFuel fuel ∷ commands) replies

-- For all host functions.
pub record CallsAreIsolated (H : Type 0) : Type 0 where
  pub reach : (hosts : Behaviour H) → CommandsKeepToTheirReach hosts.type (AnswersBy hosts)
  pub others : (hosts : Behaviour H) → OthersChangeNoAnswers hosts.type (AnswersBy hosts)
  pub out_of_reach : (hosts : Behaviour H)
      → OutOfReachChangesNoAnswers hosts.type (AnswersBy hosts)
