-- Fuel is only a bound, and so is depth.
use Rattle.std.specs.Prelude.{◌≡◌, ℕ, ◌+◌, ◌<◌, ◌≤◌, ◌⊎◌, List, [], ◌∷◌, Option}
use Rattle.std.specs.List.{All}
use Rattle.core_types.specs.declared.module.Module.{Module}
use Rattle.core_types.specs.declared.outcome.Extern.{Extern}
use Rattle.core_types.specs.declared.outcome.Val.{Val}
use Rattle.meaning.specs.embedding.Commands.{Command, Load, Link, Register, Call, GetGlobal, SetFuel, Reply, Ended}
use Rattle.meaning.specs.embedding.Machine.{Applies, AppliesAll, Embedding}
use Rattle.meaning.specs.execution.Configurations.{Configuration, Frame}
use Rattle.meaning.specs.execution.Instructions.{next}
use Rattle.meaning.specs.execution.Modules.{Instantiation}
use Rattle.meaning.specs.execution.Runs.{Answer, Ending, OutOfFuel, OutOfDepth, OutOfMemory, Run, State, Steps, price}
use Rattle.meaning.specs.execution.Store.{Store}
use Rattle.soundness.specs.Costs.{cost_of_run}
use Rattle.isolation.specs.Determinism.{HadMemory, HostsAreFunctions, IsSameReply}
use Rattle.isolation.specs.Hosts.{AnswersBy, Behaviour, HostStepBy}

-- ---- more and less

module _ {H : Type 0} where
  -- The state with more fuel.
  abbrev pub with_more : State H → (more : ℕ) → State H
  with_more at more = record at { fuel = at.fuel + more }

  -- The embedding with more fuel.
  abbrev pub fuelled : Embedding H → (more : ℕ) → Embedding H
  fuelled at more = record at { state = with_more at.state more }

  -- The embedding with this bound on open frames.
  abbrev pub bounded : Embedding H → (depth : ℕ) → Embedding H
  bounded at depth = record at { setup = record at.setup { depth = depth } }

module _ {H : Type 0} (HostStep : List H → ℕ → Option ℕ → List Val → Store → Answer → Store
    → List H → Type 0) (bound : ℕ) (outside : Frame) where
  -- With less fuel a run takes the same steps as far as the fuel lasts, and then ends out of fuel.
  pub record EndsEarly (old : State H) (first : Configuration) (less : ℕ) : Type 0 where
    pub at : State H
    pub reached : Configuration
    pub same_steps : Steps HostStep bound outside (with_more old less) first (with_more at less)
        reached
    pub steps : Steps HostStep bound outside old first at reached
    pub passes_fuel : at.fuel < price (next at.store outside reached)
    pub ends : Run HostStep bound outside old first OutOfFuel at

  -- Steps are the same with more fuel.
  abbrev pub StepsNeedNoMore : Type 0
  StepsNeedNoMore = (old at : State H) (first reached : Configuration) (more : ℕ)
      → Steps HostStep bound outside old first at reached
      → Steps HostStep bound outside (with_more old more) first (with_more at more) reached

  -- A run that does not end out of fuel ends the same with more fuel, and that much more is left.
  abbrev pub RunsNeedNoMore : Type 0
  RunsNeedNoMore = (old last : State H) (first : Configuration) (ending : Ending) (more : ℕ)
      → Run HostStep bound outside old first ending last → (ending ≡ OutOfFuel → ⊥)
      → Run HostStep bound outside (with_more old more) first ending (with_more last more)

  -- With less fuel than a run costs, its first steps are taken, and then it ends out of fuel.
  abbrev pub RunsEndEarly : Type 0
  RunsEndEarly = (old last : State H) (first : Configuration) (ending : Ending) (less : ℕ)
      (run : Run HostStep bound outside (with_more old less) first ending last)
      → old.fuel < cost_of_run HostStep bound outside run
      → EndsEarly old first less

  -- If host functions are functions, each run with less fuel ends so, unless it runs out of memory.
  abbrev pub RunsAllEndEarly : Type 0
  RunsAllEndEarly = (old last last' : State H) (first : Configuration) (ending ending' : Ending)
      (less : ℕ) (run : Run HostStep bound outside (with_more old less) first ending last)
      → old.fuel < cost_of_run HostStep bound outside run
      → Run HostStep bound outside old first ending' last' → (ending' ≡ OutOfMemory → ⊥)
      → ending' ≡ OutOfFuel

-- ---- the laws

module _ {H : Type 0} (HostStep : List H → ℕ → Option ℕ → List Val → Store → Answer → Store
    → List H → Type 0) where
  -- A call that does not end out of fuel has the same reply with more fuel, and that much more is left.
  abbrev pub CallsNeedNoMore : Type 0
  CallsNeedNoMore = (old new : Embedding H) (number : ℕ) (name : List ℕ) (arguments : List Val)
      (reply : Reply) (more : ℕ)
      → Applies HostStep old (Call number name arguments) reply new → (reply ≡ Ended OutOfFuel → ⊥)
      → Applies HostStep (fuelled old more) (Call number name arguments) reply (fuelled new more)

  -- A run that does not end out of depth ends the same under a larger bound.
  abbrev pub RunsNeedNoDeeper : Type 0
  RunsNeedNoDeeper = (bound deeper : ℕ) (outside : Frame) (old last : State H)
      (first : Configuration) (ending : Ending)
      → bound ≤ deeper → Run HostStep bound outside old first ending last
      → (ending ≡ OutOfDepth → ⊥)
      → Run HostStep deeper outside old first ending last

  -- A call that does not end out of depth has the same reply under a larger bound.
  abbrev pub CallsNeedNoDeeper : Type 0
  CallsNeedNoDeeper = (old new : Embedding H) (number : ℕ) (name : List ℕ) (arguments : List Val)
      (reply : Reply) (deeper : ℕ)
      → old.setup.depth ≤ deeper → Applies HostStep old (Call number name arguments) reply new
      → (reply ≡ Ended OutOfDepth → ⊥)
      → Applies HostStep (bounded old deeper) (Call number name arguments) reply
      (bounded new deeper)

-- The command does not set the fuel.
abbrev pub SetsNoFuel : Command → Type 0
SetsNoFuel (Load bytes) = Unit {0}
SetsNoFuel (Link number) = Unit {0}
SetsNoFuel (Register number name) = Unit {0}
SetsNoFuel (Call number name arguments) = Unit {0}
SetsNoFuel (GetGlobal number name) = Unit {0}
SetsNoFuel (SetFuel fuel) = ⊥

module _ {H : Type 0} (HostStep : List H → ℕ → Option ℕ → List Val → Store → Answer → Store
    → List H → Type 0) where
  -- So has each command that does not set the fuel, and consecutive commands.
  abbrev pub CommandsNeedNoMore : Type 0
  CommandsNeedNoMore = (old new : Embedding H) (command : Command) (reply : Reply) (more : ℕ)
      → SetsNoFuel command → Applies HostStep old command reply new
      → (reply ≡ Ended OutOfFuel → ⊥)
      → Applies HostStep (fuelled old more) command reply (fuelled new more)

  abbrev pub CommandListsNeedNoMore : Type 0
  CommandListsNeedNoMore = (old last : Embedding H) (commands : List Command)
      (replies : List Reply) (more : ℕ)
      → All SetsNoFuel commands → AppliesAll HostStep old commands replies last
      → All (λ reply. reply ≡ Ended OutOfFuel → ⊥) replies
      → AppliesAll HostStep (fuelled old more) commands replies (fuelled last more)

  -- The same for each command under a larger bound, and for consecutive commands.
  abbrev pub CommandsNeedNoDeeper : Type 0
  CommandsNeedNoDeeper = (old new : Embedding H) (command : Command) (reply : Reply) (deeper : ℕ)
      → old.setup.depth ≤ deeper → Applies HostStep old command reply new
      → (reply ≡ Ended OutOfDepth → ⊥)
      → Applies HostStep (bounded old deeper) command reply (bounded new deeper)

  abbrev pub CommandListsNeedNoDeeper : Type 0
  CommandListsNeedNoDeeper = (old last : Embedding H) (commands : List Command)
      (replies : List Reply) (deeper : ℕ)
      → old.setup.depth ≤ deeper → AppliesAll HostStep old commands replies last
      → All (λ reply. reply ≡ Ended OutOfDepth → ⊥) replies
      → AppliesAll HostStep (bounded old deeper) commands replies (bounded last deeper)

-- ---- less fuel, for links and for consecutive commands

module _ {H : Type 0} (HostStep : List H → ℕ → Option ℕ → List Val → Store → Answer → Store
    → List H → Type 0) where
  -- A link that spends some of its additional fuel ends out of fuel without it.
  abbrev pub LinksEndEarly : Type 0
  LinksEndEarly = (bound : ℕ) (m : Module) (given : List Extern) (old last : State H)
      (ending : Ending) (less : ℕ)
      → Instantiation HostStep bound m given (with_more old less) ending last → last.fuel < less
      → (at : State H) × Instantiation HostStep bound m given old OutOfFuel at

  -- If host functions are functions, each such link ends so, unless it runs out of memory.
  abbrev pub LinksAllEndEarly : Type 0
  LinksAllEndEarly = (bound : ℕ) (m : Module) (given : List Extern) (old last last' : State H)
      (ending ending' : Ending) (less : ℕ)
      → Instantiation HostStep bound m given (with_more old less) ending last → last.fuel < less
      → Instantiation HostStep bound m given old ending' last' → (ending' ≡ OutOfMemory → ⊥)
      → ending' ≡ OutOfFuel

  -- With less fuel consecutive commands have the same replies: all of them, with that much less left, or those before a command
  -- that ends out of fuel.
  pub data SameUntilOutOfFuel (less : ℕ) : Embedding H → List Command → List Reply
      → (last : Embedding H) → Type 0 where
    all_same : {at : Embedding H} → SameUntilOutOfFuel less at [] [] (fuelled at less)
    same : {old between last : Embedding H} {command : Command} {commands : List Command}
        {reply : Reply} {replies : List Reply}
        → Applies HostStep old command reply between
        → SameUntilOutOfFuel less between commands replies last
        → SameUntilOutOfFuel less old (command ∷ commands) (reply ∷ replies) last
    out_of_fuel : {old last : Embedding H} {command : Command} {commands : List Command}
        {reply : Reply} {replies : List Reply} (between : Embedding H)
        → Applies HostStep old command (Ended OutOfFuel) between
        → SameUntilOutOfFuel less old (command ∷ commands) (reply ∷ replies) last

  abbrev pub CommandListsEndEarly : Type 0
  CommandListsEndEarly = (old last : Embedding H) (commands : List Command) (replies : List Reply)
      (less : ℕ)
      → All SetsNoFuel commands → AppliesAll HostStep (fuelled old less) commands replies last
      → SameUntilOutOfFuel less old commands replies last

-- The replies are the same, or those before one that is out of fuel.
abbrev pub AgreeUntilOutOfFuel : List Command → (more less : List Reply) → Type 0
AgreeUntilOutOfFuel [] [] [] = Unit {0}
AgreeUntilOutOfFuel (command ∷ commands) (a ∷ others) (b ∷ more) =
    (b ≡ Ended OutOfFuel)
    ⊎ (IsSameReply command a b × AgreeUntilOutOfFuel commands others more)
AgreeUntilOutOfFuel commands others more = ⊥

module _ {H : Type 0} (HostStep : List H → ℕ → Option ℕ → List Val → Store → Answer → Store
    → List H → Type 0) where
  -- If host functions are functions, all replies with less fuel are so, if memory does not run out.
  abbrev pub CommandListsAllEndEarly : Type 0
  CommandListsAllEndEarly = (old last last' : Embedding H) (commands : List Command)
      (replies replies' : List Reply) (less : ℕ)
      → All SetsNoFuel commands → AppliesAll HostStep (fuelled old less) commands replies last
      → AppliesAll HostStep old commands replies' last'
      → All HadMemory replies → All HadMemory replies'
      → AgreeUntilOutOfFuel commands replies replies'

-- For all host functions, more fuel changes nothing if there was enough.
pub record MoreFuelChangesNothing (H : Type 0) : Type 0 where
  pub steps : (hosts : Behaviour H) (bound : ℕ) (outside : Frame)
      → StepsNeedNoMore (HostStepBy hosts) bound outside
  pub runs : (hosts : Behaviour H) (bound : ℕ) (outside : Frame)
      → RunsNeedNoMore (HostStepBy hosts) bound outside
  pub calls : (hosts : Behaviour H) → CallsNeedNoMore (HostStepBy hosts)
  pub commands : (hosts : Behaviour H) → CommandsNeedNoMore (HostStepBy hosts)
  pub command_lists : (hosts : Behaviour H) → CommandListsNeedNoMore (HostStepBy hosts)

-- With less fuel everything is the same as far as the fuel lasts, and then ends out of fuel.
pub record LessFuelEndsEarly (H : Type 0) : Type 0 where
  pub one : (hosts : Behaviour H) (bound : ℕ) (outside : Frame)
      → RunsEndEarly (HostStepBy hosts) bound outside
  pub all : (hosts : Behaviour H) (bound : ℕ) (outside : Frame)
      → HostsAreFunctions hosts.type (AnswersBy hosts)
      → RunsAllEndEarly (HostStepBy hosts) bound outside
  pub links : (hosts : Behaviour H) → LinksEndEarly (HostStepBy hosts)
  pub all_links : (hosts : Behaviour H) → HostsAreFunctions hosts.type (AnswersBy hosts)
      → LinksAllEndEarly (HostStepBy hosts)
  pub command_lists : (hosts : Behaviour H) → CommandListsEndEarly (HostStepBy hosts)
  pub all_command_lists : (hosts : Behaviour H)
      → HostsAreFunctions hosts.type (AnswersBy hosts)
      → CommandListsAllEndEarly (HostStepBy hosts)

-- A larger bound on open frames changes nothing if the bound was enough.
pub record DeeperBoundsChangeNothing (H : Type 0) : Type 0 where
  pub runs : (hosts : Behaviour H) → RunsNeedNoDeeper (HostStepBy hosts)
  pub calls : (hosts : Behaviour H) → CallsNeedNoDeeper (HostStepBy hosts)
  pub commands : (hosts : Behaviour H) → CommandsNeedNoDeeper (HostStepBy hosts)
  pub command_lists : (hosts : Behaviour H) → CommandListsNeedNoDeeper (HostStepBy hosts)
