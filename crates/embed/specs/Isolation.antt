-- What hosts of plug-ins and platforms of contracts require of embeddings with these definitions of host functions.
use Rattle.std.specs.Prelude.{◌≡◌, ℕ, ◌+◌, ◌<◌, ◌↔◌, List, ◌∷◌, Ok, length, map}
use Rattle.std.specs.List.{All}
use Rattle.meaning.specs.embedding.Commands.{Command, SetFuel, Reply, Ended}
use Rattle.meaning.specs.embedding.Creation.{Creates}
use Rattle.meaning.specs.embedding.Machine.{Applies, AppliesAll, Embedding, Setup, with_fuel}
use Rattle.meaning.specs.execution.Runs.{OutOfFuel}
use Rattle.soundness.specs.Embedding.{LoadsBytes}
use Rattle.hostfunc.specs.Boxes.{HostStep, type_of_host}
use Rattle.hostfunc.specs.declared.host_function.HostFn.{Ghosts}
use Rattle.hostfunc.specs.declared.host_object.HostObject.{HostObject}
use Rattle.isolation.specs.Apart.{DoesNotCall, GivesNothing}
use Rattle.isolation.specs.Commands.{Asks, KeepsToItsReach, MayReply}
use Rattle.isolation.specs.Determinism.{AreSameReplies, HadMemory}
use Rattle.isolation.specs.Engine.{KindIsFunction, KindKeepsNothing}
use Rattle.isolation.specs.Fuel.{SameUntilOutOfFuel, SetsNoFuel, fuelled}
use Rattle.isolation.specs.Reach.{reach_from}
use Rattle.isolation.specs.Regions.{AreApart}
use Rattle.embed.specs.Definitions.{definition_of}
use Rattle.embed.specs.declared.host_definitions.HostDef.{HostDef}

module _ {I : Type 0} {F : I → Type 0} (members : (i : I) → Ghosts (F i)) where
  -- An embedding that was created with these definitions has come to this state, by these commands with these replies.
  pub record HasCome (definitions : List (HostDef I F)) (setup : Setup) (commands : List Command)
      (replies : List Reply) (at : Embedding (HostObject I F)) : Type 0 where
    pub fresh : Embedding (HostObject I F)
    pub created : Creates type_of_host setup (map (definition_of members) definitions) (Ok fresh)
    pub bytes : All LoadsBytes commands
    pub applied : AppliesAll (HostStep members) fresh commands replies at

  -- The results and the effects of the host function are a function of its object, its arguments and the bytes that it borrows.
  abbrev pub IsFunction : HostDef I F → Type 0
  IsFunction d = KindIsFunction members d.func.vtable

  -- The host function keeps nothing of one call for another.
  abbrev pub KeepsNothing : HostDef I F → Type 0
  KeepsNothing d = KindKeepsNothing members d.func.vtable

  -- A command changes only what it can reach.
  abbrev pub TouchesOnlyItsReach : List (HostDef I F) → Type 0
  TouchesOnlyItsReach definitions = (setup : Setup) (before : List Command) (replied : List Reply)
      (old new : Embedding (HostObject I F)) (command : Command) (reply : Reply)
      → HasCome definitions setup before replied old
      → Applies (HostStep members) old command reply new
      → KeepsToItsReach old command reply new

  -- Two instances share no table, memory, global or segment, if no command passed anything from one instance to another.
  abbrev pub InstancesAreIsolated : List (HostDef I F) → Type 0
  InstancesAreIsolated definitions = (setup : Setup) (commands : List Command)
      (replies : List Reply) (at : Embedding (HostObject I F)) (one other : ℕ)
      → HasCome definitions setup commands replies at → All GivesNothing commands
      → (one ≡ other → ⊥) → AreApart (reach_from at one) (reach_from at other)

  -- Under the same condition, if host functions also keep nothing, a command that does not call an instance never changes its replies.
  -- After the command, once the fuel is set, the same replies are possible as before.
  abbrev pub OthersChangeNoAnswers : List (HostDef I F) → Type 0
  OthersChangeNoAnswers definitions = (setup : Setup) (before asked : List Command)
      (replied replies : List Reply) (old new : Embedding (HostObject I F)) (number fuel : ℕ)
      (command : Command) (reply : Reply)
      → All KeepsNothing definitions → HasCome definitions setup before replied old
      → All GivesNothing before → number < length old.instances
      → Applies (HostStep members) old command reply new
      → GivesNothing command → DoesNotCall number command
      → All (Asks number) asked → All GivesNothing asked
      → MayReply (HostStep members) old (SetFuel fuel ∷ asked) replies
      ↔ MayReply (HostStep members) new (SetFuel fuel ∷ asked) replies

  -- The same commands have the same replies and lead to the same state, if host functions are functions and memory does not run out.
  abbrev pub RepliesAreDetermined : List (HostDef I F) → Type 0
  RepliesAreDetermined definitions = (setup : Setup) (commands : List Command)
      (replies_a replies_b : List Reply) (a b : Embedding (HostObject I F))
      → All IsFunction definitions → HasCome definitions setup commands replies_a a
      → HasCome definitions setup commands replies_b b
      → All HadMemory replies_a → All HadMemory replies_b
      → AreSameReplies commands replies_a replies_b × (a ≡ b)

  -- If no reply is out of fuel, the replies are the same with more fuel, and that much more is left.
  abbrev pub MoreFuelChangesNothing : Type 0
  MoreFuelChangesNothing = (old last : Embedding (HostObject I F)) (commands : List Command)
      (replies : List Reply) (fuel more : ℕ)
      → All SetsNoFuel commands
      → AppliesAll (HostStep members) (with_fuel old fuel) commands replies last
      → All (λ reply. reply ≡ Ended OutOfFuel → ⊥) replies
      → AppliesAll (HostStep members) (with_fuel old (fuel + more)) commands replies
      (fuelled last more)

  -- With less fuel the replies are the same: all of them, or those before one that is out of fuel.
  abbrev pub LessFuelEndsEarly : Type 0
  LessFuelEndsEarly = (old last : Embedding (HostObject I F)) (commands : List Command)
      (replies : List Reply) (fuel less : ℕ)
      → All SetsNoFuel commands
      → AppliesAll (HostStep members) (with_fuel old (fuel + less)) commands replies last
      → SameUntilOutOfFuel (HostStep members) less (with_fuel old fuel) commands replies last
