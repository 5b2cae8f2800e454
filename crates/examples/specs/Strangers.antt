-- Instances that share nothing, in an embedding without host functions.
use Rattle.std.specs.Prelude.{◌≡◌, ℕ, ◌<◌, ◌↔◌, List, [], ◌∷◌, length}
use Rattle.std.specs.List.{All}
use Rattle.meaning.specs.embedding.Commands.{Command, Call, SetFuel, Reply}
use Rattle.meaning.specs.embedding.Machine.{Embedding, Setup}
use Rattle.hostfunc.specs.Boxes.{HostStep}
use Rattle.hostfunc.specs.declared.host_function.HostFn.{Ghosts}
use Rattle.hostfunc.specs.declared.host_object.HostObject.{HostObject}
use Rattle.isolation.specs.Apart.{GivesNothing}
use Rattle.isolation.specs.Commands.{MayReply}
use Rattle.embed.specs.Isolation.{HasCome}

module _ {I : Type 0} {F : I → Type 0} (members : (i : I) → Ghosts (F i)) where
  -- The embedding has no host functions, and its commands passed nothing from one instance to another.
  pub record AreStrangers (at : Embedding (HostObject I F)) : Type 0 where
    pub setup : Setup
    pub commands : List Command
    pub replies : List Reply
    pub come : HasCome members [] setup commands replies at
    pub nothing : All GivesNothing commands

  -- Each other instance has the same possible replies to each question, once the fuel is set.
  abbrev pub OthersReplyTheSame : (number : ℕ) → (old new : Embedding (HostObject I F)) → Type 0
  OthersReplyTheSame number old new = (other fuel : ℕ) (question : List ℕ) (replies : List Reply)
      → (number ≡ other → ⊥) → other < length old.instances
      → MayReply (HostStep members) old (SetFuel fuel ∷ Call other question [] ∷ []) replies
      ↔ MayReply (HostStep members) new (SetFuel fuel ∷ Call other question [] ∷ []) replies
