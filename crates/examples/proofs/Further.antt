-- Instances stay strangers with one more command that passes nothing on.
use Rattle.std.proofs.Common.{◌≡◌, List, [], ◌∷◌, ◌++◌, map, subst}
use Rattle.std.specs.Prelude.{Result, Ok, Err, IfOk}
use Rattle.std.proofs.lemmas.List.Elements.{All-append}
use Rattle.std.specs.List.{All}
use Rattle.meaning.specs.embedding.Commands.{Command, Reply}
use Rattle.meaning.specs.embedding.Machine.{Applies, AppliesAll, Embedding, Setup, none, then_on}
use Rattle.meaning.specs.embedding.Creation.{Creates}
use Rattle.soundness.proofs.Objects.{All-first, All-none}
use Rattle.soundness.specs.Embedding.{LoadsBytes}
use Rattle.hostfunc.specs.Boxes.{HostStep, type_of_host}
use Rattle.hostfunc.specs.declared.host_function.HostFn.{Ghosts}
use Rattle.hostfunc.specs.declared.host_object.HostObject.{HostObject}
use Rattle.isolation.specs.Apart.{GivesNothing}
use Rattle.embed.specs.Contents.{embedding_of}
use Rattle.embed.specs.Created.{created}
use Rattle.embed.specs.Definitions.{definition_of}
use Rattle.embed.specs.declared.embedding.Embedding.{Embedding as Kept}
use Rattle.embed.specs.declared.host_definitions.HostDef.{HostDef}
use Rattle.embed.specs.declared.new_fault.NewFault.{NewFault}
use Rattle.examples.specs.Strangers.{AreStrangers}

module _ {I : Type 0} {F : I → Type 0} (members : (i : I) → Ghosts (F i)) where
  one-further : {old at new : Embedding (HostObject I F)} {commands : List Command} {replies : List Reply} (command : Command) (reply : Reply)
      → AppliesAll (HostStep members) old commands replies at → Applies (HostStep members) at command reply new
      → AppliesAll (HostStep members) old (commands ++ command ∷ []) (replies ++ reply ∷ []) new
  one-further command reply none step = then_on step none
  one-further command reply (then_on first rest) step = then_on first (one-further command reply rest step)

  one-more : (P : Command → Type 0) (commands : List Command) (command : Command) → All P commands → P command → All P (commands ++ command ∷ [])
  one-more P commands command all one = All-append P commands (command ∷ []) all (All-first P command [] one (All-none P))

  pub still-strangers : {at new : Embedding (HostObject I F)} (command : Command) (reply : Reply) → AreStrangers members at → LoadsBytes command
      → GivesNothing command → Applies (HostStep members) at command reply new → AreStrangers members new
  still-strangers command reply were bytes gives step = record {
    setup = were.setup;
    commands = were.commands ++ command ∷ [];
    replies = were.replies ++ reply ∷ [];
    come = record {
      fresh = were.come.fresh;
      created = were.come.created;
      bytes = one-more LoadsBytes were.commands command were.come.bytes bytes;
      applied = one-further command reply were.come.applied step;
    };
    nothing = one-more GivesNothing were.commands command were.nothing gives;
  }

  -- The instances of a fresh embedding without host functions are strangers.
  fresh-strangers : (setup : Setup) (fresh : Embedding (HostObject I F)) → Creates type_of_host setup (map (definition_of members) []) (Ok fresh) → AreStrangers members fresh
  fresh-strangers setup fresh is = record {
    setup = setup;
    commands = [];
    replies = [];
    come = record { fresh = fresh; created = is; bytes = All-none LoadsBytes; applied = none };
    nothing = All-none GivesNothing;
  }

  pub created-strangers : (setup : Setup) (hosts : List (HostDef I F)) → hosts ≡ [] → (result : Result (Kept I F) NewFault)
      → Creates type_of_host setup (map (definition_of members) hosts) (created result) → IfOk result (λ at. AreStrangers members (embedding_of at))
  created-strangers setup hosts nothing (Ok at) is = fresh-strangers setup (embedding_of at)
      (subst (λ (ds : List (HostDef I F)). Creates type_of_host setup (map (definition_of members) ds) (Ok (embedding_of at))) nothing is)
  created-strangers setup hosts nothing (Err why) is = tt
