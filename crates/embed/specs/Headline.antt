-- The headline, of embeddings with these definitions of host functions.
use Rattle.std.specs.Prelude.{◌≡◌, List, Ok, map}
use Rattle.std.specs.List.{All}
use Rattle.meaning.specs.embedding.Commands.{Command, Reply}
use Rattle.meaning.specs.embedding.Creation.{Creates}
use Rattle.meaning.specs.embedding.Machine.{AppliesAll, Embedding, Setup}
use Rattle.soundness.specs.Embedding.{LoadsBytes}
use Rattle.soundness.specs.Headline.{AllAreAsSaid, states_of}
use Rattle.hostfunc.specs.Boxes.{HostStep, OwnHostStep, type_of_host}
use Rattle.hostfunc.specs.declared.host_function.HostFn.{Ghosts}
use Rattle.hostfunc.specs.declared.host_object.HostObject.{HostObject}
use Rattle.embed.specs.Definitions.{definition_of}
use Rattle.embed.specs.declared.host_definitions.HostDef.{HostDef}

module _ {I : Type 0} {F : I → Type 0} (members : (i : I) → Ghosts (F i)) where
  -- Any list of commands is applied to a fresh embedding. In its run, host functions act by the relations of their objects alone, through
  -- the same embeddings. Each call and each link in the run is as the headline states.
  abbrev pub IsAsTheHeadlineSays : List (HostDef I F) → Type 0
  IsAsTheHeadlineSays definitions =
      (setup : Setup) (fresh last : Embedding (HostObject I F)) (commands : List Command)
      (replies : List Reply)
      → Creates type_of_host setup (map (definition_of members) definitions) (Ok fresh)
      → All LoadsBytes commands
      → (given : AppliesAll (HostStep members) fresh commands replies last)
      → (run : AppliesAll (OwnHostStep members) fresh commands replies last)
      × (states_of (OwnHostStep members) run ≡ states_of (HostStep members) given)
      × AllAreAsSaid (OwnHostStep members) run
