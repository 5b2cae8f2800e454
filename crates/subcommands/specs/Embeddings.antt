-- The embeddings that the program creates, and what it does with them.
use Rattle.std.specs.Prelude.{ℕ, List, [], ◌∷◌, Ok, codes, map}
use Rattle.std.specs.List.{All}
use Rattle.command_line.specs.declared.words.CallSubcommand.{CallSubcommand}
use Rattle.core_types.specs.declared.outcome.Val.{Val}
use Rattle.embed.specs.Definitions.{definition_of}
use Rattle.embed.specs.declared.host_definitions.HostDef.{HostDef}
use Rattle.hostfunc.specs.Boxes.{HostStep, type_of_host}
use Rattle.hostfunc.specs.declared.host_function.HostFn.{Ghosts}
use Rattle.hostfunc.specs.declared.host_object.HostObject.{HostObject}
use Rattle.meaning.specs.embedding.Commands.{Command, Load, Link, Register, Call, Reply, Loaded, Linked, Ended, Refused}
use Rattle.meaning.specs.embedding.Creation.{Creates}
use Rattle.meaning.specs.embedding.Machine.{Embedding, Setup}
use Rattle.meaning.specs.execution.Runs.{Ending}
use Rattle.soundness.specs.Headline.{AppliesWell, RunsWell}
use Rattle.subcommands.specs.Arguments.{AreArguments}
use Rattle.subcommands.specs.declared.spectest.TheConstants.{SPECTEST}

-- The setup with this fuel and this depth bound. A memory has at most 1,024 pages, and a table at most 1,000,000 entries.
abbrev pub setup_of : (fuel depth : ℕ) → Setup
setup_of fuel depth =
    record { fuel = fuel; depth = depth; pages = 1024; entries = 1_000_000 }

-- The stored module is loaded, linked and registered as `spectest`.
abbrev pub spectest_commands : List Command
spectest_commands = Load SPECTEST.now ∷ Link 0 ∷ Register 0 (codes "spectest") ∷ []

-- A command was carried out: its reply is neither a refusal nor the end of a run of code.
abbrev pub IsCarriedOut : Reply → Type 0
IsCarriedOut (Refused why) = ⊥
IsCarriedOut (Ended ending) = ⊥
IsCarriedOut reply = Unit {0}

module _ {I : Type 0} {F : I → Type 0} (members : (i : I) → Ghosts (F i)) where
  -- An embedding that was created with this fuel, this depth bound and these host functions, before any command.
  abbrev pub IsFresh : (fuel depth : ℕ) → List (HostDef I F) → Embedding (HostObject I F) → Type 0
  IsFresh fuel depth hosts at =
      Creates type_of_host (setup_of fuel depth) (map (definition_of members) hosts) (Ok at)

  -- The stored module was registered in the embedding.
  pub record WithSpectest (old new : Embedding (HostObject I F)) : Type 0 where
    pub replies : List Reply
    pub applied : RunsWell (HostStep members) old spectest_commands replies new
    pub carried_out : All IsCarriedOut replies

  -- An embedding that was created like this, after the stored module was registered in it.
  pub record IsReady (fuel depth : ℕ) (hosts : List (HostDef I F))
      (at : Embedding (HostObject I F)) : Type 0 where
    pub fresh : Embedding (HostObject I F)
    pub created : IsFresh fuel depth hosts fresh
    pub registered : WithSpectest fresh at

  -- The export of this instance that the subcommand names is called, with the arguments that the subcommand's texts represent.
  pub record EndsExport (old : Embedding (HostObject I F)) (subcommand : CallSubcommand)
      (instance : ℕ) (ending : Ending) (new : Embedding (HostObject I F)) : Type 0 where
    pub arguments : List Val
    pub are : AreArguments subcommand.args.items arguments
    pub called : AppliesWell (HostStep members) old (Call instance subcommand.export.now arguments)
        (Ended ending) new

  -- The module that the bytes encode is loaded and linked, and the export that the subcommand names is called. If the link ends in a trap or
  -- an exhaustion, the call ends in the same way.
  pub data EndsCall (old : Embedding (HostObject I F)) (subcommand : CallSubcommand)
      (bytes : List ℕ) (ending : Ending) (new : Embedding (HostObject I F)) : Type 0 where
    in_link : {loaded : Embedding (HostObject I F)} {number : ℕ}
        → AppliesWell (HostStep members) old (Load bytes) (Loaded number) loaded
        → AppliesWell (HostStep members) loaded (Link number) (Ended ending) new
        → EndsCall old subcommand bytes ending new
    in_call : {loaded linked : Embedding (HostObject I F)} {number instance : ℕ}
        → AppliesWell (HostStep members) old (Load bytes) (Loaded number) loaded
        → AppliesWell (HostStep members) loaded (Link number) (Linked instance) linked
        → EndsExport linked subcommand instance ending new
        → EndsCall old subcommand bytes ending new
