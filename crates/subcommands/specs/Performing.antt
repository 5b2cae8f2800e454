-- What the program does.
use Rattle.std.specs.Prelude.{◌≡◌, ℕ, List, Ok}
use Rattle.std.specs.List.{All}
use Rattle.command_line.specs.Subcommands.{AsksFor}
use Rattle.command_line.specs.declared.words.CallSubcommand.{CallSubcommand}
use Rattle.command_line.specs.declared.words.Subcommand.{Subcommand}
use Rattle.command_line.specs.declared.words.Subcommand.TheVariants.{Script, Call, Check}
use Rattle.command_line.specs.declared.words.ScriptSubcommand.{ScriptSubcommand}
use Rattle.core_types.specs.declared.module.Module.{Module}
use Rattle.embed.specs.declared.host_definitions.HostDef.{HostDef}
use Rattle.exec.specs.Endings.{ending_of}
use Rattle.hostfunc.specs.declared.host_function.HostFn.{Ghosts}
use Rattle.hostfunc.specs.declared.host_object.HostObject.{HostObject}
use Rattle.meaning.specs.embedding.Machine.{Embedding, IsDecoded}
use Rattle.meaning.specs.scripts.Commands.{ScriptCommand, files_in}
use Rattle.meaning.specs.validation.Modules.{IsValid}
use Rattle.scripts.specs.Faults.{ReadsScript}
use Rattle.scripts.specs.Runs.{Runs}
use Rattle.scripts.specs.declared.report.Report.{Report}
use Rattle.subcommands.specs.Embeddings.{EndsCall, IsReady}
use Rattle.subcommands.specs.Files.{AreBytesOf, Contents, IsNamedFile}
use Rattle.subcommands.specs.declared.performing.CallEnd.{CallEnd}
use Rattle.subcommands.specs.declared.performing.End.{End}
use Rattle.subcommands.specs.declared.performing.End.TheVariants.{Ran, Called, Valid}

-- The bytes encode a valid module within the limits.
abbrev pub SpellValidModule : (bytes : List ℕ) → Type 0
SpellValidModule bytes = (m : Module) × IsDecoded bytes m × IsValid m

-- The file at a path encodes a valid module within the limits.
abbrev pub IsChecked : Contents → (path : List ℕ) → Type 0
IsChecked contents path =
    (bytes : List ℕ) × AreBytesOf contents path bytes × SpellValidModule bytes

-- The file at a path contains this script.
abbrev pub IsScriptIn : Contents → (path : List ℕ) → List ScriptCommand → Type 0
IsScriptIn contents path script =
    (bytes : List ℕ) × AreBytesOf contents path bytes × ReadsScript bytes (Ok script)

module _ {I : Type 0} {F : I → Type 0} (members : (i : I) → Ghosts (F i)) where
  -- The call of a subcommand, for the module that the bytes encode. It is made by commands in a new embedding with the host functions, the
  -- fuel and the depth bound. It ends like this, and leaves this fuel.
  pub record CallsBytes (hosts : List (HostDef I F)) (subcommand : CallSubcommand) (bytes : List ℕ)
      (call : CallEnd) : Type 0 where
    pub ready : Embedding (HostObject I F)
    pub is_ready : IsReady members subcommand.fuel subcommand.depth hosts ready
    pub last : Embedding (HostObject I F)
    pub ended : EndsCall members ready subcommand bytes (ending_of call.outcome) last
    pub left : call.fuel_left ≡ last.state.fuel

  -- The call of a subcommand, for the module in the file of the subcommand.
  abbrev pub IsCalled : Contents → List (HostDef I F) → CallSubcommand → CallEnd → Type 0
  IsCalled contents hosts subcommand call = (bytes : List ℕ)
      × AreBytesOf contents subcommand.file.now bytes × CallsBytes hosts subcommand bytes call

  -- The run of a script with these files, in a new embedding with the host functions, the fuel and the depth bound.
  pub record RunsFiles (hosts : List (HostDef I F)) (subcommand : ScriptSubcommand)
      (script : List ScriptCommand) (files : List (List ℕ × List ℕ)) (report : Report) : Type 0
    where
      pub ready : Embedding (HostObject I F)
      pub is_ready : IsReady members subcommand.fuel subcommand.depth hosts ready
      pub last : Embedding (HostObject I F)
      pub ran : Runs members script (files_in files) ready (Ok report) last

  -- The run of the script in the file of the subcommand, with the files that it names beside it.
  pub record IsRun (contents : Contents) (hosts : List (HostDef I F))
      (subcommand : ScriptSubcommand) (report : Report) : Type 0 where
    pub script : List ScriptCommand
    pub read : IsScriptIn contents subcommand.file.now script
    pub files : List (List ℕ × List ℕ)
    pub named : All (IsNamedFile contents subcommand.file.now) files
    pub ran : RunsFiles hosts subcommand script files report

  -- A subcommand was performed, with this result.
  abbrev pub Does : Contents → List (HostDef I F) → Subcommand → End → Type 0
  Does contents hosts (Script subcommand) (Ran report) = IsRun contents hosts subcommand report
  Does contents hosts (Call subcommand) (Called call) = IsCalled contents hosts subcommand call
  Does contents hosts (Check path) Valid = IsChecked contents path.now
  Does contents hosts subcommand end = ⊥

  -- What the arguments request was performed, with this result.
  abbrev pub Performs : Contents → List (HostDef I F) → (words : List (List ℕ)) → End → Type 0
  Performs contents hosts words end =
      (subcommand : Subcommand) × AsksFor words subcommand × Does contents hosts subcommand end
