-- What was done in an embedding that was created for it.
use Rattle.std.proofs.Common.{◌≡◌, ℕ, List, Result, Ok, Err, IfOk}
use Rattle.command_line.specs.declared.words.CallSubcommand.{CallSubcommand}
use Rattle.command_line.specs.declared.words.ScriptSubcommand.{ScriptSubcommand}
use Rattle.embed.specs.declared.host_definitions.HostDef.{HostDef}
use Rattle.exec.specs.Endings.{ending_of}
use Rattle.hostfunc.specs.declared.host_function.HostFn.{Ghosts}
use Rattle.hostfunc.specs.declared.host_object.HostObject.{HostObject}
use Rattle.meaning.specs.embedding.Machine.{Embedding}
use Rattle.meaning.specs.scripts.Commands.{ScriptCommand, files_in}
use Rattle.scripts.specs.Runs.{Runs}
use Rattle.scripts.specs.declared.report.Report.{Report}
use Rattle.subcommands.specs.Embeddings.{EndsCall, IsReady}
use Rattle.subcommands.specs.Performing.{CallsBytes, RunsFiles}
use Rattle.subcommands.specs.declared.performing.CallEnd.{CallEnd}

module _ {I : Type 0} {F : I → Type 0} (members : (i : I) → Ghosts (F i)) where
  -- A call.
  pub bytes-called : {E : Type 0} {hosts : List (HostDef I F)} (subcommand : CallSubcommand) (bytes : List ℕ) {ready : Embedding (HostObject I F)} (last : Embedding (HostObject I F))
      (r : Result CallEnd E) → IsReady members subcommand.fuel subcommand.depth hosts ready
      → IfOk r (λ call. EndsCall members ready subcommand bytes (ending_of call.outcome) last) → IfOk r (λ call. call.fuel_left ≡ last.state.fuel)
      → IfOk r (CallsBytes members hosts subcommand bytes)
  bytes-called subcommand bytes {ready = ready} last (Ok call) is_ready ended left =
      record { ready = ready; is_ready = is_ready; last = last; ended = ended; left = left }
  bytes-called subcommand bytes last (Err why) is_ready ended left = tt

  -- A script.
  pub files-run : {E : Type 0} {hosts : List (HostDef I F)} (subcommand : ScriptSubcommand) (script : List ScriptCommand) (files : List (List ℕ × List ℕ))
      {ready : Embedding (HostObject I F)} (last : Embedding (HostObject I F)) (r : Result Report E) → IsReady members subcommand.fuel subcommand.depth hosts ready
      → IfOk r (λ report. Runs members script (files_in files) ready (Ok report) last) → IfOk r (RunsFiles members hosts subcommand script files)
  files-run subcommand script files {ready = ready} last (Ok report) is_ready ran = record { ready = ready; is_ready = is_ready; last = last; ran = ran }
  files-run subcommand script files last (Err why) is_ready ran = tt
