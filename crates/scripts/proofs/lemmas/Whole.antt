-- Whole runs of scripts.
use Rattle.std.proofs.Common.{◌≡◌, ℕ, ◌+◌, ◌<◌, List, ◌∷◌, ◌∙◌, ap, drop, get_or, length, refl, sym}
use Rattle.std.proofs.lemmas.List.{drop_more}
use Rattle.std.specs.Prelude.{None, Result, Ok, Err}
use Rattle.std.specs.Result.{IsErrAnd}
use Rattle.meaning.specs.embedding.Machine.{Embedding}
use Rattle.hostfunc.specs.Boxes.{HostStep}
use Rattle.hostfunc.specs.declared.host_function.HostFn.{Ghosts}
use Rattle.hostfunc.specs.declared.host_object.HostObject.{HostObject}
use Rattle.meaning.specs.scripts.Commands.{Files, ScriptCommand, missing_from}
use Rattle.meaning.specs.scripts.Runner.{dialogue, start}
use Rattle.scripts.specs.Conversations.{BreaksOff}
use Rattle.scripts.specs.Runs.{HoldsAll, Runs, report_view}
use Rattle.scripts.specs.declared.faults.ScriptFault.{ScriptFault}
use Rattle.scripts.specs.declared.faults.ScriptFault.TheVariants.{OutOfMemory}
use Rattle.scripts.specs.declared.report.Report.{Report}
use Rattle.scripts.proofs.lemmas.Talks.{broken-off, held-to-end}

pub drop-item : {A : Type 0} (xs : List A) (k : ℕ) (x : A) → k < length xs → x ≡ get_or xs k x → drop k xs ≡ x ∷ drop (k + 1) xs
drop-item xs k x inside is = drop_more xs k x inside ∙ ap (λ y. y ∷ drop (k + 1) xs) (sym is)

module _ {I : Type 0} {F : I → Type 0} (members : (i : I) → Ghosts (F i)) where
  pub all-broken : {P : ScriptFault → Type 0} (fuel : ℕ) (files : Files) (script : List ScriptCommand) (result : Result Report ScriptFault) (old new : Embedding (HostObject I F))
      → IsErrAnd result P → ((fault : ScriptFault) → P fault → fault ≡ OutOfMemory) → BreaksOff (HostStep members) (dialogue fuel files script start) old new
      → HoldsAll members fuel files script old result new
  all-broken fuel files script (Ok report) old new failed is breaks = absurd failed
  all-broken fuel files script (Err fault) old new failed is breaks = (is fault failed, breaks)

  pub runs-broken : {P : ScriptFault → Type 0} (script : List ScriptCommand) (files : Files) (result : Result Report ScriptFault) (old new : Embedding (HostObject I F))
      → IsErrAnd result P → ((fault : ScriptFault) → P fault → fault ≡ OutOfMemory) → BreaksOff (HostStep members) (dialogue old.setup.fuel files script start) old new
      → Runs members script files old result new
  runs-broken script files (Ok report) old new failed is breaks = absurd failed
  runs-broken script files (Err fault) old new failed is breaks = rw (is fault failed) (broken-off (HostStep members) breaks)

  pub runs-held : (script : List ScriptCommand) (files : Files) (result : Result Report ScriptFault) (old new : Embedding (HostObject I F))
      → missing_from files 0 script ≡ None → HoldsAll members old.setup.fuel files script old result new → Runs members script files old result new
  runs-held script files (Ok report) old new there held = (there, held-to-end (HostStep members) held (report_view report) refl)
  runs-held script files (Err fault) old new there held = rw held.0 (broken-off (HostStep members) held.1)
