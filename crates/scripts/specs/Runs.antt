-- The result of running a script, and what it leaves.
use Rattle.std.specs.Prelude.{◌≡◌, ℕ, List, Option, Some, None, Result, Ok, Err, map, string_bytes, String, Vec}
use Rattle.std.specs.HashMap.{HashMap, get_by_text}
use Rattle.std.specs.Option.{option_flatten}
use Rattle.std.specs.declared.alloc.Global.{Global}
use Rattle.core_types.specs.declared.outcome.Val.{Val}
use Rattle.hostfunc.specs.Boxes.{HostStep}
use Rattle.hostfunc.specs.declared.host_function.HostFn.{Ghosts}
use Rattle.hostfunc.specs.declared.host_object.HostObject.{HostObject}
use Rattle.meaning.specs.embedding.Commands.{Command, Reply}
use Rattle.meaning.specs.embedding.Machine.{Embedding}
use Rattle.meaning.specs.execution.Runs.{Answer}
use Rattle.meaning.specs.execution.Store.{Store}
use Rattle.meaning.specs.scripts.Commands.{Files, ScriptCommand, missing_from}
use Rattle.meaning.specs.scripts.Dialogues.{Begins, Dialogue, Holds}
use Rattle.meaning.specs.scripts.Dialogues as meaning
use Rattle.meaning.specs.scripts.Runner as runner
use Rattle.meaning.specs.scripts.Runner.{dialogue, start}
use Rattle.soundness.specs.Headline.{RunsWell}
use Rattle.scripts.specs.Conversations as part
use Rattle.scripts.specs.declared.faults.ScriptFault.{ScriptFault}
use Rattle.scripts.specs.declared.faults.ScriptFault.TheVariants.{NotJson, BadCommand, MissingFile, OutOfMemory}
use Rattle.scripts.specs.declared.instances.Instances.{Instances}
use Rattle.scripts.specs.declared.progress.Progress.{Progress}
use Rattle.scripts.specs.declared.report.Report.{Report}

-- ---- what is kept, in the terms of the definitions

abbrev pub report_view : Report → meaning.Report
report_view r = record {
  passed = r.passed;
  failed = r.failed;
  skipped = r.skipped;
  failures = r.failures.items;
}

-- The meanings of names in a map.
abbrev pub named_in : {Z S : Type 0} → HashMap (String Z) (Option ℕ) S → (name : List ℕ) → Option ℕ
named_in names name = option_flatten (get_by_text names name)

abbrev pub instances_view : Instances → runner.Instances
instances_view i = record { current = i.current; named = named_in i.named }

abbrev pub progress_view : Progress → runner.Progress
progress_view p = record { instances = instances_view p.instances; report = report_view p.report }

-- The files that are passed, with their names.
abbrev pub files_view : List (String Global × Vec ℕ Global) → List (List ℕ × List ℕ)
files_view files = map (λ (f : String Global × Vec ℕ Global). (string_bytes f.0, f.1.items)) files

-- ---- runs

module _ {H : Type 0} (HostStep : List H → ℕ → Option ℕ → List Val → Store → Answer → Store
    → List H → Type 0) where
  -- The commands that were applied, each of which went well, and their replies are the dialogue of the script, held to its end.
  pub record IsHeld (at : Dialogue) (old : Embedding H) (report : meaning.Report)
      (new : Embedding H) : Type 0 where
    pub commands : List Command
    pub replies : List Reply
    pub applied : RunsWell HostStep old commands replies new
    pub held : Holds at commands replies report

  -- They are a beginning of the dialogue.
  pub record IsBegun (at : Dialogue) (old new : Embedding H) : Type 0 where
    pub commands : List Command
    pub replies : List Reply
    pub applied : RunsWell HostStep old commands replies new
    pub begun : Begins at commands replies

  abbrev pub RunsScript : List ScriptCommand → Files → Embedding H → Result Report ScriptFault
      → Embedding H → Type 0
  RunsScript script files old (Ok report) new =
      (missing_from files 0 script ≡ None) ×
      IsHeld (dialogue old.setup.fuel files script start) old (report_view report) new
  RunsScript script files old (Err OutOfMemory) new =
      IsBegun (dialogue old.setup.fuel files script start) old new
  RunsScript script files old (Err (MissingFile index)) new =
      (missing_from files 0 script ≡ Some index) × (new ≡ old)
  RunsScript script files old (Err NotJson) new = ⊥
  RunsScript script files old (Err (BadCommand index)) new = ⊥

-- ---- with the existing host functions

module _ {I : Type 0} {F : I → Type 0} (members : (i : I) → Ghosts (F i)) where
  abbrev pub HoldsPart : {T A : Type 0} → (T → A) → ((A → Dialogue) → Dialogue)
      → Embedding (HostObject I F) → Result T ScriptFault
      → Embedding (HostObject I F) → Type 0
  HoldsPart see told old result new = part.Holds (HostStep members) see told old result new

  abbrev pub Runs : List ScriptCommand → Files → Embedding (HostObject I F)
      → Result Report ScriptFault → Embedding (HostObject I F) → Type 0
  Runs script files old result new = RunsScript (HostStep members) script files old result new

  -- All commands of a script, from its start on.
  abbrev pub HoldsAll : (fuel : ℕ) → Files → List ScriptCommand → Embedding (HostObject I F)
      → Result Report ScriptFault
      → Embedding (HostObject I F) → Type 0
  HoldsAll fuel files script old (Ok report) new =
      part.Converses (HostStep members) (dialogue fuel files script start) old
      (meaning.Over (report_view report)) new
  HoldsAll fuel files script old (Err fault) new =
      (fault ≡ OutOfMemory) × part.BreaksOff (HostStep members) (dialogue fuel files script start)
      old new
