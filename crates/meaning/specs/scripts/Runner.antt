-- The commands that a script sends to an embedding, and when they pass.
use Rattle.std.specs.Prelude.{ℕ, ◌+◌, ◌++◌, ◌==◌, ◌&&◌, List, [], ◌∷◌, Bool, true, false, Option, Some, None, bytes_eq, if◌then◌else◌, nat_eq}
use Rattle.std.specs.List.{starts_with}
use Rattle.core_types.specs.Outcome.{trap_text}
use Rattle.core_types.specs.declared.outcome.Val.{Val}
use Rattle.core_types.specs.declared.outcome.Val.TheVariants.{I32, I64, FuncRef, ExternRef}
use Rattle.meaning.specs.embedding.Commands as embedding
use Rattle.meaning.specs.embedding.Commands.{Command, Reply, Load, Link, Call, GetGlobal, SetFuel, Loaded, Linked, Done, Ended, Refused, Malformed, Unsupported}
use Rattle.meaning.specs.embedding.Commands.{Limit, Invalid, UnknownImport, IncompatibleImport, UnknownInstance}
use Rattle.meaning.specs.execution.Runs.{WithValues, WithTrap, OutOfFuel, OutOfDepth}
use Rattle.meaning.specs.scripts.Commands.{Action, Invoke, Get, Task, Module, Register, Perform, AssertReturn, AssertTrap, AssertExhaustion, AssertInvalid}
use Rattle.meaning.specs.scripts.Commands.{AssertMalformed, AssertUnlinkable, AssertUninstantiable, ScriptCommand, Skipped, Tried, Files, contents}
use Rattle.meaning.specs.scripts.Dialogues.{Dialogue, Over, Asks, Report}

-- ---- instances

-- The current instance, and the meanings of the script's names. A name means the number of an instance, or nothing.
pub record Instances : Type 0 where
  pub current : Option ℕ
  pub named : (name : List ℕ) → Option ℕ

abbrev pub no_instances : Instances
no_instances = record { current = None; named = λ name. None }

-- The instance that a name means. Without a name, the current one.
abbrev pub meant : Instances → Option (List ℕ) → Option ℕ
meant at None = at.current
meant at (Some name) = at.named name

-- The names, except that this one, if there is one, means this.
abbrev pub naming : (List ℕ → Option ℕ) → Option (List ℕ) → Option ℕ → (name : List ℕ) → Option ℕ
naming named None instance other = named other
naming named (Some name) instance other = if bytes_eq name other then instance else named other

-- This is the current instance, and the name, if there is one, means it.
abbrev pub with_current : Instances → Option (List ℕ) → Option ℕ → Instances
with_current at name instance = record { current = instance; named = naming at.named name instance }

-- ---- the commands that are sent

-- A module is loaded, and linked if it could be loaded. What follows depends on the last reply.
abbrev pub linking : (reply : Reply) → (Reply → Dialogue) → Dialogue
linking (Loaded number) next = Asks (Link number) next
linking reply next = next reply

abbrev pub load_and_link : (bytes : List ℕ) → (Reply → Dialogue) → Dialogue
load_and_link bytes next = Asks (Load bytes) (λ reply. linking reply next)

-- A command on an instance. If there is no instance, no command is sent, and the refusal `UnknownInstance` counts as the reply.
abbrev pub ask_of : Option ℕ → (ℕ → Command) → (Reply → Dialogue) → Dialogue
ask_of None command next = next (Refused UnknownInstance)
ask_of (Some instance) command next = Asks (command instance) next

-- An action is a call of a function or the reading of a global.
abbrev pub act : Instances → Action → (Reply → Dialogue) → Dialogue
act at (Invoke name field arguments) next =
    ask_of (meant at name) (λ instance. Call instance field arguments) next
act at (Get name field) next = ask_of (meant at name) (λ instance. GetGlobal instance field) next

-- The commands that are sent for a task. What follows depends on the last reply.
abbrev pub ask : Files → Instances → Task → (Reply → Dialogue) → Dialogue
ask files at (Module filename name) next = load_and_link (contents files filename) next
ask files at (Register name instance) next =
    ask_of (meant at instance) (λ number. embedding.Register number name) next
ask files at (Perform action) next = act at action next
ask files at (AssertReturn action expected) next = act at action next
ask files at (AssertTrap action text) next = act at action next
ask files at (AssertExhaustion action) next = act at action next
ask files at (AssertInvalid filename) next = Asks (Load (contents files filename)) next
ask files at (AssertMalformed filename) next = Asks (Load (contents files filename)) next
ask files at (AssertUnlinkable filename) next = load_and_link (contents files filename) next
ask files at (AssertUninstantiable filename text) next =
    load_and_link (contents files filename) next

-- ---- when a task passes

abbrev pub same_reference : Option ℕ → Option ℕ → Bool
same_reference None None = true
same_reference None (Some n) = false
same_reference (Some m) None = false
same_reference (Some m) (Some n) = m == n

abbrev pub same_value : Val → Val → Bool
same_value (I32 m) (I32 n) = m == n
same_value (I64 m) (I64 n) = m == n
same_value (FuncRef m) (FuncRef n) = same_reference m n
same_value (ExternRef m) (ExternRef n) = same_reference m n
same_value v w = false

-- The same values in the same order.
abbrev pub same_values : List Val → List Val → Bool
same_values [] [] = true
same_values [] (w ∷ ws) = false
same_values (v ∷ vs) [] = false
same_values (v ∷ vs) (w ∷ ws) = same_value v w && same_values vs ws

abbrev pub is_linked : Reply → Bool
is_linked (Linked number) = true
is_linked reply = false

abbrev pub is_done : Reply → Bool
is_done Done = true
is_done reply = false

abbrev pub has_values : Reply → Bool
has_values (Ended (WithValues values)) = true
has_values reply = false

abbrev pub returns : (expected : List Val) → Reply → Bool
returns expected (Ended (WithValues values)) = same_values values expected
returns expected reply = false

-- A trap whose text is a prefix of this one.
abbrev pub traps : (text : List ℕ) → Reply → Bool
traps text (Ended (WithTrap trap)) = starts_with nat_eq text (trap_text trap)
traps text reply = false

abbrev pub runs_out : Reply → Bool
runs_out (Ended OutOfFuel) = true
runs_out (Ended OutOfDepth) = true
runs_out reply = false

abbrev pub is_invalid : Reply → Bool
is_invalid (Refused Invalid) = true
is_invalid reply = false

-- The bytes encode no module within the limits.
abbrev pub is_malformed : Reply → Bool
is_malformed (Refused Malformed) = true
is_malformed (Refused Unsupported) = true
is_malformed (Refused Limit) = true
is_malformed reply = false

abbrev pub is_unlinkable : Reply → Bool
is_unlinkable (Refused UnknownImport) = true
is_unlinkable (Refused IncompatibleImport) = true
is_unlinkable reply = false

-- A task passes with this last reply.
abbrev pub passes : Task → Reply → Bool
passes (Module filename name) reply = is_linked reply
passes (Register name instance) reply = is_done reply
passes (Perform action) reply = has_values reply
passes (AssertReturn action expected) reply = returns expected reply
passes (AssertTrap action text) reply = traps text reply
passes (AssertExhaustion action) reply = runs_out reply
passes (AssertInvalid filename) reply = is_invalid reply
passes (AssertMalformed filename) reply = is_malformed reply
passes (AssertUnlinkable filename) reply = is_unlinkable reply
passes (AssertUninstantiable filename text) reply = traps text reply

-- ---- what a task leaves

-- The instance that was linked, if one was.
abbrev pub linked_instance : Reply → Option ℕ
linked_instance (Linked number) = Some number
linked_instance reply = None

-- The instances after a task with this last reply. Only a module command changes them: the instance that it linked is the current one,
-- and its name means it. If it failed, there is no current instance, and its name means nothing.
abbrev pub instances_after : Instances → Task → Reply → Instances
instances_after at (Module filename name) reply = with_current at name (linked_instance reply)
instances_after at task reply = at

abbrev pub empty_report : Report
empty_report = record { passed = 0; failed = 0; skipped = 0; failures = [] }

-- The report with one more skipped command.
abbrev pub with_skipped : Report → Report
with_skipped report = record report { skipped = report.skipped + 1 }

-- The report with one more command, of this line, that passed or failed.
abbrev pub with_tried : Report → (line : ℕ) → (passed : Bool) → Report
with_tried report line true = record report { passed = report.passed + 1 }
with_tried report line false =
    record report { failed = report.failed + 1; failures = report.failures ++ (line ∷ []) }

-- The number of commands that a report counts.
abbrev pub counted : Report → ℕ
counted report = report.passed + report.failed + report.skipped

-- ---- whole scripts

-- The progress of a script: its instances, and its report so far.
pub record Progress : Type 0 where
  pub instances : Instances
  pub report : Report

abbrev pub start : Progress
start = record { instances = no_instances; report = empty_report }

abbrev pub after_skipped : Progress → Progress
after_skipped at = record at { report = with_skipped at.report }

abbrev pub after_tried : Progress → (line : ℕ) → Task → Reply → Progress
after_tried at line task reply = record {
  instances = instances_after at.instances task reply;
  report = with_tried at.report line (passes task reply);
}

-- One command, with this fuel. What follows depends on the progress after it.
abbrev pub turn : (fuel : ℕ) → Files → ScriptCommand → Progress → (Progress → Dialogue) → Dialogue
turn fuel files Skipped at next = next (after_skipped at)
turn fuel files (Tried line task) at next =
    Asks (SetFuel fuel) (λ done. ask files at.instances task
    (λ reply. next (after_tried at line task reply)))

-- The commands that are sent to an embedding, from this place on, each with this fuel.
abbrev pub dialogue : (fuel : ℕ) → Files → List ScriptCommand → Progress → Dialogue
dialogue fuel files [] at = Over at.report
dialogue fuel files (command ∷ commands) at =
    turn fuel files command at (dialogue fuel files commands)
