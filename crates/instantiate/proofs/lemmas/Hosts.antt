-- Links over host functions.
use Rattle.std.proofs.Common.{◌≡◌, ℕ, List, [], ◌++◌, refl, ap, sym, subst, ◌∙◌, append_assoc}
use Rattle.std.proofs.lemmas.List.{append-nil}
use Rattle.std.specs.Prelude.{Option, Some, None, Result, Ok, Err}
use Rattle.core_types.specs.declared.outcome.Val.{Val}
use Rattle.meaning.specs.execution.Modules.{HasNoValues, RunTasks, Task, all_done, done, ended}
use Rattle.meaning.specs.execution.Runs.{Answer, Ending, NoHosts, State, WithValues}
use Rattle.meaning.specs.execution.Store.{ModuleInstance, Store}
use Rattle.meaning.proofs.lemmas.Hosts.{run-over, steps-over, with_hosts}
use Rattle.soundness.specs.Progress.{TasksGetStuck, later, not_there, stuck}
use Rattle.instantiate.specs.declared.link_end.TaskEnd.{TaskEnd}
use Rattle.instantiate.specs.Tasks.{EndedTasks, RanTasks, TasksRunOn, ending_in}

module _ {H : Type 0} (HostStep : List H → ℕ → Option ℕ → List Val → Store → Answer → Store → List H → Type 0) (hosts : List H) (bound instance : ℕ) (i : ModuleInstance) where
  -- A run without host functions is a run over any host functions.
  tasks-over : {old last : State ⊥} {tasks : List Task} {ending : Ending} → RunTasks NoHosts bound instance i old tasks ending last
      → RunTasks HostStep bound instance i (with_hosts hosts old) tasks ending (with_hosts hosts last)
  tasks-over all_done = all_done
  tasks-over (done is run others) = done is (run-over HostStep hosts bound _ run) (tasks-over others)
  tasks-over (ended is run none) = ended is (run-over HostStep hosts bound _ run) none

  stuck-over : {old : State ⊥} {tasks : List Task} → TasksGetStuck NoHosts bound instance i old tasks → TasksGetStuck HostStep bound instance i (with_hosts hosts old) tasks
  stuck-over (not_there is) = not_there is
  stuck-over (stuck {a = a} is gets) = stuck is (record { at = with_hosts hosts gets.at; reached = gets.reached; steps = steps-over HostStep hosts bound a.frame gets.steps; stuck = gets.stuck })
  stuck-over (later is run others) = later is (run-over HostStep hosts bound _ run) (stuck-over others)

  on-over : (ending : Option Ending) (old last : State ⊥) (tasks : List Task) → TasksRunOn NoHosts bound instance i old tasks ending last
      → TasksRunOn HostStep bound instance i (with_hosts hosts old) tasks ending (with_hosts hosts last)
  on-over (Some ending) old last tasks run = tasks-over run
  on-over None old last tasks gets = stuck-over gets

  tasks-join : {old between last : State H} {first second : List Task} {so_far ending : Ending} → so_far ≡ WithValues []
      → RunTasks HostStep bound instance i old first so_far between → RunTasks HostStep bound instance i between second ending last
      → RunTasks HostStep bound instance i old (first ++ second) ending last
  tasks-join e all_done more = more
  tasks-join e (done is run others) more = done is run (tasks-join e others more)
  tasks-join e (ended is run none) more = absurd (subst HasNoValues e none)

  stuck-join : {old between : State H} {first second : List Task} {so_far : Ending} → so_far ≡ WithValues []
      → RunTasks HostStep bound instance i old first so_far between → TasksGetStuck HostStep bound instance i between second
      → TasksGetStuck HostStep bound instance i old (first ++ second)
  stuck-join e all_done more = more
  stuck-join e (done is run others) more = later is run (stuck-join e others more)
  stuck-join e (ended is run none) more = absurd (subst HasNoValues e none)

  on-join : (ending : Option Ending) (old between last : State H) (first second : List Task)
      → RunTasks HostStep bound instance i old first (WithValues []) between → TasksRunOn HostStep bound instance i between second ending last
      → TasksRunOn HostStep bound instance i old (first ++ second) ending last
  on-join (Some ending) old between last first second run more = tasks-join refl run more
  on-join None old between last first second run more = stuck-join refl run more

  pub ran-over : {U : Type 0} (r : Result U TaskEnd) (old new : State ⊥) (tasks : List Task) → RanTasks NoHosts r bound instance i old tasks new
      → RanTasks HostStep r bound instance i (with_hosts hosts old) tasks (with_hosts hosts new)
  ran-over (Ok u) old new tasks before =
      λ further ending last more. on-join ending (with_hosts hosts old) (with_hosts hosts new) last tasks further
      (subst (λ (ts : List Task). RunTasks HostStep bound instance i (with_hosts hosts old) ts (WithValues []) (with_hosts hosts new))
      (append-nil tasks) (tasks-over (before [] (Some (WithValues [])) new all_done))) more
  ran-over (Err o) old new tasks before = record {
    ended = λ further. on-over (ending_in o) old new (tasks ++ further) (before.ended further);
    no_values = before.no_values;
  }

  -- An end of one task ends all tasks.
  pub ended-over : (old new : State ⊥) (first second third : List Task) {o : TaskEnd}
      → EndedTasks NoHosts bound instance i old (first ++ second) o new
      → EndedTasks HostStep bound instance i (with_hosts hosts old) (first ++ (second ++ third)) o (with_hosts hosts new)
  ended-over old new first second third {o} before = record {
    ended = λ further.
        subst (λ (ts : List Task). TasksRunOn HostStep bound instance i (with_hosts hosts old) ts (ending_in o) (with_hosts hosts new))
        (sym (append_assoc (first ++ second) third further) ∙ ap (λ (ts : List Task). ts ++ further) (append_assoc first second third))
        (on-over (ending_in o) old new ((first ++ second) ++ (third ++ further)) (before.ended (third ++ further)));
    no_values = before.no_values;
  }
