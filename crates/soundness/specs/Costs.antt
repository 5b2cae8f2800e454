-- The costs of runs. Fuel is this project's own.
use Rattle.std.specs.Prelude.{◌≡◌, ℕ, ◌+◌, List, Option}
use Rattle.core_types.specs.declared.outcome.Val.{Val}
use Rattle.core_types.specs.declared.module.Module.{Module}
use Rattle.core_types.specs.declared.outcome.Extern.{Extern}
use Rattle.meaning.specs.execution.Configurations.{Configuration, Frame}
use Rattle.meaning.specs.execution.Modules.{Activity, Instantiation, RunTasks, Task, all_done, done, ended}
use Rattle.meaning.specs.execution.Runs.{Answer, Ending, IsEnd, IsStep, Run, State, goes, grows, opens, calls, values_left, trapped, host_trapped, no_fuel, no_depth, no_memory, end, step}
use Rattle.meaning.specs.execution.Store.{ModuleInstance, Store}

module _ {H : Type 0} (HostStep : List H → ℕ → Option ℕ → List Val → Store → Answer → Store
    → List H → Type 0) (bound : ℕ) (outside : Frame) where
  abbrev pub cost_of_step : {old new : State H} {first then : Configuration}
      → IsStep HostStep bound outside old first new then → ℕ
  cost_of_step (goes {cost = cost} is enough left hosts) = cost
  cost_of_step (grows {cost = cost} is enough left hosts) = cost
  cost_of_step (opens {cost = cost} is enough left hosts within) = cost
  cost_of_step (calls {cost = cost} is enough left told answered) = cost

  -- The cost of an instruction that traps. Any other end costs nothing.
  abbrev pub cost_of_end : {at last : State H} {c : Configuration} {ending : Ending}
      → IsEnd HostStep bound outside at c ending last → ℕ
  cost_of_end (values_left is ending_is last_is) = 0
  cost_of_end (trapped {cost = cost} is enough ending_is last_is) = cost
  cost_of_end (host_trapped {cost = cost} is enough left told ending_is) = cost
  cost_of_end (no_fuel little ending_is last_is) = 0
  cost_of_end (no_depth is enough deep ending_is last_is) = 0
  cost_of_end (no_memory asks within enough ending_is last_is) = 0

  -- The sum of the costs of the steps and the end.
  abbrev pub cost_of_run : {old last : State H} {c : Configuration} {ending : Ending}
      → Run HostStep bound outside old c ending last → ℕ
  cost_of_run (end is) = cost_of_end is
  cost_of_run (step first rest) = cost_of_step first + cost_of_run rest

module _ {H : Type 0} (HostStep : List H → ℕ → Option ℕ → List Val → Store → Answer → Store
    → List H → Type 0) (bound : ℕ) where
  -- The sum of the costs of the tasks that were run.
  abbrev pub cost_of_tasks : {instance : ℕ} {i : ModuleInstance} {old last : State H}
      {tasks : List Task} {ending : Ending} → RunTasks HostStep bound instance i old tasks ending last
      → ℕ
  cost_of_tasks all_done = 0
  cost_of_tasks (done {a = a} is run rest) =
      cost_of_run HostStep bound a.frame run + cost_of_tasks rest
  cost_of_tasks (ended {a = a} is run none) = cost_of_run HostStep bound a.frame run

  -- A link costs what its tasks cost. Allocation costs nothing.
  abbrev pub cost_of_link : {m : Module} {given : List Extern} {old new : State H} {ending : Ending}
      → Instantiation HostStep bound m given old ending new → ℕ
  cost_of_link link = cost_of_tasks link.ran

-- The cost of a run is the fuel that it spends.
abbrev pub CostsAreSpent : {H : Type 0} → (List H → ℕ → Option ℕ → List Val → Store → Answer → Store
    → List H → Type 0) → Type 0
CostsAreSpent {H} HostStep = (bound : ℕ) (outside : Frame) (old last : State H)
    (configuration : Configuration) (ending : Ending)
    (run : Run HostStep bound outside old configuration ending last)
    → cost_of_run HostStep bound outside run + last.fuel ≡ old.fuel
