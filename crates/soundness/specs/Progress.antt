-- Progress: the next step of a run (Appendix, Soundness, Theorems).
use Rattle.std.specs.Prelude.{◌≡◌, ℕ, ◌⊎◌, List, ◌∷◌, Option, Some, None}
use Rattle.core_types.specs.declared.outcome.Val.{Val}
use Rattle.core_types.specs.declared.types.ValType.{ValType}
use Rattle.meaning.specs.execution.Configurations.{Configuration, Frame}
use Rattle.meaning.specs.execution.Instructions.{Next, Over, next}
use Rattle.meaning.specs.execution.Modules.{Activity, RunOf, Task, activity}
use Rattle.meaning.specs.execution.Runs.{Answer, IsReady, State, Steps, WithValues}
use Rattle.meaning.specs.execution.Store.{ModuleInstance, Store}
use Rattle.soundness.specs.Configurations.{ConfigurationHasType}
use Rattle.soundness.specs.Places.{Place}
use Rattle.soundness.specs.Runs.{IsOutside}
use Rattle.soundness.specs.Stores.{StoreIsValid}

-- The run is over, with values.
abbrev pub IsOver : Next → Type 0
IsOver (Over values) = Unit {0}
IsOver other = ⊥

-- The run is over, or a case of the reduction applies. A call of a host function is such a case, whatever the host answers.
abbrev pub CanGoOn : Next → Type 0
CanGoOn n = IsOver n ⊎ IsReady n

abbrev pub IsStuck : Next → Type 0
IsStuck n = CanGoOn n → ⊥

module _ {H : Type 0} (HostStep : List H → ℕ → Option ℕ → List Val → Store → Answer → Store
    → List H → Type 0) (bound : ℕ) where
  -- Wherever steps lead from here, the run can continue.
  abbrev pub NeverGetsStuck : Frame → State H → Configuration → Type 0
  NeverGetsStuck frame old first =
      (at : State H) (reached : Configuration) → Steps HostStep bound frame old first at reached
      → CanGoOn (next at.store frame reached)

  -- Steps lead from here to where the run cannot continue.
  pub record GetsStuck (frame : Frame) (old : State H) (first : Configuration) : Type 0 where
    pub at : State H
    pub reached : Configuration
    pub steps : Steps HostStep bound frame old first at reached
    pub stuck : IsStuck (next at.store frame reached)

  -- One of the tasks of a link does not exist, or gets stuck, after those before it are done.
  pub data TasksGetStuck (instance : ℕ) (i : ModuleInstance) : State H → List Task → Type 0 where
    not_there : {at : State H} {task : Task} {tasks : List Task}
        → activity at.store instance i task ≡ None → TasksGetStuck instance i at (task ∷ tasks)
    stuck : {at : State H} {task : Task} {tasks : List Task} {a : Activity}
        → activity at.store instance i task ≡ Some a → GetsStuck a.frame at a.configuration
        → TasksGetStuck instance i at (task ∷ tasks)
    later : {old between : State H} {task : Task} {tasks : List Task} {a : Activity}
        {values : List Val}
        → activity old.store instance i task ≡ Some a
        → RunOf HostStep bound old a (WithValues values) between
        → TasksGetStuck instance i between tasks → TasksGetStuck instance i old (task ∷ tasks)

module _ {H : Type 0} (HostStep : List H → ℕ → Option ℕ → List Val → Store → Answer → Store
    → List H → Type 0) (HaveHosts : Store → List H → Type 0) where
  -- No run from a typed configuration in a valid store gets stuck.
  abbrev pub TypedRunsNeverGetStuck : Type 0
  TypedRunsNeverGetStuck = (bound : ℕ) (frame : Frame) (place : Place) (old : State H)
      (configuration : Configuration) (results : List ValType)
      → IsOutside frame place → StoreIsValid old.store → HaveHosts old.store old.hosts
      → ConfigurationHasType old.store place configuration results
      → NeverGetsStuck HostStep bound frame old configuration
