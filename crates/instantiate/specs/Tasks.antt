-- What a link runs, in the terms of the definitions.
use Rattle.std.specs.Prelude.{◌≡◌, ℕ, ◌-◌, ◌<◌, ◌≤◌, ◌^◌, List, [], ◌++◌, length, Option, Some, None, Result, Ok, Err, slice_get}
use Rattle.core_types.specs.declared.module.Module.{Module}
use Rattle.core_types.specs.declared.outcome.Exhaustion.TheVariants as exhausted
use Rattle.core_types.specs.declared.outcome.Val.{Val}
use Rattle.core_types.specs.declared.outcome.Val.TheVariants.{I32, I64, FuncRef, ExternRef}
use Rattle.meaning.specs.execution.Configurations.{Configuration, Frame}
use Rattle.meaning.specs.execution.Modules.{HasNoValues, RunTasks, Task}
use Rattle.meaning.specs.execution.Runs.{Answer, Ending, IsStep, Run, State, WithValues}
use Rattle.meaning.specs.execution.Store.{ModuleInstance, Store, instance_of}
use Rattle.soundness.specs.Progress.{GetsStuck, TasksGetStuck}
use Rattle.simulation.specs.Outcomes.{Outcome, failed, grown, made}
use Rattle.effects.specs.Outcomes.{IsTrap, LacksMemory, cost_of}
use Rattle.exec.specs.declared.outcome.Outcome.{Outcome as CallOutcome}
use Rattle.exec.specs.declared.outcome.Outcome.TheVariants.{Exhausted, Trap, Values}
use Rattle.exec.specs.Endings.{ending_of, run_state}
use Rattle.store.specs.Contents.{AddressLists, Contents, instances_in, lists_of, module_instance, store_with}
use Rattle.store.specs.State.{StateContents}
use Rattle.instantiate.specs.Offsets.{HasRoomForOffsets}
use Rattle.instantiate.specs.declared.copies.Linked.{Linked}
use Rattle.instantiate.specs.declared.link_end.TaskEnd.{TaskEnd}
use Rattle.instantiate.specs.declared.link_end.TaskEnd.TheVariants.{Ended, Stuck}

-- The state of a link over both parts of the store, with this fuel left.
abbrev pub link_state : Contents → StateContents → (fuel : ℕ) → State ⊥
link_state code s fuel = run_state (store_with code s) [] fuel

-- The new instance.
abbrev pub instance_in : Linked → ModuleInstance
instance_in linked = module_instance (lists_of linked.addresses.now) linked.module_read.now

-- There is an instance of this module under this number.
abbrev pub HasInstance : Contents → (instance : ℕ) → Module → Type 0
HasInstance code instance m =
    (addresses : AddressLists) × (slice_get (instances_in code) instance ≡
    Some (module_instance addresses m))

-- The segments of the module can be run. There is an instance of it under this number, the indices of its segments have 32 bits, and
-- there is room for their offsets.
pub record SegmentsAreReady (code : Contents) (instance : ℕ) (m : Module) (room : ℕ) : Type 0 where
  pub instance_is : HasInstance code instance m
  pub elements : length m.elements < 2 ^ 32
  pub datas : length m.datas < 2 ^ 32
  pub offsets : HasRoomForOffsets room m

-- The frame of the new instance, in which segments are copied.
abbrev pub frame_in : Linked → Frame
frame_in linked = record { instance = Some linked.instance; locals = [] }

-- The value is not an i32.
abbrev pub HasNoI32 : Option Val → Type 0
HasNoI32 None = Unit {0}
HasNoI32 (Some (I32 n)) = ⊥
HasNoI32 (Some (I64 n)) = Unit {0}
HasNoI32 (Some (FuncRef a)) = Unit {0}
HasNoI32 (Some (ExternRef n)) = Unit {0}

-- How a run ended, if it did.
abbrev pub ending_in : TaskEnd → Option Ending
ending_in (Ended outcome) = Some (ending_of outcome)
ending_in Stuck = None

-- The run did not end with values.
abbrev pub IsWithoutValues : Option Ending → Type 0
IsWithoutValues None = Unit {0}
IsWithoutValues (Some ending) = HasNoValues ending

-- What is left after a call from outside that ended like this: nothing, if it ended with values.
abbrev pub EndsAs : {U : Type 0} → Result U TaskEnd → CallOutcome → Type 0
EndsAs (Ok u) outcome = (values : List Val) × (outcome ≡ Values values)
EndsAs (Err o) outcome =
    (Some (ending_of outcome) ≡ ending_in o) × IsWithoutValues (ending_in o)

-- An instruction was done at its cost, and left this store and this fuel.
abbrev pub IsPaidFor : Outcome → (new : Store) → (fuel left : ℕ) → Type 0
IsPaidFor (made cost store results) new fuel left =
    (cost ≤ fuel) × (left ≡ fuel - cost) × (new ≡ store)
IsPaidFor (grown cost store results) new fuel left =
    (cost ≤ fuel) × (left ≡ fuel - cost) × (new ≡ store)
IsPaidFor (failed trap) new fuel left = ⊥

-- How a link continues after the instruction. If it was not done, the store is unchanged.
abbrev pub Passes : {U : Type 0} → Result U TaskEnd → Outcome → (old new : Store)
    → (fuel left : ℕ) → Type 0
Passes (Ok u) o old new fuel left = IsPaidFor o new fuel left
Passes (Err (Ended (Trap trap))) o old new fuel left =
    IsTrap o fuel trap × (new ≡ old) × (left ≡ fuel - 1)
Passes (Err (Ended (Exhausted exhausted.Fuel))) o old new fuel left =
    (fuel < cost_of o) × (new ≡ old) × (left ≡ fuel)
Passes (Err (Ended (Exhausted exhausted.Memory))) o old new fuel left =
    LacksMemory o fuel × (new ≡ old) × (left ≡ fuel)
Passes (Err other) o old new fuel left = ⊥

module _ {H : Type 0} (HostStep : List H → ℕ → Option ℕ → List Val → Store → Answer → Store
    → List H → Type 0) where
  -- A run that ends like this, or gets stuck.
  abbrev pub RunsOn : (bound : ℕ) → Frame → (old : State H) → Configuration → Option Ending
      → (new : State H) → Type 0
  RunsOn bound frame old configuration (Some ending) new =
      Run HostStep bound frame old configuration ending new
  RunsOn bound frame old configuration None new =
      GetsStuck HostStep bound frame old configuration

  -- The same for tasks.
  abbrev pub TasksRunOn : (bound instance : ℕ) → ModuleInstance → (old : State H) → List Task
      → Option Ending → (new : State H) → Type 0
  TasksRunOn bound instance i old tasks (Some ending) new =
      RunTasks HostStep bound instance i old tasks ending new
  TasksRunOn bound instance i old tasks None new =
      TasksGetStuck HostStep bound instance i old tasks

  -- This outcome ends the run.
  pub record Ends (bound : ℕ) (frame : Frame) (old : State H) (configuration : Configuration)
      (o : TaskEnd) (new : State H) : Type 0 where
    pub ends : RunsOn bound frame old configuration (ending_in o) new
    pub no_values : IsWithoutValues (ending_in o)

  -- One step leads to this configuration, or the run has another end.
  abbrev pub StepsOrEnds : {U : Type 0} → Result U TaskEnd → (bound : ℕ) → Frame → (old : State H)
      → Configuration → (new : State H) → Configuration → Type 0
  StepsOrEnds (Ok u) bound frame old configuration new then =
      IsStep HostStep bound frame old configuration new then
  StepsOrEnds (Err o) bound frame old configuration new then =
      Ends bound frame old configuration o new

  -- The run ends with values, or it has another end.
  abbrev pub RunsTo : {U : Type 0} → Result U TaskEnd → (bound : ℕ) → Frame → (old : State H)
      → Configuration → (new : State H) → Type 0
  RunsTo (Ok u) bound frame old configuration new =
      (values : List Val) × Run HostStep bound frame old configuration (WithValues values) new
  RunsTo (Err o) bound frame old configuration new = Ends bound frame old configuration o new

  -- The tasks are done, and others may follow.
  abbrev pub DoneTasks : (bound instance : ℕ) → ModuleInstance → (old : State H) → List Task
      → (new : State H) → Type 0
  DoneTasks bound instance i old tasks new =
      (further : List Task) (ending : Option Ending) (last : State H)
      → TasksRunOn bound instance i new further ending last
      → TasksRunOn bound instance i old (tasks ++ further) ending last

  -- One of the tasks ended the link.
  pub record EndedTasks (bound instance : ℕ) (i : ModuleInstance) (old : State H)
      (tasks : List Task) (o : TaskEnd) (new : State H) : Type 0 where
    pub ended : (further : List Task)
        → TasksRunOn bound instance i old (tasks ++ further) (ending_in o) new
    pub no_values : IsWithoutValues (ending_in o)

  abbrev pub RanTasks : {U : Type 0} → Result U TaskEnd → (bound instance : ℕ) → ModuleInstance
      → (old : State H) → List Task → (new : State H) → Type 0
  RanTasks (Ok u) bound instance i old tasks new = DoneTasks bound instance i old tasks new
  RanTasks (Err o) bound instance i old tasks new = EndedTasks bound instance i old tasks o new

  -- The same for tasks of an instance of the store.
  abbrev pub RanTasksIn : {U : Type 0} → Result U TaskEnd → (bound instance : ℕ) → (old : State H)
      → List Task → (new : State H) → Type 0
  RanTasksIn result bound instance old tasks new =
      RanTasks result bound instance (instance_of old.store (Some instance)) old tasks new
