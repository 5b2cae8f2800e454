-- The headline as definitions: what is stated of every call of an exported function and of every link, for any list of commands that is
-- applied to a fresh embedding. Fuel, depth and the embedding machine are this project's own.
use Rattle.std.specs.Prelude.{◌≡◌, ℕ, ◌+◌, ◌<◌, ◌^◌, ◌⊎◌, List, [], ◌∷◌, Option, Some, Ok, length, reverse, slice_get}
use Rattle.std.specs.List.{All}
use Rattle.core_types.specs.declared.module.Module.{Module}
use Rattle.core_types.specs.declared.outcome.Extern.{Extern}
use Rattle.core_types.specs.declared.outcome.Trap.{Trap}
use Rattle.core_types.specs.declared.outcome.Val.{Val}
use Rattle.core_types.specs.declared.types.FuncType.{FuncType}
use Rattle.core_types.specs.declared.types.ValType.{ValType}
use Rattle.meaning.specs.embedding.Commands.{Command, Link, Call, OutOfMemory as NoMemory, Reply, Linked, Ended}
use Rattle.meaning.specs.embedding.Creation.{Creates, HostDefinition}
use Rattle.meaning.specs.embedding.Machine.{Applies, AppliesAll, Embedding, Refuses, Setup, as_function, export_at, none, resolve_imports, then_on}
use Rattle.meaning.specs.execution.Configurations.{Configuration, Frame, Invoking, depth, no_frame}
use Rattle.meaning.specs.execution.Hosts.{IsHostStep}
use Rattle.meaning.specs.execution.Instructions.{next}
use Rattle.meaning.specs.execution.Modules.{Activity, Instantiation, IsAllowed, RunOf, Task, activity, new_instance, tasks_of, with_module}
use Rattle.meaning.specs.execution.Runs.{Answer, AsksForMemory, Ending, WithValues, WithTrap, OutOfFuel, OutOfDepth, OutOfMemory, IsWithinBound, Run, State, Steps, price}
use Rattle.meaning.specs.execution.Store.{ModuleInstance, Store}
use Rattle.meaning.specs.soundness.Values.{TakesArguments, ValuesHaveTypes}
use Rattle.soundness.specs.Costs.{cost_of_link, cost_of_run}
use Rattle.soundness.specs.Embedding.{AllGoWell, GoesWell, LoadsBytes, results_of}
use Rattle.soundness.specs.Progress.{NeverGetsStuck, TasksGetStuck}

module _ {H : Type 0} where
  -- The next step would take more fuel than is left.
  abbrev pub WouldPassFuel : State H → Frame → Configuration → Type 0
  WouldPassFuel at frame reached = at.fuel < price (next at.store frame reached)

  -- The next step would open a frame beyond the bound.
  abbrev pub WouldPassDepth : (bound : ℕ) → State H → Frame → Configuration → Type 0
  WouldPassDepth bound at frame reached =
      IsWithinBound bound (depth reached) (next at.store frame reached) → ⊥

  -- The next step would ask for memory.
  abbrev pub WouldAskForMemory : State H → Frame → Configuration → Type 0
  WouldAskForMemory at frame reached = AsksForMemory (next at.store frame reached)

module _ {H : Type 0} (bound : ℕ) (results : List ValType)
    (LeadsTo : State H → Frame → Configuration → Type 0) where
  -- The run ends with values of its result types, a named trap, or exhaustion of fuel, depth or memory. It runs out of fuel or depth only
  -- if the next step would pass the bound, and out of memory only if it would ask for memory.
  pub data EndsAsSaid (ending : Ending) (last : State H) : Type 0 where
    with_values_of_its_result_types : {values : List Val} → ending ≡ WithValues values
        → ValuesHaveTypes last.store values results → EndsAsSaid ending last
    with_a_named_trap : {trap : Trap} → ending ≡ WithTrap trap → EndsAsSaid ending last
    out_of_fuel : {frame : Frame} {reached : Configuration} → ending ≡ OutOfFuel
        → LeadsTo last frame reached → WouldPassFuel last frame reached → EndsAsSaid ending last
    out_of_depth : {frame : Frame} {reached : Configuration} → ending ≡ OutOfDepth
        → LeadsTo last frame reached → WouldPassDepth bound last frame reached
        → EndsAsSaid ending last
    out_of_memory : {frame : Frame} {reached : Configuration} → ending ≡ OutOfMemory
        → LeadsTo last frame reached → WouldAskForMemory last frame reached
        → EndsAsSaid ending last

module _ {H : Type 0} (HostStep : List H → ℕ → Option ℕ → List Val → Store → Answer → Store
    → List H → Type 0) (bound : ℕ) where
  -- ---- calls

  -- Steps of a call lead there.
  abbrev pub CallLeadsTo : State H → Configuration → State H → Frame → Configuration → Type 0
  CallLeadsTo old first at frame reached =
      (frame ≡ no_frame) × Steps HostStep bound no_frame old first at reached

  -- A call of the function at an address is a run of the reduction. The cost of its steps and the fuel that it leaves sum to the fuel
  -- that it had. Wherever it leads, it can take a step or is over.
  pub record CallIsAsSaid (old : State H) (address : ℕ) (arguments : List Val) (ending : Ending)
      (last : State H) : Type 0 where
    pub by_the_reduction : Run HostStep bound no_frame old (Invoking (reverse arguments) address)
        ending last
    pub spends_at_most_its_fuel : cost_of_run HostStep bound no_frame by_the_reduction + last.fuel ≡
        old.fuel
    pub never_goes_wrong : NeverGetsStuck HostStep bound no_frame old
        (Invoking (reverse arguments) address)
    pub ends : EndsAsSaid bound (results_of (slice_get old.store.functions address))
        (CallLeadsTo old (Invoking (reverse arguments) address)) ending last

  -- ---- links

  -- Tasks lead there: those before one of them are done, and steps of that one lead there.
  pub data TasksLeadTo (instance : ℕ) (i : ModuleInstance) (at : State H) (frame : Frame)
      (reached : Configuration) : State H → List Task → Type 0 where
    by_steps : {old : State H} {task : Task} {tasks : List Task} {a : Activity}
        → activity old.store instance i task ≡ Some a → frame ≡ a.frame
        → Steps HostStep bound a.frame old a.configuration at reached
        → TasksLeadTo instance i at frame reached old (task ∷ tasks)
    later : {old between : State H} {task : Task} {tasks : List Task} {a : Activity}
        {values : List Val} → activity old.store instance i task ≡ Some a
        → RunOf HostStep bound old a (WithValues values) between
        → TasksLeadTo instance i at frame reached between tasks
        → TasksLeadTo instance i at frame reached old (task ∷ tasks)

  -- A link of a module is an instantiation by the reduction. The cost of its tasks and the fuel that it leaves sum to the fuel that it
  -- had. None of its tasks gets stuck.
  pub record LinkIsAsSaid (old : State H) (m : Module) (given : List Extern) (ending : Ending)
      (last : State H) : Type 0 where
    pub by_the_reduction : Instantiation HostStep bound m given old ending last
    pub spends_at_most_its_fuel : cost_of_link HostStep bound by_the_reduction + last.fuel ≡
        old.fuel
    pub never_goes_wrong : TasksGetStuck HostStep bound (length old.store.instances)
        (new_instance old.store m given)
        (record old {
          store = with_module old.store (new_instance old.store m given) m
              by_the_reduction.objects;
        }) (tasks_of m) → ⊥
    pub ends : EndsAsSaid bound [] (λ at frame reached. TasksLeadTo (length old.store.instances)
        (new_instance old.store m given) at frame reached
        (record old {
          store = with_module old.store (new_instance old.store m given) m
              by_the_reduction.objects;
        }) (tasks_of m)) ending last

-- The reply to a link that ended like this, if the new instance would get this number.
abbrev pub reply_to_link : (number : ℕ) → Ending → Reply
reply_to_link number (WithValues values) = Linked number
reply_to_link number ending = Ended ending

module _ {H : Type 0} (HostStep : List H → ℕ → Option ℕ → List Val → Store → Answer → Store
    → List H → Type 0) where
  -- ---- commands

  -- What is stated of a command that is a call of an exported function with arguments of its types, or a link of a module that can be
  -- linked. A link is an exception if memory for its objects runs out. No other command runs code.
  abbrev pub IsAsSaid : Embedding H → Command → Reply → Embedding H → Type 0
  IsAsSaid old (Call number name arguments) reply new =
      (address : ℕ) → as_function (export_at old number name) ≡ Ok address
      → TakesArguments old.state.store address arguments
      → (ending : Ending) × (reply ≡ Ended ending)
      × CallIsAsSaid HostStep old.setup.depth old.state address arguments ending new.state
  IsAsSaid old (Link number) reply new =
      (m : Module) (given : List Extern) → slice_get old.modules number ≡ Some m
      → resolve_imports old.state.store old.names m.imports ≡ Some given
      → IsAllowed old.state.store m given
      → Refuses old NoMemory reply new ⊎ ((ending : Ending)
      × (reply ≡ reply_to_link (length old.instances) ending)
      × LinkIsAsSaid HostStep old.setup.depth old.state m given ending new.state)
  IsAsSaid old other reply new = Unit {0}

  -- Each command of a run is as stated.
  abbrev pub AllAreAsSaid : {old last : Embedding H} {commands : List Command}
      {replies : List Reply} → AppliesAll HostStep old commands replies last → Type 0
  AllAreAsSaid none = Unit {0}
  AllAreAsSaid (then_on {old = at} {between = next} {command = command} {reply = reply} step rest) =
      IsAsSaid at command reply next × AllAreAsSaid rest

  -- The embeddings that a run of commands leads to, one for each command.
  abbrev pub states_of : {old last : Embedding H} {commands : List Command} {replies : List Reply}
      → AppliesAll HostStep old commands replies last → List (Embedding H)
  states_of none = []
  states_of (then_on {between = next} step rest) = next ∷ states_of rest

  -- A command is applied, goes well and is as stated.
  abbrev pub AppliesWell : Embedding H → Command → Reply → Embedding H → Type 0
  AppliesWell old command reply new =
      Applies HostStep old command reply new × GoesWell old command reply new
      × IsAsSaid old command reply new

  -- A run of commands, each of which goes well and is as stated.
  abbrev pub RunsWell : Embedding H → List Command → List Reply → Embedding H → Type 0
  RunsWell old commands replies last =
      (run : AppliesAll HostStep old commands replies last) × AllGoWell HostStep run
      × AllAreAsSaid run

module _ {H : Type 0} (host_type : H → FuncType)
    (Answers : H → List Val → List ℕ → Answer → List ℕ → H → Type 0) where
  -- The statement by which the law is proved: each command of any list that is applied to a fresh embedding is as stated.
  abbrev pub Headline : Type 0
  Headline = (setup : Setup) (definitions : List (HostDefinition H)) (fresh last : Embedding H)
      (commands : List Command) (replies : List Reply)
      → length definitions < 2 ^ 32 → Creates host_type setup definitions (Ok fresh)
      → All LoadsBytes commands
      → (run : AppliesAll (IsHostStep host_type Answers) fresh commands replies last)
      → AllAreAsSaid (IsHostStep host_type Answers) run
