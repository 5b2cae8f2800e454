-- Instructions of a link as steps and runs, and the runs as its tasks.
use Rattle.std.proofs.Common.{◌≡◌, ℕ, suc, ◌+◌, ◌%◌, ◌^◌, ◌<◌, ◌≤◌, List, [], ◌∷◌, ◌++◌, length, get_or, drop, reverse, refl, sym, ap, subst, ◌∙◌, append_assoc, arith}
use Rattle.std.specs.Prelude.{Option, Some, None, Result, Ok, Err, slice_get}
use Rattle.std.proofs.lemmas.List.{drop_more}
use Rattle.std.proofs.Math.ListN.{drop_of_length-le}
use Rattle.core_types.specs.declared.op.MemoryOp.TheVariants.{Init as InitMemory}
use Rattle.core_types.specs.declared.op.Op.{Op}
use Rattle.core_types.specs.declared.op.PlainOp.{PlainOp}
use Rattle.core_types.specs.declared.op.PlainOp.TheVariants.{Memory, Table}
use Rattle.core_types.specs.declared.op.TableOp.TheVariants.{Init as InitTable}
use Rattle.core_types.specs.declared.outcome.Val.{Val}
use Rattle.core_types.specs.declared.outcome.Val.TheVariants.{I32, I64, FuncRef, ExternRef}
use Rattle.meaning.specs.structure.Bodies.{Body, Empty, Then}
use Rattle.meaning.specs.execution.Configurations.{Configuration, Frame, Invoking, Running, no_frame}
use Rattle.meaning.specs.execution.Effects.{data_at, elements_at, in_memory, init_memory, init_table, table_at}
use Rattle.meaning.specs.execution.Instructions.{NotReady, continue_after, next}
use Rattle.meaning.specs.execution.Memories.{MemoryInstance}
use Rattle.meaning.specs.execution.Modules.{Activity, Copies, Drops, RunOf, Starts, Task, activity, constant_value, done, ended, in_instance, tasks_by}
use Rattle.meaning.specs.execution.Runs.{Answer, Ending, IsEnd, IsStep, NoHosts, OutOfFuel, OutOfMemory, Run, State, WithTrap, WithValues, end, goes, grows}
use Rattle.meaning.specs.execution.Runs.{no_fuel, no_memory, one_more, step, trapped, values_left}
use Rattle.meaning.specs.execution.Runs as of
use Rattle.meaning.specs.execution.Store.{DataInstance, ModuleInstance, Store, instance_of, locate}
use Rattle.meaning.specs.execution.Tables.{ElementInstance, TableInstance}
use Rattle.meaning.proofs.lemmas.Runs.{Steps-join}
use Rattle.soundness.specs.Progress.{later, not_there, stuck}
use Rattle.soundness.proofs.Runs.{waiting-stuck}
use Rattle.instantiate.specs.declared.link_end.TaskEnd.{TaskEnd}
use Rattle.exec.specs.declared.outcome.Outcome.{Outcome}
use Rattle.exec.specs.Endings.{ending_of}
use Rattle.instantiate.specs.declared.link_end.TaskEnd.TheVariants.{Stuck}
use Rattle.instantiate.specs.Tasks.{DoneTasks, EndedTasks, EndsAs, HasNoI32, IsWithoutValues, RanTasks, RunsOn, RunsTo, TasksRunOn, ending_in}

-- The frame of an instance, without locals.
abbrev pub frame_of : (instance : ℕ) → Frame
frame_of instance = record { instance = Some instance; locals = [] }

-- A state without host functions.
abbrev pub at : Store → (fuel : ℕ) → State ⊥
at store fuel = record { store = store; hosts = []; fuel = fuel }

-- ---- runs

-- A step before a run, however the run continues.
step-before : (ending : Option Ending) (bound : ℕ) (frame : Frame) (old mid new : State ⊥) (first second : Configuration)
    → IsStep NoHosts bound frame old first mid second → RunsOn NoHosts bound frame mid second ending new → RunsOn NoHosts bound frame old first ending new
step-before (Some ending) bound frame old mid new first second s run = step s run
step-before None bound frame old mid new first second s gets =
    record { at = gets.at; reached = gets.reached; steps = Steps-join NoHosts bound frame (one_more of.none s) gets.steps; stuck = gets.stuck }

-- A step before a run.
pub step-runs : {U : Type 0} (r : Result U TaskEnd) (bound : ℕ) (frame : Frame) (old mid new : State ⊥) (first second : Configuration)
    → IsStep NoHosts bound frame old first mid second → RunsTo NoHosts r bound frame mid second new → RunsTo NoHosts r bound frame old first new
step-runs (Ok u) bound frame old mid new first second s run = (run.0, step s run.1)
step-runs (Err o) bound frame old mid new first second s run = record { ends = step-before (ending_in o) bound frame old mid new first second s run.ends; no_values = run.no_values }

-- A step to values only.
pub step-over : (bound : ℕ) (frame : Frame) (old new : State ⊥) (first : Configuration) (values : List Val)
    → IsStep NoHosts bound frame old first new (Running values Empty) → Run NoHosts bound frame old first (WithValues (reverse values)) new
step-over bound frame old new first values s = step s (end (values_left refl refl refl))

-- A call from outside that ended like this.
pub called : {H : Type 0} (HostStep : List H → ℕ → Option ℕ → List Val → Store → Answer → Store → List H → Type 0) {U : Type 0} (r : Result U TaskEnd)
    (outcome : Outcome) (bound : ℕ) (frame : Frame) (old new : State H) (configuration : Configuration)
    → EndsAs r outcome → Run HostStep bound frame old configuration (ending_of outcome) new → RunsTo HostStep r bound frame old configuration new
called HostStep (Ok u) outcome bound frame old new configuration (values, is) run = (values, subst (λ (o : Outcome). Run HostStep bound frame old configuration (ending_of o) new) is run)
called HostStep (Err o) outcome bound frame old new configuration (is, none) run =
    record { ends = subst (λ (e : Option Ending). RunsOn HostStep bound frame old configuration e new) is run; no_values = none }

-- ---- tasks

module _ {H : Type 0} (HostStep : List H → ℕ → Option ℕ → List Val → Store → Answer → Store → List H → Type 0) (bound instance : ℕ) (i : ModuleInstance) where
  -- A completed task is before others, however these continue.
  done-before : (ending : Option Ending) (old between last : State H) (task : Task) (tasks : List Task) (a : Activity) (values : List Val)
      → activity old.store instance i task ≡ Some a → RunOf HostStep bound old a (WithValues values) between
      → TasksRunOn HostStep bound instance i between tasks ending last → TasksRunOn HostStep bound instance i old (task ∷ tasks) ending last
  done-before (Some ending) old between last task tasks a values is run more = done is run more
  done-before None old between last task tasks a values is run more = later is run more

  -- A task ends all tasks.
  ended-here : (ending : Option Ending) (old last : State H) (task : Task) (tasks : List Task) (a : Activity) → activity old.store instance i task
      ≡ Some a → RunsOn HostStep bound a.frame old a.configuration ending last → IsWithoutValues ending
      → TasksRunOn HostStep bound instance i old (task ∷ tasks) ending last
  ended-here (Some ending) old last task tasks a is run none = ended is run none
  ended-here None old last task tasks a is gets none = stuck is gets

  ran-one : {U : Type 0} (r : Result U TaskEnd) (old new : State H) (task : Task) (a : Activity) → activity old.store instance i task ≡ Some a
      → RunsTo HostStep r bound a.frame old a.configuration new → RanTasks HostStep r bound instance i old (task ∷ []) new
  ran-one (Ok u) old new task a is run = λ further ending last more. done-before ending old new last task further a run.0 is run.1 more
  ran-one (Err o) old new task a is run = record { ended = λ further. ended-here (ending_in o) old new task further a is run.ends run.no_values; no_values = run.no_values }

  lost-one : (old : State H) (task : Task) → activity old.store instance i task ≡ None → EndedTasks HostStep bound instance i old (task ∷ []) Stuck old
  lost-one old task none = record { ended = λ further. not_there none; no_values = tt }

  -- All of a segment is copied.
  pub copied : {U : Type 0} (r : Result U TaskEnd) (old new : State H) (offset : List Op) (count target : ℕ) (init drop : PlainOp)
      → constant_value old.store i offset ≡ Some (I32 target)
      → RunsTo HostStep r bound (frame_of instance) old (Running (I32 (count % 2 ^ 32) ∷ (I32 0 ∷ (I32 target ∷ []))) (Then init (Then drop Empty)))
      new → RanTasks HostStep r bound instance i old (Copies offset count init drop ∷ []) new
  copied r old new offset count target init drop has run =
      ran-one r old new (Copies offset count init drop) (in_instance instance (Running (I32 (count % 2 ^ 32) ∷ (I32 0 ∷ (I32 target ∷ []))) (Then init (Then drop Empty)))) (rw has refl) run

  -- A segment is dropped.
  pub dropped : {U : Type 0} (r : Result U TaskEnd) (old new : State H) (drop : PlainOp)
      → RunsTo HostStep r bound (frame_of instance) old (Running [] (Then drop Empty)) new → RanTasks HostStep r bound instance i old (Drops drop ∷ []) new
  dropped r old new drop run = ran-one r old new (Drops drop) (in_instance instance (Running [] (Then drop Empty))) refl run

  -- The start function is called.
  pub started : {U : Type 0} (r : Result U TaskEnd) (old new : State H) (x address : ℕ) → slice_get i.functions x ≡ Some address
      → RunsTo HostStep r bound no_frame old (Invoking [] address) new → RanTasks HostStep r bound instance i old (Starts x ∷ []) new
  started r old new x address has run =
      ran-one r old new (Starts x) (record { frame = no_frame; configuration = Invoking [] address }) (rw has refl) run

  -- There is no function under the index.
  pub not-started : (old : State H) (x : ℕ) → slice_get i.functions x ≡ None → EndedTasks HostStep bound instance i old (Starts x ∷ []) Stuck old
  not-started old x none = lost-one old (Starts x) (rw none refl)

  pub ran-then : {U : Type 0} (r : Result U TaskEnd) (old mid new : State H) (first second : List Task)
      → DoneTasks HostStep bound instance i old first mid → RanTasks HostStep r bound instance i mid second new
      → RanTasks HostStep r bound instance i old (first ++ second) new
  ran-then (Ok u) old mid new first second before after =
      λ further ending last more. subst (λ (ts : List Task). TasksRunOn HostStep bound instance i old ts ending last)
      (sym (append_assoc first second further)) (before (second ++ further) ending last (after further ending last more))
  ran-then (Err o) old mid new first second before after = record {
    ended = λ further. subst (λ (ts : List Task). TasksRunOn HostStep bound instance i old ts (ending_in o) new)
        (sym (append_assoc first second further)) (before (second ++ further) (ending_in o) new (after.ended further));
    no_values = after.no_values;
  }

  pub ended-then : (old new : State H) (first second : List Task) (o : TaskEnd) → EndedTasks HostStep bound instance i old first o new
      → EndedTasks HostStep bound instance i old (first ++ second) o new
  ended-then old new first second o before = record {
    ended = λ further. subst (λ (ts : List Task). TasksRunOn HostStep bound instance i old ts (ending_in o) new) (sym (append_assoc first second further)) (before.ended (second ++ further));
    no_values = before.no_values;
  }

  -- ---- the tasks of items, one after the other

  module _ {A : Type 0} (task : ℕ → A → List Task) (items : List A) (start : State H) where
    -- A run of the rest of the tasks from here is a run of all from the start.
    abbrev pub SoFar : (now : State H) → ℕ → Type 0
    SoFar now k =
        (further : List Task) (ending : Option Ending) (last : State H)
        → TasksRunOn HostStep bound instance i now (tasks_by task k (drop k items) ++ further) ending last
        → TasksRunOn HostStep bound instance i start (tasks_by task 0 items ++ further) ending last

    rest-is : (k : ℕ) (d : A) → k < length items → (further : List Task) → tasks_by task k (drop k items) ++ further
        ≡ task k (get_or items k d) ++ (tasks_by task (k + 1) (drop (k + 1) items) ++ further)
    rest-is k d inside further =
        let next : suc k ≡ k + 1 = omega arith in
        ap (λ (rest : List A). tasks_by task k rest ++ further) (drop_more items k d inside) ∙ ap
        (λ (n : ℕ). (task k (get_or items k d) ++ tasks_by task n (drop (k + 1) items)) ++ further) next ∙ append_assoc
        (task k (get_or items k d)) (tasks_by task (k + 1) (drop (k + 1) items)) further

    pub tasks-next : (now new : State H) (k : ℕ) (d : A) → k < length items → SoFar now k → DoneTasks HostStep bound instance i now (task k (get_or items k d)) new → SoFar new (k + 1)
    tasks-next now new k d inside so_far before =
        λ further ending last more. so_far further ending last
        (subst (λ (ts : List Task). TasksRunOn HostStep bound instance i now ts ending last) (sym (rest-is k d inside further))
        (before (tasks_by task (k + 1) (drop (k + 1) items) ++ further) ending last more))

    pub tasks-ended : (now new : State H) (k : ℕ) (d : A) → k < length items → SoFar now k → (o : TaskEnd)
        → EndedTasks HostStep bound instance i now (task k (get_or items k d)) o new → EndedTasks HostStep bound instance i start (tasks_by task 0 items) o new
    tasks-ended now new k d inside so_far o before = record {
      ended = λ further. so_far further (ending_in o) new
          (subst (λ (ts : List Task). TasksRunOn HostStep bound instance i now ts (ending_in o) new) (sym (rest-is k d inside further))
          (before.ended (tasks_by task (k + 1) (drop (k + 1) items) ++ further)));
      no_values = before.no_values;
    }

    pub tasks-done : (now : State H) (k : ℕ) → length items ≤ k → SoFar now k → DoneTasks HostStep bound instance i start (tasks_by task 0 items) now
    tasks-done now k past so_far =
        λ further ending last more. so_far further ending last
        (subst (λ (rest : List A). TasksRunOn HostStep bound instance i now (tasks_by task k rest ++ further) ending last)
        (sym (drop_of_length-le items past)) more)

  -- ---- a copy whose offset is not an i32

  module _ (old : State H) (count : ℕ) where
    abbrev Lacking : (init : PlainOp) → Type 0
    Lacking init = (v : Val) → HasNoI32 (Some v) → (rest : Body) → next old.store (frame_of instance) (Running (I32 count ∷ (I32 0 ∷ (v ∷ []))) (Then init rest)) ≡ NotReady

    table-lacks : (segment table : ℕ) → Lacking (Table (InitTable segment table))
    table-lacks segment table v none rest = go (table_at old.store (frame_of instance) table) (elements_at old.store (frame_of instance) segment) v none
      where
        go : (into : Option (ℕ × TableInstance)) (from : Option (ℕ × ElementInstance)) (v : Val) → HasNoI32 (Some v)
            → continue_after (frame_of instance) (init_table old.store (frame_of instance) into from (I32 count ∷ (I32 0 ∷ (v ∷ [])))) rest ≡ NotReady
        go None from v none = refl
        go (Some (a, t)) None v none = refl
        go (Some (a, t)) (Some (b, s)) (I32 n) none = absurd none
        go (Some (a, t)) (Some (b, s)) (I64 n) none = refl
        go (Some (a, t)) (Some (b, s)) (FuncRef n) none = refl
        go (Some (a, t)) (Some (b, s)) (ExternRef n) none = refl

    bytes-lack : (address : ℕ) (memory : MemoryInstance) (from : Option (ℕ × DataInstance)) (v : Val) → HasNoI32 (Some v) → (rest : Body)
        → continue_after (frame_of instance) (init_memory old.store (frame_of instance) address memory from (I32 count ∷ (I32 0 ∷ (v ∷ [])))) rest ≡ NotReady
    bytes-lack address memory None v none rest = refl
    bytes-lack address memory (Some (b, d)) (I32 n) none rest = absurd none
    bytes-lack address memory (Some (b, d)) (I64 n) none rest = refl
    bytes-lack address memory (Some (b, d)) (FuncRef n) none rest = refl
    bytes-lack address memory (Some (b, d)) (ExternRef n) none rest = refl

    memory-lacks : (segment : ℕ) → Lacking (Memory (InitMemory segment))
    memory-lacks segment v none rest = go (locate old.store.memories (slice_get (instance_of old.store (Some instance)).memories 0))
      where
        go : (memory : Option (ℕ × MemoryInstance))
            → continue_after (frame_of instance)
            (in_memory old.store (frame_of instance) memory (InitMemory segment) (I32 count ∷ (I32 0 ∷ (v ∷ [])))) rest ≡ NotReady
        go None = refl
        go (Some (a, m)) = bytes-lack a m (data_at old.store (frame_of instance) segment) v none rest

  -- A copy whose offset is not an i32 is stuck.
  module _ (old : State H) (offset : List Op) (count : ℕ) (init drop : PlainOp) (lacking : Lacking old (count % 2 ^ 32) init) where
    stuck-copy : HasNoI32 (constant_value old.store i offset) → EndedTasks HostStep bound instance i old (Copies offset count init drop ∷ []) Stuck old
    stuck-copy none = go (constant_value old.store i offset) refl none
      where
        go : (found : Option Val) → constant_value old.store i offset ≡ found → HasNoI32 found → EndedTasks HostStep bound instance i old (Copies offset count init drop ∷ []) Stuck old
        go None e none = lost-one old (Copies offset count init drop) (rw e refl)
        go (Some v) e none = record {
          ended = λ further. stuck (rw e refl)
              (record {
                at = old;
                reached = Running (I32 (count % 2 ^ 32) ∷ (I32 0 ∷ (v ∷ []))) (Then init (Then drop Empty));
                steps = of.none;
                stuck = waiting-stuck (lacking v none (Then drop Empty));
              });
          no_values = tt;
        }

  pub stuck-elements : (old : State H) (offset : List Op) (count segment table : ℕ) (drop : PlainOp) → HasNoI32 (constant_value old.store i offset)
      → EndedTasks HostStep bound instance i old (Copies offset count (Table (InitTable segment table)) drop ∷ []) Stuck old
  stuck-elements old offset count segment table drop none = stuck-copy old offset count (Table (InitTable segment table)) drop (table-lacks old (count % 2 ^ 32) segment table) none

  pub stuck-bytes : (old : State H) (offset : List Op) (count segment : ℕ) (drop : PlainOp) → HasNoI32 (constant_value old.store i offset)
      → EndedTasks HostStep bound instance i old (Copies offset count (Memory (InitMemory segment)) drop ∷ []) Stuck old
  stuck-bytes old offset count segment drop none = stuck-copy old offset count (Memory (InitMemory segment)) drop (memory-lacks old (count % 2 ^ 32) segment) none
