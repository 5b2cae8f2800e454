-- What a link has allocated and run.
use Rattle.std.proofs.Common.{sym, ◌≡◌, ℕ, ◌≤◌, List, [], ◌∷◌, ◌++◌, length, map, ap, subst, ◌∙◌, arith}
use Rattle.std.specs.Prelude.{Option, Some, None, slice_get, unwrap_or}
use Rattle.std.specs.List.{All}
use Rattle.std.proofs.lemmas.List.{append-nil}
use Rattle.std.proofs.lemmas.List.Elements.{All-map}
use Rattle.core_types.specs.declared.module.Import.{Import}
use Rattle.core_types.specs.declared.module.Module.{Module}
use Rattle.core_types.specs.declared.outcome.Extern.{Extern}
use Rattle.core_types.specs.declared.outcome.Val.{Val}
use Rattle.core_types.specs.declared.types.Limits.{Limits}
use Rattle.core_types.specs.declared.types.TableType.{TableType}
use Rattle.meaning.specs.execution.Memories.{new_memory}
use Rattle.meaning.specs.execution.Modules.{AreGiven, Instantiation, RunTasks, Task, all_done, map_all, new_elements, new_global, new_instance, new_objects, objects_with, tasks_of, with_module}
use Rattle.meaning.specs.execution.Runs.{Answer, Ending, State, WithValues}
use Rattle.meaning.specs.execution.Store.{GlobalInstance, ModuleInstance, ObjectLists, Store, instance_of, no_instance}
use Rattle.meaning.specs.execution.Tables.{ElementInstance, new_table}
use Rattle.instantiate.specs.declared.link_end.TaskEnd.{TaskEnd}
use Rattle.exec.specs.Endings.{run_state}
use Rattle.store.proofs.lemmas.Positions.{slice_get-seam}
use Rattle.store.specs.Contents.{Contents, code_store, store_with}
use Rattle.store.specs.State.{AreWithin, Bounds, IsMemoryWithin, IsTableWithin, StateContents}
use Rattle.core_types.specs.declared.types.FuncType.{FuncType}
use Rattle.meaning.specs.structure.Bodies.{Body, body_of, writing}
use Rattle.soundness.specs.Hosts.{AreReady}
use Rattle.soundness.specs.Links.{IsLinkable, TasksAreGood}
use Rattle.soundness.specs.Stores.{StoreIsValid}
use Rattle.soundness.proofs.Hosts.{ready-linked}
use Rattle.soundness.proofs.Links.{tasks-good}
use Rattle.instantiate.specs.Links.{IsAllocated}
use Rattle.instantiate.specs.Tasks.{DoneTasks, EndedTasks, HasInstance, TasksRunOn, ending_in}
use Rattle.instantiate.proofs.lemmas.Instances.{addresses_in}

-- Each import is given something.
pub given-enough : (store : Store) (m : Module) (imports : List Import) (externs : List Extern) → AreGiven store m imports externs → length imports ≤ length externs
given-enough store m [] externs given = omega arith
given-enough store m (i ∷ imports) [] given = absurd given
given-enough store m (i ∷ imports) (e ∷ externs) given = let rest = given-enough store m imports externs given.1 in omega (arith, rest)

-- The new tables and memories are those of the module, and so within the limits.
tables-are : (m : Module) (globals : Option (List GlobalInstance)) (elements : Option (List ElementInstance)) (objects : ObjectLists)
    → objects_with m globals elements ≡ Some objects → map new_table m.tables ≡ objects.tables
tables-are m None elements objects is = absurd (cc)
tables-are m (Some globals) None objects is = absurd (cc)
tables-are m (Some globals) (Some elements) objects is = ap (λ (o : Option ObjectLists). (unwrap_or o objects).tables) is

memories-are : (m : Module) (globals : Option (List GlobalInstance)) (elements : Option (List ElementInstance)) (objects : ObjectLists)
    → objects_with m globals elements ≡ Some objects → map new_memory m.memories ≡ objects.memories
memories-are m None elements objects is = absurd (cc)
memories-are m (Some globals) None objects is = absurd (cc)
memories-are m (Some globals) (Some elements) objects is = ap (λ (o : Option ObjectLists). (unwrap_or o objects).memories) is

pub objects-within : (store : Store) (i : ModuleInstance) (m : Module) (objects : ObjectLists) (bounds : Bounds) → new_objects store i m
    ≡ Some objects → All (λ (t : TableType). t.limits.min ≤ bounds.entries) m.tables → All (λ (l : Limits). l.min ≤ bounds.pages) m.memories
    → AreWithin bounds objects.tables objects.memories
objects-within store i m objects bounds is few_entries few_pages = record {
  few_entries = subst (All (IsTableWithin bounds.entries))
      (tables-are m (map_all (new_global store i) m.globals) (map_all (new_elements store i) m.elements) objects is)
      (All-map (IsTableWithin bounds.entries) new_table m.tables few_entries);
  few_pages = subst (All (IsMemoryWithin bounds.pages))
      (memories-are m (map_all (new_global store i) m.globals) (map_all (new_elements store i) m.elements) objects is)
      (All-map (IsMemoryWithin bounds.pages) new_memory m.memories few_pages);
}

module _ (number : ℕ) (m : Module) (given : List Extern) (old : Store) (code : Contents) (s : StateContents) (a : IsAllocated number m given old (store_with code s)) where
  -- The new instance has the number that is returned.
  numbered : slice_get (store_with code s).instances number ≡ Some (new_instance old m given)
  numbered =
      ap (slice_get (store_with code s).instances) a.number_is ∙ ap (λ (store : Store). slice_get store.instances (length old.instances)) a.store_is ∙
      slice_get-seam old.instances (new_instance old m given) []

  pub allocated-instance : HasInstance code number m
  allocated-instance = (addresses_in (new_instance old m given), numbered)

  -- The tasks of the link go well.
  pub allocated-good : ((b : Body) → body_of (writing b) ≡ b) → StoreIsValid old → IsLinkable old m given
      → TasksAreGood (store_with code s) number (instance_of (code_store code) (Some number)) (tasks_of m)
  allocated-good read valid linkable =
      let instance_is : instance_of (code_store code) (Some number) ≡ new_instance old m given = ap (λ (o : Option ModuleInstance). unwrap_or o no_instance) numbered in
      subst (λ (store : Store). TasksAreGood store number (instance_of (code_store code) (Some number)) (tasks_of m)) (sym a.store_is)
      (subst (λ (i : ModuleInstance). TasksAreGood (with_module old (new_instance old m given) m a.objects) number i (tasks_of m)) (sym instance_is)
      (subst (λ (k : ℕ). TasksAreGood (with_module old (new_instance old m given) m a.objects) k (new_instance old m given) (tasks_of m)) (sym a.number_is)
      (tasks-good read old m given a.objects valid linkable a.objects_are)))

  pub allocated-ready : {H : Type 0} (host_type : H → FuncType) (hosts : List H) → AreReady host_type old hosts → AreReady host_type (store_with code s) hosts
  allocated-ready host_type hosts ready =
      subst (λ (store : Store). AreReady host_type store hosts) (sym a.store_is) (ready-linked host_type old m (new_instance old m given) a.objects hosts ready)

  -- The run of the tasks is the instantiation.
  module _ {H : Type 0} (HostStep : List H → ℕ → Option ℕ → List Val → Store → Answer → Store → List H → Type 0) (hosts : List H) (bound fuel : ℕ) where
    ran-links : (ending : Ending) (last : State H)
        → RunTasks HostStep bound number (instance_of (code_store code) (Some number)) (run_state (store_with code s) hosts fuel) (tasks_of m) ending
        last → Instantiation HostStep bound m given (run_state old hosts fuel) ending last
    ran-links ending last ran =
        let instance_is : instance_of (code_store code) (Some number) ≡ new_instance old m given = ap (λ (o : Option ModuleInstance). unwrap_or o no_instance) numbered in
        record {
          objects = a.objects;
          allocated = a.objects_are;
          ran = subst (λ (n : ℕ). RunTasks HostStep bound n (new_instance old m given)
              (run_state (with_module old (new_instance old m given) m a.objects) hosts fuel) (tasks_of m) ending last) a.number_is
              (subst (λ (i : ModuleInstance). RunTasks HostStep bound number i (run_state (with_module old (new_instance old m given) m a.objects) hosts fuel) (tasks_of m) ending last) instance_is
              (subst (λ (store : Store). RunTasks HostStep bound number (instance_of (code_store code) (Some number)) (run_state store hosts fuel) (tasks_of m) ending last) a.store_is ran));
        }

    pub done-links : (last : State H)
        → DoneTasks HostStep bound number (instance_of (code_store code) (Some number)) (run_state (store_with code s) hosts fuel) (tasks_of m) last
        → Instantiation HostStep bound m given (run_state old hosts fuel) (WithValues []) last
    done-links last before = ran-links (WithValues []) last (before-all (before [] (Some (WithValues [])) last all_done))
      where
        before-all : RunTasks HostStep bound number (instance_of (code_store code) (Some number)) (run_state (store_with code s) hosts fuel)
            (tasks_of m ++ []) (WithValues []) last
            → RunTasks HostStep bound number (instance_of (code_store code) (Some number)) (run_state (store_with code s) hosts fuel) (tasks_of m)
            (WithValues []) last
        before-all = subst (λ (ts : List Task).
            RunTasks HostStep bound number (instance_of (code_store code) (Some number)) (run_state (store_with code s) hosts fuel) ts (WithValues [])
            last) (append-nil (tasks_of m))

    pub ended-links : (o : TaskEnd) (ending : Ending) (last : State H) → ending_in o ≡ Some ending
        → EndedTasks HostStep bound number (instance_of (code_store code) (Some number)) (run_state (store_with code s) hosts fuel) (tasks_of m) o last
        → Instantiation HostStep bound m given (run_state old hosts fuel) ending last
    ended-links o ending last is before =
        let ran = subst (λ (e : Option Ending).
        TasksRunOn HostStep bound number (instance_of (code_store code) (Some number)) (run_state (store_with code s) hosts fuel)
        (tasks_of m ++ []) e last) is (before.ended []) in
        ran-links ending last (subst (λ (ts : List Task).
        RunTasks HostStep bound number (instance_of (code_store code) (Some number)) (run_state (store_with code s) hosts fuel) ts ending last)
        (append-nil (tasks_of m)) ran)
