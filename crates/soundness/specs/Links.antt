-- Modules that are allocated in a valid store (Appendix, Soundness).
use Rattle.std.specs.Prelude.{◌≡◌, ℕ, ◌≤◌, List, [], length, Option, Some, slice_get}
use Rattle.std.specs.List.{All}
use Rattle.core_types.specs.declared.module.DataSegment.{DataSegment}
use Rattle.core_types.specs.declared.module.Module.{Module}
use Rattle.core_types.specs.declared.outcome.Extern.{Extern}
use Rattle.core_types.specs.declared.outcome.Val.{Val}
use Rattle.core_types.specs.declared.types.TableType.{TableType}
use Rattle.core_types.specs.declared.types.ValType.{ValType}
use Rattle.meaning.specs.execution.Modules.{Activity, AreGiven, Instantiation, IsWithinLimits, Task, activity, new_instance, new_objects, with_module}
use Rattle.meaning.specs.execution.Runs.{Answer, Ending, State}
use Rattle.meaning.specs.execution.Storage.{AreBytes}
use Rattle.meaning.specs.execution.Store.{ModuleInstance, ObjectLists, Store}
use Rattle.meaning.specs.execution.Tables.{most_entries}
use Rattle.meaning.specs.validation.Modules.{IsValid, functions_of}
use Rattle.soundness.specs.Configurations.{ConfigurationHasType}
use Rattle.soundness.specs.Places.{Place, instance_context}
use Rattle.soundness.specs.Runs.{EndsTyped, IsOutside}
use Rattle.soundness.specs.Stores.{Extends, InstanceIsValid, StoreIsValid}

-- A valid module whose numbers fit: no table has more entries than any may have, and its data are bytes.
pub record IsSoundModule (m : Module) : Type 0 where
  pub valid : IsValid m
  pub few_entries : All (λ (t : TableType). t.limits.min ≤ most_entries) m.tables
  pub bytes : All (λ (d : DataSegment). AreBytes d.bytes) m.datas

-- A module that is within the limits, with what is given for its imports.
pub record IsLinkable (store : Store) (m : Module) (given : List Extern) : Type 0 where
  pub sound : IsSoundModule m
  pub within : IsWithinLimits store m
  pub count : length given ≡ length m.imports
  pub fits : AreGiven store m m.imports given

-- What runs in a frame outside of all others is typed there.
pub record RunsTyped (store : Store) (a : Activity) : Type 0 where
  pub place : Place
  pub results : List ValType
  pub outside : IsOutside a.frame place
  pub typed : ConfigurationHasType store place a.configuration results

-- What a task of a link runs exists, and is typed.
abbrev pub TaskIsGood : Store → (instance : ℕ) → ModuleInstance → Task → Type 0
TaskIsGood store instance i task =
    (a : Activity) × (activity store instance i task ≡ Some a) × RunsTyped store a

-- The same for each of these tasks, in each valid store that extends this one.
abbrev pub TasksAreGood : Store → (instance : ℕ) → ModuleInstance → List Task → Type 0
TasksAreGood store instance i tasks =
    (at : Store) → StoreIsValid at → Extends store at → All (TaskIsGood at instance i) tasks

-- This is the instance of a module that is linked into the store, and these are its objects.
pub record IsAllocation (store : Store) (m : Module) (i : ModuleInstance)
    (objects : ObjectLists) : Type 0 where
  pub given : List Extern
  pub linkable : IsLinkable store m given
  pub instance_is : i ≡ new_instance store m given
  pub objects_are : new_objects store i m ≡ Some objects

-- The store with the module's objects is valid and extends the one before.
abbrev pub AllocationKeepsValid : Type 0
AllocationKeepsValid = (old : Store) (m : Module) (given : List Extern) (objects : ObjectLists)
    → StoreIsValid old → IsLinkable old m given
    → new_objects old (new_instance old m given) m ≡ Some objects
    → Extends old (with_module old (new_instance old m given) m objects)
    × StoreIsValid (with_module old (new_instance old m given) m objects)

-- In the context of its instance, the types are those of the module, and so are the types of its functions.
abbrev pub ContextHasModuleTypes : Type 0
ContextHasModuleTypes =
    (old : Store) (m : Module) (given : List Extern) (objects : ObjectLists)
    → IsLinkable old m given
    → ((instance_context (with_module old (new_instance old m given) m objects)
    (new_instance old m given)).types
    ≡ m.types)
    × ((instance_context (with_module old (new_instance old m given) m objects)
    (new_instance old m given)).functions
    ≡ functions_of m)

-- The instance of a module that was linked exists, and is valid.
pub record InstanceStays (old new : Store) (m : Module) (given : List Extern) : Type 0 where
  pub there : slice_get new.instances (length old.instances) ≡ Some (new_instance old m given)
  pub valid : InstanceIsValid new (new_instance old m given)

module _ {H : Type 0} (HostStep : List H → ℕ → Option ℕ → List Val → Store → Answer → Store
    → List H → Type 0) (HaveHosts : Store → List H → Type 0) where
  -- A link of a module in a valid store never goes wrong. It leaves a valid store and a valid instance, even if it ends without values.
  abbrev pub LinksNeverGoWrong : Type 0
  LinksNeverGoWrong = (bound : ℕ) (m : Module) (given : List Extern) (old new : State H)
      (ending : Ending)
      → StoreIsValid old.store → HaveHosts old.store old.hosts → IsLinkable old.store m given
      → Instantiation HostStep bound m given old ending new
      → EndsTyped HostStep HaveHosts [] old ending new
      × InstanceStays old.store new.store m given
