-- The result of a link, and what it leaves.
use Rattle.std.specs.Prelude.{◌≡◌, ℕ, ◌<◌, List, [], length, take, Option, Some, None, Result, Ok, Err, slice_get}
use Rattle.core_types.specs.declared.module.Import.{Import}
use Rattle.core_types.specs.declared.module.Module.{Module}
use Rattle.core_types.specs.declared.outcome.Extern.{Extern}
use Rattle.core_types.specs.declared.outcome.Val.{Val}
use Rattle.meaning.specs.execution.Modules.{AreGiven, HasNoValues, Instantiation, IsAllowed, IsGiven, IsWithinLimits, import_type, new_instance, new_objects, with_module}
use Rattle.meaning.specs.execution.Runs.{Answer, State, WithValues}
use Rattle.meaning.specs.execution.Store.{ObjectLists, Store}
use Rattle.soundness.specs.Links.{InstanceStays}
use Rattle.exec.specs.declared.outcome.Outcome.{Outcome}
use Rattle.exec.specs.Endings.{ending_of}
use Rattle.instantiate.specs.declared.link_end.LinkEnd.{LinkEnd}
use Rattle.instantiate.specs.declared.link_end.LinkEnd.TheVariants.{Refused, Ended}
use Rattle.instantiate.specs.declared.link_end.LinkRefusal.{LinkRefusal}
use Rattle.instantiate.specs.declared.link_end.LinkRefusal.TheVariants.{Limit, UnknownImport, IncompatibleImport, OutOfMemory}

-- The import of this index is the first that is given a value that does not match.
pub record IsMismatch (store : Store) (m : Module) (externs : List Extern) (index : ℕ) : Type 0
  where
    pub wanted : Import
    pub given : Extern
    pub wanted_is : slice_get m.imports index ≡ Some wanted
    pub given_is : slice_get externs index ≡ Some given
    pub differs : IsGiven store given (import_type m wanted.desc) → ⊥
    pub before : AreGiven store m (take index m.imports) externs

-- Why a link is refused: for the first import for which nothing is given, or which does not match. Memory can run out for any module.
abbrev pub IsCause : LinkRefusal → Store → Module → List Extern → Type 0
IsCause (UnknownImport index) store m externs =
    (length externs < length m.imports) × (index ≡ length externs)
IsCause (IncompatibleImport index) store m externs =
    (length externs < length m.imports → ⊥) × IsMismatch store m externs index
IsCause Limit store m externs = AreGiven store m m.imports externs × (IsWithinLimits store m → ⊥)
IsCause OutOfMemory store m externs = Unit {0}

-- The values given for the imports.
abbrev pub given_to : Module → List Extern → List Extern
given_to m externs = take (length m.imports) externs

-- Nothing forbids a link, or this cause does.
abbrev pub IsCauseOrAllowed : Option LinkRefusal → Store → Module → List Extern → Type 0
IsCauseOrAllowed None store m externs = IsAllowed store m externs
IsCauseOrAllowed (Some refusal) store m externs = IsCause refusal store m externs

-- The module's objects, and its instance, are in the store.
pub record IsAllocated (number : ℕ) (m : Module) (given : List Extern) (old new : Store) : Type 0
  where
    pub number_is : number ≡ length old.instances
    pub objects : ObjectLists
    pub objects_are : new_objects old (new_instance old m given) m ≡ Some objects
    pub store_is : new ≡ with_module old (new_instance old m given) m objects

-- They were allocated, or nothing has changed and an allocation failed.
abbrev pub Allocates : Result ℕ LinkEnd → Module → List Extern → (old new : Store) → Type 0
Allocates (Ok number) m given old new = IsAllocated number m given old new
Allocates (Err (Refused refusal)) m given old new = (refusal ≡ OutOfMemory) × (new ≡ old)
Allocates (Err (Ended o)) m given old new = ⊥

module _ {H : Type 0} (HostStep : List H → ℕ → Option ℕ → List Val → Store → Answer → Store
    → List H → Type 0) where
  -- The module is instantiated, as the instance of this number.
  pub record IsLinked (number bound : ℕ) (m : Module) (externs : List Extern)
      (old new : State H) : Type 0 where
    pub allowed : IsAllowed old.store m externs
    pub number_is : number ≡ length old.store.instances
    pub run : Instantiation HostStep bound m (given_to m externs) old (WithValues []) new

  -- The instantiation of the module ended like this.
  pub record IsEnded (o : Outcome) (bound : ℕ) (m : Module) (externs : List Extern)
      (old new : State H) : Type 0 where
    pub allowed : IsAllowed old.store m externs
    pub no_values : HasNoValues (ending_of o)
    pub run : Instantiation HostStep bound m (given_to m externs) old (ending_of o) new

-- The link of the module is refused, and nothing has changed.
pub record IsRefused {H : Type 0} (refusal : LinkRefusal) (m : Module) (externs : List Extern)
    (old new : State H) : Type 0 where
  pub cause : IsCause refusal old.store m externs
  pub unchanged : new ≡ old

-- The result of a link, and what it leaves.
abbrev pub Links : {H : Type 0}
    (HostStep : List H → ℕ → Option ℕ → List Val → Store → Answer → Store → List H → Type 0)
    → Result ℕ LinkEnd → (bound : ℕ) → Module → List Extern → (old new : State H) → Type 0
Links HostStep (Ok number) bound m externs old new =
    IsLinked HostStep number bound m externs old new
Links HostStep (Err (Ended o)) bound m externs old new = IsEnded HostStep o bound m externs old new
Links HostStep (Err (Refused refusal)) bound m externs old new = IsRefused refusal m externs old new

-- A link that is not refused leaves a valid instance, even if it ended without values.
abbrev pub LeavesInstance : Result ℕ LinkEnd → Module → List Extern → (old new : Store) → Type 0
LeavesInstance (Ok number) m externs old new = InstanceStays old new m (given_to m externs)
LeavesInstance (Err (Ended o)) m externs old new = InstanceStays old new m (given_to m externs)
LeavesInstance (Err (Refused refusal)) m externs old new = Unit {0}
