-- Runs from typed configurations (Appendix, Soundness, Theorems).
use Rattle.std.specs.Prelude.{◌≡◌, ℕ, List, [], Option, Some, None, slice_get}
use Rattle.core_types.specs.declared.outcome.Val.{Val}
use Rattle.core_types.specs.declared.types.FuncType.{FuncType}
use Rattle.core_types.specs.declared.types.ValType.{ValType}
use Rattle.meaning.specs.execution.Configurations.{Configuration, Frame}
use Rattle.meaning.specs.execution.Runs.{Answer, Results, HostTrap, Ending, WithValues, WithTrap, OutOfFuel, OutOfDepth, OutOfMemory, Run, State}
use Rattle.meaning.specs.execution.Store.{InHost, Store}
use Rattle.meaning.specs.soundness.Values.{ValuesHaveTypes}
use Rattle.soundness.specs.Configurations.{ConfigurationHasType}
use Rattle.soundness.specs.Places.{Place, outermost}
use Rattle.soundness.specs.Stores.{Extends, StoreIsValid}

-- Results have these types. A trap has no results.
abbrev pub AnswerHasTypes : Store → Answer → List ValType → Type 0
AnswerHasTypes store (Results values) types = ValuesHaveTypes store values types
AnswerHasTypes store (HostTrap code) types = Unit {0}

-- How a run to these results may end.
abbrev pub EndsWell : Store → List ValType → Ending → Type 0
EndsWell store results (WithValues values) = ValuesHaveTypes store values results
EndsWell store results (WithTrap trap) = Unit {0}
EndsWell store results OutOfFuel = Unit {0}
EndsWell store results OutOfDepth = Unit {0}
EndsWell store results OutOfMemory = Unit {0}

-- A configuration leads to some results outside of all frames, in a valid store.
pub record IsTyped (store : Store) (configuration : Configuration) : Type 0 where
  pub valid : StoreIsValid store
  pub results : List ValType
  pub typed : ConfigurationHasType store outermost configuration results

-- A frame without locals, which is that of the place.
pub record IsOutside (frame : Frame) (place : Place) : Type 0 where
  pub instance : frame.instance ≡ place.instance
  pub frame_locals : frame.locals ≡ []
  pub locals : place.locals ≡ []
  pub labels : place.labels ≡ []
  pub results : place.results ≡ None

module _ {H : Type 0} (HostStep : List H → ℕ → Option ℕ → List Val → Store → Answer → Store
    → List H → Type 0) (HaveHosts : Store → List H → Type 0) where
  -- What a call of a host function by its type returns and leaves.
  pub record AnswersWell (t : FuncType) (old : Store) (answer : Answer) (new : Store)
      (hosts : List H) : Type 0 where
    pub extends : Extends old new
    pub valid : StoreIsValid new
    pub there : HaveHosts new hosts
    pub typed : AnswerHasTypes old answer t.results

  -- Host functions that are called by their types answer by their types, and the store stays valid.
  abbrev pub HostsAnswerWell : Type 0
  HostsAnswerWell = (hosts hosts' : List H) (number address : ℕ) (lent : Option ℕ)
      (arguments : List Val) (old new : Store) (answer : Answer) (t : FuncType)
      → StoreIsValid old → HaveHosts old hosts
      → slice_get old.functions address ≡ Some (record { ty = t; implementation = InHost number })
      → ValuesHaveTypes old arguments t.params
      → HostStep hosts number lent arguments old answer new hosts'
      → AnswersWell t old answer new hosts'

  -- What a run from a typed configuration leaves, and how it ends.
  pub record EndsTyped (results : List ValType) (old : State H) (ending : Ending)
      (last : State H) : Type 0 where
    pub extends : Extends old.store last.store
    pub valid : StoreIsValid last.store
    pub there : HaveHosts last.store last.hosts
    pub ends : EndsWell last.store results ending

  -- A run from a typed configuration in a valid store never goes wrong. The frame outside is that of the place, which has no label and no
  -- frame around it.
  abbrev pub NeverGoesWrong : Type 0
  NeverGoesWrong = (bound : ℕ) (frame : Frame) (place : Place) (old last : State H)
      (configuration : Configuration) (results : List ValType) (ending : Ending)
      → IsOutside frame place → StoreIsValid old.store → HaveHosts old.store old.hosts
      → ConfigurationHasType old.store place configuration results
      → Run HostStep bound frame old configuration ending last
      → EndsTyped results old ending last

-- No condition on host functions.
abbrev pub NoConditions : {H : Type 0} → Store → List H → Type 0
NoConditions store hosts = Unit {0}
