-- How calls from outside end, in the terms of the definitions.
use Rattle.std.specs.Prelude.{ℕ, List, Option, reverse, slice_get, Some}
use Rattle.core_types.specs.declared.outcome.Exhaustion.{Exhaustion}
use Rattle.core_types.specs.declared.outcome.Exhaustion.TheVariants as exhausted
use Rattle.core_types.specs.declared.outcome.Val.{Val}
use Rattle.meaning.specs.execution.Configurations.{Invoking, no_frame}
use Rattle.meaning.specs.execution.Runs.{Answer, Ending, OutOfDepth, OutOfFuel, OutOfMemory, Run, State, WithTrap, WithValues}
use Rattle.meaning.specs.execution.Store.{Store, instance_of}
use Rattle.exec.specs.declared.outcome.Outcome.{Outcome}
use Rattle.exec.specs.declared.outcome.Outcome.TheVariants.{Exhausted, Trap, Values}

abbrev pub exhausted_ending : Exhaustion → Ending
exhausted_ending exhausted.Fuel = OutOfFuel
exhausted_ending exhausted.Depth = OutOfDepth
exhausted_ending exhausted.Memory = OutOfMemory

abbrev pub ending_of : Outcome → Ending
ending_of (Values values) = WithValues values
ending_of (Trap trap) = WithTrap trap
ending_of (Exhausted what) = exhausted_ending what

-- The state of a run over host functions.
abbrev pub run_state : {H : Type 0} → Store → List H → (fuel : ℕ) → State H
run_state store hosts fuel = record { store = store; hosts = hosts; fuel = fuel }

-- The address of the memory that an instance has, if it has one.
abbrev pub first_memory : Store → (instance : ℕ) → Option ℕ
first_memory store instance = slice_get (instance_of store (Some instance)).memories 0

-- A call of the function at an address from outside, with these arguments, is a run that ended like this.
abbrev pub RunsCall : {H : Type 0}
    (HostStep : List H → ℕ → Option ℕ → List Val → Store → Answer → Store → List H → Type 0)
    → (bound : ℕ) → (old : State H) → (address : ℕ) → List Val → Outcome → (new : State H) → Type 0
RunsCall HostStep bound old address args outcome new =
    Run HostStep bound no_frame old (Invoking (reverse args) address) (ending_of outcome) new
