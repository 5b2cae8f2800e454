-- Calls between runs of code of one instance: each memory is in the state.
use Rattle.std.specs.Prelude.{◌≡◌, ℕ, ◌+◌, ◌<◌, ◌≤◌, List, length}
use Rattle.core_types.specs.declared.outcome.Val.{Val}
use Rattle.meaning.specs.structure.Bodies.{Empty}
use Rattle.meaning.specs.execution.Configurations.{Configuration, Running, no_frame}
use Rattle.meaning.specs.execution.Runs.{NoHosts, Steps}
use Rattle.meaning.specs.execution.Store.{Store}
use Rattle.store.specs.Contents.{Contents, store_with}
use Rattle.store.specs.State.{StateContents}
use Rattle.interpreter.specs.Looping.{loop_at, machine_at}
use Rattle.interpreter.specs.Running.{Machine}
use Rattle.interpreter.specs.Whole.{AsksNext, HasResults, Loop, RunsWhole, StopsBy, Whole, left_at, paid_for, state, whole}
use Rattle.interpreter.specs.Worlds.{Sees, World}
use Rattle.exec.specs.declared.call.Call.{Call}
use Rattle.interpreter.specs.declared.machine.Stop.{Stop}
use Rattle.interpreter.specs.declared.machine.Stop.TheVariants as stop

-- A call, and the store around it.
pub record AtRest : Type 0 where
  pub code : Contents
  pub state : StateContents
  pub call : Call

abbrev pub at_rest : Contents → StateContents → Call → AtRest
at_rest code state call = record { code = code; state = state; call = call }

abbrev pub store_around : AtRest → Store
store_around r = store_with r.code r.state

abbrev pub fuel_left : AtRest → ℕ
fuel_left r = r.call.position.fuel

-- The machine that the loop starts with.
abbrev pub machine_of : AtRest → Machine
machine_of r = machine_at r.call.cells.items r.call.position

abbrev pub loop_of : World → AtRest → Loop
loop_of w r = loop_at w r.call.cells.items r.call.callers r.call.position

-- The loop runs the whole there, in the store as the instance of the innermost frame sees it.
pub record Rests (bound : ℕ) (r : AtRest) (w : Whole) : Type 0 where
  pub world : World
  pub sees : Sees r.code (store_around r) r.call.position.instance world
  pub runs : RunsWhole bound (loop_of world r) w

abbrev pub RestsSome : (bound : ℕ) → AtRest → Type 0
RestsSome bound r = (w : Whole) × Rests bound r w

-- ---- where a call arrives

-- Steps of the whole lead to a configuration, with this fuel left.
abbrev pub CallStepsTo : (bound : ℕ) → AtRest → Whole → AtRest → (fuel : ℕ) → Configuration → Type 0
CallStepsTo bound r w r' fuel c =
    Steps NoHosts bound no_frame (state (store_around r) (fuel_left r)) (whole w)
    (state (store_around r') fuel) c

-- The steps lead to where the call rests again.
pub record CallReaches (bound : ℕ) (r : AtRest) (w : Whole) (r' : AtRest) (fuel : ℕ) : Type 0 where
  pub new : Whole
  pub results : new.results ≡ w.results
  pub steps : CallStepsTo bound r w r' fuel (whole new)
  pub rests : Rests bound r' new

-- The call arrived where it stops.
pub record StopsAtRest (bound : ℕ) (r : AtRest) (w : Whole) (s : Stop) (r' : AtRest)
    : Type 0 where
  pub there : CallReaches bound r w r' (fuel_left r' + paid_for s)
  pub by : StopsBy bound s there.rests.world (store_around r') (fuel_left r' + paid_for s)
      (machine_of r') there.new

-- The call arrived where it asks for memory that cannot be allocated.
pub record LacksMemory (bound : ℕ) (r : AtRest) (w : Whole) (r' : AtRest) : Type 0 where
  pub there : CallReaches bound r w r' (fuel_left r')
  pub by : AsksNext bound (store_around r') (fuel_left r') there.new

-- The call ended, and its results are on top.
pub record Ends (bound : ℕ) (r : AtRest) (w : Whole) (r' : AtRest) : Type 0 where
  pub values : List Val
  pub steps : CallStepsTo bound r w r' (fuel_left r') (Running values Empty)
  pub results : HasResults (store_around r') (machine_of r') w.results values

-- ---- what code of one instance leads to

abbrev pub RunsTo : (bound : ℕ) → AtRest → Whole → Stop → AtRest → Type 0
RunsTo bound r w stop.Over r' = Ends bound r w r'
RunsTo bound r w stop.Switches r' = CallReaches bound r w r' (fuel_left r')
RunsTo bound r w s r' = StopsAtRest bound r w s r'

-- What is left to do.
abbrev pub left_of : AtRest → ℕ
left_of r = left_at (fuel_left r) (length r.call.callers) r.call.position.place

abbrev pub FallsTo : AtRest → Stop → AtRest → Type 0
FallsTo r stop.Switches r' = left_of r' < left_of r
FallsTo r stop.NoRoom r' = left_of r' ≤ left_of r
FallsTo r other r' = Unit {0}

pub record RunsFrom (bound : ℕ) (r : AtRest) (s : Stop) (r' : AtRest) : Type 0 where
  pub from : (w : Whole) → Rests bound r w → RunsTo bound r w s r'
  pub falls : FallsTo r s r'

-- ---- what code of all instances leads to

abbrev pub CallStopsFrom : (bound : ℕ) → AtRest → Whole → Stop → AtRest → Type 0
CallStopsFrom bound r w stop.Over r' = Ends bound r w r'
CallStopsFrom bound r w stop.NoMemory r' = LacksMemory bound r w r'
CallStopsFrom bound r w stop.Switches r' = ⊥
CallStopsFrom bound r w stop.NoRoom r' = ⊥
CallStopsFrom bound r w (stop.LeavesOther kind n) r' = ⊥
CallStopsFrom bound r w s r' = StopsAtRest bound r w s r'

-- The call never stops where code of another instance is next, nor for lack of cells only, nor before an instruction that the loop leaves
-- to others.
abbrev pub CallStops : (bound : ℕ) → AtRest → Stop → AtRest → Type 0
CallStops bound r s r' = (w : Whole) → Rests bound r w → CallStopsFrom bound r w s r'
