-- Calls of host functions, and where calls continue after them.
use Rattle.std.specs.Prelude.{◌≡◌, ℕ, ◌+◌, ◌-◌, ◌≤◌, List, [], ◌∷◌, ◌++◌, Option, Result, Ok, Err, length, map, take, drop, get_or}
use Rattle.core_types.specs.declared.outcome.Val.{Val}
use Rattle.core_types.specs.declared.types.ValType.{ValType}
use Rattle.meaning.specs.execution.Configurations.{no_frame}
use Rattle.meaning.specs.execution.Runs.{Answer, Run, Steps, WithValues}
use Rattle.meaning.specs.execution.Store.{Store}
use Rattle.cells.specs.Cells.{cell_of}
use Rattle.interpreter.specs.Whole.{CallsHostNext, Whole, whole}
use Rattle.interpreter.specs.declared.machine.CallKind.{CallKind}
use Rattle.interpreter.specs.declared.machine.Frame.{Frame}
use Rattle.interpreter.specs.declared.machine.Position.{Position}
use Rattle.exec.specs.Endings.{ending_of, run_state}
use Rattle.exec.specs.declared.call.Call.{Call}
use Rattle.exec.specs.declared.hosts.HostCall.{HostCall}
use Rattle.exec.specs.declared.outcome.Outcome.{Outcome}
use Rattle.exec.specs.Resting.{AtRest, Rests, fuel_left, machine_of, store_around}

-- The call rests before a call of the function at an address, of this kind.
pub record WaitsForHost (bound : ℕ) (r : AtRest) (w : Whole) (kind : CallKind)
    (address behind : ℕ) : Type 0 where
  pub rests : Rests bound r w
  pub next : CallsHostNext (fuel_left r) (machine_of r) w kind address behind

-- The call rests before this call of a host function.
abbrev pub WaitsFor : (bound : ℕ) → AtRest → Whole → HostCall → Type 0
WaitsFor bound r w wanted = WaitsForHost bound r w wanted.kind wanted.address wanted.behind

-- The call rests, and leads to results of these types.
abbrev pub RestsWith : (bound : ℕ) → AtRest → Whole → List ValType → Type 0
RestsWith bound r w types = Rests bound r w × (w.results ≡ types)

-- That many cells below a place.
abbrev pub cells_below : (behind many : ℕ) → List ℕ → List ℕ
cells_below behind many cells = take many (drop (behind - many) cells)

-- The cells, with those of values from a place on.
abbrev pub with_results : List ℕ → (first : ℕ) → List Val → List ℕ
with_results cells first values =
    take first cells ++ (map cell_of values ++ drop (first + length values) cells)

-- The position in a frame after a call, which was paid for, with that many results from a place on.
abbrev pub position_answered : Frame → Position → (first : ℕ) → List Val → List ℕ → Position
position_answered frame at first values cells = record {
  instance = frame.instance;
  base = frame.base;
  place = frame.place;
  top = first + length values - 1;
  operand = get_or (with_results cells first values) (first + length values - 1) 0;
  fuel = at.fuel - 1;
}

-- There is room for that many results in the place of the innermost frame, if a frame waits for them.
abbrev pub HasRoomForResults : Call → (many : ℕ) → Type 0
HasRoomForResults call many =
    (frame : Frame) (others : List Frame) → call.callers ≡ frame ∷ others
    → (1 ≤ call.position.base)
    × (call.position.base + many ≤ length call.cells.items)

-- Results replaced the innermost frame, and the waiting frame has them.
abbrev pub ReturnsTo : Call → List Val → Call → Type 0
ReturnsTo old values new =
    (frame : Frame) × (old.callers ≡ frame ∷ new.callers)
    × (new.cells.items ≡ with_results old.cells.items old.position.base values)
    × (new.position ≡
    position_answered frame old.position old.position.base values old.cells.items)

-- No frame waited, and the call ended with the results.
abbrev pub EndsWith : Call → List Val → Outcome → Call → Type 0
EndsWith old values outcome new =
    (old.callers ≡ []) × (ending_of outcome ≡ WithValues values)
    × (new.position.fuel ≡ old.position.fuel - 1)

module _ {H : Type 0} (HostStep : List H → ℕ → Option ℕ → List Val → Store → Answer → Store
    → List H → Type 0) (bound : ℕ) where
  -- Steps of the whole lead to where the call rests.
  pub record ReachesWithHosts (r : AtRest) (hosts : List H) (w : Whole) (r' : AtRest)
      (hosts' : List H) : Type 0 where
    pub new : Whole
    pub results : new.results ≡ w.results
    pub steps : Steps HostStep bound no_frame (run_state (store_around r) hosts (fuel_left r))
        (whole w) (run_state (store_around r') hosts' (fuel_left r')) (whole new)
    pub rests : Rests bound r' new

  -- The call continues after the host function, or the host function ended the run.
  abbrev pub ReachesWithHostsOrEnds : {U : Type 0} → AtRest → List H → Whole → Result U Outcome
      → AtRest → List H → Type 0
  ReachesWithHostsOrEnds r hosts w (Ok u) r' hosts' = ReachesWithHosts r hosts w r' hosts'
  ReachesWithHostsOrEnds r hosts w (Err outcome) r' hosts' =
      Run HostStep bound no_frame (run_state (store_around r) hosts (fuel_left r)) (whole w)
      (ending_of outcome) (run_state (store_around r') hosts' (fuel_left r'))
