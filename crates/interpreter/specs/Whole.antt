-- The loop with the waiting frames, and the whole configuration that runs there.
use Rattle.std.specs.Prelude.{◌≡◌, ℕ, suc, ◌+◌, ◌-◌, ◌*◌, ◌^◌, ◌<◌, ◌≤◌, List, [], length, reverse, drop, set, take}
use Rattle.core_types.specs.declared.op.PlainOp.{PlainOp}
use Rattle.core_types.specs.declared.outcome.Val.{Val}
use Rattle.core_types.specs.declared.types.ValType.{ValType}
use Rattle.meaning.specs.structure.Bodies.{Empty}
use Rattle.meaning.specs.execution.Configurations.{Configuration, Running, depth, no_frame}
use Rattle.meaning.specs.execution.Instructions.{Opens, Traps, next}
use Rattle.meaning.specs.execution.Layers.{Layer, plug}
use Rattle.meaning.specs.execution.Runs.{AsksForMemory, IsWithinBound, NoHosts, State, Steps, price}
use Rattle.meaning.specs.execution.Store.{FunctionInstance, InHost, Store}
use Rattle.meaning.specs.soundness.Values.{ValuesHaveTypes}
use Rattle.soundness.specs.Configurations.{ConfigurationHasType}
use Rattle.soundness.specs.Places.{outermost}
use Rattle.soundness.specs.Stores.{StoreIsValid}
use Rattle.sidetable.specs.Flat.{Plain}
use Rattle.sidetable.specs.Packing.{other_op}
use Rattle.store.specs.Contents.{Contents, IsCalleeAt, IsLoaded, callee_function}
use Rattle.store.specs.declared.instances.Callee.TheVariants as callee
use Rattle.store.specs.declared.instances.Instance.{Instance}
use Rattle.store.specs.declared.instances.ModuleFunction.{ModuleFunction}
use Rattle.simulation.specs.Piles.{cells_of}
use Rattle.simulation.specs.Runs.{Ghost, config_of, frame_of}
use Rattle.interpreter.specs.Callees.{IsCalled}
use Rattle.interpreter.specs.Callers.{Caller, CallersStand, layers_around}
use Rattle.interpreter.specs.Running.{Machine, RunsAt, cells_in, height_in}
use Rattle.interpreter.specs.Operations.{IsLeft, StandsThere}
use Rattle.interpreter.specs.Worlds.{Sees, World, store_in}
use Rattle.interpreter.specs.declared.machine.CallKind.{CallKind}
use Rattle.interpreter.specs.declared.machine.CallKind.TheVariants.{Nested, Tail}
use Rattle.interpreter.specs.declared.machine.Frame.{Frame}
use Rattle.interpreter.specs.declared.machine.Stop.{Stop}
use Rattle.interpreter.specs.declared.machine.Stop.TheVariants as stop

-- All that the loop keeps: the store, the number of the instance whose code runs, the innermost frame, the waiting frames, and the fuel.
pub record Loop : Type 0 where
  pub world : World
  pub number : ℕ
  pub machine : Machine
  pub callers : List Frame
  pub fuel : ℕ

-- The work that is left. Each operation takes fuel, leaves a frame, or moves forward.
abbrev pub left_at : (fuel callers place : ℕ) → ℕ
left_at fuel callers place = 2 ^ 64 * (2 ^ 64 * fuel + callers) + (2 ^ 64 - place)

abbrev pub left_to_do : Loop → ℕ
left_to_do l = left_at l.fuel (length l.callers) l.machine.place

-- What the loop does not keep: what runs in the innermost frame and in the waiting ones, and the types of the results of all.
pub record Whole : Type 0 where
  pub ghost : Ghost
  pub callers : List Caller
  pub results : List ValType

abbrev pub layers_of : Whole → List Layer
layers_of w = layers_around w.callers w.ghost.code.outermost.kept

abbrev pub whole : Whole → Configuration
whole w = plug (layers_of w) (frame_of w.ghost) (config_of w.ghost)

-- The loop runs the whole, with at most that many open frames.
pub record RunsWhole (bound : ℕ) (l : Loop) (w : Whole) : Type 0 where
  pub runs : RunsAt l.world l.machine w.ghost
  pub number : l.number ≡ l.world.number
  pub callers : CallersStand l.world.code (length l.machine.cells) l.callers w.callers
      w.ghost.code.outermost.kept (take l.machine.base l.machine.cells)
  pub arity : w.ghost.code.outermost.kept ≡ length w.ghost.results
  pub deep : suc (length l.callers) ≤ bound
  pub typed : ConfigurationHasType (store_in l.world) outermost (whole w) w.results

abbrev pub RunsSomeWhole : (bound : ℕ) → Loop → Type 0
RunsSomeWhole bound l = (w : Whole) × RunsWhole bound l w

-- A state without host functions.
abbrev pub state : Store → (fuel : ℕ) → State ⊥
state store fuel = record { store = store; hosts = []; fuel = fuel }

-- Steps of the whole lead from where the loop is to a configuration.
abbrev pub LoopStepsTo : (bound : ℕ) → Loop → Whole → Loop → Configuration → Type 0
LoopStepsTo bound l w l' c =
    Steps NoHosts bound no_frame (state (store_in l.world) l.fuel) (whole w)
    (state (store_in l'.world) l'.fuel) c

-- The steps lead to what the loop runs then.
pub record LoopReaches (bound : ℕ) (l : Loop) (w : Whole) (l' : Loop) : Type 0 where
  pub new : Whole
  pub results : new.results ≡ w.results
  pub steps : LoopStepsTo bound l w l' (whole new)
  pub runs : RunsWhole bound l' new

-- The same from whatever runs at the start, and the work that is left has not grown.
pub record Ran (bound : ℕ) (l l' : Loop) : Type 0 where
  pub from : (w : Whole) → RunsWhole bound l w → LoopReaches bound l w l'
  pub falls : left_to_do l' ≤ left_to_do l

-- ---- where the loop stops

-- The next step opens a frame, for which there is fuel.
pub record OpensNext (store : Store) (fuel : ℕ) (w : Whole) : Type 0 where
  pub then : Configuration
  pub opens : next store no_frame (whole w) ≡ Opens 1 store then
  pub paid : 1 ≤ fuel

-- The next step asks for memory, within the bound, and there is fuel for it.
pub record AsksNext (bound : ℕ) (store : Store) (fuel : ℕ) (w : Whole) : Type 0 where
  pub asks : AsksForMemory (next store no_frame (whole w))
  pub within : IsWithinBound bound (depth (whole w)) (next store no_frame (whole w))
  pub enough : price (next store no_frame (whole w)) ≤ fuel

-- The next step calls the host function at an address, and there is fuel for it. Its arguments are the topmost of the frame's cells up to
-- a height, and are below a place. After the locals the machine has one more cell.
pub record CallsHostNext (fuel : ℕ) (m : Machine) (w : Whole) (kind : CallKind)
    (address behind : ℕ) : Type 0 where
  pub op : PlainOp
  pub function : FunctionInstance
  pub number : ℕ
  pub is_host : function.implementation ≡ InHost number
  pub height : ℕ
  pub lies : behind ≡ m.base + height + 1
  pub calls : IsCalled kind op address function w.ghost (cells_in w.ghost m) m.place
      (height_in m) height
  pub paid : 1 ≤ fuel

-- The frame of a callee begins at its arguments, which are the topmost of the frame's cells up to a height; that of a tail call
-- where the innermost frame does.
abbrev pub callee_base : CallKind → Machine → (height params : ℕ) → ℕ
callee_base Nested m height params = m.base + height + 1 - params
callee_base Tail m height params = m.base

-- The next step calls a function of a module so, and its greatest height reaches past the cells.
pub record LacksCells (code : Contents) (m : Machine) (w : Whole) : Type 0 where
  pub kind : CallKind
  pub op : PlainOp
  pub address : ℕ
  pub function : ModuleFunction
  pub there : IsCalleeAt code address (callee.InModule function)
  pub height : ℕ
  pub calls : IsCalled kind op address (callee_function (callee.InModule function)) w.ghost
      (cells_in w.ghost m) m.place (height_in m) height
  pub past : length m.cells
      ≤ callee_base kind m height function.flat.now.params + function.flat.now.greatest

-- What runs next, by the reason to stop, as the world there has it.
abbrev pub StopsBy : (bound : ℕ) → Stop → World → Store → (fuel : ℕ) → Machine → Whole → Type 0
StopsBy bound (stop.Traps trap) world store fuel m w =
    (next store no_frame (whole w) ≡ Traps 1 trap) × (1 ≤ fuel)
StopsBy bound stop.NoFuel world store fuel m w = fuel < price (next store no_frame (whole w))
StopsBy bound stop.NoDepth world store fuel m w = OpensNext store fuel w × (bound ≤ depth (whole w))
StopsBy bound stop.NoRoom world store fuel m w =
    AsksNext bound store fuel w × LacksCells world.code m w
StopsBy bound stop.NoMemory world store fuel m w = AsksNext bound store fuel w
StopsBy bound (stop.CallsHost kind address behind) world store fuel m w =
    CallsHostNext fuel m w kind address behind
StopsBy bound (stop.LeavesOther kind n) world store fuel m w =
    IsLeft kind × StandsThere m w.ghost (Plain (other_op world.flat.tables kind n))
StopsBy bound other world store fuel m w = Unit {0}

-- The loop with that much more fuel.
abbrev pub with_more_fuel : Loop → (more : ℕ) → Loop
with_more_fuel l more = record l { fuel = l.fuel + more }

-- The cost of a step that was paid for.
abbrev pub paid_for : Stop → ℕ
paid_for (stop.Traps trap) = 1
paid_for other = 0

-- The loop reached where it stops.
pub record StopsWhole (bound : ℕ) (l : Loop) (w : Whole) (s : Stop) (l' : Loop) : Type 0 where
  pub there : LoopReaches bound l w (with_more_fuel l' (paid_for s))
  pub by : StopsBy bound s l'.world (store_in l'.world) (l'.fuel + paid_for s) l'.machine
      there.new

-- The topmost cells are those of values of these types, the last one on top.
pub record HasResults (store : Store) (m : Machine) (results : List ValType) (values : List Val)
    : Type 0 where
  pub valid : StoreIsValid store
  pub typed : ValuesHaveTypes store values (reverse results)
  pub room : m.top < length m.cells
  pub low : m.base + length values ≤ m.top
  pub lie : take (length values) (drop (m.top + 1 - length values) (set m.cells m.top m.operand))
      ≡ cells_of values

-- The run is over, and its results are on top.
pub record IsOver (bound : ℕ) (l : Loop) (w : Whole) (l' : Loop) : Type 0 where
  pub values : List Val
  pub steps : LoopStepsTo bound l w l' (Running values Empty)
  pub results : HasResults (store_in l'.world) l'.machine w.results values

-- The same store, seen from another instance.
abbrev pub IsSeenFrom : (number : ℕ) → World → World → Type 0
IsSeenFrom number old new = Sees old.code (store_in old) number new

-- Code of another instance is next, and that instance exists.
abbrev pub SwitchesTo : (bound : ℕ) → Loop → Whole → Loop → Type 0
SwitchesTo bound l w l' =
    ((i : Instance) × IsLoaded l'.world.code l'.number i)
    × ((other : World) → IsSeenFrom l'.number l'.world other
    → LoopReaches bound l w (record l' { world = other }))

abbrev pub StopsFrom : (bound : ℕ) → Loop → Whole → Stop → Loop → Type 0
StopsFrom bound l w stop.Over l' = IsOver bound l w l'
StopsFrom bound l w stop.Switches l' = SwitchesTo bound l w l'
StopsFrom bound l w s l' = StopsWhole bound l w s l'

-- Less work is left if code of another instance is next, and no more if fuel or cells are lacking.
abbrev pub FallsAt : Loop → Stop → Loop → Type 0
FallsAt l stop.Switches l' = left_to_do l' < left_to_do l
FallsAt l stop.NoFuel l' = left_to_do l' ≤ left_to_do l
FallsAt l stop.NoRoom l' = left_to_do l' ≤ left_to_do l
FallsAt l other l' = Unit {0}

-- The loop stops there, whatever runs at the start.
pub record StopsAt (bound : ℕ) (l : Loop) (s : Stop) (l' : Loop) : Type 0 where
  pub from : (w : Whole) → RunsWhole bound l w → StopsFrom bound l w s l'
  pub falls : FallsAt l s l'
