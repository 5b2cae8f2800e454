-- Calls, returns and ends: what they need, and where they continue.
use Rattle.std.specs.Prelude.{◌≡◌, ℕ, suc, ◌+◌, ◌-◌, ◌<◌, ◌≤◌, List, [], ◌∷◌, ◌++◌, length, take, drop, set, replicate}
use Rattle.sidetable.specs.declared.operations.Entry.{Entry}
use Rattle.store.specs.declared.instances.Callee.{Callee}
use Rattle.store.specs.declared.instances.Callee.TheVariants as callee
use Rattle.store.specs.declared.instances.ModuleFunction.{ModuleFunction}
use Rattle.interpreter.specs.Layout.{AreMoved}
use Rattle.interpreter.specs.Looping.{loop_at}
use Rattle.interpreter.specs.Whole.{IsOver, Loop, RunsSomeWhole, RunsWhole, StopsAt, SwitchesTo, Whole}
use Rattle.interpreter.specs.Worlds.{World}
use Rattle.interpreter.specs.declared.machine.CallKind.{CallKind}
use Rattle.interpreter.specs.declared.machine.CallKind.TheVariants.{Nested, Tail}
use Rattle.interpreter.specs.declared.machine.Crossing.{Crossing}
use Rattle.interpreter.specs.declared.machine.Crossing.TheVariants.{Goes, Stops, Switches}
use Rattle.interpreter.specs.declared.machine.Frame.{Frame}
use Rattle.interpreter.specs.declared.machine.Position.{Position}
use Rattle.interpreter.specs.declared.machine.Stop.TheVariants as stop

-- The loop continues in code of any instance.
abbrev pub ContinuesAnywhere : (bound : ℕ) → Loop → Loop → Type 0
ContinuesAnywhere bound l l' = (w : Whole) → RunsWhole bound l w → SwitchesTo bound l w l'

-- The loop continues in a frame of an instance: the one whose code runs, or another one.
abbrev pub IsCrossed : (number : ℕ) → Crossing → (instance : ℕ) → Type 0
IsCrossed number Goes instance = instance ≡ number
IsCrossed number Switches instance = Unit {0}
IsCrossed number Stops instance = ⊥

-- The same position, in an instance.
abbrev pub with_instance : Position → (instance : ℕ) → Position
with_instance at instance = record at { instance = instance }

-- ---- branches

-- Where a branch continues, with a topmost operand.
abbrev pub position_landed : Position → Entry → (operand : ℕ) → Position
position_landed at e operand =
    record at { place = e.target; top = at.base + e.height + e.kept; operand = operand }

-- ---- calls

-- The frame that calls, which waits after the call.
abbrev pub frame_waiting : Position → Frame
frame_waiting at = record { base = at.base; place = at.place + 1; instance = at.instance }

-- The number of locals after the arguments.
abbrev pub declared_locals : ModuleFunction → ℕ
declared_locals f = f.flat.now.locals - f.flat.now.params

-- The first place of a function that is called at a position, where its last argument is.
abbrev pub position_opened : Position → (top : ℕ) → ModuleFunction → Position
position_opened at top f = record {
  instance = f.instance;
  base = top + 1 - f.flat.now.params;
  place = f.flat.now.place;
  top = top + 1 + declared_locals f;
  operand = 0;
  fuel = at.fuel - 1;
}

-- A call of a function of a module at a position. Its arguments are on top at another position of the frame.
pub record CallsModule (bound : ℕ) (w : World) (cells : List ℕ) (callers : List Frame)
    (at from : Position) (f : ModuleFunction) : Type 0 where
  pub room : from.top < length cells
  pub arguments : at.base + f.flat.now.params ≤ from.top
  pub declared : f.flat.now.params ≤ f.flat.now.locals
  pub high : f.flat.now.locals ≤ f.flat.now.greatest
  pub no_depth : 1 ≤ at.fuel → bound ≤ suc (length callers)
      → StopsAt bound (loop_at w cells callers at) stop.NoDepth (loop_at w cells callers at)
  pub no_room : 1 ≤ at.fuel → suc (length callers) < bound
      → length cells ≤ from.top + 1 - f.flat.now.params + f.flat.now.greatest
      → StopsAt bound (loop_at w cells callers at) stop.NoRoom (loop_at w cells callers at)
  pub no_memory : 1 ≤ at.fuel → suc (length callers) < bound
      → StopsAt bound (loop_at w cells callers at) stop.NoMemory (loop_at w cells callers at)
  -- with the cells after the arguments cleared
  pub opens : 1 ≤ at.fuel → suc (length callers) < bound
      → from.top + 1 - f.flat.now.params + f.flat.now.greatest < length cells → (cells' : List ℕ)
      → take (from.top + 1 + declared_locals f) cells' ≡
      take (from.top + 1) (set cells from.top from.operand) ++ replicate (declared_locals f) 0
      → length cells' ≡ length cells
      → ContinuesAnywhere bound (loop_at w cells callers at)
      (loop_at w cells' (frame_waiting at ∷ callers) (position_opened at from.top f))

-- The first place of a function whose frame replaces the one at a position.
abbrev pub position_replaced : Position → ModuleFunction → Position
position_replaced at f = record {
  instance = f.instance;
  base = at.base;
  place = f.flat.now.place;
  top = at.base + f.flat.now.locals;
  operand = 0;
  fuel = at.fuel - 1;
}

-- A frame's own cells begin with the arguments, which were on top of those before, and cleared cells follow them.
abbrev pub AreReplaced : (cells : List ℕ) → (base : ℕ) → (from : Position) → ModuleFunction
    → (cells' : List ℕ) → Type 0
AreReplaced cells base from f cells' =
    (take (base + f.flat.now.locals) cells' ≡
    take base cells
    ++ (take f.flat.now.params
    (drop (from.top + 1 - f.flat.now.params) (set cells from.top from.operand))
    ++ replicate (declared_locals f) 0))
    × (length cells' ≡ length cells)

-- A tail call of a function of a module at a position. Its arguments are on top at another position of the frame.
pub record ReplacesModule (bound : ℕ) (w : World) (cells : List ℕ) (callers : List Frame)
    (at from : Position) (f : ModuleFunction) : Type 0 where
  pub room : from.top < length cells
  pub arguments : at.base + f.flat.now.params ≤ from.top
  pub declared : f.flat.now.params ≤ f.flat.now.locals
  pub high : f.flat.now.locals ≤ f.flat.now.greatest
  pub no_room : 1 ≤ at.fuel → length cells ≤ at.base + f.flat.now.greatest
      → StopsAt bound (loop_at w cells callers at) stop.NoRoom (loop_at w cells callers at)
  pub replaces : 1 ≤ at.fuel
      → at.base + f.flat.now.greatest < length cells
      → (cells' : List ℕ) → AreReplaced cells at.base from f cells'
      → ContinuesAnywhere bound (loop_at w cells callers at)
      (loop_at w cells' callers (position_replaced at f))

abbrev pub CallsInModule : CallKind → (bound : ℕ) → World → (cells : List ℕ)
    → (callers : List Frame) → (at from : Position) → ModuleFunction → Type 0
CallsInModule Nested bound w cells callers at from f = CallsModule bound w cells callers at from f
CallsInModule Tail bound w cells callers at from f = ReplacesModule bound w cells callers at from f

-- A call of the function at an address. The loop stops before a call of a host function.
abbrev pub Calls : (bound : ℕ) → World → (cells : List ℕ) → (callers : List Frame)
    → (at from : Position) → CallKind → (address : ℕ) → Callee → Type 0
Calls bound w cells callers at from kind address (callee.InModule f) =
    CallsInModule kind bound w cells callers at from f
Calls bound w cells callers at from kind address (callee.InHost f) =
    (from.top < length cells)
    × (1 ≤ at.fuel
    → StopsAt bound (loop_at w cells callers at) (stop.CallsHost kind address (from.top + 1))
    (loop_at w cells callers at))

-- ---- returns and ends

-- Where a frame that waited for that many results continues, with a topmost operand.
abbrev pub position_resumed : Position → Frame → (results operand : ℕ) → Position
position_resumed at frame results operand = record {
  instance = frame.instance;
  base = frame.base;
  place = frame.place;
  top = at.base - 1 + results;
  operand = operand;
  fuel = at.fuel;
}

-- The innermost frame is left with that many results, from a position after the step was paid for. Before, there was this fuel.
pub record Leaves (bound : ℕ) (w : World) (cells : List ℕ) (callers : List Frame) (at : Position)
    (fuel results : ℕ) : Type 0 where
  pub some : RunsSomeWhole bound (loop_at w cells callers (record at { fuel = fuel }))
  pub room : at.top < length cells
  pub paid : at.fuel ≤ fuel
  pub over : callers ≡ [] → (u : Whole)
      → RunsWhole bound (loop_at w cells callers (record at { fuel = fuel })) u
      → IsOver bound (loop_at w cells callers (record at { fuel = fuel })) u
      (loop_at w cells callers at)
  pub fits : (frame : Frame) (others : List Frame) → callers ≡ frame ∷ others
      → (1 ≤ at.base) × (at.base - 1 + results ≤ at.top)
  pub back : (frame : Frame) (others : List Frame) → callers ≡ frame ∷ others
      → (cells' : List ℕ) (operand' : ℕ)
      → AreMoved (set cells at.top at.operand) at.top (at.base - 1) results cells' operand'
      → ContinuesAnywhere bound (loop_at w cells callers (record at { fuel = fuel }))
      (loop_at w cells' others (position_resumed at frame results operand'))
