-- The loop while there is fuel for all operations up to the end of the list.
use Rattle.std.specs.Prelude.{ℕ, ◌+◌, ◌-◌, ◌<◌, ◌^◌, List, Option, Some, None}
use Rattle.interpreter.specs.Looping.{loop_at}
use Rattle.interpreter.specs.Whole.{Loop, Ran, StopsAt}
use Rattle.interpreter.specs.Worlds.{World}
use Rattle.interpreter.specs.declared.ahead.Ahead.{Ahead}
use Rattle.interpreter.specs.declared.machine.Frame.{Frame}
use Rattle.interpreter.specs.declared.machine.Position.{Position}
use Rattle.interpreter.specs.declared.machine.Stop.{Stop}
use Rattle.interpreter.specs.declared.machine.Stop.TheVariants as stop

-- The position, with this much fuel.
abbrev pub position_with : (instance fuel : ℕ) → Ahead → Position
position_with instance fuel at = record {
  instance = instance;
  base = at.base;
  place = at.place;
  top = at.top;
  operand = at.operand;
  fuel = fuel;
}

-- All the fuel: the spare fuel, and one unit for each operation from there to the end.
abbrev pub fuel_ahead : (end : ℕ) → Ahead → ℕ
fuel_ahead end at = at.spare + (end - at.place)

abbrev pub position_ahead : (instance end : ℕ) → Ahead → Position
position_ahead instance end at = position_with instance (fuel_ahead end at) at

-- All the fuel except one unit, if there is an operation.
abbrev pub rest_ahead : (end : ℕ) → Ahead → ℕ
rest_ahead end at = at.spare + (end - at.place - 1)

-- A position that was reached with one unit of the fuel, with the rest added.
abbrev pub with_rest : (end : ℕ) → Ahead → Position → Position
with_rest end at to = record to { fuel = to.fuel + rest_ahead end at }

-- The loop ran to there, and the fuel has 64 bits.
pub record RanAhead (bound : ℕ) (l : Loop) (w : World) (cells : List ℕ) (callers : List Frame)
    (end : ℕ) (at : Ahead) : Type 0 where
  pub ran : Ran bound l (loop_at w cells callers (position_ahead w.number end at))
  pub small : fuel_ahead end at < 2 ^ 64

-- The loop stops, or has too little fuel to continue like this.
abbrev pub StopsOrLacks : (bound : ℕ) → Loop → Option Stop → Loop → Type 0
StopsOrLacks bound l (Some s) l' = StopsAt bound l s l'
StopsOrLacks bound l None l' = Ran bound l l'

-- Why the loop stops with more fuel. There is no reason if it lacked fuel.
abbrev pub stop_with_more : Stop → Option Stop
stop_with_more stop.NoFuel = None
stop_with_more other = Some other
