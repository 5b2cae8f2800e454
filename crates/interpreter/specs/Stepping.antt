-- What an instruction leads to in its frame.
use Rattle.std.specs.Prelude.{◌≡◌, ℕ, ◌+◌, ◌-◌, ◌<◌, ◌≤◌, List, Option, Some, None}
use Rattle.sidetable.specs.Flat.{Plain}
use Rattle.sidetable.specs.Packing.{other_op}
use Rattle.simulation.specs.Runs.{Ghost, Lacks}
use Rattle.interpreter.specs.Looping.{machine_at}
use Rattle.interpreter.specs.Running.{MachineReaches, Machine, RunsAt, cells_in, height_in}
use Rattle.interpreter.specs.Operations.{IsLeft, StandsThere}
use Rattle.interpreter.specs.Worlds.{World}
use Rattle.interpreter.specs.declared.machine.Position.{Position}
use Rattle.interpreter.specs.declared.machine.Stop.{Stop}
use Rattle.interpreter.specs.declared.machine.Stop.TheVariants as stop

-- The position after an instruction, for one unit of fuel: with one more operand, and with the topmost one in the place of that many.
abbrev pub position_pushed : Position → (cell : ℕ) → Position
position_pushed at cell =
    record at { place = at.place + 1; top = at.top + 1; operand = cell; fuel = at.fuel - 1 }

abbrev pub position_lowered : Position → (by cell : ℕ) → Position
position_lowered at by cell =
    record at { place = at.place + 1; top = at.top - by; operand = cell; fuel = at.fuel - 1 }

-- The instruction was paid for, or there was no fuel.
abbrev pub IsPaid : Position → Option Position → (why : Stop) → Position → Type 0
IsPaid at (Some to) why there = (1 ≤ at.fuel) × (to ≡ there)
IsPaid at None why there = (why ≡ stop.NoFuel) × (at.fuel ≡ 0)

-- Nothing is changed, and fuel is lacking, or the instruction is left to others.
abbrev pub StopsThere : Stop → World → Machine → (fuel : ℕ) → Ghost → Type 0
StopsThere stop.NoFuel w m fuel g = Lacks g fuel (cells_in g m) m.place (height_in m) fuel
StopsThere (stop.LeavesOther kind n) w m fuel g =
    IsLeft kind × StandsThere m g (Plain (other_op w.flat.tables kind n))
StopsThere other w m fuel g = ⊥

-- The loop continues with the next operation, in the same frame.
pub record StepsTo (w : World) (cells : List ℕ) (at : Position) (w' : World) (cells' : List ℕ)
    (to : Position) : Type 0 where
  pub there : to ≡
      record at { place = at.place + 1; top = to.top; operand = to.operand; fuel = to.fuel }
  pub falls : to.fuel < at.fuel
  pub leads : (g : Ghost) → RunsAt w (machine_at cells at) g
      → MachineReaches g (machine_at cells at) at.fuel w' (machine_at cells' to) to.fuel

pub record StopsBefore (w : World) (cells : List ℕ) (at : Position) (w' : World) (cells' : List ℕ)
    (s : Stop) : Type 0 where
  pub same : w' ≡ w
  pub kept : cells' ≡ cells
  pub there : (g : Ghost) → RunsAt w (machine_at cells at) g
      → StopsThere s w (machine_at cells at) at.fuel g

-- The loop continues, or it stops, and why.
abbrev pub Steps : World → (cells : List ℕ) → Position → Option Position → (why : Stop)
    → (w' : World) → (cells' : List ℕ) → Type 0
Steps w cells at (Some to) why w' cells' = StepsTo w cells at w' cells' to
Steps w cells at None why w' cells' = StopsBefore w cells at w' cells' why
