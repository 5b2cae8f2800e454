-- The loop's state in the machine's terms.
use Rattle.std.specs.Prelude.{ℕ, List}
use Rattle.store.specs.State.{StateContents}
use Rattle.interpreter.specs.Running.{Machine}
use Rattle.interpreter.specs.Whole.{Loop}
use Rattle.interpreter.specs.Worlds.{World}
use Rattle.interpreter.specs.declared.machine.Frame.{Frame}
use Rattle.interpreter.specs.declared.machine.Position.{Position}
use Rattle.interpreter.specs.declared.machine.Surroundings.{Surroundings}

abbrev pub world_at : Surroundings → StateContents → (bytes : List ℕ) → World
world_at s state bytes = record {
  code = s.code.now;
  state = state;
  number = s.number;
  instance = s.instance.now;
  flat = s.flat.now;
  address = s.address;
  limits = s.limits;
  bytes = bytes;
}

abbrev pub machine_at : (cells : List ℕ) → Position → Machine
machine_at cells at = record {
  base = at.base;
  cells = cells;
  place = at.place;
  top = at.top;
  operand = at.operand;
}

abbrev pub loop_at : World → (cells : List ℕ) → (callers : List Frame) → Position → Loop
loop_at w cells callers at = record {
  world = w;
  number = at.instance;
  machine = machine_at cells at;
  callers = callers;
  fuel = at.fuel;
}
