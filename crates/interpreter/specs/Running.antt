-- What the loop keeps of a frame, and the configuration that runs there.
use Rattle.std.specs.Prelude.{◌≡◌, ℕ, ◌+◌, ◌-◌, ◌<◌, ◌≤◌, List, length, take}
use Rattle.core_types.specs.declared.outcome.Trap.{Trap}
use Rattle.sidetable.specs.FlatModules.{operations_of}
use Rattle.simulation.specs.Runs.{Fails, Ghost, Lacks, FrameReaches, Runs}
use Rattle.interpreter.specs.Layout.{put_back}
use Rattle.interpreter.specs.Worlds.{IsInstance, World, store_in}

-- The cell of the frame's first local, the place in the code, the cell where the topmost operand would be, and that operand.
pub record Machine : Type 0 where
  pub base : ℕ
  pub cells : List ℕ
  pub place : ℕ
  pub top : ℕ
  pub operand : ℕ

-- The frame's locals and operands, and the number of both.
abbrev pub cells_in : Ghost → Machine → List ℕ
cells_in g m = put_back g.code.locals m.base m.cells m.top m.operand

abbrev pub height_in : Machine → ℕ
height_in m = m.top - m.base

-- The machine runs this.
pub record RunsAt (w : World) (m : Machine) (g : Ghost) : Type 0 where
  pub runs : Runs g (cells_in g m) m.place (height_in m)
  pub low : m.base + g.code.locals ≤ m.top
  pub scrap : m.base + g.code.locals < length m.cells
  pub operations : g.code.operations ≡ operations_of w.flat
  pub store : g.store ≡ store_in w
  pub number : g.instance ≡ w.number
  pub instance : IsInstance w

-- The configuration leads, with this fuel, to what the machine runs then. The cells below the frame are unchanged.
pub record MachineReaches (g : Ghost) (m : Machine) (fuel : ℕ) (w' : World) (m' : Machine)
    (left : ℕ) : Type 0 where
  pub leads : FrameReaches g fuel (store_in w') (cells_in g m') m'.place (height_in m') left
  pub low : m'.base + g.code.locals ≤ m'.top
  pub size : length m'.cells ≡ length m.cells
  pub below : take m.base m'.cells ≡ take m.base m.cells

-- The same for one unit of fuel.
abbrev pub Pays : Ghost → Machine → World → Machine → Type 0
Pays g m w' m' = (fuel left : ℕ) → 1 ≤ fuel → left ≡ fuel - 1 → MachineReaches g m fuel w' m' left

-- The same at no cost.
abbrev pub ReachesForFree : Ghost → Machine → World → Machine → Type 0
ReachesForFree g m w' m' = (fuel : ℕ) → MachineReaches g m fuel w' m' fuel

-- The configuration lacks fuel if there is none.
abbrev pub IsDear : Ghost → Machine → Type 0
IsDear g m = (fuel : ℕ) → fuel < 1 → Lacks g fuel (cells_in g m) m.place (height_in m) fuel

-- The configuration traps, for one unit of fuel.
abbrev pub Traps : Ghost → Machine → Trap → Type 0
Traps g m trap =
    (fuel left : ℕ) → 1 ≤ fuel → left ≡ fuel - 1
    → Fails g fuel (cells_in g m) m.place (height_in m) left trap

-- No frame has more locals and operands than the greatest height of its code.
abbrev pub OperandsFit : Type 0
OperandsFit =
    (w : World) (m : Machine) (g : Ghost) → RunsAt w m g
    → height_in m ≤ g.code.greatest
