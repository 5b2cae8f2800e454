-- Cells of values on a stack.
use Rattle.std.specs.Prelude.{ℕ, List, map, reverse}
use Rattle.core_types.specs.declared.outcome.Val.{Val}
use Rattle.cells.specs.Cells.{cell_of}

-- Values from the top, and their cells from the bottom.
abbrev pub cells_of : List Val → List ℕ
cells_of values = reverse (map cell_of values)
