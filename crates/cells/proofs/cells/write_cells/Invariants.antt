use Rattle.std.proofs.Common.{◌≡◌, ◌++◌, drop, map, take}
use Rattle.cells.specs.Cells.{cell_of}
use Rattle.cells.proofs.cells.write_cells.Given as goal

abbrev pub invariant-loop-k : goal.invariant-loop-k
invariant-loop-k l = l.into ≡ map cell_of (take l.k l.from) ++ drop l.k l.initial.into
