use Rattle.std.proofs.Common.{◌≡◌, take}
use Rattle.cells.specs.Cells.{values_of}
use Rattle.cells.proofs.cells.values_of.Given as goal

abbrev pub invariant-loop-k : goal.invariant-loop-k
invariant-loop-k l = l.read.items ≡ values_of (take l.k l.types) l.cells
