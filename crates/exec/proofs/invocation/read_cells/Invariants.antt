use Rattle.std.proofs.Common.{◌≡◌, ◌++◌, drop, take}
use Rattle.cells.specs.Cells.{values_of}
use Rattle.exec.proofs.invocation.read_cells.Given as goal

abbrev pub invariant-loop-k : goal.invariant-loop-k
invariant-loop-k l = l.into ≡ values_of (take l.k l.types) l.cells ++ drop l.k l.initial.into
