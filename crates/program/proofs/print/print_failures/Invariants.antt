use Rattle.std.proofs.Common.{flat_map, take}
use Rattle.program.specs.Lines.{failure_line}
use Rattle.program.specs.Outputs.{Prints}
use Rattle.program.proofs.print.print_failures.Given as goal

abbrev pub invariant-loop-number : goal.invariant-loop-number
invariant-loop-number g l =
    Prints g.W.Write.contents l.initial.out l.out (flat_map failure_line (take l.number-index l.numbers))
