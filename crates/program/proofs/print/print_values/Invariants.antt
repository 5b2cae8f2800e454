use Rattle.std.proofs.Common.{flat_map, take}
use Rattle.program.specs.Lines.{value_line}
use Rattle.program.specs.Outputs.{Prints}
use Rattle.program.proofs.print.print_values.Given as goal

abbrev pub invariant-loop-value : goal.invariant-loop-value
invariant-loop-value g l =
    Prints g.W.Write.contents l.initial.out l.out (flat_map value_line (take l.value-index l.values))
