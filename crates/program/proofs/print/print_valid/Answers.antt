use Rattle.program.specs.Lines.{valid_line}
use Rattle.program.proofs.Printing.{printed-flushed}
use Rattle.program.proofs.print.print_valid.Goals as goal

pub returns-clause-lines : goal.returns-clause-lines
returns-clause-lines g c =
    printed-flushed g.W.Write.contents c.args.out.now c.print_valid_line.new.out c.flush.new.self valid_line c.print_valid_line.ensures c.flush.ensures
