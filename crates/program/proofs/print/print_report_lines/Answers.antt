use Rattle.std.proofs.Common.{flat_map}
use Rattle.program.specs.Lines.{counts_line, failure_line, report_lines}
use Rattle.program.proofs.Printing.{printed-flushed, printed-then}
use Rattle.program.proofs.print.print_report_lines.Goals as goal

pub returns : goal.returns
returns g c =
    let contents = g.W.Write.contents in
    let report = c.args.report.now in
    printed-flushed contents c.args.out.now c.print_counts.new.out c.flush.new.self (report_lines report)
    (printed-then contents c.args.out.now c.print_failures.new.out c.print_counts.new.out (flat_map failure_line report.failures.items)
    (counts_line report.passed report.failed report.skipped) (rw c.as_slice.ensures.value at c.print_failures.ensures) c.print_counts.ensures)
    c.flush.ensures
