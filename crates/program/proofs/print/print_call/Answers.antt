use Rattle.program.specs.Lines.{call_lines, fuel_line, outcome_lines}
use Rattle.program.proofs.Printing.{printed-flushed, printed-then}
use Rattle.program.proofs.print.print_call.Goals as goal

pub returns : goal.returns
returns g c =
    let contents = g.W.Write.contents in
    let call = c.args.end.now in
    printed-flushed contents c.args.out.now c.print_fuel.new.out c.flush.new.self (call_lines call)
    (printed-then contents c.args.out.now c.print_outcome.new.out c.print_fuel.new.out (outcome_lines call.outcome) (fuel_line call.fuel_left) c.print_outcome.ensures c.print_fuel.ensures)
    c.flush.ensures
