use Rattle.program.proofs.print.print_outcome.Goals as goal

pub returns-in-Values : goal.returns-in-Values
returns-in-Values g c = rw c.in-Values.is (rw c.as_slice.ensures at c.print_values.ensures)

pub returns-in-Trap : goal.returns-in-Trap
returns-in-Trap g c = rw c.in-Trap.is (rw c.text.ensures at c.writeln.ensures)

pub returns-in-Exhausted : goal.returns-in-Exhausted
returns-in-Exhausted g c = rw c.in-Exhausted.is (rw c.exhaustion_word.ensures at c.writeln-in-Exhausted.ensures)
