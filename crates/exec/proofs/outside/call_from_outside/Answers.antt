use Rattle.exec.proofs.outside.call_from_outside.Goals as goal

pub returns-clause-run : goal.returns-clause-run
returns-clause-run g c = rw c.set.ensures (rw (c.left-fuel.ensures, c.bound-bound.ensures) at c.call_function-outcome.ensures.run)
