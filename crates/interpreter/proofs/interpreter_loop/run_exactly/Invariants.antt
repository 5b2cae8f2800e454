use Rattle.interpreter.specs.Looping.{loop_at, world_at}
use Rattle.interpreter.specs.Whole.{Ran, left_to_do}
use Rattle.interpreter.proofs.interpreter_loop.run_exactly.Given as goal

abbrev pub invariant-loop-x : goal.invariant-loop-x
invariant-loop-x l = Ran l.around.bound
    (loop_at (world_at l.around l.initial.state l.initial.memory) l.initial.cells l.initial.callers l.initial.position)
    (loop_at (world_at l.around l.state l.memory) l.cells l.callers l.at)

abbrev pub decreases-loop-x : goal.decreases-loop-x
decreases-loop-x l = left_to_do (loop_at (world_at l.around l.state l.memory) l.cells l.callers l.at)
