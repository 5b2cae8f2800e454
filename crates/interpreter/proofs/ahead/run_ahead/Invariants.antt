use Rattle.interpreter.specs.Ahead.{RanAhead, position_ahead}
use Rattle.interpreter.specs.Looping.{loop_at, world_at}
use Rattle.interpreter.specs.Whole.{left_to_do}
use Rattle.interpreter.proofs.ahead.run_ahead.Given as goal

abbrev pub invariant-loop-x : goal.invariant-loop-x
invariant-loop-x l = RanAhead l.around.bound
    (loop_at (world_at l.around l.initial.state l.initial.memory) l.initial.cells l.initial.callers l.initial.position)
    (world_at l.around l.state l.memory) l.cells l.callers l.end l.at

abbrev pub decreases-loop-x : goal.decreases-loop-x
decreases-loop-x l = left_to_do (loop_at (world_at l.around l.state l.memory) l.cells l.callers (position_ahead l.around.number l.end l.at))
