use Rattle.std.proofs.Common.{◌-◌, ◌≤◌, length}
use Rattle.core_types.specs.LocalRuns.{start_of}
use Rattle.core_types.proofs.halving.run_in_turn.Given as goal

abbrev pub invariant-loop-found : goal.invariant-loop-found
invariant-loop-found l = (l.found ≤ length l.runs) × (start_of l.start l.runs l.found ≤ l.index)

abbrev pub decreases-loop-found : goal.decreases-loop-found
decreases-loop-found l = length l.runs - l.found
