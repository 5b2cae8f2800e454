use Rattle.std.proofs.Common.{◌-◌, ◌<◌, ◌≤◌, length, slice_get, IfSome}
use Rattle.core_types.specs.LocalRuns.{start_of}
use Rattle.core_types.proofs.halving.run_by_halving.Given as goal

abbrev pub invariant-loop-low : goal.invariant-loop-low
invariant-loop-low l = record {
  ordered : l.low ≤ l.high;
  within : l.high ≤ length l.runs;
  begins : start_of l.start l.runs l.low ≤ l.index;
  ends : IfSome (slice_get l.runs l.high) (λ run. l.index < run.end);
}

abbrev pub decreases-loop-low : goal.decreases-loop-low
decreases-loop-low l = l.high - l.low
