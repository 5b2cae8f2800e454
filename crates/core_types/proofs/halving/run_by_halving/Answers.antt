use Rattle.std.proofs.Common.{◌+◌, ◌-◌, ◌/◌, ◌<◌, length, arith}
use Rattle.core_types.proofs.Runs.{begins_next, ends_there}
use Rattle.core_types.proofs.halving.run_by_halving.Goals as goal

pub loop-low-preserved-then-run-index : goal.loop-low-preserved-then-run-index
loop-low-preserved-then-run-index c =
    let inside : c.loop-low.low + (c.loop-low.high - c.loop-low.low) / 2 < length c.args.runs.now = omega arith in
    record {
      ordered = omega arith;
      within = c.loop-low.invariant.within;
      begins = begins_next c.args.start c.args.runs.now _ c.args.index _ inside c.if-run-index.true;
      ends = c.loop-low.invariant.ends;
    }

pub loop-low-preserved : goal.loop-low-preserved
loop-low-preserved c =
    let inside : c.loop-low.low + (c.loop-low.high - c.loop-low.low) / 2 < length c.args.runs.now = omega arith in
    record {
      ordered = omega arith;
      within = omega arith;
      begins = c.loop-low.invariant.begins;
      ends = ends_there c.args.runs.now _ c.args.index _ inside c.if-run-index.false;
    }
