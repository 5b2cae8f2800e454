use Rattle.std.proofs.Common.{arith}
use Rattle.core_types.proofs.Runs.{begins_next}
use Rattle.core_types.proofs.halving.run_in_turn.Goals as goal

pub loop-found-preserved : goal.loop-found-preserved
loop-found-preserved c = (omega arith, begins_next c.args.start c.args.runs.now c.loop-found.found c.args.index _ c.loop-found-test.true c.if-index-runs.false)
