use Rattle.subcommands.proofs.Words.{one-more}
use Rattle.subcommands.proofs.args.read_args.Goals as goal

pub loop-i-preserved : goal.loop-i-preserved
loop-i-preserved c =
    rw c.in_ok-push.ensures.items (one-more _ c.args.words.now c.loop-i.values.items c.loop-i.i _ c.in-Some.read c.loop-i-test.true c.loop-i.invariant c.in-Some.ensures)
