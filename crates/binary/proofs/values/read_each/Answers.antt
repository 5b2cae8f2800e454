use Rattle.std.proofs.lemmas.Result.{err_from_is_err_and}
use Rattle.binary.proofs.loops.Values.{each_continues, each_ends, each_fails}
use Rattle.binary.proofs.values.read_each.Goals as goal

pub returns-in_err-read : goal.returns-in_err-read
returns-in_err-read g c =
    let passed = err_from_is_err_and c.from_residual.result c.from_residual.ensures.1 in
    rw (passed.1, passed.2)
    (each_fails _ c.loop.values.items c.args.count c.loop.counter _ _ c.loop.invariant c.in_err-read.field-0.0 c.loop-test.true c.in_err-read.ensures)

pub loop-preserved : goal.loop-preserved
loop-preserved g c =
    rw c.in_ok-push.ensures.items
    (each_continues _ c.loop.values.items c.args.count c.loop.counter _ _ c.loop.invariant c.in_ok-read.field-0 _ c.loop-test.true c.in_ok-read.ensures)

pub returns : goal.returns
returns g c =
    rw c.from_vec.ensures
    (each_ends _ c.loop.values.items c.args.count c.loop.counter _ _ c.loop.invariant c.loop-test.false)
