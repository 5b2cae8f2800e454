use Rattle.std.proofs.Common.{arith}
use Rattle.std.proofs.lemmas.Result.{err_from_is_err_and}
use Rattle.binary.proofs.loops.Code.{groups_continue, groups_end, groups_fail, groups_overflow}
use Rattle.binary.proofs.sections.code.read_groups.Goals as goal

pub returns-in_err-more : goal.returns-in_err-more
returns-in_err-more c =
    let passed = err_from_is_err_and c.from_residual.result c.from_residual.ensures.1 in
    rw (passed.1, passed.2)
    (groups_fail c.loop.locals c.args.count c.loop.counter _ _ c.loop.invariant c.in_err-more.field-0.0 c.loop-test.true c.in_err-more.ensures)

pub returns-then-more-len : goal.returns-then-more-len
returns-then-more-len c =
    groups_overflow c.loop.locals c.args.count c.loop.counter _ _ c.loop.invariant
    (c.in_ok-more.more, c.in_ok-more.ty) _ c.loop-test.true c.in_ok-more.ensures (omega (arith, c.len.ensures))

pub loop-preserved : goal.loop-preserved
loop-preserved c =
    rw c.in_ok-push.ensures.ok
    (groups_continue c.loop.locals c.args.count c.loop.counter _ _ c.loop.invariant (c.in_ok-more.more, c.in_ok-more.ty) _ c.loop-test.true c.in_ok-more.ensures (omega (arith, c.len.ensures)))

pub returns : goal.returns
returns c = groups_end c.loop.locals c.args.count c.loop.counter _ _ c.loop.invariant c.loop-test.false
