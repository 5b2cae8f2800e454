use Rattle.std.proofs.lemmas.Result.{err_from_is_err_and}
use Rattle.binary.proofs.exactness.instructions.Operations.{op_shorter}
use Rattle.binary.proofs.loops.Expressions.{expression_begins, expression_continues, expression_ends, expression_fails, expression_misplaced}
use Rattle.binary.proofs.expressions.read_expression.Goals as goal

pub loop-ops-init : goal.loop-ops-init
loop-ops-init c = rw (c.new-bodies.ensures, c.new-ops.ensures) (expression_begins c.args.reader.now)

pub loop-ops-smaller : goal.loop-ops-smaller
loop-ops-smaller c = op_shorter _ _ _ c.in_ok-op.ensures

pub returns-in_err-op : goal.returns-in_err-op
returns-in_err-op c =
    let passed = err_from_is_err_and c.from_residual.result c.from_residual.ensures.1 in
    rw (passed.1, passed.2)
    (expression_fails c.args.reader.now _ c.loop-ops.bodies _ c.loop-ops.invariant c.in_err-op.field-0.0 c.in_err-op.ensures)

pub loop-ops-preserved : goal.loop-ops-preserved
loop-ops-preserved c =
    let followed = rw c.in-Continues.is at c.in_ok-follow.ensures in
    rw c.in_ok-push-in-Continues.ensures
    (expression_continues c.args.reader.now _ c.loop-ops.bodies _ c.loop-ops.invariant _ _ (op_shorter _ _ _ c.in_ok-op.ensures) c.in_ok-op.ensures _ followed)

pub returns-in-Misplaced : goal.returns-in-Misplaced
returns-in-Misplaced c =
    let followed = rw c.in-Misplaced.is at c.in_ok-follow.ensures in
    expression_misplaced c.args.reader.now _ c.loop-ops.bodies _ c.loop-ops.invariant _ _ (op_shorter _ _ _ c.in_ok-op.ensures) c.in_ok-op.ensures _ followed

pub returns : goal.returns
returns c =
    let followed = rw c.in-Ended.is at c.in_ok-follow.ensures in
    rw c.shrink.ensures
    (expression_ends c.args.reader.now _ c.loop-ops.bodies _ c.loop-ops.invariant _ _ (op_shorter _ _ _ c.in_ok-op.ensures) c.in_ok-op.ensures _ followed)
