use Rattle.std.proofs.Common.{arith, ◌∙◌}
use Rattle.binary.proofs.loops.Bodies.{operations_are}
use Rattle.binary.proofs.loops.Expressions.{body_is_read, body_is_shorter}
use Rattle.binary.proofs.expressions.read_body.Goals as goal

pub overflow_sub-end : goal.overflow_sub-end
overflow_sub-end c =
    let (ops, is, noted) = c.in_ok-skip_expression.ensures in
    rw (c.rest-whole.ensures, c.rest.ensures) (omega (arith, body_is_shorter _ _ ops is))

pub overflow_sub-end-2 : goal.overflow_sub-end-2
overflow_sub-end-2 c =
    let (ops, is, noted) = c.in_ok-skip_expression.ensures in
    rw (c.rest-whole.ensures, c.rest.ensures) (omega (arith, body_is_shorter _ _ ops is))

pub returns-clause-reads : goal.returns-clause-reads
returns-clause-reads c =
    let (ops, is, noted) = c.in_ok-skip_expression.ensures in
    let text = rw (c.rest-whole.ensures, c.rest.ensures) at c.in_ok-from_slice.ensures.items in
    let same = c.from_bytes.ensures ∙ operations_are _ ops (body_is_read _ _ _ ops is text) in
    rw same is

pub returns-clause-data : goal.returns-clause-data
returns-clause-data c =
    let (ops, is, noted) = c.in_ok-skip_expression.ensures in
    let text = rw (c.rest-whole.ensures, c.rest.ensures) at c.in_ok-from_slice.ensures.items in
    let same = c.from_bytes.ensures ∙ operations_are _ ops (body_is_read _ _ _ ops is text) in
    rw same noted
