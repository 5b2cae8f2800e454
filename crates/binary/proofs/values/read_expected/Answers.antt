use Rattle.std.proofs.Common.{sym, ◌∙◌}
use Rattle.binary.proofs.loops.Values.{expected_continues, expected_ends, expected_fails}
use Rattle.binary.proofs.values.read_expected.Goals as goal

pub returns-then-not-accept : goal.returns-then-not-accept
returns-then-not-accept c =
    expected_fails c.args.expected.now c.loop-byte.byte-index c.loop-byte.reader _ c.loop-byte.invariant c.loop-byte-test.true
    (sym c.accept.ensures.accepted ∙ c.if-not-accept.true)

pub loop-byte-preserved : goal.loop-byte-preserved
loop-byte-preserved c =
    rw c.if-not-accept.ensures.rest
    (expected_continues c.args.expected.now c.loop-byte.byte-index c.loop-byte.reader _ c.loop-byte.invariant c.loop-byte-test.true (sym c.if-not-accept.ensures.accepted))

pub returns : goal.returns
returns c =
    expected_ends c.args.expected.now c.loop-byte.byte-index c.loop-byte.reader _ c.loop-byte.invariant c.loop-byte-test.false
