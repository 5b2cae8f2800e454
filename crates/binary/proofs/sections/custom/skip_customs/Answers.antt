use Rattle.std.proofs.Common.{sym}
use Rattle.std.proofs.lemmas.Result.{err_from_is_err_and}
use Rattle.binary.proofs.exactness.sections.Custom.{custom_shorter}
use Rattle.binary.proofs.loops.Custom.{customs_begins, customs_continues, customs_ends, customs_fails}
use Rattle.binary.proofs.sections.custom.skip_customs.Goals as goal

pub loop-reader-init : goal.loop-reader-init
loop-reader-init c = customs_begins c.args.reader.now

pub loop-reader-smaller : goal.loop-reader-smaller
loop-reader-smaller c =
    custom_shorter c.loop-reader.reader _ (rw c.loop-reader-test.ensures.rest at c.in_ok-skip_custom.ensures)
    (sym c.loop-reader-test.ensures.accepted)

pub loop-reader-preserved : goal.loop-reader-preserved
loop-reader-preserved c =
    let read = rw c.loop-reader-test.ensures.rest at c.in_ok-skip_custom.ensures in
    let begun = sym c.loop-reader-test.ensures.accepted in
    customs_continues c.args.reader.now c.loop-reader.reader c.loop-reader.invariant _
    (custom_shorter c.loop-reader.reader _ read begun) begun read

pub returns-in_err-skip_custom : goal.returns-in_err-skip_custom
returns-in_err-skip_custom c =
    let passed = err_from_is_err_and c.from_residual.result c.from_residual.ensures.1 in
    let refused = rw c.loop-reader-test.ensures.rest at c.in_err-skip_custom.ensures in
    rw (passed.1, passed.2)
    (customs_fails c.args.reader.now c.loop-reader.reader c.loop-reader.invariant c.in_err-skip_custom.field-0.0 (sym c.loop-reader-test.ensures.accepted) refused)

pub returns : goal.returns
returns c =
    rw c.loop-reader-test.ensures.rest
    (customs_ends c.args.reader.now c.loop-reader.reader c.loop-reader.invariant (sym c.loop-reader-test.ensures.accepted))
