use Rattle.std.proofs.Common.{List, [], ap, sym, ◌++◌, ◌∙◌, ◌∷◌, ◌||◌}
use Rattle.std.proofs.lemmas.Result.{err_from_is_err_and}
use Rattle.core_types.specs.declared.op.Op.{Op}
use Rattle.meaning.specs.binary.Modules.{names_data}
use Rattle.binary.specs.declared.errors.DecodeError.TheVariants.{Malformed}
use Rattle.binary.specs.declared.expressions.Flow.{Flow}
use Rattle.binary.specs.declared.expressions.OpenBody.{OpenBody}
use Rattle.binary.proofs.exactness.Expressions.{ended_end}
use Rattle.binary.proofs.exactness.instructions.Operations.{op_shorter}
use Rattle.binary.proofs.loops.DataNames.{noted_last, or_none}
use Rattle.binary.proofs.loops.Expressions.{expression_begins, expression_continues, expression_ends, expression_fails, expression_misplaced, no_first}
use Rattle.binary.proofs.expressions.skip_expression.Goals as goal

pub loop-code-init : goal.loop-code-init
loop-code-init c = rw (c.clear.ensures, c.fork-here.ensures) ([], expression_begins c.args.reader.now, sym (or_none c.args.data_named.now))

pub loop-code-smaller : goal.loop-code-smaller
loop-code-smaller c =
    let (op, read, followed, noted) = c.in_ok-skip_operation.ensures in
    op_shorter _ _ op read

pub loop-code-preserved : goal.loop-code-preserved
loop-code-preserved c =
    let (ops, inside, so_far) = c.loop-code.invariant in
    let (op, read, followed, noted) = rw c.in-Continues.is at c.in_ok-skip_operation.ensures in (
      ops ++ op ∷ [],
      expression_continues c.args.reader.now _ c.loop-code.bodies ops inside op _ (op_shorter _ _ op read) read _ followed,
      noted_last names_data c.args.data_named.now c.loop-code.data_named _ ops op so_far noted,
    )

pub returns-in_err-skip_operation : goal.returns-in_err-skip_operation
returns-in_err-skip_operation c =
    let passed = err_from_is_err_and c.from_residual.result c.from_residual.ensures.1 in
    let (ops, inside, so_far) = c.loop-code.invariant in
    rw (passed.1, passed.2)
    (expression_fails c.args.reader.now _ c.loop-code.bodies ops inside c.in_err-skip_operation.field-0.0 c.in_err-skip_operation.ensures)

pub returns-in_default : goal.returns-in_default
returns-in_default c =
    let (ops, inside, so_far) = c.loop-code.invariant in
    expression_fails c.args.reader.now _ c.loop-code.bodies ops inside (Malformed 0) (no_first _ (sym c.peek.ensures ∙ c.in_default.is))

pub returns-in-Misplaced : goal.returns-in-Misplaced
returns-in-Misplaced c =
    let (ops, inside, so_far) = c.loop-code.invariant in
    let (op, read, followed, noted) = rw c.in-Misplaced.is at c.in_ok-skip_operation.ensures in
    expression_misplaced c.args.reader.now _ c.loop-code.bodies ops inside op _ (op_shorter _ _ op read) read _ followed

pub returns : goal.returns
returns c =
    let (ops, inside, so_far) = c.loop-code.invariant in
    let (op, read, followed, noted) = rw c.in-Ended.is at c.in_ok-skip_operation.ensures in
    let (end, none) = ended_end c.loop-code.bodies op (ap (λ (next : Flow × List OpenBody). next.0) followed) in
    let same = noted ∙ ap (λ (o : Op). c.loop-code.data_named || names_data o) end ∙ or_none c.loop-code.data_named in
    (ops, expression_ends c.args.reader.now _ c.loop-code.bodies ops inside op _ (op_shorter _ _ op read) read _ followed, same ∙ so_far)
