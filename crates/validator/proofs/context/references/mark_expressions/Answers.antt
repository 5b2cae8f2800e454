use Rattle.std.proofs.Common.{refl}
use Rattle.meaning.specs.validation.Modules.{named_by, named_by_each}
use Rattle.validator.proofs.References.{marked_next}
use Rattle.validator.proofs.context.references.mark_expressions.Goals as goal

pub loop-ops-preserved : goal.loop-ops-preserved
loop-ops-preserved c =
    marked_next named_by named_by_each (λ _ _. refl) c.args.expressions.now c.loop-ops.ops-index c.ops-item.result c.loop-ops.marks
    c.mark_expression.new.marks _ c.loop-ops-test.true c.ops-item.is c.mark_expression.ensures c.loop-ops.invariant
