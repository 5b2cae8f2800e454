use Rattle.std.proofs.Common.{arith, ap, drop, ◌+◌, ◌∙◌, ◌∷◌, ◌≡◌}
use Rattle.std.proofs.lemmas.List.{drop_more}
use Rattle.std.proofs.lemmas.Option.{get_or_from_slice_get}
use Rattle.core_types.specs.Expressions.{lent_op}
use Rattle.core_types.specs.declared.op.Op.{Op}
use Rattle.validator.proofs.context.references.mark_expression.Goals as goal

pub loop-k-preserved : goal.loop-k-preserved
loop-k-preserved c =
    let op = lent_op c.get.result in
    let rest = drop (c.loop-k.k + 1) c.args.ops.now in
    let here : drop c.loop-k.k c.args.ops.now ≡ op ∷ rest =
    drop_more c.args.ops.now c.loop-k.k op (omega (arith, c.loop-k-test.true, c.len-k-end.ensures)) ∙ ap (λ (o : Op). o ∷ rest) (get_or_from_slice_get c.args.ops.now c.loop-k.k op op c.get.ensures) in
    c.mark_operation.ensures rest ∙ (rw here at c.loop-k.invariant)
