use Rattle.std.proofs.Common.{subst}
use Rattle.core_types.specs.declared.op.Op.TheVariants.{Plain}
use Rattle.core_types.specs.declared.op.PlainOp.TheVariants.{SelectTyped}
use Rattle.validator.specs.Steps.{Steps}
use Rattle.validator.proofs.instructions.parametric.step_typed_select.Goals as goal

pub returns : goal.returns
returns c = λ lent.
    let found = c.apply_some.ensures lent (SelectTyped c.as_slice.result.now) (c.type_of_select.ensures lent) in
    subst (λ types. Steps lent c.args.stacks.now c.apply_some.new.stacks (Plain (SelectTyped types)) c.apply_some.result) c.as_slice.ensures found
