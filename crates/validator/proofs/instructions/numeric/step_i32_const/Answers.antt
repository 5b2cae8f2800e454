use Rattle.std.proofs.Common.{[], ◌∷◌, ap, arith, refl, ◌∙◌}
use Rattle.core_types.specs.declared.op.PlainOp.TheVariants.{I32Const}
use Rattle.core_types.specs.declared.types.ValType.TheVariants.{I32}
use Rattle.meaning.specs.validation.Types.{function_type}
use Rattle.validator.proofs.Steps.{fixed_steps}
use Rattle.validator.proofs.instructions.numeric.step_i32_const.Goals as goal

pub returns : goal.returns
returns c = λ lent.
    fixed_steps lent c.args.stacks.now _ c.apply.result (I32Const c.args.value) _ (function_type [] (I32 ∷ []))
    (c.takes_gives.ensures ∙ ap (function_type []) c.once.ensures) (λ context. (omega arith, (refl, refl)))
    (λ context operands results rule. rule.1) c.apply.ensures
