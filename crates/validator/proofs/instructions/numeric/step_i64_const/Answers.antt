use Rattle.std.proofs.Common.{[], ◌∷◌, ap, arith, refl, ◌∙◌}
use Rattle.core_types.specs.declared.op.PlainOp.TheVariants.{I64Const}
use Rattle.core_types.specs.declared.types.ValType.TheVariants.{I64}
use Rattle.meaning.specs.validation.Types.{function_type}
use Rattle.validator.proofs.Steps.{fixed_steps}
use Rattle.validator.proofs.instructions.numeric.step_i64_const.Goals as goal

pub returns : goal.returns
returns c = λ lent.
    fixed_steps lent c.args.stacks.now _ c.apply.result (I64Const c.args.value) _ (function_type [] (I64 ∷ []))
    (c.takes_gives.ensures ∙ ap (function_type []) c.once.ensures) (λ context. (omega arith, (refl, refl)))
    (λ context operands results rule. rule.1) c.apply.ensures
