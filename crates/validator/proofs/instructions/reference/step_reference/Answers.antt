use Rattle.std.proofs.Common.{[], ◌∷◌, ap, refl, ◌∙◌}
use Rattle.core_types.specs.declared.op.PlainOp.TheVariants.{Reference}
use Rattle.core_types.specs.declared.op.ReferenceOp.TheVariants.{Func, Null}
use Rattle.meaning.specs.validation.Types.{function_type, reference_type}
use Rattle.validator.proofs.Steps.{fixed_steps}
use Rattle.validator.proofs.instructions.reference.step_reference.Goals as goal

pub returns-in-Null : goal.returns-in-Null
returns-in-Null c =
    rw c.in-Null.is
    (fixed_steps c.args.context.now c.args.stacks.now _ c.apply.result (Reference (Null c.in-Null.ty)) _
    (function_type [] (reference_type c.in-Null.ty ∷ []))
    (c.takes_gives.ensures ∙ ap (function_type []) (c.once.ensures ∙ ap (λ r. r ∷ []) c.reference_type.ensures)) (λ context. (refl, refl))
    (λ context operands results rule. rule) c.apply.ensures)

pub returns-in-Func : goal.returns-in-Func
returns-in-Func c = rw c.in-Func.is (c.apply_some.ensures c.args.context.now (Reference (Func c.in-Func.index)) c.type_of_ref_func.ensures)
