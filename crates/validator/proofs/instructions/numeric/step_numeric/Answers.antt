use Rattle.std.proofs.Common.{[], ◌∷◌, ap, refl}
use Rattle.core_types.specs.declared.op.NumericOp.TheVariants.{Binary, Compare, Convert, Eqz, Unary}
use Rattle.core_types.specs.declared.op.PlainOp.TheVariants.{Numeric}
use Rattle.core_types.specs.declared.types.ValType.{ValType}
use Rattle.core_types.specs.declared.types.ValType.TheVariants.{I32}
use Rattle.meaning.specs.validation.Instructions.{integer_type, numeric_instruction_type}
use Rattle.meaning.specs.validation.Types.{function_type}
use Rattle.validator.proofs.Steps.{fixed_steps}
use Rattle.validator.proofs.instructions.numeric.step_numeric.Goals as goal

pub returns-in-Eqz : goal.returns-in-Eqz
returns-in-Eqz c = λ lent.
    rw c.in-Eqz.is
    (fixed_steps lent c.args.stacks.now _ c.apply_unary.result (Numeric (Eqz c.in-Eqz.width)) _ (numeric_instruction_type (Eqz c.in-Eqz.width))
    (ap (λ (t : ValType). function_type (t ∷ []) (I32 ∷ [])) c.integer_type.ensures) (λ context. (refl, refl))
    (λ context operands results rule. rule) c.apply_unary.ensures)

pub returns-in-Compare : goal.returns-in-Compare
returns-in-Compare c = λ lent.
    rw c.in-Compare.is
    (fixed_steps lent c.args.stacks.now _ c.apply_binary.result (Numeric (Compare c.in-Compare.width _)) _
    (function_type (integer_type c.in-Compare.width ∷ integer_type c.in-Compare.width ∷ []) (I32 ∷ []))
    (ap (λ (t : ValType). function_type (t ∷ t ∷ []) (I32 ∷ [])) c.integer_type-in-Compare.ensures) (λ context. (refl, refl))
    (λ context operands results rule. rule) c.apply_binary.ensures)

pub returns-in-Unary : goal.returns-in-Unary
returns-in-Unary c = λ lent.
    rw c.in-Unary.is
    (fixed_steps lent c.args.stacks.now _ c.apply_unary-in-Unary.result (Numeric (Unary c.in-Unary.width _)) _
    (function_type (integer_type c.in-Unary.width ∷ []) (integer_type c.in-Unary.width ∷ []))
    (ap (λ (t : ValType). function_type (t ∷ []) (t ∷ [])) c.integer_type-ty.ensures) (λ context. (refl, refl))
    (λ context operands results rule. rule) c.apply_unary-in-Unary.ensures)

pub returns-in-Binary : goal.returns-in-Binary
returns-in-Binary c = λ lent.
    rw c.in-Binary.is
    (fixed_steps lent c.args.stacks.now _ c.apply_binary-in-Binary.result (Numeric (Binary c.in-Binary.width _)) _
    (function_type (integer_type c.in-Binary.width ∷ integer_type c.in-Binary.width ∷ []) (integer_type c.in-Binary.width ∷ []))
    (ap (λ (t : ValType). function_type (t ∷ t ∷ []) (t ∷ [])) c.integer_type-ty-in-Binary.ensures) (λ context. (refl, refl))
    (λ context operands results rule. rule) c.apply_binary-in-Binary.ensures)

pub returns-in-Convert : goal.returns-in-Convert
returns-in-Convert c = λ lent.
    rw c.in-Convert.is
    (fixed_steps lent c.args.stacks.now _ c.apply.result (Numeric (Convert c.in-Convert.op)) _ (numeric_instruction_type (Convert c.in-Convert.op))
    c.type_of_conversion.ensures (λ context. (refl, refl)) (λ context operands results rule. rule) c.apply.ensures)
