-- Laws of the instructions on operands of several types: refused operands exclude them.
use Rattle.std.proofs.Common.{[], ◌∷◌}
use Rattle.core_types.specs.declared.op.Op.TheVariants as op
use Rattle.core_types.specs.declared.op.ParametricOp.TheVariants.{DropOperand, Select}
use Rattle.core_types.specs.declared.op.PlainOp.TheVariants.{Parametric, Reference}
use Rattle.core_types.specs.declared.op.ReferenceOp.TheVariants.{IsNull}
use Rattle.core_types.specs.declared.types.OperandType.TheVariants.{Known}
use Rattle.core_types.specs.declared.types.OperandType.{OperandType}
use Rattle.core_types.specs.declared.types.RefType.{RefType}
use Rattle.core_types.specs.declared.types.ValType.TheVariants.{I32}
use Rattle.meaning.proofs.lemmas.Typing.{AllFit-same}
use Rattle.meaning.specs.validation.Instructions.{IsNumeric}
use Rattle.meaning.specs.validation.Types.{reference_type}
use Rattle.validator.specs.declared.context.BodyContext.{BodyContext}
use Rattle.validator.specs.declared.control_frames.Stacks.{Stacks}
use Rattle.validator.specs.Operands.{Refuses}
use Rattle.validator.specs.Steps.{CannotBeNext}
use Rattle.validator.proofs.completeness.Instructions.{rule_refused}

module _ {s : BodyContext} {old : Stacks} where
  -- A drop is excluded if an operand of any type is refused.
  pub drop_refused : ((t : OperandType) → Refuses old.innermost.unreachable old.innermost.height old.operands (t ∷ [])) → CannotBeNext s old (op.Plain (Parametric DropOperand))
  drop_refused refuses = rule_refused (Parametric DropOperand) (λ context is theirs others rule. let (t, operands, results) = rule in ([], t ∷ [], refuses t, rw operands (AllFit-same (t ∷ []))))

  -- A test of a reference is excluded if a reference operand of any type is refused.
  pub is_null_refused : ((t : RefType) → Refuses old.innermost.unreachable old.innermost.height old.operands (Known (reference_type t) ∷ [])) → CannotBeNext s old (op.Plain (Reference IsNull))
  is_null_refused refuses = rule_refused (Reference IsNull)
      (λ context is theirs others rule. let (t, (operands, results)) = rule in
      ([], Known (reference_type t) ∷ [], refuses t, rw operands (AllFit-same (Known (reference_type t) ∷ []))))

  -- A select is excluded if two operands of any numeric type under an i32 are refused.
  pub select_refused : ((t : OperandType) → IsNumeric t
      → Refuses old.innermost.unreachable old.innermost.height old.operands (t ∷ t ∷ Known I32 ∷ [])) → CannotBeNext s old (op.Plain (Parametric Select))
  select_refused refuses = rule_refused (Parametric Select)
      (λ context is theirs others rule. let (t, numeric, operands, results) = rule in
      ([], t ∷ t ∷ Known I32 ∷ [], refuses t numeric, rw operands (AllFit-same (t ∷ t ∷ Known I32 ∷ []))))
