-- The types of instructions, in the terms of the definitions.
use Rattle.std.specs.Prelude.{Bool, true, false, List, [], ◌∷◌, ◌++◌, Option, Some, None}
use Rattle.core_types.specs.declared.op.PlainOp.{PlainOp}
use Rattle.core_types.specs.declared.types.FuncType.{FuncType}
use Rattle.core_types.specs.declared.types.OperandType.{OperandType}
use Rattle.core_types.specs.declared.types.ValType.{ValType}
use Rattle.core_types.specs.declared.types.ValType.TheVariants.{I32}
use Rattle.meaning.specs.validation.Context.{Context}
use Rattle.meaning.specs.validation.Instructions.{HasFuncType, Rule, known}
use Rattle.meaning.specs.validation.Types.{function_type}
use Rattle.validator.specs.declared.context.BodyContext.{BodyContext}
use Rattle.validator.specs.declared.types.InstructionType.{InstructionType}
use Rattle.validator.specs.declared.types.LentFuncType.{LentFuncType}
use Rattle.validator.specs.Contexts.{Describes}

-- The operands, with an i32 above them or not.
abbrev pub with_i32 : List ValType → Bool → List ValType
with_i32 types false = types
with_i32 types true = types ++ I32 ∷ []

-- The function type of an instruction's type.
abbrev pub lent_type : InstructionType → FuncType
lent_type t = function_type (with_i32 t.operands.now t.i32_on_top) t.results.now

-- A function type whose lists are borrowed.
abbrev pub lent_func_type : LentFuncType → FuncType
lent_func_type t = function_type t.params.now t.results.now

-- In each context that is described, with these labels, the instruction has the type and no other.
pub record IsTypeOf (lent : BodyContext) (labels : List (List ValType)) (op : PlainOp)
    (t : FuncType)
    : Type 0 where
  pub rule : (context : Context) → Describes lent context
      → Rule (record context { labels = labels }) op (known t.params) (known t.results)
  pub only : (context : Context) → Describes lent context → (operands results : List OperandType)
      → Rule (record context { labels = labels }) op operands results
      → HasFuncType t operands results

-- In no context that is described, with these labels, does the instruction have a type.
pub record HasNoType (lent : BodyContext) (labels : List (List ValType)) (op : PlainOp)
    : Type 0 where
  pub none : (context : Context) → Describes lent context → (operands results : List OperandType)
      → Rule (record context { labels = labels }) op operands results → ⊥

-- With any labels, the type that was found is that of the instruction, or it has none.
abbrev pub HasTypeOf : BodyContext → PlainOp → Option InstructionType → Type 0
HasTypeOf lent op None = (labels : List (List ValType)) → HasNoType lent labels op
HasTypeOf lent op (Some t) = (labels : List (List ValType)) → IsTypeOf lent labels op (lent_type t)
