-- The effects of numeric instructions on cells (Execution, Numeric Instructions).
use Rattle.std.specs.Prelude.{◌≡◌, ℕ, List, [], ◌∷◌, Result, Ok}
use Rattle.core_types.specs.declared.op.NumericOp.{NumericOp}
use Rattle.core_types.specs.declared.outcome.Trap.{Trap}
use Rattle.core_types.specs.declared.outcome.Val.{Val}
use Rattle.core_types.specs.declared.types.ValType.{ValType}
use Rattle.core_types.specs.declared.types.ValType.TheVariants.{I32}
use Rattle.meaning.specs.execution.Configurations.{Frame}
use Rattle.meaning.specs.execution.Effects.{numeric_effect, push_result}
use Rattle.meaning.specs.execution.Store.{Store}
use Rattle.meaning.specs.validation.Instructions.{numeric_instruction_type}
use Rattle.cells.specs.Cells.{value_of}

-- The first of these types. Every list that it is used on has one.
abbrev pub first_type : List ValType → ValType
first_type [] = I32
first_type (t ∷ ts) = t

-- The type of an instruction's operands, which all have the same type.
abbrev pub operand_type : NumericOp → ValType
operand_type op = first_type (numeric_instruction_type op).params

-- The type of an instruction's result.
abbrev pub result_type : NumericOp → ValType
result_type op = first_type (numeric_instruction_type op).results

-- In every store and frame, the instruction replaces the value of the first cell with that of the second.
abbrev pub GivesUnary : NumericOp → (x result : ℕ) → Type 0
GivesUnary op x result =
    (store : Store) (frame : Frame) (values : List Val)
    → numeric_effect store frame op (value_of (operand_type op) x ∷ values)
    ≡ push_result store frame (value_of (result_type op)) (Ok result) values

-- In every store and frame, the instruction replaces the values of two cells, the second on top, with the result's value, or traps.
abbrev pub GivesBinary : NumericOp → (x y : ℕ) → Result ℕ Trap → Type 0
GivesBinary op x y result =
    (store : Store) (frame : Frame) (values : List Val)
    → numeric_effect store frame op
    (value_of (operand_type op) y ∷ (value_of (operand_type op) x ∷ values))
    ≡ push_result store frame (value_of (result_type op)) result values
