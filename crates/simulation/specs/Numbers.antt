-- The steps of constants and operators, in a frame.
use Rattle.std.specs.Prelude.{◌≡◌, ℕ, ◌-◌, ◌≤◌, List, [], ◌∷◌, length, get_or, Result}
use Rattle.core_types.specs.declared.op.NumericOp.{NumericOp}
use Rattle.core_types.specs.declared.op.PlainOp.TheVariants.{I32Const, I64Const, Numeric}
use Rattle.core_types.specs.declared.outcome.Trap.{Trap}
use Rattle.core_types.specs.declared.outcome.Val.{Val}
use Rattle.core_types.specs.declared.types.ValType.{ValType}
use Rattle.meaning.specs.execution.Effects.{numeric_effect, push_result}
use Rattle.meaning.specs.validation.Instructions.{numeric_instruction_type}
use Rattle.cells.specs.Cells.{IsCellOf, value_of}
use Rattle.sidetable.specs.Flat.{Plain}
use Rattle.simulation.specs.Instructions.{IsAnswered, PutsOne}
use Rattle.simulation.specs.Operations.{IsDear}
use Rattle.simulation.specs.Runs.{Ghost, IsBefore, frame_of}

-- ---- constants

-- i32.const: its number.
abbrev pub PutsI32 : Type 0
PutsI32 = (n : ℕ) → PutsOne (I32Const n) n

-- i64.const: its number.
abbrev pub PutsI64 : Type 0
PutsI64 = (n : ℕ) → PutsOne (I64Const n) n

-- ---- operators

-- An operator on one operand: its result, whatever is below the operand.
abbrev pub ComputesFromOne : Type 0
ComputesFromOne =
    (g : Ghost) (cells : List ℕ) (at top : ℕ) (op : NumericOp) (t r : ValType)
    → (numeric_instruction_type op).params ≡ t ∷ []
    → (numeric_instruction_type op).results ≡ r ∷ []
    → IsBefore (Plain (Numeric op)) g cells at top
    → (1 ≤ top) × (top ≤ length cells) × IsCellOf t (get_or cells (top - 1) 0)
    × ((result : Result ℕ Trap)
    → ((values : List Val)
    → numeric_effect g.store (frame_of g) op (value_of t (get_or cells (top - 1) 0) ∷ values)
    ≡ push_result g.store (frame_of g) (value_of r) result values)
    → IsAnswered g cells at top (top - 1) result)
    × IsDear g cells at top

-- The same for two operands, the first below the second.
abbrev pub ComputesFromTwo : Type 0
ComputesFromTwo =
    (g : Ghost) (cells : List ℕ) (at top : ℕ) (op : NumericOp) (t u r : ValType)
    → (numeric_instruction_type op).params ≡ t ∷ u ∷ []
    → (numeric_instruction_type op).results ≡ r ∷ []
    → IsBefore (Plain (Numeric op)) g cells at top
    → (2 ≤ top) × (top ≤ length cells) × IsCellOf t (get_or cells (top - 2) 0)
    × IsCellOf u (get_or cells (top - 1) 0)
    × ((result : Result ℕ Trap)
    → ((values : List Val)
    → numeric_effect g.store (frame_of g) op
    (value_of u (get_or cells (top - 1) 0) ∷ (value_of t (get_or cells (top - 2) 0) ∷ values))
    ≡ push_result g.store (frame_of g) (value_of r) result values)
    → IsAnswered g cells at top (top - 2) result)
    × IsDear g cells at top
