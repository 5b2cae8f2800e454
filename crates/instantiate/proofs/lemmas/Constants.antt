-- Constant expressions over operands in a list.
use Rattle.std.proofs.Common.{◌≡◌, ℕ, ◌+◌, ◌<◌, ◌≤◌, List, [], ◌∷◌, ◌++◌, length, reverse, get_or, drop, Some, None, refl, ap, sym, ◌∙◌}
use Rattle.std.specs.Prelude.{Option, option_map}
use Rattle.std.proofs.lemmas.List.{drop_all, drop_more, reverse-append}
use Rattle.core_types.specs.declared.op.NumericOp.{NumericOp}
use Rattle.core_types.specs.Expressions.{HasListOrBody}
use Rattle.core_types.specs.declared.op.Op.{Op}
use Rattle.core_types.specs.declared.op.Op.TheVariants as flat
use Rattle.core_types.specs.declared.op.PlainOp.TheVariants.{Control, BrTable, Reference, Parametric, SelectTyped, Variable, Table, Memory, Numeric, I32Const, I64Const}
use Rattle.core_types.specs.declared.op.PlainOp.{PlainOp}
use Rattle.core_types.specs.declared.outcome.Val.{Val}
use Rattle.meaning.specs.execution.Modules.{constant, constant_operands, constant_step, constant_value, only}
use Rattle.meaning.specs.execution.Store.{ModuleInstance, Store}

module _ (store : Store) (i : ModuleInstance) where
  -- An instruction that is not an operator pushes its value, if it has one.
  step-put : (op : PlainOp) (operands : List Val) → ((n : NumericOp) → op ≡ Numeric n → ⊥) → constant_step store i op operands ≡ option_map (λ (v : Val). v ∷ operands) (constant store i op)
  step-put (I32Const n) operands no_operator = refl
  step-put (I64Const n) operands no_operator = refl
  step-put (Reference op) operands no_operator = refl
  step-put (Variable op) operands no_operator = refl
  step-put (Control op) operands no_operator = refl
  step-put (BrTable table) operands no_operator = refl
  step-put (Parametric op) operands no_operator = refl
  step-put (SelectTyped types) operands no_operator = refl
  step-put (Table op) operands no_operator = refl
  step-put (Memory op) operands no_operator = refl
  step-put (Numeric op) operands no_operator = absurd (no_operator op refl)

  pub put-some : (op : PlainOp) (items after : List Val) (v : Val) → ((n : NumericOp) → op ≡ Numeric n → ⊥) → Some v ≡ constant store i op → after
      ≡ items ++ v ∷ [] → constant_step store i op (reverse items) ≡ Some (reverse after)
  put-some op items after v no_operator has pushed =
      step-put op (reverse items) no_operator
      ∙ ap (λ (o : Option Val). option_map (λ (w : Val). w ∷ reverse items) o) (sym has)
      ∙ ap (λ (vs : List Val). Some vs) (sym (ap (λ (vs : List Val). reverse vs) pushed ∙ reverse-append items (v ∷ [])))

  pub put-none : (op : PlainOp) (operands : List Val) → ((n : NumericOp) → op ≡ Numeric n → ⊥) → None ≡ constant store i op → constant_step store i op operands ≡ None
  put-none op operands no_operator none = step-put op operands no_operator ∙ ap (λ (o : Option Val). option_map (λ (w : Val). w ∷ operands) o) (sym none)

-- In no instance does a constant expression have a value if it begins with an operation with a list or a body.
pub no_constant : (o : Op) → HasListOrBody o → (store : Store) (i : ModuleInstance) (ops : List Op) (operands : List Val) → constant_operands store i (o ∷ ops) operands ≡ None
no_constant (flat.Plain (Control o)) has store i ops operands = absurd has
no_constant (flat.Plain (BrTable t)) has store i ops operands = refl
no_constant (flat.Plain (Reference o)) has store i ops operands = absurd has
no_constant (flat.Plain (Parametric o)) has store i ops operands = absurd has
no_constant (flat.Plain (SelectTyped t)) has store i ops operands = refl
no_constant (flat.Plain (Variable o)) has store i ops operands = absurd has
no_constant (flat.Plain (Table o)) has store i ops operands = absurd has
no_constant (flat.Plain (Memory o)) has store i ops operands = absurd has
no_constant (flat.Plain (Numeric o)) has store i ops operands = absurd has
no_constant (flat.Plain (I32Const n)) has store i ops operands = absurd has
no_constant (flat.Plain (I64Const n)) has store i ops operands = absurd has
no_constant (flat.Block t) has store i ops operands = refl
no_constant (flat.Loop t) has store i ops operands = refl
no_constant (flat.If t) has store i ops operands = refl
no_constant flat.Else has store i ops operands = refl
no_constant flat.End has store i ops operands = refl

-- ---- the loop over an expression

-- The instructions from an index on, with these operands, have the same result as all of them without operands.
abbrev pub IsRunFrom : Store → ModuleInstance → List Op → (k : ℕ) → (items : List Val) → Type 0
IsRunFrom store i ops k items = constant_operands store i (drop k ops) (reverse items) ≡ constant_operands store i ops []

module _ (store : Store) (i : ModuleInstance) (ops : List Op) (k : ℕ) (items : List Val) (so_far : IsRunFrom store i ops k items) where
  pub run-on : (op : Op) (after : List Val) → k < length ops → op ≡ get_or ops k op
      → constant_operands store i (op ∷ drop (k + 1) ops) (reverse items) ≡ constant_operands store i (drop (k + 1) ops) (reverse after)
      → IsRunFrom store i ops (k + 1) after
  run-on op after inside is step =
      sym step ∙ ap (λ (o : Op). constant_operands store i (o ∷ drop (k + 1) ops) (reverse items)) is ∙ ap
      (λ (os : List Op). constant_operands store i os (reverse items)) (sym (drop_more ops k op inside)) ∙ so_far

  pub run-none : (op : Op) → k < length ops → op ≡ get_or ops k op → constant_operands store i (op ∷ drop (k + 1) ops) (reverse items) ≡ None → None ≡ constant_value store i ops
  run-none op inside is none =
      ap only (sym none ∙ ap (λ (o : Op). constant_operands store i (o ∷ drop (k + 1) ops) (reverse items)) is ∙ ap
      (λ (os : List Op). constant_operands store i os (reverse items)) (sym (drop_more ops k op inside)) ∙ so_far)

  pub run-end : length ops ≤ k → only (Some (reverse items)) ≡ constant_value store i ops
  run-end past = ap only (ap (λ (os : List Op). constant_operands store i os (reverse items)) (sym (drop_all k ops past)) ∙ so_far)
