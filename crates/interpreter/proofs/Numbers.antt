-- Operators, on the machine.
use Rattle.std.proofs.Common.{◌≡◌, ℕ, ◌+◌, ◌-◌, ◌%◌, ◌^◌, List, [], ◌∷◌, get_or, refl, ap, sym, subst, arith}
use Rattle.std.specs.Prelude.{Some, Result, Ok}
use Rattle.core_types.specs.declared.op.BinaryOp.TheVariants.{Add}
use Rattle.core_types.specs.declared.op.NumericOp.{NumericOp}
use Rattle.core_types.specs.declared.op.NumericOp.TheVariants.{Binary}
use Rattle.core_types.specs.declared.op.PlainOp.TheVariants.{Numeric}
use Rattle.core_types.specs.declared.op.Width.TheVariants.{W32}
use Rattle.core_types.specs.declared.outcome.Trap.{Trap}
use Rattle.core_types.specs.declared.outcome.Val.{Val}
use Rattle.meaning.specs.execution.Effects.{numeric_effect, push_result}
use Rattle.meaning.specs.validation.Instructions.{numeric_instruction_type}
use Rattle.cells.specs.Cells.{IsCellOf, value_of}
use Rattle.effects.specs.Numeric.{GivesBinary, GivesUnary, operand_type, result_type}
use Rattle.sidetable.specs.Counts.{counts, numeric_counts}
use Rattle.sidetable.specs.Flat.{Plain}
use Rattle.sidetable.specs.Packing.{binary_op, unary_op}
use Rattle.sidetable.specs.declared.operations.BinaryInstruction.{BinaryInstruction}
use Rattle.sidetable.specs.declared.operations.BinaryInstruction.TheVariants as binary
use Rattle.sidetable.specs.declared.operations.UnaryInstruction.{UnaryInstruction}
use Rattle.sidetable.specs.declared.operations.UnaryInstruction.TheVariants as unary
use Rattle.simulation.specs.Runs.{Ghost, frame_of}
use Rattle.simulation.proofs.Numbers.{computes-from-one, computes-from-two}
use Rattle.interpreter.specs.Running.{IsDear, Machine, Pays, RunsAt, cells_in, height_in}
use Rattle.interpreter.specs.Operations.{Answers, Costs, lowered, replaced, second_of}
use Rattle.interpreter.specs.Worlds.{World}
use Rattle.interpreter.proofs.Forms.{HasOwn, IsAt, answers, puts, takes, topmost, under}

-- ---- their types

-- An operator on one operand.
record IsUnary (op : NumericOp) : Type 0 where
  params : (numeric_instruction_type op).params ≡ operand_type op ∷ []
  results : (numeric_instruction_type op).results ≡ result_type op ∷ []
  count : numeric_counts op ≡ counts 1 1

-- An operator on two operands of the same type.
record IsBinary (op : NumericOp) : Type 0 where
  params : (numeric_instruction_type op).params ≡ operand_type op ∷ operand_type op ∷ []
  results : (numeric_instruction_type op).results ≡ result_type op ∷ []
  count : numeric_counts op ≡ counts 2 1

is-unary : (i : UnaryInstruction) → IsUnary (unary_op i)
is-unary unary.I32Eqz = record { params = refl; results = refl; count = refl }
is-unary other = record { params = refl; results = refl; count = refl }

is-binary : (i : BinaryInstruction) → IsBinary (binary_op i)
is-binary binary.I32Sub = record { params = refl; results = refl; count = refl }
is-binary other = record { params = refl; results = refl; count = refl }

-- ---- the steps of operators

module _ (w : World) (m : Machine) (g : Ghost) (r : RunsAt w m g) where
  -- The result of an operator here.
  abbrev GivesOne : NumericOp → (x : ℕ) → Result ℕ Trap → Type 0
  GivesOne op x result =
      (values : List Val) → numeric_effect g.store (frame_of g) op (value_of (operand_type op) x ∷ values) ≡ push_result g.store (frame_of g) (value_of (result_type op)) result values

  abbrev GivesTwo : NumericOp → (x y : ℕ) → Result ℕ Trap → Type 0
  GivesTwo op x y result =
      (values : List Val) → numeric_effect g.store (frame_of g) op (value_of (operand_type op) y ∷ (value_of (operand_type op) x ∷ values))
      ≡ push_result g.store (frame_of g) (value_of (result_type op)) result values

  pub unary-there : (i : UnaryInstruction) → IsAt m g (Plain (Numeric (unary_op i)))
      → (HasOwn g m 1 × IsCellOf (operand_type (unary_op i)) m.operand) × (((n : ℕ) → GivesUnary (unary_op i) m.operand n → Pays g m w (replaced m n)) × IsDear g m)
  unary-there i b =
      let op = unary_op i in
      let is : IsUnary (unary_op i) = is-unary i in
      let (one, within, is_cell, computes, dear) = computes-from-one g (cells_in g m) m.place (height_in m) op (operand_type op) (result_type op) is.params is.results b in
      let some : HasOwn g m 1 = takes w m g r (Numeric op) (counts 1 1) (ap Some is.count) (omega arith) b in
      let few = some.0 in
      let read = topmost w m g r 1 (omega arith) few in (
        (some, subst (IsCellOf (operand_type op)) read is_cell),
        (
          λ n gives. puts w m g r 1 (omega arith) few m.top (omega arith) n n refl (computes (Ok n) (subst (λ (x : ℕ). GivesOne op x (Ok n)) (sym read) (gives g.store (frame_of g)))),
          dear,
        ),
      )

  binary-on : (op : NumericOp) → IsBinary op → IsAt m g (Plain (Numeric op))
      → (HasOwn g m 2 × IsCellOf (operand_type op) (second_of m) × IsCellOf (operand_type op) m.operand)
      × (((result : Result ℕ Trap) → GivesBinary op (second_of m) m.operand result → Answers w m g (lowered m 1) result) × IsDear g m)
  binary-on op is b =
      let (two, within, first_is_cell, second_is_cell, computes, dear) = computes-from-two g (cells_in g m) m.place (height_in m) op (operand_type op)
      (operand_type op) (result_type op) is.params is.results b in
      let some : HasOwn g m 2 = takes w m g r (Numeric op) (counts 2 1) (ap Some is.count) (omega arith) b in
      let few = some.0 in
      let first = under w m g r 2 (omega arith) few (omega arith) (m.top - 1) (omega (arith, few)) in
      let second = topmost w m g r 2 (omega arith) few in (
        (some, subst (IsCellOf (operand_type op)) first first_is_cell, subst (IsCellOf (operand_type op)) second second_is_cell),
        (
          λ result gives. answers w m g r 2 (omega arith) few (m.top - 1) (omega (arith, few)) result
              (computes result (subst (λ (x : ℕ). GivesTwo op x (get_or (cells_in g m) (height_in m - 1) 0) result) (sym first)
              (subst (λ (y : ℕ). GivesTwo op (second_of m) y result) (sym second) (gives g.store (frame_of g))))),
          dear,
        ),
      )

  pub binary-there : (i : BinaryInstruction) → IsAt m g (Plain (Numeric (binary_op i)))
      → (HasOwn g m 2 × IsCellOf (operand_type (binary_op i)) (second_of m) × IsCellOf (operand_type (binary_op i)) m.operand)
      × (((result : Result ℕ Trap) → GivesBinary (binary_op i) (second_of m) m.operand result → Answers w m g (lowered m 1) result) × IsDear g m)
  binary-there i b = binary-on (binary_op i) (is-binary i) b

  pub adds-there : IsAt m g (Plain (Numeric (Binary W32 Add))) → HasOwn g m 2 × Costs w m g (lowered m 1 ((second_of m + m.operand) % 2 ^ 32))
  adds-there b =
      let (needs, leads) = binary-on (Binary W32 Add) (record { params = refl; results = refl; count = refl }) b in
      (needs.0, (leads.0 (Ok ((second_of m + m.operand) % 2 ^ 32)) (λ store frame values. refl), leads.1))
