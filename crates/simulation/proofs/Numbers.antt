-- Constants and operators: on values, and on their cells.
use Rattle.std.proofs.Common.{◌≡◌, ℕ, ◌-◌, ◌≤◌, List, [], ◌∷◌, ◌++◌, length, reverse, refl, ap, sym, subst, ◌∙◌}
use Rattle.std.specs.Prelude.{Some, Result, Ok, Err}
use Rattle.core_types.specs.declared.op.Conversion.TheVariants.{I32WrapI64, I64ExtendI32S, I64ExtendI32U, I64Extend32S}
use Rattle.core_types.specs.declared.op.NumericOp.{NumericOp}
use Rattle.core_types.specs.declared.op.NumericOp.TheVariants.{Eqz, Compare, Unary, Binary, Convert}
use Rattle.core_types.specs.declared.op.PlainOp.TheVariants.{I32Const, I64Const, Numeric}
use Rattle.core_types.specs.declared.op.Width.TheVariants.{W32, W64}
use Rattle.core_types.specs.declared.outcome.Trap.{Trap}
use Rattle.core_types.specs.declared.outcome.Val.{Val}
use Rattle.core_types.specs.declared.outcome.Val.TheVariants.{I32, I64}
use Rattle.core_types.specs.declared.types.ValType.{ValType}
use Rattle.meaning.specs.execution.Configurations.{Frame}
use Rattle.meaning.specs.execution.Effects.{Effect, numeric_effect, push_result}
use Rattle.meaning.specs.execution.Instructions.{continue_after, step_instruction}
use Rattle.meaning.specs.execution.Numerics.{binary_operator}
use Rattle.meaning.specs.execution.Store.{Store}
use Rattle.meaning.specs.structure.Bodies.{Body}
use Rattle.meaning.specs.validation.Instructions.{numeric_instruction_type}
use Rattle.sidetable.specs.Counts.{counts, counts_of, numeric_counts}
use Rattle.sidetable.specs.declared.counts.Counts.{Counts}
use Rattle.sidetable.specs.Flat.{Plain}
use Rattle.cells.specs.Cells.{value_of}
use Rattle.simulation.specs.Instructions.{IsAnswered}
use Rattle.simulation.specs.Numbers.{ComputesFromOne, ComputesFromTwo, PutsI32, PutsI64}
use Rattle.simulation.specs.Operations.{IsDear}
use Rattle.simulation.specs.Runs.{Ghost, IsBefore, frame_of}
use Rattle.simulation.proofs.Advances.{answers, puts-one}
use Rattle.simulation.proofs.Operands.{AreOperands, Operands, operands-here, operands_of}
use Rattle.simulation.proofs.Plain.{AtPlain, CostsOne, at-plain, dear-here, found, here}
use Rattle.simulation.proofs.Typed.{Inner}

pub puts-i32 : PutsI32
puts-i32 n = puts-one (I32Const n) (tt {0}) n (I32 n) refl (λ s. refl) (λ store frame values rest. refl)

pub puts-i64 : PutsI64
puts-i64 n = puts-one (I64Const n) (tt {0}) n (I64 n) refl (λ s. refl) (λ store frame values rest. refl)

-- ---- operators

-- The numbers of operands and results are those of its type.
numeric-counted : (op : NumericOp) → numeric_counts op ≡ counts (length (numeric_instruction_type op).params) (length (numeric_instruction_type op).results)
numeric-counted (Eqz width) = refl
numeric-counted (Compare width op) = refl
numeric-counted (Unary width op) = refl
numeric-counted (Binary width op) = refl
numeric-counted (Convert I32WrapI64) = refl
numeric-counted (Convert I64ExtendI32S) = refl
numeric-counted (Convert I64ExtendI32U) = refl
numeric-counted (Convert I64Extend32S) = refl

module _ (store : Store) (frame : Frame) (rest : Body) where
  result-costs : (integer : ℕ → Val) (result : Result ℕ Trap) (values : List Val) → CostsOne (continue_after frame (push_result store frame integer result values) rest)
  result-costs integer (Ok n) values = refl
  result-costs integer (Err trap) values = refl

  -- On values of its types it continues or traps.
  numeric-costs : (op : NumericOp) (cells : List ℕ) (top : ℕ) (others : List Val)
      → CostsOne (continue_after frame (numeric_effect store frame op (operands_of cells top 0 (reverse (numeric_instruction_type op).params) ++ others)) rest)
  numeric-costs (Eqz W32) cells top others = refl
  numeric-costs (Eqz W64) cells top others = refl
  numeric-costs (Compare W32 op) cells top others = refl
  numeric-costs (Compare W64 op) cells top others = refl
  numeric-costs (Unary W32 op) cells top others = refl
  numeric-costs (Unary W64 op) cells top others = refl
  numeric-costs (Binary W32 op) cells top others = result-costs I32 (binary_operator 32 op _ _) others
  numeric-costs (Binary W64 op) cells top others = result-costs I64 (binary_operator 64 op _ _) others
  numeric-costs (Convert I32WrapI64) cells top others = refl
  numeric-costs (Convert I64ExtendI32S) cells top others = refl
  numeric-costs (Convert I64ExtendI32U) cells top others = refl
  numeric-costs (Convert I64Extend32S) cells top others = refl

module _ (g : Ghost) (cells : List ℕ) (at top : ℕ) (op : NumericOp) (ts : List ValType) (r : ValType)
    (params : reverse (numeric_instruction_type op).params ≡ ts) (many : length (numeric_instruction_type op).params ≡ length ts)
    (results_are : (numeric_instruction_type op).results ≡ r ∷ []) (b : IsBefore (Plain (Numeric op)) g cells at top) where
  -- The result of an operator on operands of these types, the top first, whatever is below them.
  computes : (length ts ≤ top) × (top ≤ length cells) × AreOperands cells top 0 ts
      × ((result : Result ℕ Trap) → ((values : List Val) → numeric_effect g.store (frame_of g) op (operands_of cells top 0 ts ++ values) ≡ push_result g.store (frame_of g) (value_of r) result values)
      → IsAnswered g cells at top (top - length ts) result)
      × IsDear g cells at top
  computes =
      let p : AtPlain (Numeric op) g cells at top = at-plain (Numeric op) (tt {0}) g cells at top b in
      let f : Inner (here (Numeric op) g cells at top p) = found (Numeric op) g cells at top p in
      let (operands, results, between, type, frames, runs) = f.runs in
      let w : Operands (Numeric op) g cells at top p ts = operands-here (Numeric op) g cells at top p (numeric_instruction_type op) ts params operands results between type f frames in
      let counted : counts_of g.code.signatures (Numeric op) ≡ Some (counts (length ts) 1) =
      ap (λ (c : Counts). Some c) (numeric-counted op ∙ ap (λ (n : ℕ). counts n (length (numeric_instruction_type op).results)) many ∙ ap
      (λ (us : List ValType). counts (length ts) (length us)) results_are) in
      let step : step_instruction g.store (frame_of g) (Numeric op) p.values p.rest
      ≡ continue_after (frame_of g) (numeric_effect g.store (frame_of g) op (operands_of cells top 0 ts ++ w.popped.others)) p.rest =
      ap (λ (vs : List Val). continue_after (frame_of g) (numeric_effect g.store (frame_of g) op vs) p.rest) w.are in
      let costs : CostsOne (continue_after (frame_of g) (numeric_effect g.store (frame_of g) op (operands_of cells top 0 ts ++ w.popped.others)) p.rest) =
      subst (λ (us : List ValType). CostsOne (continue_after (frame_of g) (numeric_effect g.store (frame_of g) op (operands_of cells top 0 us ++ w.popped.others)) p.rest)) params
      (numeric-costs g.store (frame_of g) p.rest op cells top w.popped.others) in (
        w.enough,
        w.inside,
        w.fits,
        λ result same. answers (Numeric op) g cells at top p (length ts) (top - length ts) w.popped r counted result
            (step ∙ ap (λ (e : Effect). continue_after (frame_of g) e p.rest) (same w.popped.others)),
        dear-here (Numeric op) g cells at top p (subst CostsOne (sym step) costs),
      )

pub computes-from-one : ComputesFromOne
computes-from-one g cells at top op t r params results b =
    let (enough, inside, fits, answered, dear) = computes g cells at top op (t ∷ []) r (ap reverse params) (ap length params) results b in
    (enough, inside, fits.0, answered, dear)

pub computes-from-two : ComputesFromTwo
computes-from-two g cells at top op t u r params results b =
    let (enough, inside, fits, answered, dear) = computes g cells at top op (u ∷ t ∷ []) r (ap reverse params) (ap length params) results b in
    (enough, inside, fits.1.0, fits.0, answered, dear)
