use Rattle.std.proofs.Common.{[], ◌∷◌, ap, arith, length, refl, sym}
use Rattle.core_types.specs.declared.op.ParametricOp.TheVariants.{Select}
use Rattle.core_types.specs.declared.op.PlainOp.TheVariants.{Parametric}
use Rattle.core_types.specs.declared.types.OperandType.TheVariants.{Known}
use Rattle.core_types.specs.declared.types.ValType.TheVariants.{I32}
use Rattle.validator.proofs.OperandStack.{Takes-under}
use Rattle.validator.proofs.completeness.AnyOperands.{select_refused}
use Rattle.validator.proofs.completeness.Covers.{Refuses-misfit, Refuses-short, Refuses-top}
use Rattle.validator.proofs.completeness.Instructions.{rule_complete}
use Rattle.validator.proofs.soundness.Instructions.{rule_sound}
use Rattle.validator.proofs.instructions.parametric.step_select.Goals as goal

pub returns : goal.returns
returns c = λ lent.
    let (t, takes, fit) = c.if-not-pop_fitting.ensures in
    let (numeric, first, second) = c.in-Some-joint.ensures.some in
    let chosen = c.in-Some-joint.chosen in
    let pair = Takes-under _ _ _ (t ∷ []) _ (c.in-Some.second ∷ []) _ takes c.in-Some.ensures.some in
    let all = Takes-under _ _ _ (c.in-Some.second ∷ t ∷ []) _ (c.in-Some-pop.first ∷ []) _ pair c.in-Some-pop.ensures.some in (
      record {
        sound = rule_sound (Parametric Select) (chosen ∷ chosen ∷ Known I32 ∷ []) (chosen ∷ []) refl refl all (first, (second, (fit, tt)))
            c.in_ok-push.ensures (λ context described. (chosen, numeric, refl, refl));
        complete = rule_complete (Parametric Select) (chosen ∷ []) refl refl all c.in_ok-push.ensures
            (λ context described theirs others rule.
            let (u, numeric, operands, results) = rule in
            (sym (ap length operands), λ fit. let both = rw operands at fit in rw results (c.in-Some-joint.ensures.least u (numeric, both.0, both.1.0), tt)));
      },
      tt,
    )

pub returns-then-not-pop_fitting : goal.returns-then-not-pop_fitting
returns-then-not-pop_fitting c = λ lent. (tt, λ invalid. select_refused (λ u numeric. Refuses-top _ _ _ (u ∷ u ∷ []) (Known I32) c.if-not-pop_fitting.ensures))

pub returns-in_default : goal.returns-in_default
returns-in_default c = λ lent. (
  tt,
  λ invalid.
      let (t, takes, fit) = c.if-not-pop_fitting.ensures in
      select_refused (λ u numeric. Refuses-short _ _ _ (t ∷ []) _ (u ∷ u ∷ Known I32 ∷ []) takes c.in_default.ensures.none (omega arith)),
)

pub returns-in_default-pop : goal.returns-in_default-pop
returns-in_default-pop c = λ lent. (
  tt,
  λ invalid.
      let (t, takes, fit) = c.if-not-pop_fitting.ensures in
      let pair = Takes-under _ _ _ (t ∷ []) _ (c.in-Some.second ∷ []) _ takes c.in-Some.ensures.some in
      select_refused (λ u numeric. Refuses-short _ _ _ (c.in-Some.second ∷ t ∷ []) _ (u ∷ u ∷ Known I32 ∷ []) pair c.in_default-pop.ensures.none (omega arith)),
)

pub returns-in_default-joint : goal.returns-in_default-joint
returns-in_default-joint c = λ lent. (
  tt,
  λ invalid.
      let (t, takes, fit) = c.if-not-pop_fitting.ensures in
      let first = c.in-Some-pop.first in
      let pair = Takes-under _ _ _ (t ∷ []) _ (c.in-Some.second ∷ []) _ takes c.in-Some.ensures.some in
      let all = Takes-under _ _ _ (c.in-Some.second ∷ t ∷ []) _ (first ∷ []) _ pair c.in-Some-pop.ensures.some in
      select_refused (λ u numeric. Refuses-misfit _ _ _ (first ∷ c.in-Some.second ∷ t ∷ []) _ (u ∷ u ∷ Known I32 ∷ []) all refl (λ fit. c.in_default-joint.ensures.none u (numeric, fit.0, fit.1.0))),
)
