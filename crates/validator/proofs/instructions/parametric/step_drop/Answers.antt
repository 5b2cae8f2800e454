use Rattle.std.proofs.Common.{[], ◌∷◌, ap, length, refl, sym}
use Rattle.std.proofs.lemmas.List.{append-nil}
use Rattle.core_types.specs.declared.op.ParametricOp.TheVariants.{DropOperand}
use Rattle.core_types.specs.declared.op.PlainOp.TheVariants.{Parametric}
use Rattle.meaning.proofs.lemmas.Typing.{AllFit-same}
use Rattle.validator.proofs.completeness.AnyOperands.{drop_refused}
use Rattle.validator.proofs.completeness.Covers.{Refuses-dry}
use Rattle.validator.proofs.completeness.Instructions.{rule_complete}
use Rattle.validator.proofs.soundness.Instructions.{rule_sound}
use Rattle.validator.proofs.instructions.parametric.step_drop.Goals as goal

pub returns-in-Some : goal.returns-in-Some
returns-in-Some c = λ lent.
    let t = c.in-Some.field-0 in
    let same = sym (append-nil c.pop.new.operands) in (
      record {
        sound = rule_sound (Parametric DropOperand) (t ∷ []) [] refl refl c.in-Some.ensures.some (AllFit-same (t ∷ [])) same (λ context described. (t, refl, refl));
        complete = rule_complete (Parametric DropOperand) [] refl refl c.in-Some.ensures.some same
            (λ context described theirs others rule. let (t, operands, results) = rule in (sym (ap length operands), λ fit. rw results tt));
      },
      tt,
    )

pub returns-in-None : goal.returns-in-None
returns-in-None c = λ lent. (tt, λ invalid. drop_refused (λ t. Refuses-dry _ _ _ t c.in-None.ensures.none))
