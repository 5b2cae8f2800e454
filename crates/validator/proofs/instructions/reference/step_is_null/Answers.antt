use Rattle.std.proofs.Common.{[], ◌∷◌, ap, length, refl, sym}
use Rattle.core_types.specs.declared.op.PlainOp.TheVariants.{Reference}
use Rattle.core_types.specs.declared.op.ReferenceOp.TheVariants.{IsNull}
use Rattle.core_types.specs.declared.types.OperandType.TheVariants.{Known}
use Rattle.core_types.specs.declared.types.ValType.TheVariants.{I32}
use Rattle.meaning.proofs.lemmas.Typing.{AllFit-same}
use Rattle.meaning.specs.validation.Types.{reference_type}
use Rattle.validator.proofs.completeness.AnyOperands.{is_null_refused}
use Rattle.validator.proofs.completeness.Covers.{Refuses-dry, Refuses-misfit}
use Rattle.validator.proofs.completeness.Instructions.{rule_complete}
use Rattle.validator.proofs.soundness.Instructions.{rule_sound}
use Rattle.validator.proofs.instructions.reference.step_is_null.Goals as goal

pub returns : goal.returns
returns c = λ lent.
    let (t, fit) = c.if-not-may_be_reference.ensures.fits in (
      record {
        sound = rule_sound (Reference IsNull) (Known (reference_type t) ∷ []) (Known I32 ∷ []) refl refl c.in-Some.ensures.some (fit, tt)
            c.in_ok-push.ensures (λ context described. (t, (refl, refl)));
        complete = rule_complete (Reference IsNull) (Known I32 ∷ []) refl refl c.in-Some.ensures.some c.in_ok-push.ensures
            (λ context described theirs others rule. let (t, (operands, results)) = rule in (sym (ap length operands), λ fit. rw results (AllFit-same (Known I32 ∷ []))));
      },
      tt,
    )

pub returns-in_default : goal.returns-in_default
returns-in_default c = λ lent. (tt, λ invalid. is_null_refused (λ t. Refuses-dry _ _ _ (Known (reference_type t)) c.in_default.ensures.none))

pub returns-then-not-may_be_reference : goal.returns-then-not-may_be_reference
returns-then-not-may_be_reference c = λ lent. (
  tt,
  λ invalid. is_null_refused (λ t. Refuses-misfit _ _ _ (c.in-Some.given ∷ []) _ (Known (reference_type t) ∷ []) c.in-Some.ensures.some refl (λ fit. c.if-not-may_be_reference.ensures.none t fit.0)),
)
