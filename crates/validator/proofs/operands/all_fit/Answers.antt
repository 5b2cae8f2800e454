use Rattle.std.proofs.Common.{◌≡◌, ◌<◌, true, false, length, arith, ◌∙◌}
use Rattle.std.proofs.lemmas.List.{length-map}
use Rattle.core_types.specs.declared.types.OperandType.TheVariants.{Known}
use Rattle.validator.proofs.OperandStack.{AllFit-last, AllFit-up}
use Rattle.validator.proofs.Pops.{both, first_of_both, second_of_both}
use Rattle.validator.proofs.completeness.Covers.{AllFit-length}
use Rattle.validator.proofs.operands.all_fit.Goals as goal

pub returns-then-given-wanted : goal.returns-then-given-wanted
returns-then-given-wanted c = (
  λ wrong. absurd (let e : false ≡ true = wrong in cc),
  λ fits. absurd (c.if-given-wanted.true (AllFit-length c.args.given.now _ fits ∙ length-map c.args.wanted.now Known)),
)

pub loop-i-preserved : goal.loop-i-preserved
loop-i-preserved c =
    let first : c.loop-i.i < length c.args.given.now = omega arith in
    let second : c.loop-i.i < length c.args.wanted.now = omega arith in (
      λ both_fit. AllFit-up c.args.given.now c.args.wanted.now c.loop-i.i _ _ first second
          (c.loop-i.invariant.0 (first_of_both c.loop-i.fitting c.fits-fitting.result both_fit)) (c.fits-fitting.ensures.0 (second_of_both c.loop-i.fitting c.fits-fitting.result both_fit)),
      λ all. let (before, last) = AllFit-last c.args.given.now c.args.wanted.now c.loop-i.i _ _ first second all in
          both c.loop-i.fitting c.fits-fitting.result (c.loop-i.invariant.1 before) (c.fits-fitting.ensures.1 last),
    )
