use Rattle.std.proofs.Common.{◌<◌, ◌≤◌, get_or, length, arith, refl, sym, subst, ◌∙◌}
use Rattle.std.proofs.lemmas.List.Elements.{All-more}
use Rattle.std.proofs.lemmas.List.{take_all}
use Rattle.std.specs.Prelude.{All}
use Rattle.meaning.proofs.lemmas.Typing.{AllFit-same}
use Rattle.meaning.specs.validation.Instructions.{AllFit, known}
use Rattle.validator.specs.ControlFrames.{FitsLabelAt}
use Rattle.validator.proofs.Labels.{AllFit-known, carry-misfit, carry-missing, same-label}
use Rattle.validator.proofs.instructions.control.branches.have_types.Goals as goal

pub loop-index-preserved : goal.loop-index-preserved
loop-index-preserved c =
    let below : c.loop-index.index-index < length c.args.numbers.now = omega arith in
    let fits : FitsLabelAt c.args.innermost.now c.args.outer.now (known c.args.types.now) (get_or c.args.numbers.now c.loop-index.index-index 0) =
    (c.in-Some.found.now, c.in-Some.ensures.some, subst (λ z. AllFit (known c.args.types.now) (known z)) (c.if-not-are_equal.ensures.0 refl) (AllFit-same (known c.args.types.now))) in
    (All-more (FitsLabelAt c.args.innermost.now c.args.outer.now (known c.args.types.now)) c.args.numbers.now c.loop-index.index-index 0 below c.loop-index.invariant.0 fits, fits)

pub loop-index-preserved-then-eq : goal.loop-index-preserved-then-eq
loop-index-preserved-then-eq c =
    let below : c.loop-index.index-index < length c.args.numbers.now = omega arith in
    let fits = same-label (FitsLabelAt c.args.innermost.now c.args.outer.now (known c.args.types.now)) c.loop-index.fitting _ (sym c.eq.ensures ∙ c.if-eq.true) c.loop-index.invariant.1 in
    (All-more (FitsLabelAt c.args.innermost.now c.args.outer.now (known c.args.types.now)) c.args.numbers.now c.loop-index.index-index 0 below c.loop-index.invariant.0 fits, c.loop-index.invariant.1)

pub returns-clause-have : goal.returns-clause-have
returns-clause-have c =
    let past : length c.args.numbers.now ≤ c.loop-index.index-index = omega arith in
    subst (All (FitsLabelAt c.args.innermost.now c.args.outer.now (known c.args.types.now))) (take_all c.loop-index.index-index c.args.numbers.now past) c.loop-index.invariant.0

pub returns-in_default-clause-refused : goal.returns-in_default-clause-refused
returns-in_default-clause-refused c = λ all.
    let below : c.loop-index.index-index < length c.args.numbers.now = omega arith in
    carry-missing c.args.innermost.now c.args.outer.now (known c.args.types.now) c.args.numbers.now c.loop-index.index-index _ below refl c.in_default.ensures.none all

pub returns-then-not-are_equal-clause-refused : goal.returns-then-not-are_equal-clause-refused
returns-then-not-are_equal-clause-refused c = λ all.
    let below : c.loop-index.index-index < length c.args.numbers.now = omega arith in
    carry-misfit c.args.innermost.now c.args.outer.now (known c.args.types.now) c.args.numbers.now c.loop-index.index-index _ c.in-Some.found.now below refl
    c.in-Some.ensures.some (λ fits. let same = c.if-not-are_equal.ensures.1 (AllFit-known c.args.types.now c.in-Some.found.now fits) in absurd cc) all
