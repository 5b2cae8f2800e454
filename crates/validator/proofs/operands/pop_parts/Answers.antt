use Rattle.std.proofs.Common.{◌≡◌, ◌++◌, ◌+◌, ◌-◌, ap, arith, drop, subst, sym, take, ◌∙◌}
use Rattle.std.proofs.lemmas.List.{drop-drop, map-append, take-append-drop}
use Rattle.core_types.specs.declared.types.OperandType.TheVariants.{Known}
use Rattle.meaning.proofs.lemmas.Typing.{AllFit-joined}
use Rattle.meaning.specs.validation.Instructions.{known}
use Rattle.validator.specs.Operands.{Refuses}
use Rattle.validator.proofs.OperandStack.{Takes-under}
use Rattle.validator.proofs.completeness.Covers.{Refuses-below}
use Rattle.validator.proofs.operands.pop_parts.Goals as goal

pub returns-in_default : goal.returns-in_default
returns-in_default c =
    let (le, given, takes, fits) = c.loop-left.invariant in
    let wanted = c.args.wanted.now in
    let left = c.loop-left.left in
    let whole : known wanted ≡ known (take left wanted) ++ known (drop left wanted) = ap known (sym (take-append-drop left wanted)) ∙ map-append Known (take left wanted) (drop left wanted) in
    subst (Refuses c.args.frame.now.unreachable c.args.frame.now.height c.args.operands.now) (sym whole)
    (Refuses-below _ _ _ given c.loop-left.operands (known (take left wanted)) (known (drop left wanted)) takes fits c.in_default.ensures.refused)

pub loop-left-preserved : goal.loop-left-preserved
loop-left-preserved c =
    let (le, given, takes, fits) = c.loop-left.invariant in
    let (less, (more, taken, fit)) = c.in-Some.ensures.popped in
    let wanted = c.args.wanted.now in
    let left = c.loop-left.left in
    let next = c.in-Some.next in
    let count : next + (left - next) ≡ left = omega (arith, less) in
    let parts : drop next wanted ≡ take (left - next) (drop next wanted) ++ drop left wanted =
    sym (take-append-drop (left - next) (drop next wanted)) ∙ ap (λ z. take (left - next) (drop next wanted) ++ z) (drop-drop (left - next) next wanted ∙ ap (λ n. drop n wanted) count) in (
      omega (arith, less, le),
      more ++ given,
      Takes-under _ _ _ given _ more _ takes taken,
      rw (parts, map-append) (AllFit-joined more (known (take (left - next) (drop next wanted))) given (known (drop left wanted)) fit fits),
    )
