use Rattle.std.proofs.Common.{◌≡◌, ◌∷◌, ◌+◌, ◌-◌, ◌<◌, ◌≤◌, [], ap, arith, drop, length, length-append, refl, replicate, subst, sym, take, ◌∙◌}
use Rattle.std.proofs.Math.Seq.{take-add}
use Rattle.std.proofs.lemmas.Bool.Decides.{nat_tests}
use Rattle.std.proofs.lemmas.List.{length-drop, length-map, length-take-le, map-append, take_more}
use Rattle.core_types.specs.declared.types.OperandType.TheVariants.{Known, Unknown}
use Rattle.meaning.proofs.lemmas.Typing.{AllFit-same}
use Rattle.meaning.specs.validation.Instructions.{AllFit, known}
use Rattle.validator.specs.Operands.{Refuses}
use Rattle.validator.proofs.OperandStack.{Takes-many, Takes-unknown}
use Rattle.validator.proofs.completeness.Covers.{Refuses-front, Refuses-misfit, known_fit, unknown_fit}
use Rattle.validator.proofs.operands.pop_part.Goals as goal

pub returns-then-frame-clause-popped : goal.returns-then-frame-clause-popped
returns-then-frame-clause-popped c =
    let old = c.args.operands.now in
    let types = take c.args.left c.args.wanted.now in
    let low : length old ≤ c.args.frame.now.height = grind (arith, nat_tests, c.is_above.ensures, c.if-not-is_above.true) in
    let long : length (known types) ≡ c.args.left = length-map types Known ∙ length-take-le c.args.left c.args.wanted.now c.requires.within in
    let all : c.args.left - 0 ≡ c.args.left = omega arith in
    (c.requires.some, (replicate c.args.left Unknown, rw c.if-frame.true (Takes-unknown c.args.frame.now.height old c.args.left low), rw all (unknown_fit c.args.left (known types) long)))

pub returns-then-not-pop_fitting-clause-refused : goal.returns-then-not-pop_fitting-clause-refused
returns-then-not-pop_fitting-clause-refused c =
    let wanted = c.args.wanted.now in
    let k = c.args.left - 1 in
    let less : k < length wanted = omega (arith, c.requires.some, c.requires.within) in
    let back : k + 1 ≡ c.args.left = omega (arith, c.requires.some) in
    let whole = ap (λ n. known (take n wanted)) (sym back) ∙ ap known (take_more wanted k _ less) ∙ map-append Known (take k wanted) (_ ∷ []) in
    let refused = rw c.in_default.ensures.kept at c.if-not-pop_fitting.ensures in
    subst (Refuses c.args.frame.now.unreachable c.args.frame.now.height c.args.operands.now) (sym whole)
    (Refuses-front c.args.frame.now.unreachable c.args.frame.now.height c.args.operands.now (known (take k wanted)) _ refused)

pub returns-then-not-are_equal-clause-refused : goal.returns-then-not-are_equal-clause-refused
returns-then-not-are_equal-clause-refused c =
    let unreachable = c.args.frame.now.unreachable in
    let height = c.args.frame.now.height in
    let wanted = c.args.wanted.now in
    let types = c.in-Some.types.now in
    let next = c.args.left - length types in
    let part = take (c.args.left - next) (drop next wanted) in
    let sizes = ap length c.in-Some.ensures.popped ∙ length-append c.pop_run.new.self (known types) in
    let few : length types ≤ c.args.left = grind (arith, nat_tests, c.in-Some.ensures.bound, c.min-most.ensures) in
    let high : height ≤ length c.pop_run.new.self =
    grind (
      arith,
      nat_tests,
      c.in-Some.ensures.bound,
      c.min-most.ensures,
      c.len.ensures,
      c.is_above.ensures,
      c.if-not-is_above.false,
      sizes,
      length-map types Known,
    ) in
    let takes = Takes-many unreachable height c.args.operands.now c.pop_run.new.self (known types) c.in-Some.ensures.popped high in
    let long : length (known types) ≡ length (known part) =
    omega (arith, length-map types Known, length-map part Known, length-take-le (c.args.left - next) (drop next wanted) (omega (arith, length-drop next wanted, c.requires.within)), few) in
    let misfit = Refuses-misfit unreachable height c.args.operands.now (known types) c.pop_run.new.self (known part) takes long
    (λ fits. let equal = c.if-not-are_equal.ensures.1 (known_fit types part fits) in absurd cc) in
    let count : next + (c.args.left - next) ≡ c.args.left = omega arith in
    let whole = ap (λ n. known (take n wanted)) (sym count) ∙ ap known (take-add next (c.args.left - next) wanted) ∙ map-append Known (take next wanted) part in
    subst (Refuses unreachable height c.args.operands.now) (sym whole) (Refuses-front unreachable height c.args.operands.now (known (take next wanted)) (known part) misfit)

pub returns-clause-popped : goal.returns-clause-popped
returns-clause-popped c =
    let unreachable = c.args.frame.now.unreachable in
    let height = c.args.frame.now.height in
    let types = c.in-Some.types.now in
    let sizes = ap length c.in-Some.ensures.popped ∙ length-append c.pop_run.new.self (known types) in
    let high : height ≤ length c.pop_run.new.self =
    grind (
      arith,
      nat_tests,
      c.in-Some.ensures.bound,
      c.min-most.ensures,
      c.len.ensures,
      c.is_above.ensures,
      c.if-not-is_above.false,
      sizes,
      length-map types Known,
    ) in
    let takes = Takes-many unreachable height c.args.operands.now c.pop_run.new.self (known types) c.in-Some.ensures.popped high in
    (omega (arith, c.requires.some, c.in-Some.ensures.some), (known types, takes, subst (λ z. AllFit (known types) (known z)) (c.if-not-are_equal.ensures.0 refl) (AllFit-same (known types))))
