use Rattle.std.proofs.Common.{◌≡◌, ◌+◌, ◌-◌, ◌<◌, ◌++◌, [], ◌∷◌, length, arith}
use Rattle.validator.proofs.OperandStack.{AllFit-down, Takes-under}
use Rattle.validator.proofs.completeness.Covers.{Refuses-down}
use Rattle.validator.proofs.operands.pop_each.Goals as goal

pub loop-left-preserved : goal.loop-left-preserved
loop-left-preserved c =
    let (le, given, takes, fits) = c.loop-left.invariant in
    let (t, taken, fit) = c.if-not-pop_fitting.ensures in
    let back : c.loop-left.left - 1 + 1 ≡ c.loop-left.left = omega arith in
    (omega (arith, le), (t ∷ []) ++ given, Takes-under _ _ _ given _ (t ∷ []) _ takes taken, AllFit-down c.args.wanted.now (c.loop-left.left - 1) given t _ (omega (arith, le)) fit (rw back fits))

pub returns-then-not-pop_fitting : goal.returns-then-not-pop_fitting
returns-then-not-pop_fitting c =
    let (le, given, takes, fits) = c.loop-left.invariant in
    let back : c.loop-left.left - 1 + 1 ≡ c.loop-left.left = omega arith in
    let less : c.loop-left.left - 1 < length c.args.wanted.now = omega (arith, le) in
    Refuses-down _ _ _ given _ c.args.wanted.now (c.loop-left.left - 1) _ less takes (rw back fits) c.if-not-pop_fitting.ensures
