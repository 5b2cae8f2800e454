use Rattle.std.proofs.Common.{[], ◌∷◌}
use Rattle.validator.proofs.Pops.{no_top, under_top}
use Rattle.validator.proofs.operands.pop_any_two.Goals as goal

pub returns-then-not-pop_fitting : goal.returns-then-not-pop_fitting
returns-then-not-pop_fitting c = no_top c.args.frame.now _ (c.args.under ∷ []) c.args.top c.if-not-pop_fitting.ensures

pub returns : goal.returns
returns c =
    let (t, takes, fit) = c.if-not-pop_fitting.ensures in
    under_top c.args.frame.now _ c.pop_one.result _ _ (c.args.under ∷ []) c.args.top t takes fit c.pop_one.ensures
