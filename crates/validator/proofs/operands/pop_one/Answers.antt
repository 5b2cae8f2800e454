use Rattle.std.proofs.Common.{[], ◌∷◌}
use Rattle.validator.proofs.Pops.{dropped_top}
use Rattle.validator.proofs.operands.pop_one.Goals as goal

pub returns-then-drop_top : goal.returns-then-drop_top
returns-then-drop_top c = dropped_top c.args.frame.now c.args.operands.now _ (c.args.wanted ∷ []) c.if-drop_top.ensures.dropped

pub returns : goal.returns
returns c = rw c.if-drop_top.ensures.kept at c.pop_any_one.ensures
