use Rattle.std.proofs.Common.{[], ◌∷◌}
use Rattle.validator.proofs.Pops.{dropped_top}
use Rattle.validator.proofs.operands.pop_two.Goals as goal

pub returns-then-drop_top_two : goal.returns-then-drop_top_two
returns-then-drop_top_two c = dropped_top c.args.frame.now c.args.operands.now _ (c.args.under ∷ c.args.top ∷ []) c.if-drop_top_two.ensures.dropped

pub returns : goal.returns
returns c = rw c.if-drop_top_two.ensures.kept at c.pop_any_two.ensures
