use Rattle.validator.proofs.Pops.{one_popped}
use Rattle.validator.proofs.operands.pop_any_one.Goals as goal

pub returns : goal.returns
returns c = one_popped c.args.frame.now _ c.pop_fitting.result _ c.args.wanted c.pop_fitting.ensures
