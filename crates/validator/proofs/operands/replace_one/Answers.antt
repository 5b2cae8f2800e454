use Rattle.std.proofs.Common.{[], ◌∷◌}
use Rattle.validator.proofs.Pops.{replaced_top}
use Rattle.validator.proofs.operands.replace_one.Goals as goal

pub returns-clause-replaced : goal.returns-clause-replaced
returns-clause-replaced c = replaced_top c.args.frame.now c.args.operands.now c.replace_top.result c.replace_top.new.self (c.args.takes ∷ []) c.args.gives c.replace_top.ensures.replaced
