use Rattle.validator.proofs.Alignments.{aligned}
use Rattle.validator.proofs.instructions.memory.is_aligned.Goals as goal

pub returns : goal.returns
returns c = aligned c.args.align c.args.exponent
