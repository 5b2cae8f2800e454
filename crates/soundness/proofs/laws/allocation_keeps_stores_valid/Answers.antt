use Rattle.soundness.proofs.Allocation.{allocation-keeps-valid}
use Rattle.soundness.proofs.laws.allocation_keeps_stores_valid.Goals as goal

pub returns : goal.returns
returns c = allocation-keeps-valid c.writing_is_read.ensures.whole
