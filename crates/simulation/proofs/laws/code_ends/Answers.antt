use Rattle.simulation.proofs.Settling.{at-end}
use Rattle.simulation.proofs.laws.code_ends.Goals as goal

pub returns : goal.returns
returns c = at-end
