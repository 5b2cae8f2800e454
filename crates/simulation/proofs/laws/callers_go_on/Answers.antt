use Rattle.simulation.proofs.Frames.{callers-on}
use Rattle.simulation.proofs.laws.callers_go_on.Goals as goal

pub returns : goal.returns
returns c = callers-on
