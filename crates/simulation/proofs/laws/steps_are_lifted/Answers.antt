use Rattle.simulation.proofs.Frames.{steps-lifted}
use Rattle.simulation.proofs.laws.steps_are_lifted.Goals as goal

pub returns : goal.returns
returns c store store' bound layers frame frame' x y fuel left first second outside steps = steps-lifted store store' bound layers outside frame frame' x y fuel left steps
