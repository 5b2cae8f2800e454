use Rattle.simulation.proofs.Calls.{frames-come-and-go}
use Rattle.simulation.proofs.laws.frames_come_and_go.Goals as goal

pub returns : goal.returns
returns c = frames-come-and-go
