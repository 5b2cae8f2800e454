use Rattle.simulation.proofs.Frames.{functions-entered}
use Rattle.simulation.proofs.laws.functions_are_entered.Goals as goal

pub returns : goal.returns
returns c context s same = functions-entered context s same.types same.functions
