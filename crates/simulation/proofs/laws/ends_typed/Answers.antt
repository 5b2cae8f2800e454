use Rattle.simulation.proofs.Heights.{last-typed}
use Rattle.simulation.proofs.laws.ends_typed.Goals as goal

pub returns : goal.returns
returns c context s same = last-typed context s same.types same.functions
