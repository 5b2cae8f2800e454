use Rattle.simulation.proofs.Outcomes.{acts-on-store}
use Rattle.simulation.proofs.laws.store_instructions_are_steps.Goals as goal

pub returns : goal.returns
returns c = acts-on-store
