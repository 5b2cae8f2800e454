use Rattle.simulation.proofs.Memories.{loads-number, measures-memory, stores-number}
use Rattle.simulation.proofs.laws.memories_are_steps.Goals as goal

pub returns-clause-loads_number : goal.returns-clause-loads_number
returns-clause-loads_number c = loads-number

pub returns-clause-stores_number : goal.returns-clause-stores_number
returns-clause-stores_number c = stores-number

pub returns-clause-measures_memory : goal.returns-clause-measures_memory
returns-clause-measures_memory c = measures-memory
