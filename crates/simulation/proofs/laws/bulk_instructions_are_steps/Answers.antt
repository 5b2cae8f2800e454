use Rattle.simulation.proofs.Bulk.{copies-memory, drops-data, fills-memory, grows-memory, initializes-memory}
use Rattle.simulation.proofs.laws.bulk_instructions_are_steps.Goals as goal

pub returns-clause-grows_memory : goal.returns-clause-grows_memory
returns-clause-grows_memory c = grows-memory

pub returns-clause-fills_memory : goal.returns-clause-fills_memory
returns-clause-fills_memory c = fills-memory

pub returns-clause-copies_memory : goal.returns-clause-copies_memory
returns-clause-copies_memory c = copies-memory

pub returns-clause-initializes_memory : goal.returns-clause-initializes_memory
returns-clause-initializes_memory c = initializes-memory

pub returns-clause-drops_data : goal.returns-clause-drops_data
returns-clause-drops_data c = drops-data
