use Rattle.simulation.proofs.Tables.{copies-table, drops-elements, fills-table, gets-entry, grows-table, initializes-table, measures-table, sets-entry}
use Rattle.simulation.proofs.laws.tables_are_steps.Goals as goal

pub returns-clause-gets_entry : goal.returns-clause-gets_entry
returns-clause-gets_entry c = gets-entry

pub returns-clause-sets_entry : goal.returns-clause-sets_entry
returns-clause-sets_entry c = sets-entry

pub returns-clause-measures_table : goal.returns-clause-measures_table
returns-clause-measures_table c = measures-table

pub returns-clause-grows_table : goal.returns-clause-grows_table
returns-clause-grows_table c = grows-table

pub returns-clause-fills_table : goal.returns-clause-fills_table
returns-clause-fills_table c = fills-table

pub returns-clause-copies_table : goal.returns-clause-copies_table
returns-clause-copies_table c = copies-table

pub returns-clause-initializes_table : goal.returns-clause-initializes_table
returns-clause-initializes_table c = initializes-table

pub returns-clause-drops_elements : goal.returns-clause-drops_elements
returns-clause-drops_elements c = drops-elements
