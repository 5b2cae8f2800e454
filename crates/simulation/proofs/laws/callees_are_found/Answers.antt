use Rattle.simulation.proofs.Callees.{calls-by-name, tail-calls-by-name}
use Rattle.simulation.proofs.TableCalls.{calls-through, tail-calls-through}
use Rattle.simulation.proofs.laws.callees_are_found.Goals as goal

pub returns-clause-by_name : goal.returns-clause-by_name
returns-clause-by_name c = calls-by-name

pub returns-clause-through_tables : goal.returns-clause-through_tables
returns-clause-through_tables c = calls-through

pub returns-clause-by_name_last : goal.returns-clause-by_name_last
returns-clause-by_name_last c = tail-calls-by-name

pub returns-clause-through_tables_last : goal.returns-clause-through_tables_last
returns-clause-through_tables_last c = tail-calls-through
