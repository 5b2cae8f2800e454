use Rattle.simulation.proofs.Instructions.{puts-null, refers-to-function, tests-null}
use Rattle.simulation.proofs.laws.references_are_steps.Goals as goal

pub returns-clause-puts_null : goal.returns-clause-puts_null
returns-clause-puts_null c = puts-null

pub returns-clause-tests_null : goal.returns-clause-tests_null
returns-clause-tests_null c = tests-null

pub returns-clause-refers_to_function : goal.returns-clause-refers_to_function
returns-clause-refers_to_function c = refers-to-function
