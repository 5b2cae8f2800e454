use Rattle.simulation.proofs.Variables.{gets-global, gets-local, sets-global, sets-local, tees-local}
use Rattle.simulation.proofs.laws.variables_are_steps.Goals as goal

pub returns-clause-gets_local : goal.returns-clause-gets_local
returns-clause-gets_local c = gets-local

pub returns-clause-sets_local : goal.returns-clause-sets_local
returns-clause-sets_local c = sets-local

pub returns-clause-tees_local : goal.returns-clause-tees_local
returns-clause-tees_local c = tees-local

pub returns-clause-gets_global : goal.returns-clause-gets_global
returns-clause-gets_global c = gets-global

pub returns-clause-sets_global : goal.returns-clause-sets_global
returns-clause-sets_global c = sets-global
