use Rattle.simulation.proofs.Branches.{branches-if, branches-on}
use Rattle.simulation.proofs.BranchTables.{branches-table}
use Rattle.simulation.proofs.Control.{enters}
use Rattle.simulation.proofs.Ifs.{chooses, jump-later, jumps-on}
use Rattle.simulation.proofs.laws.control_operations_are_steps.Goals as goal

pub returns-clause-enters : goal.returns-clause-enters
returns-clause-enters c = enters

pub returns-clause-chooses : goal.returns-clause-chooses
returns-clause-chooses c = chooses

pub returns-clause-jumps : goal.returns-clause-jumps
returns-clause-jumps c = λ g cells at top e before. (jump-later g cells at top e before, jumps-on g cells at top e before)

pub returns-clause-branches : goal.returns-clause-branches
returns-clause-branches c = branches-on

pub returns-clause-branches_if : goal.returns-clause-branches_if
returns-clause-branches_if c = branches-if

pub returns-clause-branches_by_table : goal.returns-clause-branches_by_table
returns-clause-branches_by_table c = branches-table
