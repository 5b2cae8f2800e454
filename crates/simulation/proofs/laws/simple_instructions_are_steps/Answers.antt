use Rattle.simulation.proofs.Instructions.{always-fails, does-nothing, drops, selects}
use Rattle.simulation.proofs.laws.simple_instructions_are_steps.Goals as goal

pub returns-clause-does_nothing : goal.returns-clause-does_nothing
returns-clause-does_nothing c = does-nothing

pub returns-clause-always_fails : goal.returns-clause-always_fails
returns-clause-always_fails c = always-fails

pub returns-clause-drops : goal.returns-clause-drops
returns-clause-drops c = drops

pub returns-clause-selects : goal.returns-clause-selects
returns-clause-selects c = selects
