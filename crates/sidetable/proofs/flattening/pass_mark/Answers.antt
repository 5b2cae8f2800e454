use Rattle.sidetable.proofs.flattening.pass_mark.Goals as goal

pub returns-in-Block : goal.returns-in-Block
returns-in-Block c = rw c.in-Block.is c.step_block.ensures

pub returns-in-Loop : goal.returns-in-Loop
returns-in-Loop c = rw c.in-Loop.is c.step_loop.ensures

pub returns-in-If : goal.returns-in-If
returns-in-If c = rw c.in-If.is c.step_if.ensures

pub returns-in-Else : goal.returns-in-Else
returns-in-Else c = rw c.in-Else.is c.step_else.ensures

pub returns-in-End : goal.returns-in-End
returns-in-End c = rw c.in-End.is c.step_end.ensures
