use Rattle.interpreter.proofs.frames.enter.Goals as goal

pub enter_function-requires-clause-calls : goal.enter_function-requires-clause-calls
enter_function-requires-clause-calls c = rw c.in-InModule.is at c.requires.calls

pub returns-in-InHost : goal.returns-in-InHost
returns-in-InHost c = (rw c.in-InHost.is at c.requires.calls).1 c.requires.paid
