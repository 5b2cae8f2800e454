use Rattle.interpreter.proofs.Executing.{operations-execute}
use Rattle.interpreter.proofs.laws.operations_execute.Goals as goal

pub returns : goal.returns
returns c = operations-execute
