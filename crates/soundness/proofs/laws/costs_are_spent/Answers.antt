use Rattle.meaning.specs.execution.Runs.{NoHosts}
use Rattle.soundness.proofs.Fuel.{run-costs}
use Rattle.soundness.proofs.laws.costs_are_spent.Goals as goal

pub returns : goal.returns
returns c bound outside old last configuration ending run = run-costs NoHosts bound outside run
