use Rattle.meaning.specs.execution.Runs.{NoHosts}
use Rattle.soundness.specs.Runs.{NoConditions}
use Rattle.soundness.proofs.Runs.{never-goes-wrong}
use Rattle.soundness.proofs.laws.typed_runs_never_go_wrong.Goals as goal

pub returns : goal.returns
returns c = never-goes-wrong NoHosts NoConditions (λ old new hosts same there. tt) (λ hosts hosts' number address lent arguments old new answer t valid there is typed told. absurd told)
