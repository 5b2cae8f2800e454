use Rattle.meaning.specs.execution.Runs.{NoHosts}
use Rattle.soundness.specs.Runs.{NoConditions}
use Rattle.soundness.proofs.Runs.{never-stuck}
use Rattle.soundness.proofs.laws.typed_runs_never_get_stuck.Goals as goal

pub returns : goal.returns
returns c = never-stuck NoHosts NoConditions (λ old new hosts same there. tt) (λ hosts hosts' number address lent arguments old new answer t valid there is typed told. absurd told)
