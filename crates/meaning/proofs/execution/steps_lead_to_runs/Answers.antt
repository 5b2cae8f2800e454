use Rattle.meaning.specs.execution.Runs.{NoHosts}
use Rattle.meaning.proofs.lemmas.Runs.{Steps-run}
use Rattle.meaning.proofs.execution.steps_lead_to_runs.Goals as goal

pub returns : goal.returns
returns c = λ bound outside old between last first second ending. Steps-run NoHosts bound outside
