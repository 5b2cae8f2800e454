use Rattle.meaning.specs.execution.Runs.{NoHosts}
use Rattle.meaning.proofs.lemmas.Runs.{Runs-agree}
use Rattle.meaning.proofs.execution.runs_agree.Goals as goal

pub returns : goal.returns
returns c = λ bound outside at s t configuration e f. Runs-agree NoHosts bound outside (λ hosts number lent arguments store a b s t hs gs x y. absurd x)
