use Rattle.meaning.specs.execution.Runs.{NoHosts}
use Rattle.soundness.specs.Runs.{NoConditions}
use Rattle.soundness.proofs.Links.{links-never-go-wrong}
use Rattle.soundness.proofs.laws.links_never_go_wrong.Goals as goal

pub returns : goal.returns
returns c = links-never-go-wrong c.writing_is_read.ensures.whole NoHosts NoConditions (λ old new hosts same there. tt) (λ old m i made hosts there. tt)
    (λ hosts hosts' number address lent arguments old new answer t valid there is typed told. absurd told)
