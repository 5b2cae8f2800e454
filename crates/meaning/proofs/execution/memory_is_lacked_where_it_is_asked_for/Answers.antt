use Rattle.std.proofs.Common.{refl}
use Rattle.meaning.specs.execution.Runs.{NoHosts}
use Rattle.meaning.proofs.lemmas.Runs.{memory-asked}
use Rattle.meaning.proofs.execution.memory_is_lacked_where_it_is_asked_for.Goals as goal

pub returns-clause-only : goal.returns-clause-only
returns-clause-only c = λ bound outside at last configuration. memory-asked NoHosts bound outside refl
