use Rattle.std.proofs.Common.{arith}
use Rattle.std.specs.Prelude.{Some}
use Rattle.sidetable.proofs.Heights.{reached-below}
use Rattle.sidetable.proofs.laws.no_height_is_over_the_greatest.Goals as goal

pub returns-clause-reached : goal.returns-clause-reached
returns-clause-reached c = λ s locals results body height there. let below = reached-below s (Some locals) body height there in omega (arith, below)
