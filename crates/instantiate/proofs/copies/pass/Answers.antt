use Rattle.instantiate.proofs.lemmas.Copies.{is-paid-for}
use Rattle.instantiate.proofs.copies.pass.Goals as goal

pub returns-in-Ok-clause-passes : goal.returns-in-Ok-clause-passes
returns-in-Ok-clause-passes c o old new gives = rw c.set.ensures (is-paid-for o new c.args.meter.now.left c.in-Ok.paid (rw c.in-Ok.is at gives))
