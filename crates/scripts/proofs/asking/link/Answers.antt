use Rattle.scripts.proofs.lemmas.Talks.{taken}
use Rattle.scripts.proofs.asking.link.Goals as goal

pub returns : goal.returns
returns g c = taken _ c.from.result c.take_reply.result (rw c.from.ensures (c.link.ensures.applied, c.link.ensures.goes_well, c.link.ensures.as_said)) c.take_reply.ensures
