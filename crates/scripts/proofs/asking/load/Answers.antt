use Rattle.scripts.proofs.lemmas.Talks.{taken}
use Rattle.scripts.proofs.asking.load.Goals as goal

pub returns : goal.returns
returns g c = taken _ c.from.result c.take_reply.result (rw c.from.ensures (c.load.ensures.applied, c.load.ensures.goes_well, tt)) c.take_reply.ensures
