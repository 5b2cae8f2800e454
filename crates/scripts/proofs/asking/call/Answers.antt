use Rattle.scripts.specs.Conversations.{nothing}
use Rattle.scripts.proofs.lemmas.Talks.{taken}
use Rattle.scripts.proofs.asking.call.Goals as goal

pub returns-in-None : goal.returns-in-None
returns-in-None g c = rw c.in-None.is (λ next. nothing)

pub returns-in-Some : goal.returns-in-Some
returns-in-Some g c =
    rw c.in-Some.is (taken _ c.from.result c.take_reply.result (rw c.from.ensures (c.call.ensures.applied, c.call.ensures.goes_well, c.call.ensures.as_said)) c.take_reply.ensures)
