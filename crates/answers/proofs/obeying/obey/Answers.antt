use Rattle.std.proofs.Common.{sym}
use Rattle.embed.specs.Replies.{call_reply, link_reply, load_reply}
use Rattle.answers.proofs.obeying.obey.Goals as goal

pub returns-in-Load-clause-obeyed : goal.returns-in-Load-clause-obeyed
returns-in-Load-clause-obeyed g c =
    rw c.in-Load.is (load_reply c.load.result, sym c.from.ensures, (c.load.ensures.applied, c.load.ensures.goes_well, tt))

pub returns-in-Link-clause-obeyed : goal.returns-in-Link-clause-obeyed
returns-in-Link-clause-obeyed g c =
    rw c.in-Link.is (link_reply c.link.result, sym c.from-in-Link.ensures, (c.link.ensures.applied, c.link.ensures.goes_well, c.link.ensures.as_said))

pub returns-in-Call-clause-obeyed : goal.returns-in-Call-clause-obeyed
returns-in-Call-clause-obeyed g c =
    rw (c.in-Call.is, ← c.as_slice.ensures.value)
    (call_reply c.call.result, sym c.from-in-Call.ensures, (c.call.ensures.applied, c.call.ensures.goes_well, c.call.ensures.as_said))
