use Rattle.std.proofs.Common.{subst}
use Rattle.std.specs.Prelude.{Err, Ok, slice_get}
use Rattle.meaning.specs.embedding.Machine.{Embedding, LinksAt}
use Rattle.hostfunc.specs.Boxes.{HostStep}
use Rattle.embed.specs.Contents.{embedding_of}
use Rattle.embed.specs.Replies.{link_reply}
use Rattle.embed.proofs.embedding.Embedding.link_counted.Goals as goal

pub returns-in-Ok-clause-links : goal.returns-in-Ok-clause-links
returns-in-Ok-clause-links g c =
    rw c.take_count.ensures.same
    (subst (λ (e : Embedding _). LinksAt (HostStep (λ vtable. (g.dyn-1.0.entry vtable).1)) e (slice_get e.modules c.args.number)
    (link_reply (Ok c.in-Ok.outcome)) (embedding_of c.link_module.new.self)) c.lend_quota.ensures.same c.in-Ok.ensures.links)

pub returns-in-Err-clause-links : goal.returns-in-Err-clause-links
returns-in-Err-clause-links g c =
    subst (λ (e : Embedding _). LinksAt (HostStep (λ vtable. (g.dyn-1.0.entry vtable).1)) e (slice_get e.modules c.args.number)
    (link_reply (Err c.in-Err.refusal)) (embedding_of c.link_module.new.self)) c.lend_quota.ensures.same c.in-Err.ensures.links
