use Rattle.std.proofs.Common.{subst}
use Rattle.std.specs.Prelude.{Ok}
use Rattle.meaning.specs.embedding.Machine.{CallsAt, Embedding, as_function, export_at}
use Rattle.hostfunc.specs.Boxes.{HostStep}
use Rattle.embed.specs.Contents.{embedding_of}
use Rattle.embed.specs.Replies.{call_reply}
use Rattle.embed.proofs.embedding.Embedding.call_counted.Goals as goal

pub returns-in-Ok-clause-calls : goal.returns-in-Ok-clause-calls
returns-in-Ok-clause-calls g c =
    rw c.take_count.ensures.same
    (subst (λ (e : Embedding _). CallsAt (HostStep (λ vtable. (g.dyn-1.0.entry vtable).1)) e (as_function (export_at e c.args.number c.args.name.now))
    c.args.args.now (call_reply (Ok c.in-Ok.outcome)) (embedding_of c.call_function.new.self)) c.lend_quota.ensures.same c.in-Ok.ensures.calls)
