use Rattle.std.proofs.Common.{◌∙◌, subst}
use Rattle.hostfunc.specs.Boxes.{HostStep}
use Rattle.embed.specs.Contents.{embedding_of}
use Rattle.embed.specs.Replies.{reply_of}
use Rattle.embed.specs.declared.commands.Reply.TheVariants.{Loaded}
use Rattle.meaning.specs.embedding.Commands.{Load}
use Rattle.meaning.specs.scripts.Dialogues.{Asks, Dialogue}
use Rattle.meaning.specs.scripts.Runner.{linking, load_and_link}
use Rattle.scripts.specs.Conversations.{Converses}
use Rattle.scripts.proofs.lemmas.Talks.{broken, holds-on, linking-other}
use Rattle.scripts.proofs.asking.load_and_link.Goals as goal

pub returns-in-Loaded : goal.returns-in-Loaded
returns-in-Loaded g c =
    let said = rw c.in-Loaded.is at c.in_ok-reply.ensures in
    holds-on _ reply_of reply_of (Asks (Load c.args.bytes.now)) linking (Loaded c.in-Loaded.number) c.link.result _ said c.link.ensures

pub returns-in_default : goal.returns-in_default
returns-in_default g c = λ next.
    subst (λ (left : Dialogue). Converses (HostStep (λ vtable. (g.dyn-1.0.entry vtable).1)) (load_and_link c.args.bytes.now next)
    (embedding_of c.args.embedding.now) left (embedding_of c.load.new.embedding))
    (linking-other c.in_ok-reply.reply c.in_default.not-Loaded next) (c.in_ok-reply.ensures (λ reply. linking reply next))

pub returns-in_err-reply : goal.returns-in_err-reply
returns-in_err-reply g c =
    broken _ reply_of (load_and_link c.args.bytes.now) c.from_residual.result _ _ c.from_residual.ensures.1 (λ fault is. is ∙ c.in_err-reply.ensures.0)
    (λ next. c.in_err-reply.ensures.1 (λ reply. linking reply next))
