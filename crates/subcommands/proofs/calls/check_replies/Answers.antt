use Rattle.std.proofs.lemmas.List.{take_all}
use Rattle.std.proofs.lemmas.List.Elements.{All-more}
use Rattle.embed.specs.Replies.{reply_of}
use Rattle.subcommands.specs.Embeddings.{IsCarriedOut}
use Rattle.subcommands.proofs.calls.check_replies.Goals as goal

pub loop-reply-preserved : goal.loop-reply-preserved
loop-reply-preserved c =
    All-more (λ reply. IsCarriedOut (reply_of reply)) c.args.replies.now c.loop-reply.reply-index c.reply-item.result c.loop-reply-test.true
    c.loop-reply.invariant (rw c.reply-item.is at c.in_ok-check_reply.ensures)

pub returns : goal.returns
returns c = rw (take_all c.loop-reply.reply-index c.args.replies.now c.loop-reply-test.false) at c.loop-reply.invariant
