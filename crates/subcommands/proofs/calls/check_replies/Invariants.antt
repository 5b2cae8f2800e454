use Rattle.std.proofs.Common.{take}
use Rattle.std.specs.List.{All}
use Rattle.embed.specs.Replies.{reply_of}
use Rattle.subcommands.specs.Embeddings.{IsCarriedOut}
use Rattle.subcommands.proofs.calls.check_replies.Given as goal

abbrev pub invariant-loop-reply : goal.invariant-loop-reply
invariant-loop-reply l = All (λ reply. IsCarriedOut (reply_of reply)) (take l.reply-index l.replies)
