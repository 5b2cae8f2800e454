use Rattle.std.specs.Prelude.{[], ◌∷◌}
use Rattle.embed.specs.declared.commands.Reply.TheVariants.{Refused}
use Rattle.meaning.specs.embedding.Commands.{Ended}
use Rattle.meaning.specs.execution.Runs.{WithValues}
use Rattle.scripts.specs.Conversations.{nothing}
use Rattle.scripts.proofs.lemmas.Talks.{answered, taken}
use Rattle.scripts.proofs.asking.get.Goals as goal

pub returns-in-None : goal.returns-in-None
returns-in-None g c = rw c.in-None.is (λ next. nothing)

pub returns-in-Ok : goal.returns-in-Ok
returns-in-Ok g c =
    rw c.in-Some.is (answered _ (Ended (WithValues (c.in-Ok.value ∷ []))) c.reply_with.result
    (c.in-Ok.ensures.applied, c.in-Ok.ensures.goes_well, tt) (λ lacks. lacks) c.reply_with.ensures.ok c.reply_with.ensures.err)

pub returns-in-Err : goal.returns-in-Err
returns-in-Err g c =
    rw c.in-Some.is (taken _ (Refused c.in-Err.refusal) c.take_reply.result (c.in-Err.ensures.applied, c.in-Err.ensures.goes_well, tt) c.take_reply.ensures)
