use Rattle.subcommands.proofs.calls.new_embedding.Goals as goal

pub returns-in_ok-new-in-Some : goal.returns-in_ok-new-in-Some
returns-in_ok-new-in-Some g c = rw c.in-Some.ensures.same at c.in_ok-new-in-Some.ensures.created
