use Rattle.subcommands.proofs.performing.call_in.Goals as goal

pub returns-clause-called : goal.returns-clause-called
returns-clause-called g c = c.in_ok-outcome.ensures
