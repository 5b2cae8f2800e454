use Rattle.subcommands.proofs.Runs.{files-run}
use Rattle.subcommands.proofs.performing.run_over_files.Goals as goal

pub returns-in-Ok : goal.returns-in-Ok
returns-in-Ok g c = files-run _ _ _ _ _ c.run_in.result c.in-Ok.ensures c.run_in.ensures
