use Rattle.subcommands.proofs.Loading.{loaded-valid}
use Rattle.subcommands.proofs.performing.load_in.Goals as goal

pub returns : goal.returns
returns g c = loaded-valid c.in_ok-load.ensures.applied
