use Rattle.subcommands.proofs.Runs.{bytes-called}
use Rattle.subcommands.proofs.performing.call_in_bytes.Goals as goal

pub returns-in-Ok : goal.returns-in-Ok
returns-in-Ok g c = bytes-called _ _ _ _ c.call_in.result c.in-Ok.ensures c.call_in.ensures.called c.call_in.ensures.left
