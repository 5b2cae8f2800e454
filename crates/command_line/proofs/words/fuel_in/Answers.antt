use Rattle.command_line.proofs.Matching.{fuel-given}
use Rattle.command_line.proofs.words.fuel_in.Goals as goal

pub returns : goal.returns
returns c = rw c.unwrap_or.ensures (fuel-given _ _ c.in_ok-option_of.ensures)
