use Rattle.command_line.proofs.Matching.{depth-given}
use Rattle.command_line.proofs.words.depth_in.Goals as goal

pub returns-in-Some : goal.returns-in-Some
returns-in-Some c =
    depth-given _ _ c.in-Some.depth c.in_ok-option_of.ensures (rw c.in-Some.is at c.depth_of.ensures.default) (rw c.in-Some.is at c.depth_of.ensures.named)
