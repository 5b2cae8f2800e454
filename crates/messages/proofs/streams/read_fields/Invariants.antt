use Rattle.messages.proofs.streams.read_fields.Given as goal

abbrev pub decreases-loop-left : goal.decreases-loop-left
decreases-loop-left l = l.left
