use Rattle.testing.proofs.writer.Writer.write_number.Given as goal

abbrev pub decreases-loop-rest : goal.decreases-loop-rest
decreases-loop-rest l = l.rest
