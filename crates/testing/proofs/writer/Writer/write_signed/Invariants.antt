use Rattle.testing.proofs.writer.Writer.write_signed.Given as goal

abbrev pub decreases-loop-rest : goal.decreases-loop-rest
decreases-loop-rest l = l.rest
