use Rattle.sidetable.proofs.instructions.pack_numeric.Goals as goal

pub returns-clause-op : goal.returns-clause-op
returns-clause-op c t outermost entries = rw c.with_counts.ensures.op (c.numeric.ensures t)
