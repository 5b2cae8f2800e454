use Rattle.sidetable.specs.Labels.{label_entries}
use Rattle.sidetable.specs.SideTables.{entry_of_number}
use Rattle.sidetable.proofs.instructions.pack.Goals as goal

pub returns-in-Reference-clause-packs : goal.returns-in-Reference-clause-packs
returns-in-Reference-clause-packs c final added = rw (c.in-Reference.is, c.with_counts-packed.ensures.op) (c.reference.ensures final)

pub returns-in-Parametric-clause-packs : goal.returns-in-Parametric-clause-packs
returns-in-Parametric-clause-packs c final added = rw c.in-Parametric.is (c.pack_parametric-packed.ensures.op final (entry_of_number final c.args.outermost) (label_entries final c.args.outermost c.args.levels.now))

pub returns-in-Variable-clause-packs : goal.returns-in-Variable-clause-packs
returns-in-Variable-clause-packs c final added = rw c.in-Variable.is (c.pack_variable-packed.ensures.op final (entry_of_number final c.args.outermost) (label_entries final c.args.outermost c.args.levels.now))

pub returns-in-Memory-clause-packs : goal.returns-in-Memory-clause-packs
returns-in-Memory-clause-packs c final added = rw c.in-Memory.is (c.pack_memory-packed.ensures.op final (entry_of_number final c.args.outermost) (label_entries final c.args.outermost c.args.levels.now))

pub returns-in-Numeric-clause-packs : goal.returns-in-Numeric-clause-packs
returns-in-Numeric-clause-packs c final added = rw c.in-Numeric.is (c.pack_numeric-packed.ensures.op final (entry_of_number final c.args.outermost) (label_entries final c.args.outermost c.args.levels.now))

pub returns-in-I32Const-clause-packs : goal.returns-in-I32Const-clause-packs
returns-in-I32Const-clause-packs c final added = rw c.in-I32Const.is (c.pack_i32_const-packed.ensures.op final (entry_of_number final c.args.outermost) (label_entries final c.args.outermost c.args.levels.now))
