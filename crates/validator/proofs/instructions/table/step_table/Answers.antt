use Rattle.core_types.specs.declared.op.PlainOp.TheVariants.{Table}
use Rattle.validator.proofs.instructions.table.step_table.Goals as goal

pub returns : goal.returns
returns c = c.apply_some.ensures c.args.context.now (Table c.args.op) c.type_of_table.ensures
