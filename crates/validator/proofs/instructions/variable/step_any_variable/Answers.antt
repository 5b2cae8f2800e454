use Rattle.core_types.specs.declared.op.PlainOp.TheVariants.{Variable}
use Rattle.validator.proofs.instructions.variable.step_any_variable.Goals as goal

pub returns : goal.returns
returns c = c.apply_some.ensures c.args.context.now (Variable c.args.op) c.type_of_variable.ensures
