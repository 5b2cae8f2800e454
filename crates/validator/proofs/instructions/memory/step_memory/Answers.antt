use Rattle.core_types.specs.declared.op.PlainOp.TheVariants.{Memory}
use Rattle.validator.proofs.instructions.memory.step_memory.Goals as goal

pub returns-in_default : goal.returns-in_default
returns-in_default c = c.apply_some.ensures c.args.context.now (Memory c.args.op) c.type_of_memory.ensures
