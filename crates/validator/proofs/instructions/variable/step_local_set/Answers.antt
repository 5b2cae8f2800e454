use Rattle.std.proofs.Common.{map}
use Rattle.core_types.specs.declared.op.PlainOp.TheVariants.{Variable}
use Rattle.core_types.specs.declared.op.VariableOp.TheVariants.{LocalSet}
use Rattle.validator.specs.ControlFrames.{control_stack, label_of}
use Rattle.validator.proofs.Steps.{no_type}
use Rattle.validator.proofs.instructions.variable.step_local_set.Goals as goal

pub returns-in_default : goal.returns-in_default
returns-in_default c =
    let none = c.in_default.ensures.none (map label_of (control_stack c.args.stacks.now)) in
    (tt, λ invalid. no_type {lent = c.args.context.now} {old = c.args.stacks.now} (Variable (LocalSet c.args.index)) none)
