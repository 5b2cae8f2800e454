use Rattle.std.proofs.Common.{map}
use Rattle.validator.specs.ControlFrames.{control_stack, label_of}
use Rattle.validator.proofs.Steps.{no_type}
use Rattle.validator.proofs.instructions.apply_some.Goals as goal

pub returns-in-Some : goal.returns-in-Some
returns-in-Some c = λ lent o type. c.apply.ensures lent o ((rw c.in-Some.is at type) (map label_of (control_stack c.args.stacks.now)))

pub returns-in-None : goal.returns-in-None
returns-in-None c = λ lent o type. (tt, λ invalid. no_type o ((rw c.in-None.is at type) (map label_of (control_stack c.args.stacks.now))))
