use Rattle.std.proofs.Common.{◌-◌, ◌≤◌, length, reverse}
use Rattle.validator.specs.Operands.{Takes}
use Rattle.validator.proofs.operands.take_operands.Given as goal

abbrev pub invariant-loop-operands : goal.invariant-loop-operands
invariant-loop-operands l = (length l.given.items ≤ l.count) × Takes l.frame.unreachable l.frame.height l.fn.operands (reverse l.given.items) l.operands

abbrev pub decreases-loop-operands : goal.decreases-loop-operands
decreases-loop-operands l = l.count - length l.given.items
