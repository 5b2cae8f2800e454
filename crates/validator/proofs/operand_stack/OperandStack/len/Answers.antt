use Rattle.std.proofs.Common.{length, ap, arith}
use Rattle.validator.proofs.OperandEntries.{count_of}
use Rattle.validator.proofs.operand_stack.OperandStack.len.Goals as goal

pub returns : goal.returns
returns c = omega (arith, ap length c.self.view_is, count_of c.self.invariant, c.len.ensures)
