use Rattle.std.proofs.Common.{length, ap, arith}
use Rattle.std.proofs.lemmas.Bool.Decides.{nat_tests}
use Rattle.validator.proofs.OperandEntries.{count_of}
use Rattle.validator.proofs.operand_stack.OperandStack.is_above.Goals as goal

pub returns-then-len-height : goal.returns-then-len-height
returns-then-len-height c = (
  λ above. omega (arith, ap length c.self.view_is, count_of c.self.invariant, c.len.ensures, c.if-len-height.true),
  λ above. let more = c.if-len-height.true in grind (arith, nat_tests),
)
