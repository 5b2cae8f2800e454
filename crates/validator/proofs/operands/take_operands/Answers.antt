use Rattle.std.proofs.Common.{arith, reverse}
use Rattle.std.proofs.lemmas.List.{length-reverse}
use Rattle.validator.proofs.OperandStack.{Takes-reverse}
use Rattle.validator.proofs.completeness.Covers.{Refuses-short}
use Rattle.validator.proofs.operands.take_operands.Goals as goal

pub loop-operands-preserved : goal.loop-operands-preserved
loop-operands-preserved c =
    let (le, takes) = c.loop-operands.invariant in
    (omega (arith, c.loop-operands-test.true), rw c.in_ok-push.ensures.items (Takes-reverse _ _ _ c.loop-operands.given.items _ _ c.in-Some.operand takes c.in-Some.ensures.some))

pub returns-in_default-clause-refused : goal.returns-in_default-clause-refused
returns-in_default-clause-refused c = λ invalid. record {
  at = λ wanted many.
      let (le, takes) = c.loop-operands.invariant in
      Refuses-short _ _ _ (reverse c.loop-operands.given.items) _ wanted takes c.in_default.ensures.none (omega (arith, c.loop-operands-test.true, many, length-reverse c.loop-operands.given.items));
}
