use Rattle.std.proofs.Common.{◌≡◌, take}
use Rattle.std.specs.Prelude.{IsTrue, ◌↔◌}
use Rattle.validator.specs.OperandStack.{each_of}
use Rattle.validator.proofs.operand_stack.are_each.Given as goal

abbrev pub invariant-loop-i : goal.invariant-loop-i
invariant-loop-i l = IsTrue l.equal ↔ (take l.i l.entries ≡ each_of (take l.i l.types))
