use Rattle.std.proofs.Common.{◌≤◌, List, length, drop}
use Rattle.core_types.specs.declared.types.OperandType.{OperandType}
use Rattle.meaning.specs.validation.Instructions.{AllFit, known}
use Rattle.validator.specs.Operands.{Takes}
use Rattle.validator.proofs.operands.pop_each.Given as goal

abbrev pub invariant-loop-left : goal.invariant-loop-left
invariant-loop-left l = (l.left ≤ length l.wanted) × (given : List OperandType)
    × Takes l.frame.unreachable l.frame.height l.fn.operands given l.operands × AllFit given (known (drop l.left l.wanted))

abbrev pub decreases-loop-left : goal.decreases-loop-left
decreases-loop-left l = l.left
