use Rattle.std.proofs.Common.{◌≡◌, ◌++◌, take}
use Rattle.meaning.specs.validation.Instructions.{known}
use Rattle.validator.proofs.operand_stack.OperandStack.push_each.Given as goal

abbrev pub invariant-loop-ty : goal.invariant-loop-ty
invariant-loop-ty l = l.self ≡ l.fn.self ++ known (take l.ty-index l.types)
