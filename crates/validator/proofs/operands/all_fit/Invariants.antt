use Rattle.std.proofs.Common.{take}
use Rattle.std.specs.Prelude.{IsTrue, ◌↔◌}
use Rattle.meaning.specs.validation.Instructions.{AllFit, known}
use Rattle.validator.proofs.operands.all_fit.Given as goal

abbrev pub invariant-loop-i : goal.invariant-loop-i
invariant-loop-i l = IsTrue l.fitting ↔ AllFit (take l.i l.given) (known (take l.i l.wanted))
