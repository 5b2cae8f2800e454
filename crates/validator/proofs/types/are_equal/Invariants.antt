use Rattle.std.proofs.Common.{◌≡◌, take}
use Rattle.std.specs.Prelude.{IsTrue, ◌↔◌}
use Rattle.validator.proofs.types.are_equal.Given as goal

abbrev pub invariant-loop-i : goal.invariant-loop-i
invariant-loop-i l = IsTrue l.equal ↔ (take l.i l.first ≡ take l.i l.second)
