use Rattle.std.proofs.Common.{◌≡◌, ◌++◌, take}
use Rattle.messages.specs.Values.{values_bytes}
use Rattle.messages.proofs.values.push_values.Given as goal

abbrev pub invariant-loop-i : goal.invariant-loop-i
invariant-loop-i l = l.out.items ≡ l.initial.out.items ++ values_bytes (take l.i l.values)
