use Rattle.std.proofs.Common.{◌≡◌, ◌++◌, length}
use Rattle.messages.specs.Values.{values_bytes}
use Rattle.messages.proofs.values.read_values.Given as goal

abbrev pub invariant-loop-rest : goal.invariant-loop-rest
invariant-loop-rest l = values_bytes l.values.items ++ l.rest ≡ l.bytes

abbrev pub decreases-loop-rest : goal.decreases-loop-rest
decreases-loop-rest l = length l.rest
