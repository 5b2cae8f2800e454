use Rattle.std.proofs.Common.{◌≡◌, ◌++◌}
use Rattle.meaning.specs.execution.Modules.{consecutive}
use Rattle.instantiate.proofs.addresses.push_consecutive.Given as goal

abbrev pub invariant-loop-k : goal.invariant-loop-k
invariant-loop-k l = l.addresses.items ≡ l.initial.addresses.items ++ consecutive l.first l.k
