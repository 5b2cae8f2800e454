use Rattle.std.proofs.Common.{◌++◌}
use Rattle.meaning.specs.execution.Modules.{given_addresses}
use Rattle.instantiate.specs.Addresses.{address_as}
use Rattle.instantiate.proofs.lemmas.Addresses.{FoundSoFar}
use Rattle.instantiate.proofs.addresses.push_given.Given as goal

abbrev pub invariant-loop-k : goal.invariant-loop-k
invariant-loop-k l =
    FoundSoFar (address_as l.kind) l.given (l.initial.addresses.items ++ given_addresses (address_as l.kind) l.given) l.k l.addresses.items
