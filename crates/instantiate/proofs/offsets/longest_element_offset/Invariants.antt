use Rattle.std.proofs.Common.{take}
use Rattle.instantiate.specs.Offsets.{HaveRoom, element_offset}
use Rattle.instantiate.proofs.offsets.longest_element_offset.Given as goal

abbrev pub invariant-loop-k : goal.invariant-loop-k
invariant-loop-k l = HaveRoom element_offset l.longest (take l.k l.elements)
