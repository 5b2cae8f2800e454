use Rattle.std.proofs.Common.{◌≡◌, map, take}
use Rattle.meaning.specs.execution.Memories.{new_memory}
use Rattle.instantiate.proofs.objects.new_memories.Given as goal

abbrev pub invariant-loop-k : goal.invariant-loop-k
invariant-loop-k l = l.memories.items ≡ map new_memory (take l.k l.wanted)
