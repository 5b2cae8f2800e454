use Rattle.std.proofs.Common.{take}
use Rattle.instantiate.specs.Offsets.{HaveRoom, data_offset}
use Rattle.instantiate.proofs.offsets.longest_data_offset.Given as goal

abbrev pub invariant-loop-k : goal.invariant-loop-k
invariant-loop-k l = HaveRoom data_offset l.longest (take l.k l.datas)
