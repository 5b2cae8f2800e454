use Rattle.std.proofs.Common.{◌≡◌, map, take}
use Rattle.meaning.specs.execution.Modules.{new_data}
use Rattle.instantiate.proofs.objects.new_datas.Given as goal

abbrev pub invariant-loop-k : goal.invariant-loop-k
invariant-loop-k l = l.datas.items ≡ map new_data (take l.k l.loaded.value.source.datas)
