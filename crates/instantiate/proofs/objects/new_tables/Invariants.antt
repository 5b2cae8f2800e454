use Rattle.std.proofs.Common.{◌≡◌, map, take}
use Rattle.meaning.specs.execution.Tables.{new_table}
use Rattle.instantiate.proofs.objects.new_tables.Given as goal

abbrev pub invariant-loop-k : goal.invariant-loop-k
invariant-loop-k l = l.tables.items ≡ map new_table (take l.k l.wanted)
