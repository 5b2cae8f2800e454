use Rattle.std.proofs.Common.{◌≤◌, take}
use Rattle.std.specs.List.{All}
use Rattle.core_types.specs.declared.types.TableType.{TableType}
use Rattle.instantiate.proofs.limits.have_few_entries.Given as goal

abbrev pub invariant-loop-k : goal.invariant-loop-k
invariant-loop-k l = All (λ (t : TableType). t.limits.min ≤ l.entries) (take l.k l.tables)
