use Rattle.std.proofs.Common.{◌≡◌, ◌++◌}
use Rattle.meaning.specs.execution.Modules.{consecutive}
use Rattle.store.specs.Contents.{entries_of}
use Rattle.store.proofs.entries.push_entries.Given as goal

abbrev pub invariant-loop-index : goal.invariant-loop-index
invariant-loop-index l = l.functions.items ≡ l.initial.functions.items ++ entries_of l.instance (consecutive 0 l.index)
