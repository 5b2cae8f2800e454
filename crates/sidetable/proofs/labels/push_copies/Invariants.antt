use Rattle.std.proofs.Common.{◌++◌, map, take, ℕ}
use Rattle.sidetable.specs.Completion.{ChangesEntries, copy_of}
use Rattle.sidetable.specs.Labels.{number_at}
use Rattle.sidetable.proofs.labels.push_copies.Given as goal

abbrev pub invariant-loop-index : goal.invariant-loop-index
invariant-loop-index l = ChangesEntries l.initial.tables l.tables
    (l.initial.tables.entries.items ++ map (λ (index : ℕ). copy_of (number_at l.outermost l.levels index)) (take l.index-index l.indices))
