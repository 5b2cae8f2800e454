use Rattle.std.proofs.Common.{◌-◌}
use Rattle.sidetable.specs.Completion.{ChangesEntries, copied}
use Rattle.sidetable.proofs.copies.copy_labels.Given as goal

abbrev pub invariant-loop-index : goal.invariant-loop-index
invariant-loop-index l = ChangesEntries l.fn.tables l.tables
    (copied l.fn.tables.entries.items l.fn.tables.entries.items (record { first = l.fn.range.first; count = l.index - l.fn.range.first; default = l.fn.range.default }))
