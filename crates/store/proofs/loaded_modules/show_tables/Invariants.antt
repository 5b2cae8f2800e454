use Rattle.std.proofs.Common.{ℕ, ◌<◌, ◌≤◌, slice_index_or}
use Rattle.core_types.specs.declared.types.TableType.{TableType}
use Rattle.meaning.specs.execution.Tables.{most_entries}
use Rattle.store.proofs.loaded_modules.show_tables.Given as goal

-- Those before this place have been read.
abbrev pub invariant-loop-k : goal.invariant-loop-k
invariant-loop-k l = (k : ℕ) (d : TableType) → k < l.k → (slice_index_or l.tables k d).limits.min ≤ most_entries
