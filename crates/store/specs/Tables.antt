-- Tables that the store keeps.
use Rattle.std.specs.Prelude.{◌≡◌, ℕ, List, length}
use Rattle.core_types.specs.declared.outcome.Val.{Val}
use Rattle.meaning.specs.execution.Tables.{TableInstance}

-- The number of entries is the one that the limits state.
abbrev pub HasEntries : (size : ℕ) → List Val → Type 0
HasEntries size entries = length entries ≡ size

-- The table with these entries.
abbrev pub with_entries : TableInstance → List Val → TableInstance
with_entries table entries = record { ty = table.ty; entries = entries }
