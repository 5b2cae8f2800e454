-- What a write to a table of the store leaves.
use Rattle.std.specs.Prelude.{ℕ, List, Result, Ok, Err}
use Rattle.core_types.specs.declared.outcome.Trap.{Trap}
use Rattle.core_types.specs.declared.outcome.Val.{Val}
use Rattle.store.specs.State.{StateContents, put_table, table_of}
use Rattle.store.specs.Tables.{with_entries}

-- The state with these entries in a table, or the trap.
abbrev pub state_with_entries : StateContents → (address : ℕ) → Result (List Val) Trap
    → Result StateContents Trap
state_with_entries s address (Ok entries) =
    Ok (put_table s address (with_entries (table_of s address) entries))
state_with_entries s address (Err trap) = Err trap
