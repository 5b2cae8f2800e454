-- What a write to a memory of the store leaves.
use Rattle.std.specs.Prelude.{ℕ, List, Result, Ok, Err}
use Rattle.core_types.specs.declared.outcome.Trap.{Trap}
use Rattle.store.specs.State.{StateContents, memory_of, put_memory}

-- The state with these bytes in a memory, or the trap.
abbrev pub state_with : StateContents → (address : ℕ) → Result (List ℕ) Trap
    → Result StateContents Trap
state_with s address (Ok bytes) =
    Ok (put_memory s address (record { limits = (memory_of s address).limits; bytes = bytes }))
state_with s address (Err trap) = Err trap
