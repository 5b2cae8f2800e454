-- The result of an access to bytes, and what it leaves.
use Rattle.std.specs.Prelude.{◌≡◌, ℕ, ◌+◌, List, length, Result, Ok, Err, Bool, true, false, nat_le, if◌then◌else◌}
use Rattle.core_types.specs.declared.outcome.Trap.{Trap}
use Rattle.core_types.specs.declared.outcome.Trap.TheVariants.{MemoryBounds}
use Rattle.meaning.specs.execution.Costs.{instruction_cost}
use Rattle.meaning.specs.execution.Storage.{items_at, number_of_bytes}

-- The number of that many bytes from an offset on, or a trap if they reach past the end.
abbrev pub number_from : List ℕ → (offset count : ℕ) → Result ℕ Trap
number_from bytes offset count =
    if nat_le (offset + count) (length bytes)
    then Ok (number_of_bytes (items_at bytes offset count))
    else Err MemoryBounds

-- The access left what was wanted, or returned the trap and changed nothing.
abbrev pub Wrote : {U X : Type 0} → Result U Trap → (old new : X) → (wanted : Result X Trap)
    → Type 0
Wrote (Ok u) old new wanted = wanted ≡ Ok new
Wrote (Err trap) old new wanted = (wanted ≡ Err trap) × (new ≡ old)

-- The cost of an access, which is this cost, or that of any instruction if it traps.
abbrev pub price_of_access : {X : Type 0} → Result X Trap → (cost : ℕ) → ℕ
price_of_access (Ok x) cost = cost
price_of_access (Err trap) cost = instruction_cost

abbrev pub price_if : (fits : Bool) → (cost : ℕ) → ℕ
price_if true cost = cost
price_if false cost = instruction_cost
