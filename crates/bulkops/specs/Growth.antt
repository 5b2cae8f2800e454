-- The result of a growth of a memory or a table, its cost, and what it leaves.
use Rattle.std.specs.Prelude.{◌≡◌, ℕ, Option, Some, None, Result, Ok, Err, if◌then◌else◌}
use Rattle.std.specs.declared.alloc.AllocError.{AllocError}
use Rattle.core_types.specs.declared.types.Limits.{Limits}
use Rattle.meaning.specs.execution.Costs.{instruction_cost}
use Rattle.meaning.specs.execution.Memories.{can_grow}
use Rattle.store.specs.State.{StateContents}

-- The present size under these limits, if they allow that many more.
abbrev pub size_to_grow : (bound most : ℕ) → Limits → (more : ℕ) → Option ℕ
size_to_grow bound most limits more =
    if can_grow bound most limits more then Some limits.min else None

-- The cost of a growth, which is this cost, or that of any instruction if the growth is not allowed.
abbrev pub price_of_growth : Option ℕ → (cost : ℕ) → ℕ
price_of_growth (Some size) cost = cost
price_of_growth None cost = instruction_cost

-- A growth returned the size before and left what was wanted. Or it returned -1, since it is not allowed. Or memory ran out, and nothing
-- has changed.
abbrev pub DidGrow : Option ℕ → Result ℕ AllocError → (old new wanted : StateContents) → Type 0
DidGrow (Some size) (Ok n) old new wanted = (n ≡ size) × (new ≡ wanted)
DidGrow (Some size) (Err error) old new wanted = new ≡ old
DidGrow None (Ok n) old new wanted = (n ≡ 4294967295) × (new ≡ old)
DidGrow None (Err error) old new wanted = ⊥
