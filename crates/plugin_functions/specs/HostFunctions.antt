-- What the host functions do.
use Rattle.std.specs.Prelude.{◌≡◌, ◌+◌, ◌^◌, ◌≤◌, ◌∷◌, [], ℕ, List, length}
use Rattle.core_types.specs.declared.outcome.Val.{Val}
use Rattle.core_types.specs.declared.outcome.Val.TheVariants.{I32}
use Rattle.core_types.specs.declared.types.FuncType.{FuncType}
use Rattle.meaning.specs.execution.Runs.{Answer, Results, HostTrap}

-- The counter returns the number of its calls, which is one more than before. It traps if that is not an i32.
abbrev pub Counts : (before : ℕ) → Answer → (after : ℕ) → Type 0
Counts before (Results values) after = (after ≡ before + 1) × (values ≡ I32 after ∷ [])
Counts before (HostTrap code) after = (before + 1 ≡ 2 ^ 32) × (after ≡ before) × (code ≡ 1)

-- The writer returns nothing if all bytes are in the memory. Otherwise it traps.
abbrev pub Writes : (arguments : List Val) (bytes : List ℕ) → Answer → Type 0
Writes (I32 start ∷ I32 len ∷ []) bytes (Results values) =
    (start + len ≤ length bytes) × (values ≡ [])
Writes arguments bytes (Results values) = ⊥
Writes arguments bytes (HostTrap code) = code ≡ 1

-- The bytes of the memory and the type of the function stay.
pub record StayAsBefore (bytes : List ℕ) (ty : FuncType) (then : List ℕ) (ty' : FuncType) : Type 0 where
  pub same_bytes : then ≡ bytes
  pub same_type : ty' ≡ ty
