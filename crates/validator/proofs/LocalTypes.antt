-- The types of the first locals are found one by one.
use Rattle.std.proofs.Common.{ℕ, zero, suc, ◌+◌, ◌<◌, ◌≡◌, List, [], ◌∷◌, Some, add-one, arith, length, slice_get, slice_set}
use Rattle.core_types.specs.declared.types.ValType.{ValType}
use Rattle.validator.specs.LocalTypes.{HasFirst}

HasFirst-set : (types first : List ValType) (count : ℕ) (t : ValType) → HasFirst types count first → count < length first
    → slice_get types count ≡ Some t → (i : ℕ) → i < suc count → slice_get types i ≡ slice_get (slice_set first count t) i
HasFirst-set types [] count t has within found i less = absurd (omega (arith, within))
HasFirst-set types (x ∷ first) zero t has within found zero less = found
HasFirst-set types (x ∷ first) zero t has within found (suc i) less = absurd (omega (arith, less))
HasFirst-set [] (x ∷ first) (suc count) t has within found i less = absurd cc
HasFirst-set (y ∷ types) (x ∷ first) (suc count) t has within found zero less = has zero (omega arith)
HasFirst-set (y ∷ types) (x ∷ first) (suc count) t has within found (suc i) less =
    HasFirst-set types first count t (λ j before. has (suc j) (omega (arith, before))) (omega (arith, within)) found i (omega (arith, less))

pub HasFirst-next : (types first : List ValType) (count : ℕ) (t : ValType) → HasFirst types count first → count < length first
    → slice_get types count ≡ Some t → HasFirst types (count + 1) (slice_set first count t)
HasFirst-next types first count t has within found = rw add-one (HasFirst-set types first count t has within found)
