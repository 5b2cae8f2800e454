-- The types of the first locals of a function.
use Rattle.std.specs.Prelude.{List, slice_get, ℕ, ◌<◌, ◌≡◌}
use Rattle.core_types.specs.declared.types.ValType.{ValType}

-- The first types of a list are those of another one.
abbrev pub HasFirst : List ValType → ℕ → List ValType → Type 0
HasFirst types count first = (i : ℕ) → i < count → slice_get types i ≡ slice_get first i
