-- Import matching (Validation, Types, Import Subtyping): which external types may be given for a wanted one. The minimum of a given table
-- or memory is its present size.
use Rattle.std.specs.Prelude.{◌≡◌, ℕ, ◌≤◌, Option, Some, None}
use Rattle.core_types.specs.declared.types.ExternType.{ExternType}
use Rattle.core_types.specs.declared.types.ExternType.TheVariants.{Func, Table, Memory, Global}
use Rattle.core_types.specs.declared.types.Limits.{Limits}

-- If no maximum is wanted, any maximum or none matches. Otherwise the maximum is present and at most the wanted one.
abbrev pub MaximaMatch : (given wanted : Option ℕ) → Type 0
MaximaMatch given None = Unit {0}
MaximaMatch None (Some wanted) = ⊥
MaximaMatch (Some given) (Some wanted) = given ≤ wanted

-- Limits.
abbrev pub LimitsMatch : (given wanted : Limits) → Type 0
LimitsMatch given wanted = (wanted.min ≤ given.min) × MaximaMatch given.max wanted.max

-- Functions and globals by equal types, tables by equal types of references and by limits, memories by limits.
abbrev pub Matches : (given wanted : ExternType) → Type 0
Matches (Func t) (Func u) = t ≡ u
Matches (Table t) (Table u) = (t.element ≡ u.element) × LimitsMatch t.limits u.limits
Matches (Memory t) (Memory u) = LimitsMatch t u
Matches (Global t) (Global u) = t ≡ u
Matches given wanted = ⊥
