-- The limits on a module, which are this project's own (Implementation Limitations leaves them to an engine).
use Rattle.std.specs.Prelude.{ℕ, ◌+◌, ◌≤◌, List, length, All, Option, Some, None, slice_get}
use Rattle.core_types.specs.declared.types.FuncType.{FuncType}
use Rattle.core_types.specs.declared.module.Func.{Func}
use Rattle.core_types.specs.declared.module.Module.{Module}

-- The number of parameters of a type, or 0 if there is no type.
abbrev pub parameter_count : Option FuncType → ℕ
parameter_count None = 0
parameter_count (Some t) = length t.params

-- At most 1,000 parameters and 1,000 results.
abbrev pub IsSmallType : FuncType → Type 0
IsSmallType t = (length t.params ≤ 1000) × (length t.results ≤ 1000)

-- At most 50,000 locals, the parameters included.
abbrev pub HasFewLocals : List FuncType → Func → Type 0
HasFewLocals types f = parameter_count (slice_get types f.ty) + length f.locals ≤ 50000

pub record IsWithinLimits (bytes : List ℕ) (m : Module) : Type 0 where
  pub size : length bytes ≤ 67108864
  pub types : All IsSmallType m.types
  pub locals : All (HasFewLocals m.types) m.funcs
