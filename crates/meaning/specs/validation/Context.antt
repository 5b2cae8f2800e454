-- The context in which a body is typed (Validation, Conventions, Contexts).
use Rattle.std.specs.Prelude.{ℕ, List, ◌∷◌, Option}
use Rattle.core_types.specs.declared.types.FuncType.{FuncType}
use Rattle.core_types.specs.declared.types.GlobalType.{GlobalType}
use Rattle.core_types.specs.declared.types.Limits.{Limits}
use Rattle.core_types.specs.declared.types.RefType.{RefType}
use Rattle.core_types.specs.declared.types.TableType.{TableType}
use Rattle.core_types.specs.declared.types.ValType.{ValType}

pub record Context : Type 0 where
  pub types : List FuncType
  -- the types of the functions, tables, memories and globals by index, imports first
  pub functions : List FuncType
  pub tables : List TableType
  pub memories : List Limits
  pub globals : List GlobalType
  -- the types of the element segments, and the number of data segments
  pub elements : List RefType
  pub datas : ℕ
  -- the parameters, and then the other locals
  pub locals : List ValType
  -- the types that a branch to a label carries, the innermost label first
  pub labels : List (List ValType)
  -- the results of the function; none outside of functions, where nothing returns
  pub results : Option (List ValType)
  -- the functions that ref.func may name
  pub references : List ℕ

-- The context with one more label.
abbrev pub with_label : Context → List ValType → Context
with_label context types = record context { labels = types ∷ context.labels }
