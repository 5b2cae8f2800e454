-- A context that has all that typing asks of another (Validation, Conventions, Contexts).
use Rattle.std.specs.Prelude.{◌≡◌, ℕ, ◌≤◌, List, Some, slice_get}
use Rattle.core_types.specs.declared.types.FuncType.{FuncType}
use Rattle.core_types.specs.declared.types.RefType.{RefType}
use Rattle.core_types.specs.declared.types.ValType.{ValType}
use Rattle.meaning.specs.validation.Context.{Context}
use Rattle.meaning.specs.validation.Instructions.{HasMemory, IsNamed, IsTable}

-- The second list has, under each index of the first, the same item.
abbrev pub Extends : {X : Type 0} → List X → List X → Type 0
Extends {X} items more =
    (x : ℕ) (item : X) → slice_get items x ≡ Some item → slice_get more x ≡ Some item

-- The second context has all that typing asks of the first. Their tables and memories may differ in their limits. A reference counts only
-- if its function exists.
pub record Carries (a b : Context) : Type 0 where
  pub types : Extends a.types b.types
  pub functions : Extends a.functions b.functions
  pub tables : (x : ℕ) (t : RefType) → IsTable a x t → IsTable b x t
  pub memory : HasMemory a → HasMemory b
  pub globals : Extends a.globals b.globals
  pub elements : Extends a.elements b.elements
  pub datas : a.datas ≤ b.datas
  pub locals : Extends a.locals b.locals
  pub labels : Extends a.labels b.labels
  pub results : (types : List ValType) → a.results ≡ Some types → b.results ≡ Some types
  pub references : (x : ℕ) (f : FuncType) → slice_get a.functions x ≡ Some f
      → IsNamed x a.references → IsNamed x b.references
