-- What the context of the code lends, and the contexts that it describes.
use Rattle.std.specs.Prelude.{List, Option, Some, [], map, option_map, slice_get, true, ℕ, ◌≡◌}
use Rattle.core_types.specs.declared.module.ElementSegment.{ElementSegment}
use Rattle.core_types.specs.declared.types.FuncType.{FuncType}
use Rattle.core_types.specs.declared.types.ValType.{ValType}
use Rattle.meaning.specs.structure.Bodies.{Body}
use Rattle.meaning.specs.validation.Context.{Context, with_label}
use Rattle.meaning.specs.validation.Instructions.{HasType, IsNamed, known}
use Rattle.meaning.specs.validation.Modules.{type_at}
use Rattle.validator.specs.declared.context.BodyContext.{BodyContext}
use Rattle.core_types.specs.declared.types.RefType.{RefType}
use Rattle.core_types.specs.declared.types.TableType.{TableType}

-- The types of the functions, imports first.
abbrev pub function_types : BodyContext → List FuncType
function_types lent = map (type_at lent.types.now) lent.spaces.now.functions.items

-- The element type of a table, and of an element segment, by its index.
abbrev pub table_element_at : BodyContext → ℕ → Option RefType
table_element_at lent x =
    option_map (λ (t : TableType). t.element) (slice_get lent.spaces.now.tables.items x)

abbrev pub segment_type_at : BodyContext → ℕ → Option RefType
segment_type_at lent x =
    option_map (λ (e : ElementSegment). e.ty) (slice_get lent.elements.now x)

-- `ref.func` may name the function.
abbrev pub IsMarked : BodyContext → ℕ → Type 0
IsMarked lent x = slice_get lent.declared.now x ≡ Some true

-- The context has what the context in the code borrows, and no labels. `ref.func` may name the marked functions.
pub record Describes (lent : BodyContext) (context : Context) : Type 0 where
  pub types : context.types ≡ lent.types.now
  pub functions : context.functions ≡ function_types lent
  pub tables : context.tables ≡ lent.spaces.now.tables.items
  pub memories : context.memories ≡ lent.spaces.now.memories.items
  pub globals : context.globals ≡ lent.spaces.now.globals.items
  pub elements : context.elements ≡ map (λ (e : ElementSegment). e.ty) lent.elements.now
  pub datas : context.datas ≡ lent.datas
  pub locals : context.locals ≡ lent.locals
  pub labels : context.labels ≡ []
  pub results : context.results ≡ Some lent.results.now
  pub references : (x : ℕ) → IsMarked lent x → IsNamed x context.references
  pub marks : (x : ℕ) (f : FuncType) → slice_get context.functions x ≡ Some f
      → IsNamed x context.references → IsMarked lent x

-- The body is that of a function with these results, in this context. It leads from no operands to the results.
abbrev pub IsBodyOf : Context → List ValType → Body → Type 0
IsBodyOf context results body = HasType (with_label context results) body [] (known results)
