-- Module validity (Validation, Modules).
use Rattle.std.specs.Prelude.{◌≡◌, ◌≢◌, ℕ, ◌<◌, ◌≤◌, List, [], ◌∷◌, ◌++◌, length, map, All, Option, Some, None, unwrap_or, slice_get}
use Rattle.core_types.specs.declared.module.DataMode.{DataMode}
use Rattle.core_types.specs.declared.module.DataMode.TheVariants as data_mode
use Rattle.core_types.specs.declared.module.DataSegment.{DataSegment}
use Rattle.core_types.specs.declared.module.ElementItems.{ElementItems}
use Rattle.core_types.specs.declared.module.ElementItems.TheVariants.{Functions, Expressions}
use Rattle.core_types.specs.declared.module.ElementMode.{ElementMode}
use Rattle.core_types.specs.declared.module.ElementMode.TheVariants.{Passive, Active, Declarative}
use Rattle.core_types.specs.declared.module.ElementSegment.{ElementSegment}
use Rattle.core_types.specs.declared.module.Export.{Export}
use Rattle.core_types.specs.declared.module.ExportDesc.{ExportDesc}
use Rattle.core_types.specs.declared.module.ExportDesc.TheVariants as export
use Rattle.core_types.specs.declared.module.Func.{Func as Function}
use Rattle.core_types.specs.declared.module.Global.{Global}
use Rattle.core_types.specs.declared.module.Import.{Import}
use Rattle.core_types.specs.declared.module.ImportDesc.TheVariants as import
use Rattle.core_types.specs.declared.module.Module.{Module}
use Rattle.core_types.specs.declared.op.BinaryOp.TheVariants.{Add, Sub, Mul}
use Rattle.core_types.specs.declared.op.NumericOp.{NumericOp}
use Rattle.core_types.specs.declared.op.NumericOp.TheVariants.{Binary}
use Rattle.core_types.specs.declared.op.Op.{Op}
use Rattle.core_types.specs.declared.op.Op.TheVariants.{Plain}
use Rattle.core_types.specs.declared.op.PlainOp.TheVariants.{Numeric, Variable, Reference, I32Const, I64Const}
use Rattle.core_types.specs.declared.op.ReferenceOp.TheVariants as reference
use Rattle.core_types.specs.declared.op.VariableOp.TheVariants.{GlobalGet}
use Rattle.core_types.specs.declared.types.FuncType.{FuncType}
use Rattle.core_types.specs.declared.types.GlobalType.{GlobalType}
use Rattle.core_types.specs.declared.types.Limits.{Limits}
use Rattle.core_types.specs.declared.types.Mutability.TheVariants.{Const}
use Rattle.core_types.specs.declared.types.RefType.{RefType}
use Rattle.core_types.specs.declared.types.RefType.TheVariants as ref
use Rattle.core_types.specs.declared.types.TableType.{TableType}
use Rattle.core_types.specs.declared.types.ValType.{ValType}
use Rattle.core_types.specs.declared.types.ValType.TheVariants.{I32}
use Rattle.meaning.specs.structure.Bodies.{Body, writing}
use Rattle.meaning.specs.validation.Context.{Context, with_label}
use Rattle.meaning.specs.validation.Instructions.{HasType, known}
use Rattle.meaning.specs.validation.Types.{AreFewPages, AreOrdered, function_type, reference_type}

-- ---- index spaces, imports first (Modules, Indices)

abbrev pub imported_functions : List Import → List ℕ
imported_functions [] = []
imported_functions (i ∷ is) = elim i.desc [
  | import.Func x ↦ x ∷ imported_functions is
  | import.Table t ↦ imported_functions is
  | import.Memory l ↦ imported_functions is
  | import.Global g ↦ imported_functions is
]

abbrev pub imported_tables : List Import → List TableType
imported_tables [] = []
imported_tables (i ∷ is) = elim i.desc [
  | import.Func x ↦ imported_tables is
  | import.Table t ↦ t ∷ imported_tables is
  | import.Memory l ↦ imported_tables is
  | import.Global g ↦ imported_tables is
]

abbrev pub imported_memories : List Import → List Limits
imported_memories [] = []
imported_memories (i ∷ is) = elim i.desc [
  | import.Func x ↦ imported_memories is
  | import.Table t ↦ imported_memories is
  | import.Memory l ↦ l ∷ imported_memories is
  | import.Global g ↦ imported_memories is
]

abbrev pub imported_globals : List Import → List GlobalType
imported_globals [] = []
imported_globals (i ∷ is) = elim i.desc [
  | import.Func x ↦ imported_globals is
  | import.Table t ↦ imported_globals is
  | import.Memory l ↦ imported_globals is
  | import.Global g ↦ g ∷ imported_globals is
]

-- The type index of each function.
abbrev pub function_indices : Module → List ℕ
function_indices m = imported_functions m.imports ++ map (λ (f : Function). f.ty) m.funcs

abbrev pub tables_of : Module → List TableType
tables_of m = imported_tables m.imports ++ m.tables

abbrev pub memories_of : Module → List Limits
memories_of m = imported_memories m.imports ++ m.memories

abbrev pub globals_of : Module → List GlobalType
globals_of m = imported_globals m.imports ++ map (λ (g : Global). g.ty) m.globals

-- The type of this index. The rules of a module guarantee that it exists.
abbrev pub type_at : List FuncType → ℕ → FuncType
type_at types x = unwrap_or (slice_get types x) (function_type [] [])

-- The types of the functions.
abbrev pub functions_of : Module → List FuncType
functions_of m = map (type_at m.types) (function_indices m)

-- ---- the functions that are named outside of bodies and the start

abbrev pub named_by : List Op → List ℕ
named_by [] = []
named_by (Plain (Reference (reference.Func x)) ∷ ops) = x ∷ named_by ops
named_by (op ∷ ops) = named_by ops

abbrev pub named_by_each : List (List Op) → List ℕ
named_by_each [] = []
named_by_each (ops ∷ others) = named_by ops ++ named_by_each others

abbrev pub named_by_globals : List Global → List ℕ
named_by_globals [] = []
named_by_globals (g ∷ gs) = named_by g.init ++ named_by_globals gs

abbrev pub named_by_items : ElementItems → List ℕ
named_by_items (Functions indices) = indices
named_by_items (Expressions expressions) = named_by_each expressions

abbrev pub named_by_elements : List ElementSegment → List ℕ
named_by_elements [] = []
named_by_elements (e ∷ es) = named_by_items e.items ++ named_by_elements es

abbrev pub named_by_exports : List Export → List ℕ
named_by_exports [] = []
named_by_exports (e ∷ es) = elim e.desc [
  | export.Func x ↦ x ∷ named_by_exports es
  | export.Table x ↦ named_by_exports es
  | export.Memory x ↦ named_by_exports es
  | export.Global x ↦ named_by_exports es
]

abbrev pub named_functions : Module → List ℕ
named_functions m =
    named_by_globals m.globals ++ (named_by_elements m.elements ++ named_by_exports m.exports)

-- ---- contexts

-- The context in which a module's parts are typed, outside of bodies.
abbrev pub module_context : Module → Context
module_context m = record {
  types = m.types;
  functions = functions_of m;
  tables = tables_of m;
  memories = memories_of m;
  globals = globals_of m;
  elements = map (λ (e : ElementSegment). e.ty) m.elements;
  datas = length m.datas;
  locals = [];
  labels = [];
  results = None;
  references = named_functions m;
}

-- The context in which a function of this type, with these locals besides its parameters, is typed.
abbrev pub body_context : Module → FuncType → List ValType → Context
body_context m t locals =
    with_label (record (module_context m) { locals = t.params ++ locals; results = Some t.results })
    t.results

-- The context in which a constant expression is typed. Its globals are the imported ones, which is this project's own rule for all
-- constant expressions.
abbrev pub constant_context : Module → Context
constant_context m = record (module_context m) { globals = imported_globals m.imports }

-- ---- constant expressions (Instructions, Constant Expressions)

-- The integer operators of constant expressions.
abbrev pub IsConstantOperator : NumericOp → Type 0
IsConstantOperator (Binary width Add) = Unit {0}
IsConstantOperator (Binary width Sub) = Unit {0}
IsConstantOperator (Binary width Mul) = Unit {0}
IsConstantOperator op = ⊥

abbrev pub IsConstant : Context → Op → Type 0
IsConstant context (Plain (I32Const n)) = Unit {0}
IsConstant context (Plain (I64Const n)) = Unit {0}
IsConstant context (Plain (Reference (reference.Null t))) = Unit {0}
IsConstant context (Plain (Reference (reference.Func x))) = Unit {0}
IsConstant context (Plain (Variable (GlobalGet x))) =
    (g : GlobalType) × (slice_get context.globals x ≡ Some g) × (g.mutability ≡ Const)
IsConstant context (Plain (Numeric op)) = IsConstantOperator op
IsConstant context op = ⊥

-- Constant instructions that together give one value of the type.
pub record IsConstantExpression (context : Context) (ops : List Op) (t : ValType) : Type 0 where
  pub constant : All (IsConstant context) ops
  pub body : Body
  pub written : ops ≡ writing body
  pub typed : HasType context body [] (known (t ∷ []))

-- ---- the rules of a module's parts

-- The function's type exists, and its body is the writing of a tree that leads from no operands to the results (Functions).
pub record IsValidFunction (m : Module) (f : Function) : Type 0 where
  pub ty : FuncType
  pub has_type : slice_get m.types f.ty ≡ Some ty
  pub body : Body
  pub written : f.body ≡ writing body
  pub typed : HasType (body_context m ty f.locals) body [] (known ty.results)

abbrev pub HasItemsOfType : Module → RefType → ElementItems → Type 0
HasItemsOfType m t (Functions indices) =
    (t ≡ ref.FuncRef) × All (λ (x : ℕ). x < length (function_indices m)) indices
HasItemsOfType m t (Expressions expressions) =
    All (λ (ops : List Op). IsConstantExpression (constant_context m) ops (reference_type t))
    expressions

-- An active segment is for a table of its type, at an i32 (Element Segments).
abbrev pub HasElementMode : Module → RefType → ElementMode → Type 0
HasElementMode m t Passive = Unit {0}
HasElementMode m t Declarative = Unit {0}
HasElementMode m t (Active x offset) =
    (ty : TableType) × (slice_get (tables_of m) x ≡ Some ty) × (ty.element ≡ t)
    × IsConstantExpression (constant_context m) offset I32

pub record IsValidElement (m : Module) (e : ElementSegment) : Type 0 where
  pub items : HasItemsOfType m e.ty e.items
  pub mode : HasElementMode m e.ty e.mode

-- An active segment is for a memory that exists, at an i32 (Data Segments).
abbrev pub HasDataMode : Module → DataMode → Type 0
HasDataMode m data_mode.Passive = Unit {0}
HasDataMode m (data_mode.Active x offset) =
    (x < length (memories_of m)) × IsConstantExpression (constant_context m) offset I32

-- The start function takes and gives nothing (Start Function).
abbrev pub IsValidStart : Module → Option ℕ → Type 0
IsValidStart m None = Unit {0}
IsValidStart m (Some x) = slice_get (functions_of m) x ≡ Some (function_type [] [])

-- The export refers to something that exists (Exports).
abbrev pub Exists : Module → ExportDesc → Type 0
Exists m (export.Func x) = x < length (function_indices m)
Exists m (export.Table x) = x < length (tables_of m)
Exists m (export.Memory x) = x < length (memories_of m)
Exists m (export.Global x) = x < length (globals_of m)

-- No export has the name of an earlier one.
abbrev pub NamesDiffer : List Export → Type 0
NamesDiffer [] = Unit {0}
NamesDiffer (e ∷ es) = All (λ (other : Export). other.name ≢ e.name) es × NamesDiffer es

pub record IsValid (m : Module) : Type 0 where
  pub function_types : All (λ (x : ℕ). x < length m.types) (function_indices m)
  pub bodies : All (IsValidFunction m) m.funcs
  pub table_limits : All (λ (t : TableType). AreOrdered t.limits) (tables_of m)
  pub memory_limits : All AreOrdered (memories_of m)
  pub memory_pages : All AreFewPages (memories_of m)
  pub one_memory : length (memories_of m) ≤ 1
  pub globals : All (λ (g : Global). IsConstantExpression (constant_context m) g.init g.ty.value)
      m.globals
  pub elements : All (IsValidElement m) m.elements
  pub datas : All (λ (d : DataSegment). HasDataMode m d.mode) m.datas
  pub start : IsValidStart m m.start
  pub exports : All (λ (e : Export). Exists m e.desc) m.exports
  pub names_differ : NamesDiffer m.exports
