-- Instruction typing (Validation, Instructions). Lists of types have the top of the stack last.
use Rattle.std.specs.Prelude.{◌≡◌, ℕ, ◌^◌, ◌≤◌, ◌<◌, ◌⊎◌, List, [], ◌∷◌, ◌++◌, map, All, Some, slice_get}
use Rattle.core_types.specs.declared.op.BranchTable.{BranchTable}
use Rattle.core_types.specs.declared.op.ControlOp.{ControlOp}
use Rattle.core_types.specs.declared.op.ControlOp.TheVariants.{Unreachable, Nop, Br, BrIf, Return, Call, CallIndirect, ReturnCall, ReturnCallIndirect}
use Rattle.core_types.specs.declared.op.Conversion.TheVariants.{I32WrapI64, I64ExtendI32S, I64ExtendI32U, I64Extend32S}
use Rattle.core_types.specs.declared.op.LoadOp.{LoadOp}
use Rattle.core_types.specs.declared.op.LoadOp.TheVariants as load
use Rattle.core_types.specs.declared.op.MemoryOp.{MemoryOp}
use Rattle.core_types.specs.declared.op.MemoryOp.TheVariants as memory
use Rattle.core_types.specs.declared.op.NumericOp.{NumericOp}
use Rattle.core_types.specs.declared.op.NumericOp.TheVariants.{Eqz, Compare, Unary, Binary, Convert}
use Rattle.core_types.specs.declared.op.ParametricOp.{ParametricOp}
use Rattle.core_types.specs.declared.op.ParametricOp.TheVariants.{DropOperand, Select}
use Rattle.core_types.specs.declared.op.PlainOp.{PlainOp}
use Rattle.core_types.specs.declared.op.PlainOp.TheVariants.{Control, BrTable, Reference, Parametric, SelectTyped, Variable, Table, Memory, Numeric, I32Const, I64Const}
use Rattle.core_types.specs.declared.op.ReferenceOp.{ReferenceOp}
use Rattle.core_types.specs.declared.op.ReferenceOp.TheVariants as reference
use Rattle.core_types.specs.declared.op.StoreOp.{StoreOp}
use Rattle.core_types.specs.declared.op.StoreOp.TheVariants as store
use Rattle.core_types.specs.declared.op.TableOp.{TableOp}
use Rattle.core_types.specs.declared.op.TableOp.TheVariants as table
use Rattle.core_types.specs.declared.op.VariableOp.{VariableOp}
use Rattle.core_types.specs.declared.op.VariableOp.TheVariants.{LocalGet, LocalSet, LocalTee, GlobalGet, GlobalSet}
use Rattle.core_types.specs.declared.op.Width.{Width}
use Rattle.core_types.specs.declared.op.Width.TheVariants.{W32, W64}
use Rattle.core_types.specs.declared.types.FuncType.{FuncType}
use Rattle.core_types.specs.declared.types.GlobalType.{GlobalType}
use Rattle.core_types.specs.declared.types.Limits.{Limits}
use Rattle.core_types.specs.declared.types.Mutability.TheVariants.{Var}
use Rattle.core_types.specs.declared.types.OperandType.{OperandType}
use Rattle.core_types.specs.declared.types.OperandType.TheVariants.{Known, Unknown}
use Rattle.core_types.specs.declared.types.RefType.{RefType}
use Rattle.core_types.specs.declared.types.RefType.TheVariants as ref
use Rattle.core_types.specs.declared.types.TableType.{TableType}
use Rattle.core_types.specs.declared.types.ValType.{ValType}
use Rattle.core_types.specs.declared.types.ValType.TheVariants.{I32, I64, FuncRef, ExternRef}
use Rattle.meaning.specs.structure.Bodies.{Kind, BlockKind, LoopKind, IfKind, Body, Empty, Then, Nested, IfElse}
use Rattle.meaning.specs.validation.Context.{Context, with_label}
use Rattle.meaning.specs.validation.Types.{block_type, function_type, label_types, reference_type}

-- ---- operands

abbrev pub known : List ValType → List OperandType
known types = map Known types

-- An operand of unknown type fits every type, and is the only one that fits the unknown type.
abbrev pub Fits : OperandType → OperandType → Type 0
Fits Unknown wanted = Unit {0}
Fits (Known t) wanted = wanted ≡ Known t

abbrev pub AllFit : List OperandType → List OperandType → Type 0
AllFit [] [] = Unit {0}
AllFit (t ∷ ts) (u ∷ us) = Fits t u × AllFit ts us
AllFit [] (u ∷ us) = ⊥
AllFit (t ∷ ts) [] = ⊥

-- An instruction that takes these operands and gives those results leads from one stack to the other. The operands below stay.
pub record TakesAndGives (operands results before after : List OperandType) : Type 0 where
  pub below : List OperandType
  pub given : List OperandType
  pub before_is : before ≡ below ++ given
  pub fits : AllFit given operands
  pub after_is : after ≡ below ++ results

-- An instruction of one type: it takes the parameters and gives the results.
abbrev pub HasFuncType : FuncType → List OperandType → List OperandType → Type 0
HasFuncType s operands results = (operands ≡ known s.params) × (results ≡ known s.results)

abbrev pub integer_type : Width → ValType
integer_type W32 = I32
integer_type W64 = I64

-- ---- numeric instructions

abbrev pub numeric_instruction_type : NumericOp → FuncType
numeric_instruction_type (Eqz width) = function_type (integer_type width ∷ []) (I32 ∷ [])
numeric_instruction_type (Compare width op) =
    function_type (integer_type width ∷ integer_type width ∷ []) (I32 ∷ [])
numeric_instruction_type (Unary width op) =
    function_type (integer_type width ∷ []) (integer_type width ∷ [])
numeric_instruction_type (Binary width op) =
    function_type (integer_type width ∷ integer_type width ∷ []) (integer_type width ∷ [])
numeric_instruction_type (Convert I32WrapI64) = function_type (I64 ∷ []) (I32 ∷ [])
numeric_instruction_type (Convert I64ExtendI32S) = function_type (I32 ∷ []) (I64 ∷ [])
numeric_instruction_type (Convert I64ExtendI32U) = function_type (I32 ∷ []) (I64 ∷ [])
numeric_instruction_type (Convert I64Extend32S) = function_type (I64 ∷ []) (I64 ∷ [])

-- ---- reference and parametric instructions

-- The list has this index.
abbrev pub IsNamed : ℕ → List ℕ → Type 0
IsNamed x [] = ⊥
IsNamed x (y ∷ ys) = (x ≡ y) ⊎ IsNamed x ys

abbrev pub reference_rule : Context → ReferenceOp → List OperandType → List OperandType → Type 0
reference_rule context (reference.Null t) operands results =
    HasFuncType (function_type [] (reference_type t ∷ [])) operands results
reference_rule context reference.IsNull operands results =
    (t : RefType) × HasFuncType (function_type (reference_type t ∷ []) (I32 ∷ [])) operands results
reference_rule context (reference.Func x) operands results =
    (f : FuncType) × (slice_get context.functions x ≡ Some f) × IsNamed x context.references
    × HasFuncType (function_type [] (FuncRef ∷ [])) operands results

-- select without types takes numbers, or operands of unknown type.
abbrev pub IsNumeric : OperandType → Type 0
IsNumeric (Known I32) = Unit {0}
IsNumeric (Known I64) = Unit {0}
IsNumeric (Known FuncRef) = ⊥
IsNumeric (Known ExternRef) = ⊥
IsNumeric Unknown = Unit {0}

abbrev pub parametric_rule : ParametricOp → List OperandType → List OperandType → Type 0
parametric_rule DropOperand operands results =
    (t : OperandType) × (operands ≡ t ∷ []) × (results ≡ [])
parametric_rule Select operands results =
    (t : OperandType) × IsNumeric t × (operands ≡ t ∷ t ∷ Known I32 ∷ []) × (results ≡ t ∷ [])

-- ---- variable instructions

abbrev pub IsLocal : Context → ℕ → ValType → Type 0
IsLocal context x t = slice_get context.locals x ≡ Some t

abbrev pub variable_rule : Context → VariableOp → List OperandType → List OperandType → Type 0
variable_rule context (LocalGet x) operands results =
    (t : ValType) × IsLocal context x t × HasFuncType (function_type [] (t ∷ [])) operands results
variable_rule context (LocalSet x) operands results =
    (t : ValType) × IsLocal context x t × HasFuncType (function_type (t ∷ []) []) operands results
variable_rule context (LocalTee x) operands results =
    (t : ValType) × IsLocal context x t ×
    HasFuncType (function_type (t ∷ []) (t ∷ [])) operands results
variable_rule context (GlobalGet x) operands results =
    (g : GlobalType) × (slice_get context.globals x ≡ Some g)
    × HasFuncType (function_type [] (g.value ∷ [])) operands results
variable_rule context (GlobalSet x) operands results =
    (g : GlobalType) × (slice_get context.globals x ≡ Some g) × (g.mutability ≡ Var)
    × HasFuncType (function_type (g.value ∷ []) []) operands results

-- ---- table instructions

-- The table of this index has elements of the type.
abbrev pub IsTable : Context → ℕ → RefType → Type 0
IsTable context x t = (ty : TableType) × (slice_get context.tables x ≡ Some ty) × (ty.element ≡ t)

abbrev pub IsElement : Context → ℕ → RefType → Type 0
IsElement context x t = slice_get context.elements x ≡ Some t

abbrev pub table_rule : Context → TableOp → List OperandType → List OperandType → Type 0
table_rule context (table.Get x) operands results =
    (t : RefType) × IsTable context x t
    × HasFuncType (function_type (I32 ∷ []) (reference_type t ∷ [])) operands results
table_rule context (table.Set x) operands results =
    (t : RefType) × IsTable context x t
    × HasFuncType (function_type (I32 ∷ reference_type t ∷ []) []) operands results
table_rule context (table.Size x) operands results =
    (t : RefType) × IsTable context x t × HasFuncType (function_type [] (I32 ∷ [])) operands results
table_rule context (table.Grow x) operands results =
    (t : RefType) × IsTable context x t
    × HasFuncType (function_type (reference_type t ∷ I32 ∷ []) (I32 ∷ [])) operands results
table_rule context (table.Fill x) operands results =
    (t : RefType) × IsTable context x t
    × HasFuncType (function_type (I32 ∷ reference_type t ∷ I32 ∷ []) []) operands results
table_rule context (table.Copy target source) operands results =
    (t : RefType) × IsTable context target t × IsTable context source t
    × HasFuncType (function_type (I32 ∷ I32 ∷ I32 ∷ []) []) operands results
table_rule context (table.Init segment x) operands results =
    (t : RefType) × IsTable context x t × IsElement context segment t
    × HasFuncType (function_type (I32 ∷ I32 ∷ I32 ∷ []) []) operands results
table_rule context (table.ElemDrop segment) operands results =
    (t : RefType) × IsElement context segment t × HasFuncType (function_type [] []) operands results

-- ---- memory instructions

abbrev pub HasMemory : Context → Type 0
HasMemory context = (limits : Limits) × (slice_get context.memories 0 ≡ Some limits)

-- The number of bytes that an access reads or writes.
abbrev pub width_in_bytes : Width → ℕ
width_in_bytes W32 = 4
width_in_bytes W64 = 8

abbrev pub load_width : LoadOp → ℕ
load_width (load.Whole width) = width_in_bytes width
load_width (load.Bits8 width sign) = 1
load_width (load.Bits16 width sign) = 2
load_width (load.Bits32 sign) = 4

abbrev pub load_type : LoadOp → ValType
load_type (load.Whole width) = integer_type width
load_type (load.Bits8 width sign) = integer_type width
load_type (load.Bits16 width sign) = integer_type width
load_type (load.Bits32 sign) = I64

abbrev pub store_width : StoreOp → ℕ
store_width (store.Whole width) = width_in_bytes width
store_width (store.Bits8 width) = 1
store_width (store.Bits16 width) = 2
store_width store.Bits32 = 4

abbrev pub store_type : StoreOp → ValType
store_type (store.Whole width) = integer_type width
store_type (store.Bits8 width) = integer_type width
store_type (store.Bits16 width) = integer_type width
store_type store.Bits32 = I64

abbrev pub memory_rule : Context → MemoryOp → List OperandType → List OperandType → Type 0
memory_rule context (memory.Load op argument) operands results =
    HasMemory context × (2 ^ argument.align ≤ load_width op)
    × HasFuncType (function_type (I32 ∷ []) (load_type op ∷ [])) operands results
memory_rule context (memory.Store op argument) operands results =
    HasMemory context × (2 ^ argument.align ≤ store_width op)
    × HasFuncType (function_type (I32 ∷ store_type op ∷ []) []) operands results
memory_rule context memory.Size operands results =
    HasMemory context × HasFuncType (function_type [] (I32 ∷ [])) operands results
memory_rule context memory.Grow operands results =
    HasMemory context × HasFuncType (function_type (I32 ∷ []) (I32 ∷ [])) operands results
memory_rule context memory.Fill operands results =
    HasMemory context × HasFuncType (function_type (I32 ∷ I32 ∷ I32 ∷ []) []) operands results
memory_rule context memory.Copy operands results =
    HasMemory context × HasFuncType (function_type (I32 ∷ I32 ∷ I32 ∷ []) []) operands results
memory_rule context (memory.Init segment) operands results =
    HasMemory context × (segment < context.datas)
    × HasFuncType (function_type (I32 ∷ I32 ∷ I32 ∷ []) []) operands results
memory_rule context (memory.DataDrop segment) operands results =
    (segment < context.datas) × HasFuncType (function_type [] []) operands results

-- ---- control instructions

abbrev pub IsLabel : Context → ℕ → List ValType → Type 0
IsLabel context label types = slice_get context.labels label ≡ Some types

-- After unreachable, a branch, a return or a tail call, any operands may be there. The operands below those that it takes are
-- unspecified.
abbrev pub control_rule : Context → ControlOp → List OperandType → List OperandType → Type 0
control_rule context Unreachable operands results = Unit {0}
control_rule context Nop operands results = HasFuncType (function_type [] []) operands results
control_rule context (Br label) operands results =
    (below : List OperandType) × (types : List ValType) × IsLabel context label types
    × (operands ≡ below ++ known types)
control_rule context (BrIf label) operands results =
    (types : List ValType) × IsLabel context label types
    × HasFuncType (function_type (types ++ I32 ∷ []) types) operands results
control_rule context Return operands results =
    (below : List OperandType) × (types : List ValType) × (context.results ≡ Some types)
    × (operands ≡ below ++ known types)
control_rule context (Call x) operands results =
    (f : FuncType) × (slice_get context.functions x ≡ Some f)
    × HasFuncType (function_type f.params f.results) operands results
control_rule context (CallIndirect ty x) operands results =
    (f : FuncType) × (slice_get context.types ty ≡ Some f) × IsTable context x ref.FuncRef
    × HasFuncType (function_type (f.params ++ I32 ∷ []) f.results) operands results
control_rule context (ReturnCall x) operands results =
    (f : FuncType) × (below : List OperandType) × (slice_get context.functions x ≡ Some f)
    × (context.results ≡ Some f.results) × (operands ≡ below ++ known f.params)
control_rule context (ReturnCallIndirect ty x) operands results =
    (f : FuncType) × (below : List OperandType) × (slice_get context.types ty ≡ Some f)
    × IsTable context x ref.FuncRef × (context.results ≡ Some f.results)
    × (operands ≡ below ++ known (f.params ++ I32 ∷ []))

-- The operands fit the types that the label carries.
abbrev pub FitsLabel : Context → List OperandType → ℕ → Type 0
FitsLabel context operands label =
    (types : List ValType) × IsLabel context label types × AllFit operands (known types)

-- One list of operands fits every label.
abbrev pub branch_table_rule : Context → BranchTable → List OperandType → Type 0
branch_table_rule context t operands =
    (below given : List OperandType) × (operands ≡ below ++ (given ++ Known I32 ∷ []))
    × All (FitsLabel context given) t.labels × FitsLabel context given t.default

-- ---- all of them

-- The instruction may take the operands and give the results.
abbrev pub Rule : Context → PlainOp → List OperandType → List OperandType → Type 0
Rule context (Control op) operands results = control_rule context op operands results
Rule context (BrTable t) operands results = branch_table_rule context t operands
Rule context (Reference op) operands results = reference_rule context op operands results
Rule context (Parametric op) operands results = parametric_rule op operands results
Rule context (SelectTyped types) operands results =
    (t : ValType) × (types ≡ t ∷ []) ×
    HasFuncType (function_type (t ∷ t ∷ I32 ∷ []) (t ∷ [])) operands results
Rule context (Variable op) operands results = variable_rule context op operands results
Rule context (Table op) operands results = table_rule context op operands results
Rule context (Memory op) operands results = memory_rule context op operands results
Rule context (Numeric op) operands results =
    HasFuncType (numeric_instruction_type op) operands results
Rule context (I32Const n) operands results =
    (n < 2 ^ 32) × HasFuncType (function_type [] (I32 ∷ [])) operands results
Rule context (I64Const n) operands results =
    (n < 2 ^ 64) × HasFuncType (function_type [] (I64 ∷ [])) operands results

-- An if takes an i32 on top of the block's operands.
abbrev pub condition_of : Kind → List ValType
condition_of BlockKind = []
condition_of LoopKind = []
condition_of IfKind = I32 ∷ []

-- An if without else has an empty body for it, which leaves the operands as the results.
abbrev pub FitsWithoutElse : Kind → FuncType → Type 0
FitsWithoutElse BlockKind s = Unit {0}
FitsWithoutElse LoopKind s = Unit {0}
FitsWithoutElse IfKind s = s.params ≡ s.results

-- The body leads from a stack of these types to one of those (Instruction Sequences).
abbrev pub HasType : Context → Body → List OperandType → List OperandType → Type 0
HasType context Empty before after = AllFit before after
HasType context (Then op rest) before after =
    (operands results between : List OperandType) × Rule context op operands results
    × TakesAndGives operands results before between × HasType context rest between after
HasType context (Nested kind type inner rest) before after =
    (s : FuncType) × (between : List OperandType) × (block_type context.types type ≡ Some s)
    × HasType (with_label context (label_types kind s)) inner (known s.params) (known s.results)
    × FitsWithoutElse kind s
    × TakesAndGives (known (s.params ++ condition_of kind)) (known s.results) before between
    × HasType context rest between after
HasType context (IfElse type inner other rest) before after =
    (s : FuncType) × (between : List OperandType) × (block_type context.types type ≡ Some s)
    × HasType (with_label context s.results) inner (known s.params) (known s.results)
    × HasType (with_label context s.results) other (known s.params) (known s.results)
    × TakesAndGives (known (s.params ++ I32 ∷ [])) (known s.results) before between ×
    HasType context rest between after
