-- What is typed in a context is typed in each that extends it.
use Rattle.std.proofs.Common.{◌≡◌, ℕ, zero, suc, List, ◌∷◌, Some, arith}
use Rattle.std.proofs.lemmas.List.Elements.{All-weaker}
use Rattle.core_types.specs.declared.op.BlockType.{BlockType}
use Rattle.core_types.specs.declared.op.BlockType.TheVariants as block
use Rattle.core_types.specs.declared.op.ControlOp.{ControlOp}
use Rattle.core_types.specs.declared.op.ControlOp.TheVariants.{Unreachable, Nop, Br, BrIf, Return, Call, CallIndirect, ReturnCall, ReturnCallIndirect}
use Rattle.core_types.specs.declared.op.MemoryOp.{MemoryOp}
use Rattle.core_types.specs.declared.op.MemoryOp.TheVariants as memory
use Rattle.core_types.specs.declared.op.PlainOp.{PlainOp}
use Rattle.core_types.specs.declared.op.PlainOp.TheVariants.{Control, BrTable, Reference, Parametric, SelectTyped, Variable, Table, Memory, Numeric, I32Const, I64Const}
use Rattle.core_types.specs.declared.op.ReferenceOp.{ReferenceOp}
use Rattle.core_types.specs.declared.op.ReferenceOp.TheVariants as reference
use Rattle.core_types.specs.declared.op.TableOp.{TableOp}
use Rattle.core_types.specs.declared.op.TableOp.TheVariants as table
use Rattle.core_types.specs.declared.op.VariableOp.{VariableOp}
use Rattle.core_types.specs.declared.op.VariableOp.TheVariants.{LocalGet, LocalSet, LocalTee, GlobalGet, GlobalSet}
use Rattle.core_types.specs.declared.types.FuncType.{FuncType}
use Rattle.core_types.specs.declared.types.OperandType.{OperandType}
use Rattle.core_types.specs.declared.types.RefType.TheVariants.{FuncRef}
use Rattle.core_types.specs.declared.types.ValType.{ValType}
use Rattle.meaning.specs.structure.Bodies.{Body, Empty, Then, Nested, IfElse}
use Rattle.meaning.specs.validation.Context.{Context, with_label}
use Rattle.meaning.specs.validation.ContextExtension.{Carries, Extends}
use Rattle.meaning.specs.validation.Instructions.{FitsLabel, HasType, Rule, control_rule, memory_rule, reference_rule, table_rule, variable_rule}
use Rattle.meaning.specs.validation.Types.{block_type, label_types}

-- ---- rules

module _ {a b : Context} (more : Carries a b) where
  label_extension : (operands : List OperandType) (label : ℕ) → FitsLabel a operands label → FitsLabel b operands label
  label_extension operands label (types, is, fits) = (types, more.labels label types is, fits)

  block_type_extension : (type : BlockType) (s : FuncType) → block_type a.types type ≡ Some s → block_type b.types type ≡ Some s
  block_type_extension block.Empty s is = is
  block_type_extension (block.Value t) s is = is
  block_type_extension (block.Index x) s is = more.types x s is

module _ {a b : Context} (more : Carries a b) (operands results : List OperandType) where
  control_extension : (op : ControlOp) → control_rule a op operands results → control_rule b op operands results
  control_extension Unreachable rule = rule
  control_extension Nop rule = rule
  control_extension (Br label) (below, types, is, taken) = (below, types, more.labels label types is, taken)
  control_extension (BrIf label) (types, is, type) = (types, more.labels label types is, type)
  control_extension Return (below, types, is, taken) = (below, types, more.results types is, taken)
  control_extension (Call x) (f, is, type) = (f, more.functions x f is, type)
  control_extension (CallIndirect y x) (f, is, there, type) = (f, more.types y f is, more.tables x FuncRef there, type)
  control_extension (ReturnCall x) (f, below, is, same, taken) = (f, below, more.functions x f is, more.results f.results same, taken)
  control_extension (ReturnCallIndirect y x) (f, below, is, there, same, taken) = (f, below, more.types y f is, more.tables x FuncRef there, more.results f.results same, taken)

  reference_extension : (op : ReferenceOp) → reference_rule a op operands results → reference_rule b op operands results
  reference_extension (reference.Null t) rule = rule
  reference_extension reference.IsNull rule = rule
  reference_extension (reference.Func x) (f, is, named, type) = (f, more.functions x f is, more.references x f is named, type)

  variable_extension : (op : VariableOp) → variable_rule a op operands results → variable_rule b op operands results
  variable_extension (LocalGet x) (t, is, type) = (t, more.locals x t is, type)
  variable_extension (LocalSet x) (t, is, type) = (t, more.locals x t is, type)
  variable_extension (LocalTee x) (t, is, type) = (t, more.locals x t is, type)
  variable_extension (GlobalGet x) (g, is, type) = (g, more.globals x g is, type)
  variable_extension (GlobalSet x) (g, is, variable, type) = (g, more.globals x g is, variable, type)

  table_extension : (op : TableOp) → table_rule a op operands results → table_rule b op operands results
  table_extension (table.Get x) (t, is, type) = (t, more.tables x t is, type)
  table_extension (table.Set x) (t, is, type) = (t, more.tables x t is, type)
  table_extension (table.Size x) (t, is, type) = (t, more.tables x t is, type)
  table_extension (table.Grow x) (t, is, type) = (t, more.tables x t is, type)
  table_extension (table.Fill x) (t, is, type) = (t, more.tables x t is, type)
  table_extension (table.Copy x y) (t, is, from, type) = (t, more.tables x t is, more.tables y t from, type)
  table_extension (table.Init y x) (t, is, from, type) = (t, more.tables x t is, more.elements y t from, type)
  table_extension (table.ElemDrop y) (t, is, type) = (t, more.elements y t is, type)

  memory_extension : (op : MemoryOp) → memory_rule a op operands results → memory_rule b op operands results
  memory_extension (memory.Load op argument) (is, aligned, type) = (more.memory is, aligned, type)
  memory_extension (memory.Store op argument) (is, aligned, type) = (more.memory is, aligned, type)
  memory_extension memory.Size (is, type) = (more.memory is, type)
  memory_extension memory.Grow (is, type) = (more.memory is, type)
  memory_extension memory.Fill (is, type) = (more.memory is, type)
  memory_extension memory.Copy (is, type) = (more.memory is, type)
  memory_extension (memory.Init y) (is, there, type) = (more.memory is, omega (arith, more.datas), type)
  memory_extension (memory.DataDrop y) (there, type) = (omega (arith, more.datas), type)

  Rule-extension : (op : PlainOp) → Rule a op operands results → Rule b op operands results
  Rule-extension (Control op) rule = control_extension op rule
  Rule-extension (BrTable t) (below, given, taken, labels, default) =
      let fits = label_extension more given in
      (below, given, taken, All-weaker (FitsLabel a given) (FitsLabel b given) fits t.labels labels, fits t.default default)
  Rule-extension (Reference op) rule = reference_extension op rule
  Rule-extension (Parametric op) rule = rule
  Rule-extension (SelectTyped types) rule = rule
  Rule-extension (Variable op) rule = variable_extension op rule
  Rule-extension (Table op) rule = table_extension op rule
  Rule-extension (Memory op) rule = memory_extension op rule
  Rule-extension (Numeric op) rule = rule
  Rule-extension (I32Const n) rule = rule
  Rule-extension (I64Const n) rule = rule

-- ---- bodies

labels_extension : (types : List ValType) (labels others : List (List ValType)) → Extends labels others → Extends (types ∷ labels) (types ∷ others)
labels_extension types labels others more zero item is = is
labels_extension types labels others more (suc x) item is = more x item is

-- One more label in both.
Carries-with_label : (a b : Context) (types : List ValType) → Carries a b → Carries (with_label a types) (with_label b types)
Carries-with_label a b types more = record {
  types = more.types;
  functions = more.functions;
  tables = more.tables;
  memory = more.memory;
  globals = more.globals;
  elements = more.elements;
  datas = more.datas;
  locals = more.locals;
  labels = labels_extension types a.labels b.labels more.labels;
  results = more.results;
  references = more.references;
}

pub HasType-extension : (a b : Context) → Carries a b → (body : Body) (before after : List OperandType) → HasType a body before after → HasType b body before after
HasType-extension a b more Empty before after fits = fits
HasType-extension a b more (Then op rest) before after (operands, results, between, rule, frame, last) =
    (operands, results, between, Rule-extension more operands results op rule, frame, HasType-extension a b more rest between after last)
HasType-extension a b more (Nested kind type inner rest) before after (s, between, is, inside, other, frame, last) =
    let under = Carries-with_label a b (label_types kind s) more in
    (s, between, block_type_extension more type s is, HasType-extension _ _ under inner _ _ inside, other, frame, HasType-extension a b more rest between after last)
HasType-extension a b more (IfElse type inner other rest) before after (s, between, is, first, second, frame, last) =
    let under = Carries-with_label a b s.results more in (
      s,
      between,
      block_type_extension more type s is,
      HasType-extension _ _ under inner _ _ first,
      HasType-extension _ _ under other _ _ second,
      frame,
      HasType-extension a b more rest between after last,
    )
