-- The effects of the instructions without control (Execution, Instructions), with the cost of each, which is this project's own.
use Rattle.std.specs.Prelude.{ℕ, zero, suc, ◌+◌, List, [], ◌∷◌, length, Option, Some, None, Result, Ok, Err, slice_get, slice_set, nat_lt, if◌then◌else◌}
use Rattle.core_types.specs.declared.op.ControlOp.TheVariants.{Unreachable, Nop}
use Rattle.core_types.specs.declared.op.Conversion.TheVariants.{I32WrapI64, I64ExtendI32S, I64ExtendI32U, I64Extend32S}
use Rattle.core_types.specs.declared.op.Width.TheVariants.{W32, W64}
use Rattle.core_types.specs.declared.op.NumericOp.{NumericOp}
use Rattle.core_types.specs.declared.op.NumericOp.TheVariants.{Eqz, Compare, Unary, Binary, Convert}
use Rattle.core_types.specs.declared.op.ParametricOp.{ParametricOp}
use Rattle.core_types.specs.declared.op.ParametricOp.TheVariants.{DropOperand, Select}
use Rattle.core_types.specs.declared.op.VariableOp.{VariableOp}
use Rattle.core_types.specs.declared.op.VariableOp.TheVariants.{LocalGet, LocalSet, LocalTee, GlobalGet, GlobalSet}
use Rattle.core_types.specs.declared.op.ReferenceOp.{ReferenceOp}
use Rattle.core_types.specs.declared.op.ReferenceOp.TheVariants.{Null, IsNull, Func}
use Rattle.core_types.specs.declared.op.TableOp.{TableOp}
use Rattle.core_types.specs.declared.op.TableOp.TheVariants as table_op
use Rattle.core_types.specs.declared.op.MemoryOp.{MemoryOp}
use Rattle.core_types.specs.declared.op.MemoryOp.TheVariants.{Load, Store as StoreNumber, Size, Grow, Fill, Copy, Init, DataDrop}
use Rattle.core_types.specs.declared.op.StoreOp.{StoreOp}
use Rattle.core_types.specs.declared.op.PlainOp.{PlainOp}
use Rattle.core_types.specs.declared.op.PlainOp.TheVariants.{Control, I32Const, I64Const, Memory, Numeric, Parametric, Reference, SelectTyped, Table, Variable}
use Rattle.core_types.specs.declared.outcome.Val.{Val}
use Rattle.core_types.specs.declared.outcome.Val.TheVariants.{I32, I64, FuncRef, ExternRef}
use Rattle.core_types.specs.declared.outcome.Trap.{Trap}
use Rattle.core_types.specs.declared.outcome.Trap.TheVariants.{Unreachable as UnreachableTrap}
use Rattle.meaning.specs.execution.Configurations.{Frame}
use Rattle.meaning.specs.execution.Costs.{bulk_cost, entries_cost, growth_cost, instruction_cost}
use Rattle.meaning.specs.execution.Numerics.{binary_operator, comparison_operator, conversion_operator, eqz_operator, unary_operator}
use Rattle.meaning.specs.execution.Memories.{MemoryInstance, can_grow, copy_bytes, fill_bytes, grow_by, load_from, store_into, stored_number}
use Rattle.meaning.specs.validation.Types.{most_pages}
use Rattle.meaning.specs.validation.Instructions.{store_width}
use Rattle.meaning.specs.execution.Tables.{ElementInstance, TableInstance, copy_entries, fill_entries, grow_entries, most_entries, read_entry, write_entry}
use Rattle.meaning.specs.execution.Store.{DataInstance, GlobalInstance, Store, instance_of, locate, with_data, with_elements, with_global, with_memory, with_table}
use Rattle.meaning.specs.execution.Values.{null_of}

-- The effect of an instruction without control. `Done` is a new store, locals and values, at a cost. `Grown` is the same, and a memory or
-- a table grows. `Fails` is a trap. `Lacks` is no effect: operands are missing or of another type, or what the instruction names does not
-- exist.
pub data Effect : Type 0 where
  Done : (cost : ℕ) (store : Store) (locals values : List Val) → Effect
  Grown : (cost : ℕ) (store : Store) (locals values : List Val) → Effect
  Fails : (trap : Trap) → Effect
  Lacks : Effect

-- ---- instructions without control

-- local.get: the value of a local (Variable Instructions).
abbrev pub get_local : Store → Frame → Option Val → List Val → Effect
get_local store frame None values = Lacks
get_local store frame (Some v) values = Done instruction_cost store frame.locals (v ∷ values)

-- local.set and local.tee: the local gets the value. local.tee also leaves it on the stack.
abbrev pub set_local : Store → Frame → ℕ → Val → List Val → Effect
set_local store frame x v values =
    if nat_lt x (length frame.locals)
    then Done instruction_cost store (slice_set frame.locals x v) values
    else Lacks

-- The address of the global that the frame's instance has under an index, and the global.
abbrev pub global_at : Store → Frame → ℕ → Option (ℕ × GlobalInstance)
global_at store frame x =
    locate store.globals (slice_get (instance_of store frame.instance).globals x)

-- global.get.
abbrev pub get_global : Store → Frame → Option (ℕ × GlobalInstance) → List Val → Effect
get_global store frame None values = Lacks
get_global store frame (Some (address, g)) values =
    Done instruction_cost store frame.locals (g.value ∷ values)

-- global.set.
abbrev pub set_global : Store → Frame → Option (ℕ × GlobalInstance) → Val → List Val → Effect
set_global store frame None v values = Lacks
set_global store frame (Some (address, g)) v values =
    Done instruction_cost (with_global store address (record { ty = g.ty; value = v }))
    frame.locals values

-- An instruction on a local or a global (Variable Instructions).
abbrev pub variable_effect : Store → Frame → VariableOp → List Val → Effect
variable_effect store frame (LocalGet x) values =
    get_local store frame (slice_get frame.locals x) values
variable_effect store frame (LocalSet x) (v ∷ values) = set_local store frame x v values
variable_effect store frame (LocalTee x) (v ∷ values) = set_local store frame x v (v ∷ values)
variable_effect store frame (GlobalGet x) values =
    get_global store frame (global_at store frame x) values
variable_effect store frame (GlobalSet x) (v ∷ values) =
    set_global store frame (global_at store frame x) v values
variable_effect store frame op values = Lacks

-- An operator's integer on top of the values, or its trap.
abbrev pub push_result : Store → Frame → (ℕ → Val) → Result ℕ Trap → List Val → Effect
push_result store frame integer (Ok n) values =
    Done instruction_cost store frame.locals (integer n ∷ values)
push_result store frame integer (Err trap) values = Fails trap

-- t.testop, t.relop, t.unop, t.binop and the conversions, the first operand below the second (Numeric Instructions).
abbrev pub numeric_effect : Store → Frame → NumericOp → List Val → Effect
numeric_effect store frame (Eqz W32) (I32 a ∷ values) =
    Done instruction_cost store frame.locals (I32 (eqz_operator a) ∷ values)
numeric_effect store frame (Eqz W64) (I64 a ∷ values) =
    Done instruction_cost store frame.locals (I32 (eqz_operator a) ∷ values)
numeric_effect store frame (Compare W32 op) (I32 b ∷ (I32 a ∷ values)) =
    Done instruction_cost store frame.locals (I32 (comparison_operator 32 op a b) ∷ values)
numeric_effect store frame (Compare W64 op) (I64 b ∷ (I64 a ∷ values)) =
    Done instruction_cost store frame.locals (I32 (comparison_operator 64 op a b) ∷ values)
numeric_effect store frame (Unary W32 op) (I32 a ∷ values) =
    Done instruction_cost store frame.locals (I32 (unary_operator 32 op a) ∷ values)
numeric_effect store frame (Unary W64 op) (I64 a ∷ values) =
    Done instruction_cost store frame.locals (I64 (unary_operator 64 op a) ∷ values)
numeric_effect store frame (Binary W32 op) (I32 b ∷ (I32 a ∷ values)) =
    push_result store frame I32 (binary_operator 32 op a b) values
numeric_effect store frame (Binary W64 op) (I64 b ∷ (I64 a ∷ values)) =
    push_result store frame I64 (binary_operator 64 op a b) values
numeric_effect store frame (Convert I32WrapI64) (I64 a ∷ values) =
    Done instruction_cost store frame.locals (I32 (conversion_operator I32WrapI64 a) ∷ values)
numeric_effect store frame (Convert I64ExtendI32S) (I32 a ∷ values) =
    Done instruction_cost store frame.locals (I64 (conversion_operator I64ExtendI32S a) ∷ values)
numeric_effect store frame (Convert I64ExtendI32U) (I32 a ∷ values) =
    Done instruction_cost store frame.locals (I64 (conversion_operator I64ExtendI32U a) ∷ values)
numeric_effect store frame (Convert I64Extend32S) (I64 a ∷ values) =
    Done instruction_cost store frame.locals (I64 (conversion_operator I64Extend32S a) ∷ values)
numeric_effect store frame op values = Lacks

-- select: the first of two values if the i32 over them is not zero, and otherwise the second (Parametric Instructions).
abbrev pub select_operand : Store → Frame → List Val → Effect
select_operand store frame (I32 zero ∷ (b ∷ (a ∷ values))) =
    Done instruction_cost store frame.locals (b ∷ values)
select_operand store frame (I32 (suc n) ∷ (b ∷ (a ∷ values))) =
    Done instruction_cost store frame.locals (a ∷ values)
select_operand store frame values = Lacks

abbrev pub parametric_effect : Store → Frame → ParametricOp → List Val → Effect
parametric_effect store frame DropOperand (v ∷ values) =
    Done instruction_cost store frame.locals values
parametric_effect store frame Select values = select_operand store frame values
parametric_effect store frame op values = Lacks

-- ---- values that were read

-- A value that was read on top of the values, or a trap.
abbrev pub push_read : Store → Frame → Result Val Trap → List Val → Effect
push_read store frame (Ok v) values = Done instruction_cost store frame.locals (v ∷ values)
push_read store frame (Err trap) values = Fails trap

-- ---- references

-- 1 for a null, and otherwise 0.
abbrev pub null_flag : Option ℕ → ℕ
null_flag None = 1
null_flag (Some n) = 0

-- ref.func: the address of the function that the frame's instance has under an index.
abbrev pub refer_to_function : Store → Frame → Option ℕ → List Val → Effect
refer_to_function store frame None values = Lacks
refer_to_function store frame (Some address) values =
    Done instruction_cost store frame.locals (FuncRef (Some address) ∷ values)

-- ref.null, ref.is_null and ref.func (Reference Instructions).
abbrev pub reference_effect : Store → Frame → ReferenceOp → List Val → Effect
reference_effect store frame (Null t) values =
    Done instruction_cost store frame.locals (null_of t ∷ values)
reference_effect store frame IsNull (FuncRef a ∷ values) =
    Done instruction_cost store frame.locals (I32 (null_flag a) ∷ values)
reference_effect store frame IsNull (ExternRef n ∷ values) =
    Done instruction_cost store frame.locals (I32 (null_flag n) ∷ values)
reference_effect store frame (Func x) values =
    refer_to_function store frame (slice_get (instance_of store frame.instance).functions x) values
reference_effect store frame op values = Lacks

-- ---- tables

-- The address of the table that the frame's instance has under an index, and the table.
abbrev pub table_at : Store → Frame → ℕ → Option (ℕ × TableInstance)
table_at store frame x = locate store.tables (slice_get (instance_of store frame.instance).tables x)

-- The element segment that the frame's instance has under an index.
abbrev pub elements_at : Store → Frame → ℕ → Option (ℕ × ElementInstance)
elements_at store frame x =
    locate store.elements (slice_get (instance_of store frame.instance).elements x)

-- Other entries in the table at an address, at a cost, or a trap.
abbrev pub write_table : Store → Frame → (cost address : ℕ) → TableInstance
    → Result (List Val) Trap → List Val → Effect
write_table store frame cost address table (Ok entries) values =
    Done cost (with_table store address (record { ty = table.ty; entries = entries })) frame.locals
    values
write_table store frame cost address table (Err trap) values = Fails trap

-- table.grow: the size before, or -1 if the table may not grow by that many.
abbrev pub grow_table : Store → Frame → (address : ℕ) → TableInstance → Val → (count : ℕ)
    → List Val → Effect
grow_table store frame address table v count values =
    if can_grow store.entries most_entries table.ty.limits count
    then Grown (entries_cost count) (with_table store address (grow_entries table v count))
    frame.locals (I32 table.ty.limits.min ∷ values)
    else Done instruction_cost store frame.locals (I32 4294967295 ∷ values)

-- An instruction on only the table at this address (Table Instructions).
abbrev pub table_effect : Store → Frame → (address : ℕ) → TableInstance → TableOp → List Val
    → Effect
table_effect store frame address table (table_op.Get x) (I32 i ∷ values) =
    push_read store frame (read_entry table.entries i) values
table_effect store frame address table (table_op.Set x) (v ∷ (I32 i ∷ values)) =
    write_table store frame instruction_cost address table (write_entry table.entries i v) values
table_effect store frame address table (table_op.Size x) values =
    Done instruction_cost store frame.locals (I32 table.ty.limits.min ∷ values)
table_effect store frame address table (table_op.Grow x) (I32 count ∷ (v ∷ values)) =
    grow_table store frame address table v count values
table_effect store frame address table (table_op.Fill x) (I32 count ∷ (v ∷ (I32 offset ∷ values))) =
    write_table store frame (entries_cost count) address table
    (fill_entries table.entries offset v count) values
table_effect store frame address table op values = Lacks

-- An instruction on a table of the frame's instance.
abbrev pub on_table : Store → Frame → Option (ℕ × TableInstance) → TableOp → List Val → Effect
on_table store frame None op values = Lacks
on_table store frame (Some (address, table)) op values =
    table_effect store frame address table op values

-- table.copy: from one table to another, or within one.
abbrev pub copy_table : Store → Frame → (into from : Option (ℕ × TableInstance)) → List Val → Effect
copy_table store frame (Some (address, table)) (Some (other, source))
    (I32 count ∷ (I32 from ∷ (I32 target ∷ values))) =
    write_table store frame (entries_cost count) address table
    (copy_entries table.entries source.entries target from count) values
copy_table store frame into from values = Lacks

-- table.init: from the references of an element segment.
abbrev pub init_table : Store → Frame → (into : Option (ℕ × TableInstance))
    → (from : Option (ℕ × ElementInstance)) → List Val → Effect
init_table store frame (Some (address, table)) (Some (other, segment))
    (I32 count ∷ (I32 from ∷ (I32 target ∷ values))) =
    write_table store frame (entries_cost count) address table
    (copy_entries table.entries segment.references target from count) values
init_table store frame into from values = Lacks

-- elem.drop: the segment has no references from then on.
abbrev pub drop_elements : Store → Frame → Option (ℕ × ElementInstance) → List Val → Effect
drop_elements store frame None values = Lacks
drop_elements store frame (Some (address, segment)) values =
    Done instruction_cost (with_elements store address
    (record { ty = segment.ty; references = [] })) frame.locals values

-- An instruction on tables or an element segment.
abbrev pub table_or_elements_effect : Store → Frame → TableOp → List Val → Effect
table_or_elements_effect store frame (table_op.Copy target source) values =
    copy_table store frame (table_at store frame target) (table_at store frame source) values
table_or_elements_effect store frame (table_op.Init segment x) values =
    init_table store frame (table_at store frame x) (elements_at store frame segment) values
table_or_elements_effect store frame (table_op.ElemDrop x) values =
    drop_elements store frame (elements_at store frame x) values
table_or_elements_effect store frame (table_op.Get x) values =
    on_table store frame (table_at store frame x) (table_op.Get x) values
table_or_elements_effect store frame (table_op.Set x) values =
    on_table store frame (table_at store frame x) (table_op.Set x) values
table_or_elements_effect store frame (table_op.Size x) values =
    on_table store frame (table_at store frame x) (table_op.Size x) values
table_or_elements_effect store frame (table_op.Grow x) values =
    on_table store frame (table_at store frame x) (table_op.Grow x) values
table_or_elements_effect store frame (table_op.Fill x) values =
    on_table store frame (table_at store frame x) (table_op.Fill x) values

-- ---- memories

-- Other bytes in the memory at an address, at a cost, or a trap.
abbrev pub write_memory : Store → Frame → (cost address : ℕ) → MemoryInstance
    → Result (List ℕ) Trap → List Val → Effect
write_memory store frame cost address memory (Ok bytes) values =
    Done cost (with_memory store address (record { limits = memory.limits; bytes = bytes }))
    frame.locals values
write_memory store frame cost address memory (Err trap) values = Fails trap

-- t.store and t.storeN: the operand has the instruction's type.
abbrev pub store_number : Store → Frame → (address : ℕ) → MemoryInstance → StoreOp → (offset : ℕ)
    → Option ℕ → List Val → Effect
store_number store frame address memory op offset None values = Lacks
store_number store frame address memory op offset (Some n) values =
    write_memory store frame instruction_cost address memory
    (store_into memory.bytes offset (store_width op) n) values

-- memory.grow: the size before, in pages, or -1 if the memory may not grow by that many.
abbrev pub grow_memory : Store → Frame → (address : ℕ) → MemoryInstance → (pages : ℕ) → List Val
    → Effect
grow_memory store frame address memory pages values =
    if can_grow store.pages most_pages memory.limits pages
    then Grown (growth_cost pages) (with_memory store address (grow_by memory pages)) frame.locals
    (I32 memory.limits.min ∷ values)
    else Done instruction_cost store frame.locals (I32 4294967295 ∷ values)

-- The data segment that the frame's instance has under an index.
abbrev pub data_at : Store → Frame → ℕ → Option (ℕ × DataInstance)
data_at store frame x = locate store.datas (slice_get (instance_of store frame.instance).datas x)

-- memory.init: from the bytes of a data segment.
abbrev pub init_memory : Store → Frame → (address : ℕ) → MemoryInstance → Option (ℕ × DataInstance)
    → List Val → Effect
init_memory store frame address memory (Some (at, segment))
    (I32 count ∷ (I32 from ∷ (I32 target ∷ values))) =
    write_memory store frame (bulk_cost count) address memory
    (copy_bytes memory.bytes segment.bytes target from count) values
init_memory store frame address memory found values = Lacks

-- An instruction on the memory at this address (Memory Instructions).
abbrev pub memory_effect : Store → Frame → (address : ℕ) → MemoryInstance → MemoryOp → List Val
    → Effect
memory_effect store frame address memory (Load op arg) (I32 i ∷ values) =
    push_read store frame (load_from op memory.bytes (i + arg.offset)) values
memory_effect store frame address memory (StoreNumber op arg) (v ∷ (I32 i ∷ values)) =
    store_number store frame address memory op (i + arg.offset) (stored_number op v) values
memory_effect store frame address memory Size values =
    Done instruction_cost store frame.locals (I32 memory.limits.min ∷ values)
memory_effect store frame address memory Grow (I32 pages ∷ values) =
    grow_memory store frame address memory pages values
memory_effect store frame address memory Fill (I32 count ∷ (I32 value ∷ (I32 target ∷ values))) =
    write_memory store frame (bulk_cost count) address memory
    (fill_bytes memory.bytes target value count) values
memory_effect store frame address memory Copy (I32 count ∷ (I32 from ∷ (I32 target ∷ values))) =
    write_memory store frame (bulk_cost count) address memory
    (copy_bytes memory.bytes memory.bytes target from count) values
memory_effect store frame address memory (Init x) values =
    init_memory store frame address memory (data_at store frame x) values
memory_effect store frame address memory op values = Lacks

-- An instruction in the memory of the frame's instance.
abbrev pub in_memory : Store → Frame → Option (ℕ × MemoryInstance) → MemoryOp → List Val → Effect
in_memory store frame None op values = Lacks
in_memory store frame (Some (address, memory)) op values =
    memory_effect store frame address memory op values

-- data.drop: the segment has no bytes from then on.
abbrev pub drop_data : Store → Frame → Option (ℕ × DataInstance) → List Val → Effect
drop_data store frame None values = Lacks
drop_data store frame (Some (address, segment)) values =
    Done instruction_cost (with_data store address (record { bytes = [] })) frame.locals values

-- An instruction on the memory or a data segment.
abbrev pub memory_or_data_effect : Store → Frame → MemoryOp → List Val → Effect
memory_or_data_effect store frame (DataDrop x) values =
    drop_data store frame (data_at store frame x) values
memory_or_data_effect store frame op values =
    in_memory store frame (locate store.memories
    (slice_get (instance_of store frame.instance).memories 0)) op values

-- An instruction without control, in a frame.
abbrev pub effect : Store → Frame → PlainOp → List Val → Effect
effect store frame (Control Unreachable) values = Fails UnreachableTrap
effect store frame (Control Nop) values = Done instruction_cost store frame.locals values
effect store frame (Variable op) values = variable_effect store frame op values
effect store frame (Numeric op) values = numeric_effect store frame op values
effect store frame (Reference op) values = reference_effect store frame op values
effect store frame (Table op) values = table_or_elements_effect store frame op values
effect store frame (Memory op) values = memory_or_data_effect store frame op values
effect store frame (Parametric op) values = parametric_effect store frame op values
effect store frame (SelectTyped types) values = select_operand store frame values
effect store frame (I32Const n) values = Done instruction_cost store frame.locals (I32 n ∷ values)
effect store frame (I64Const n) values = Done instruction_cost store frame.locals (I64 n ∷ values)
effect store frame op values = Lacks
