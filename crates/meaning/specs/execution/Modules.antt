-- Allocation and instantiation of modules (Execution, Modules).
use Rattle.std.specs.Prelude.{◌≡◌, ℕ, zero, suc, ◌+◌, ◌%◌, ◌<◌, ◌≤◌, ◌^◌, List, [], ◌∷◌, ◌++◌, length, map, Option, Some, None, option_map, option_and_then, Result, Ok, Err, slice_get}
use Rattle.std.specs.List.{All}
use Rattle.core_types.specs.declared.module.DataMode.{DataMode}
use Rattle.core_types.specs.declared.module.DataMode.TheVariants as data_mode
use Rattle.core_types.specs.declared.module.DataSegment.{DataSegment}
use Rattle.core_types.specs.declared.module.ElementItems.{ElementItems}
use Rattle.core_types.specs.declared.module.ElementItems.TheVariants.{Functions, Expressions}
use Rattle.core_types.specs.declared.module.ElementMode.{ElementMode}
use Rattle.core_types.specs.declared.module.ElementMode.TheVariants.{Passive, Active, Declarative}
use Rattle.core_types.specs.declared.module.ElementSegment.{ElementSegment}
use Rattle.core_types.specs.declared.module.Func.{Func as Function}
use Rattle.core_types.specs.declared.module.Global.{Global}
use Rattle.core_types.specs.declared.module.Import.{Import}
use Rattle.core_types.specs.declared.module.ImportDesc.{ImportDesc}
use Rattle.core_types.specs.declared.module.ImportDesc.TheVariants as import
use Rattle.core_types.specs.declared.module.Module.{Module}
use Rattle.core_types.specs.declared.op.MemoryOp.TheVariants as memory_op
use Rattle.core_types.specs.declared.op.Op.{Op}
use Rattle.core_types.specs.declared.op.NumericOp.{NumericOp}
use Rattle.core_types.specs.declared.op.NumericOp.TheVariants.{Binary}
use Rattle.core_types.specs.declared.op.Op.TheVariants.{Plain}
use Rattle.core_types.specs.declared.op.PlainOp.{PlainOp}
use Rattle.core_types.specs.declared.op.PlainOp.TheVariants.{I32Const, I64Const, Memory, Numeric, Reference, Table, Variable}
use Rattle.core_types.specs.declared.op.ReferenceOp.TheVariants as reference
use Rattle.core_types.specs.declared.op.TableOp.TheVariants as table_op
use Rattle.core_types.specs.declared.op.VariableOp.TheVariants.{GlobalGet}
use Rattle.core_types.specs.declared.op.Width.TheVariants.{W32, W64}
use Rattle.core_types.specs.declared.outcome.Extern.{Extern}
use Rattle.core_types.specs.declared.outcome.Extern.TheVariants as value
use Rattle.core_types.specs.declared.outcome.Trap.{Trap}
use Rattle.core_types.specs.declared.outcome.Val.{Val}
use Rattle.core_types.specs.declared.outcome.Val.TheVariants.{I32, I64, FuncRef}
use Rattle.core_types.specs.declared.types.ExternType.{ExternType}
use Rattle.core_types.specs.declared.types.ExternType.TheVariants as type
use Rattle.core_types.specs.declared.types.FuncType.{FuncType}
use Rattle.core_types.specs.declared.types.Limits.{Limits}
use Rattle.core_types.specs.declared.types.TableType.{TableType}
use Rattle.meaning.specs.structure.Bodies.{Empty, Then, body_of}
use Rattle.meaning.specs.validation.Matching.{Matches}
use Rattle.meaning.specs.validation.Modules.{type_at}
use Rattle.meaning.specs.execution.Configurations.{Configuration, Frame, Invoking, Running, no_frame}
use Rattle.meaning.specs.execution.Memories.{new_memory}
use Rattle.meaning.specs.execution.Numerics.{binary_operator}
use Rattle.meaning.specs.execution.Runs.{Answer, Ending, WithValues, WithTrap, OutOfFuel, OutOfDepth, OutOfMemory, Run, State}
use Rattle.meaning.specs.execution.Store.{Code, DataInstance, FunctionInstance, GlobalInstance, InCode, ModuleInstance, ObjectLists, Store, extern_type, item_at}
use Rattle.meaning.specs.execution.Tables.{ElementInstance, new_table}
use Rattle.meaning.specs.execution.Values.{null_of}

-- ---- imports

-- The type that an import requires, if it exists.
abbrev pub import_type : Module → ImportDesc → Option ExternType
import_type m (import.Func x) = option_map (λ (t : FuncType). type.Func t) (slice_get m.types x)
import_type m (import.Table t) = Some (type.Table t)
import_type m (import.Memory l) = Some (type.Memory l)
import_type m (import.Global g) = Some (type.Global g)

-- The external value may be given for an import of this type.
abbrev pub IsGiven : Store → Extern → (wanted : Option ExternType) → Type 0
IsGiven store e wanted =
    (given ty : ExternType) × (extern_type store e ≡ Some given) × (wanted ≡ Some ty) ×
    Matches given ty

-- Each of these imports is given what it requires. Values after the last import are ignored.
abbrev pub AreGiven : Store → Module → List Import → List Extern → Type 0
AreGiven store m [] externs = Unit {0}
AreGiven store m (i ∷ imports) [] = ⊥
AreGiven store m (i ∷ imports) (e ∷ externs) =
    IsGiven store e (import_type m i.desc) × AreGiven store m imports externs

-- ---- allocation (Allocation)

-- That many consecutive addresses.
abbrev pub consecutive : (first count : ℕ) → List ℕ
consecutive first zero = []
consecutive first (suc count) = first ∷ consecutive (suc first) count

-- The address of an external value, if it is of a kind.
abbrev pub function_address : Extern → Option ℕ
function_address (value.Func a) = Some a
function_address e = None

abbrev pub table_address : Extern → Option ℕ
table_address (value.Table a) = Some a
table_address e = None

abbrev pub memory_address : Extern → Option ℕ
memory_address (value.Memory a) = Some a
memory_address e = None

abbrev pub global_address : Extern → Option ℕ
global_address (value.Global a) = Some a
global_address e = None

-- An address before others, if there is one.
abbrev pub before : Option ℕ → List ℕ → List ℕ
before None addresses = addresses
before (Some a) addresses = a ∷ addresses

-- The addresses of the external values of a kind, in their order (External Values, Conventions).
abbrev pub given_addresses : (Extern → Option ℕ) → List Extern → List ℕ
given_addresses address_of [] = []
given_addresses address_of (e ∷ es) = before (address_of e) (given_addresses address_of es)

-- The new instance of a module. For each kind it has first what is given for its imports, and then its own objects, in its order. Its own
-- objects get the next addresses of the store (Modules).
abbrev pub new_instance : Store → Module → (given : List Extern) → ModuleInstance
new_instance store m given = record {
  types = m.types;
  functions = given_addresses function_address given ++
      consecutive (length store.functions) (length m.funcs);
  tables =
      given_addresses table_address given ++ consecutive (length store.tables) (length m.tables);
  memories = given_addresses memory_address given ++
      consecutive (length store.memories) (length m.memories);
  globals = given_addresses global_address given ++
      consecutive (length store.globals) (length m.globals);
  elements = consecutive (length store.elements) (length m.elements);
  datas = consecutive (length store.datas) (length m.datas);
  exports = m.exports;
}

-- The code of a function of a module.
abbrev pub code_of : Function → Code
code_of f = record { locals = f.locals; body = body_of f.body }

-- A function of a module, in the instance at an address (Functions).
abbrev pub new_function : (instance : ℕ) → Module → Function → FunctionInstance
new_function instance m f =
    record { ty = type_at m.types f.ty; implementation = InCode instance (code_of f) }

-- ---- constant expressions (Instantiation)

-- The value of a constant instruction. The global that it reads must already exist.
abbrev pub constant : Store → ModuleInstance → PlainOp → Option Val
constant store i (I32Const n) = Some (I32 n)
constant store i (I64Const n) = Some (I64 n)
constant store i (Reference (reference.Null t)) = Some (null_of t)
constant store i (Reference (reference.Func x)) =
    option_map (λ (a : ℕ). FuncRef (Some a)) (slice_get i.functions x)
constant store i (Variable (GlobalGet x)) =
    option_map (λ (g : GlobalInstance). g.value) (item_at store.globals i.globals x)
constant store i op = None

-- An integer pushed on the operands, if there is one.
abbrev pub with_integer : (ℕ → Val) → Result ℕ Trap → List Val → Option (List Val)
with_integer integer (Ok n) operands = Some (integer n ∷ operands)
with_integer integer (Err trap) operands = None

-- The operands after an operator. The list has the last operand first (Numeric Instructions).
abbrev pub operate : NumericOp → List Val → Option (List Val)
operate (Binary W32 op) (I32 b ∷ (I32 a ∷ operands)) =
    with_integer I32 (binary_operator 32 op a b) operands
operate (Binary W64 op) (I64 b ∷ (I64 a ∷ operands)) =
    with_integer I64 (binary_operator 64 op a b) operands
operate op operands = None

-- The operands after a constant instruction.
abbrev pub constant_step : Store → ModuleInstance → PlainOp → List Val → Option (List Val)
constant_step store i (Numeric op) operands = operate op operands
constant_step store i op operands =
    option_map (λ (v : Val). v ∷ operands) (constant store i op)

-- The operands after constant instructions, executed one after the other.
abbrev pub constant_operands : Store → ModuleInstance → List Op → List Val → Option (List Val)
constant_operands store i [] operands = Some operands
constant_operands store i (Plain op ∷ ops) operands =
    option_and_then (constant_operands store i ops) (constant_step store i op operands)
constant_operands store i (op ∷ ops) operands = None

-- The only one of these values, if there is exactly one.
abbrev pub only : Option (List Val) → Option Val
only (Some (v ∷ [])) = Some v
only values = None

-- The value of a constant expression: the one that its instructions leave.
abbrev pub constant_value : Store → ModuleInstance → List Op → Option Val
constant_value store i ops = only (constant_operands store i ops [])

-- The values of all of these, if each of them has one.
abbrev pub cons : {A : Type 0} → Option A → Option (List A) → Option (List A)
cons (Some x) (Some xs) = Some (x ∷ xs)
cons x xs = None

abbrev pub map_all : {A B : Type 0} → (A → Option B) → List A → Option (List B)
map_all f [] = Some []
map_all f (x ∷ xs) = cons (f x) (map_all f xs)

-- ---- the objects of a module

-- A global, with the value of its constant expression (Globals).
abbrev pub new_global : Store → ModuleInstance → Global → Option GlobalInstance
new_global store i g =
    option_map (λ (v : Val). record { ty = g.ty; value = v }) (constant_value store i g.init)

-- The references of an element segment; a function index represents the ref.func of it.
abbrev pub references : Store → ModuleInstance → ElementItems → Option (List Val)
references store i (Functions indices) =
    map_all (λ (x : ℕ). constant store i (Reference (reference.Func x))) indices
references store i (Expressions expressions) = map_all (constant_value store i) expressions

-- An element segment (Element Segments).
abbrev pub new_elements : Store → ModuleInstance → ElementSegment → Option ElementInstance
new_elements store i e = option_map (λ (vs : List Val). record { ty = e.ty; references = vs })
    (references store i e.items)

-- A data segment (Data Segments).
abbrev pub new_data : DataSegment → DataInstance
new_data d = record { bytes = d.bytes }

abbrev pub objects_with : Module → Option (List GlobalInstance) → Option (List ElementInstance)
    → Option ObjectLists
objects_with m (Some globals) (Some elements) = Some (record {
  tables = map new_table m.tables;
  memories = map new_memory m.memories;
  globals = globals;
  elements = elements;
  datas = map new_data m.datas;
})
objects_with m globals elements = None

-- The new objects, if all constant expressions have values.
abbrev pub new_objects : Store → ModuleInstance → Module → Option ObjectLists
new_objects store i m = objects_with m (map_all (new_global store i) m.globals)
    (map_all (new_elements store i) m.elements)

-- The store with the module's functions, this instance and these objects after the existing ones (Modules).
abbrev pub with_module : Store → ModuleInstance → Module → ObjectLists → Store
with_module store i m objects = record {
  functions = store.functions ++ map (new_function (length store.instances) m) m.funcs;
  instances = store.instances ++ i ∷ [];
  tables = store.tables ++ objects.tables;
  memories = store.memories ++ objects.memories;
  globals = store.globals ++ objects.globals;
  elements = store.elements ++ objects.elements;
  datas = store.datas ++ objects.datas;
  pages = store.pages;
  entries = store.entries;
}

-- The addresses of the module's objects, and of its instance, have 32 bits.
pub record HasRoom (store : Store) (m : Module) : Type 0 where
  pub functions : length store.functions + length m.funcs < 2 ^ 32
  pub instances : length store.instances + 1 < 2 ^ 32
  pub tables : length store.tables + length m.tables < 2 ^ 32
  pub memories : length store.memories + length m.memories < 2 ^ 32
  pub globals : length store.globals + length m.globals < 2 ^ 32
  pub elements : length store.elements + length m.elements < 2 ^ 32
  pub datas : length store.datas + length m.datas < 2 ^ 32

-- No table of the module has more entries, and no memory has more pages, than the embedding allows, and there are addresses for all of
-- its objects. These limits are this project's own.
pub record IsWithinLimits (store : Store) (m : Module) : Type 0 where
  pub few_entries : All (λ (t : TableType). t.limits.min ≤ store.entries) m.tables
  pub few_pages : All (λ (l : Limits). l.min ≤ store.pages) m.memories
  pub room : HasRoom store m

-- A module may be instantiated: its imports are given what they require, and its objects are within the limits.
pub record IsAllowed (store : Store) (m : Module) (externs : List Extern) : Type 0 where
  pub given : AreGiven store m m.imports externs
  pub within : IsWithinLimits store m

-- ---- what a link runs (Instantiation)

pub data Task : Type 0 where
  -- all of a segment is copied to an offset, by the first of these instructions, and dropped by the second
  Copies : (offset : List Op) (count : ℕ) (init drop : PlainOp) → Task
  -- a segment is dropped
  Drops : (drop : PlainOp) → Task
  -- the start function is called
  Starts : (x : ℕ) → Task

abbrev pub item_count : ElementItems → ℕ
item_count (Functions indices) = length indices
item_count (Expressions expressions) = length expressions

-- An element segment of this mode under an index. An active one is copied into its table and dropped, and a declarative one is dropped.
abbrev pub element_task : (x : ℕ) → ElementItems → ElementMode → List Task
element_task x items Passive = []
element_task x items Declarative = Drops (Table (table_op.ElemDrop x)) ∷ []
element_task x items (Active table offset) =
    Copies offset (item_count items) (Table (table_op.Init x table))
    (Table (table_op.ElemDrop x)) ∷ []

-- A data segment of this mode under an index. An active one is copied into the memory and dropped.
abbrev pub data_task : (x : ℕ) → (bytes : List ℕ) → DataMode → List Task
data_task x bytes data_mode.Passive = []
data_task x bytes (data_mode.Active memory offset) =
    Copies offset (length bytes) (Memory (memory_op.Init x)) (Memory (memory_op.DataDrop x)) ∷ []

-- The tasks of items by their indices, in order, from an index on.
abbrev pub tasks_by : {A : Type 0} → (ℕ → A → List Task) → (x : ℕ) → List A → List Task
tasks_by task x [] = []
tasks_by task x (item ∷ items) = task x item ++ tasks_by task (suc x) items

abbrev pub element_tasks : List ElementSegment → List Task
element_tasks es = tasks_by (λ (x : ℕ) (e : ElementSegment). element_task x e.items e.mode) 0 es

abbrev pub data_tasks : List DataSegment → List Task
data_tasks ds = tasks_by (λ (x : ℕ) (d : DataSegment). data_task x d.bytes d.mode) 0 ds

abbrev pub start_task : Option ℕ → List Task
start_task None = []
start_task (Some x) = Starts x ∷ []

-- In order: the element segments, the data segments, the start function.
abbrev pub tasks_of : Module → List Task
tasks_of m = element_tasks m.elements ++ (data_tasks m.datas ++ start_task m.start)

-- A configuration that is run in a frame.
pub record Activity : Type 0 where
  pub frame : Frame
  pub configuration : Configuration

-- A configuration in the frame of the instance at an address.
abbrev pub in_instance : (instance : ℕ) → Configuration → Activity
in_instance instance configuration =
    record {
      frame = record { instance = Some instance; locals = [] };
      configuration = configuration;
    }

-- What a task runs. The operands of a copy are the offset, 0 and the number of items to copy, as an i32, and cost nothing. The start
-- function is called from outside.
abbrev pub activity : Store → (instance : ℕ) → ModuleInstance → Task → Option Activity
activity store instance i (Copies offset count init drop) =
    option_map (λ (v : Val). in_instance instance
    (Running (I32 (count % 2 ^ 32) ∷ (I32 0 ∷ (v ∷ []))) (Then init (Then drop Empty))))
    (constant_value store i offset)
activity store instance i (Drops drop) = Some (in_instance instance (Running [] (Then drop Empty)))
activity store instance i (Starts x) =
    option_map (λ (address : ℕ). record { frame = no_frame; configuration = Invoking [] address })
    (slice_get i.functions x)

-- The ending has no values.
abbrev pub HasNoValues : Ending → Type 0
HasNoValues (WithValues values) = ⊥
HasNoValues (WithTrap trap) = Unit {0}
HasNoValues OutOfFuel = Unit {0}
HasNoValues OutOfDepth = Unit {0}
HasNoValues OutOfMemory = Unit {0}

module _ {H : Type 0} (HostStep : List H → ℕ → Option ℕ → List Val → Store → Answer → Store
    → List H → Type 0) (bound : ℕ) where
  -- A bounded run of this activity.
  abbrev pub RunOf : State H → Activity → Ending → State H → Type 0
  RunOf old a ending new = Run HostStep bound a.frame old a.configuration ending new

  -- The bounded runs of tasks, one after the other, in the instance at an address. A run that ends without values ends them all, and what
  -- was done stays.
  pub data RunTasks (instance : ℕ) (i : ModuleInstance) : State H → List Task → Ending → State H
      → Type 0 where
    all_done : {at : State H} → RunTasks instance i at [] (WithValues []) at
    done : {old between last : State H} {task : Task} {tasks : List Task} {a : Activity}
        {values : List Val} {ending : Ending}
        → activity old.store instance i task ≡ Some a → RunOf old a (WithValues values) between
        → RunTasks instance i between tasks ending last
        → RunTasks instance i old (task ∷ tasks) ending last
    ended : {old last : State H} {task : Task} {tasks : List Task} {a : Activity} {ending : Ending}
        → activity old.store instance i task ≡ Some a → RunOf old a ending last → HasNoValues ending
        → RunTasks instance i old (task ∷ tasks) ending last

  -- The instantiation of a module with what is given for its imports: its objects are allocated, and its tasks are run.
  pub record Instantiation (m : Module) (given : List Extern) (old : State H) (ending : Ending)
      (new : State H) : Type 0 where
    pub objects : ObjectLists
    pub allocated : new_objects old.store (new_instance old.store m given) m ≡ Some objects
    pub ran : RunTasks (length old.store.instances) (new_instance old.store m given)
        (record old { store = with_module old.store (new_instance old.store m given) m objects })
        (tasks_of m) ending new
