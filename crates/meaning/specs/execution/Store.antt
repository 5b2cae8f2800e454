-- The store (Execution, Runtime Structure).
use Rattle.std.specs.Prelude.{ℕ, List, [], Option, Some, None, option_map, slice_get, slice_set, unwrap_or}
use Rattle.core_types.specs.declared.outcome.Val.{Val}
use Rattle.core_types.specs.declared.outcome.Extern.{Extern}
use Rattle.core_types.specs.declared.outcome.Extern.TheVariants as value
use Rattle.core_types.specs.declared.types.ExternType.{ExternType}
use Rattle.core_types.specs.declared.types.ExternType.TheVariants as type
use Rattle.core_types.specs.declared.types.GlobalType.{GlobalType}
use Rattle.meaning.specs.execution.Memories.{MemoryInstance}
use Rattle.meaning.specs.execution.Tables.{ElementInstance, TableInstance}
use Rattle.core_types.specs.declared.types.ValType.{ValType}
use Rattle.core_types.specs.declared.types.FuncType.{FuncType}
use Rattle.core_types.specs.declared.module.Export.{Export}
use Rattle.meaning.specs.structure.Bodies.{Body}

-- The code of a function: the types of its locals without the parameters, and its body.
pub record Code : Type 0 where
  pub locals : List ValType
  pub body : Body

-- What a function instance runs: code in the module instance at an address, or the host function of a number.
pub data Implementation : Type 0 where
  InCode : (instance : ℕ) (code : Code) → Implementation
  InHost : (number : ℕ) → Implementation

-- A function instance (Function Instances).
pub record FunctionInstance : Type 0 where
  pub ty : FuncType
  pub implementation : Implementation

-- A global instance: its type and its value (Global Instances).
pub record GlobalInstance : Type 0 where
  pub ty : GlobalType
  pub value : Val

-- A data instance: its bytes. There are none after it was dropped (Data Instances).
pub record DataInstance : Type 0 where
  pub bytes : List ℕ

-- A module instance: its types, the addresses of what it has of each kind, and its exports (Module Instances).
pub record ModuleInstance : Type 0 where
  pub types : List FuncType
  pub functions : List ℕ
  pub tables : List ℕ
  pub memories : List ℕ
  pub globals : List ℕ
  pub elements : List ℕ
  pub datas : List ℕ
  pub exports : List Export

-- Objects that a run may change, one list for each kind.
pub record ObjectLists : Type 0 where
  pub tables : List TableInstance
  pub memories : List MemoryInstance
  pub globals : List GlobalInstance
  pub elements : List ElementInstance
  pub datas : List DataInstance

-- The objects of each kind by address, the most pages of a memory, and the most entries of a table. The embedding chooses these bounds.
pub record Store : Type 0 where
  pub functions : List FunctionInstance
  pub instances : List ModuleInstance
  pub tables : List TableInstance
  pub memories : List MemoryInstance
  pub globals : List GlobalInstance
  pub elements : List ElementInstance
  pub datas : List DataInstance
  pub pages : ℕ
  pub entries : ℕ

-- ---- look-ups, which are total

-- The result of a look-up that finds no instance.
abbrev pub no_instance : ModuleInstance
no_instance = record {
  types = [];
  functions = [];
  tables = [];
  memories = [];
  globals = [];
  elements = [];
  datas = [];
  exports = [];
}

-- The module instance at an address. Outside of all modules there is none.
abbrev pub instance_of : Store → Option ℕ → ModuleInstance
instance_of store None = no_instance
instance_of store (Some address) = unwrap_or (slice_get store.instances address) no_instance

-- The object at an address, if there is an address.
abbrev pub item_of : {T : Type 0} → List T → Option ℕ → Option T
item_of items None = None
item_of items (Some address) = slice_get items address

-- The object that an instance has under an index: the instance has its address under that index.
abbrev pub item_at : {T : Type 0} → List T → List ℕ → ℕ → Option T
item_at items addresses x = item_of items (slice_get addresses x)

-- The object at an address, and the address, if it is there.
abbrev pub locate_at : {T : Type 0} → ℕ → Option T → Option (ℕ × T)
locate_at address None = None
locate_at address (Some object) = Some (address, object)

abbrev pub locate : {T : Type 0} → List T → Option ℕ → Option (ℕ × T)
locate items None = None
locate items (Some address) = locate_at address (slice_get items address)

-- The type of an external value that exists. The minimum of a table or a memory is its present size (External Typing).
abbrev pub extern_type : Store → Extern → Option ExternType
extern_type store (value.Func address) =
    option_map (λ (f : FunctionInstance). type.Func f.ty) (slice_get store.functions address)
extern_type store (value.Table address) =
    option_map (λ (table : TableInstance). type.Table table.ty) (slice_get store.tables address)
extern_type store (value.Memory address) = option_map
    (λ (memory : MemoryInstance). type.Memory memory.limits) (slice_get store.memories address)
extern_type store (value.Global address) =
    option_map (λ (g : GlobalInstance). type.Global g.ty) (slice_get store.globals address)

-- ---- changes

abbrev pub with_table : Store → (address : ℕ) → TableInstance → Store
with_table store address table = record store { tables = slice_set store.tables address table }

abbrev pub with_memory : Store → (address : ℕ) → MemoryInstance → Store
with_memory store address memory =
    record store { memories = slice_set store.memories address memory }

abbrev pub with_global : Store → (address : ℕ) → GlobalInstance → Store
with_global store address g = record store { globals = slice_set store.globals address g }

abbrev pub with_data : Store → (address : ℕ) → DataInstance → Store
with_data store address segment = record store { datas = slice_set store.datas address segment }

abbrev pub with_elements : Store → (address : ℕ) → ElementInstance → Store
with_elements store address segment =
    record store { elements = slice_set store.elements address segment }
