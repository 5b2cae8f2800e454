-- Worked rows: stores with two instances, each with a function and a memory, and regions of them; and host functions.
use Rattle.std.specs.Prelude.{◌≡◌, ℕ, zero, suc, List, [], ◌∷◌, None, Some, Bool, true, false}
use Rattle.core_types.specs.declared.outcome.Val.TheVariants.{FuncRef}
use Rattle.core_types.specs.declared.types.FuncType.{FuncType}
use Rattle.core_types.specs.declared.types.RefType.TheVariants as ref
use Rattle.meaning.specs.structure.Bodies.{Empty}
use Rattle.meaning.specs.execution.Memories.{MemoryInstance}
use Rattle.meaning.specs.execution.Runs.{Answer, Results, HostTrap}
use Rattle.meaning.specs.execution.Store.{FunctionInstance, InCode, InHost, ModuleInstance, Store}
use Rattle.meaning.specs.execution.Tables.{TableInstance}
use Rattle.meaning.specs.validation.Types.{function_type}
use Rattle.isolation.specs.Hosts.{Behaviour}
use Rattle.isolation.specs.Reach.{Instance, Place}
use Rattle.isolation.specs.Regions.{Marks}

-- The function at an address, in the instance at the same address.
abbrev pub function_in : (instance : ℕ) → FunctionInstance
function_in instance = record {
  ty = function_type [] [];
  implementation = InCode instance (record { locals = []; body = Empty });
}

-- An instance with the function and the memory at an address.
abbrev pub instance_with : (address : ℕ) → ModuleInstance
instance_with address = record {
  types = [];
  functions = address ∷ [];
  tables = [];
  memories = address ∷ [];
  globals = [];
  elements = [];
  datas = [];
  exports = [];
}

abbrev pub no_pages : MemoryInstance
no_pages = record { limits = record { min = 0; max = None }; bytes = [] }

abbrev pub of_two : Store
of_two = record {
  functions = function_in 0 ∷ (function_in 1 ∷ []);
  instances = instance_with 0 ∷ (instance_with 1 ∷ []);
  tables = [];
  memories = no_pages ∷ (no_pages ∷ []);
  globals = [];
  elements = [];
  datas = [];
  pages = 0;
  entries = 0;
}

abbrev pub is_zero : ℕ → Bool
is_zero zero = true
is_zero (suc n) = false

abbrev pub is_one : ℕ → Bool
is_one zero = false
is_one (suc n) = is_zero n

abbrev pub is_none : ℕ → Bool
is_none n = false

-- The region of one function, one instance and one memory.
abbrev pub region_of : (ℕ → Bool) → Marks
region_of only = record {
  functions = only;
  instances = only;
  tables = is_none;
  memories = only;
  globals = is_none;
  elements = is_none;
  datas = is_none;
  hosts = is_none;
}

-- The same without the memory.
abbrev pub without_memory : (ℕ → Bool) → Marks
without_memory only = record (region_of only) { memories = is_none }

-- From the first instance.
abbrev pub FromFirst : Place → Type 0
FromFirst place = place ≡ Instance 0

-- From the second.
abbrev pub FromSecond : Place → Type 0
FromSecond place = place ≡ Instance 1

-- ---- a table entry that leads out

-- A table with a reference to the second function.
abbrev pub table_of_second : TableInstance
table_of_second = record {
  ty = record { element = ref.FuncRef; limits = record { min = 1; max = None } };
  entries = FuncRef (Some 1) ∷ [];
}

-- The same store, in which the first instance has that table.
abbrev pub with_table : Store
with_table = record of_two {
  instances = record (instance_with 0) { tables = 0 ∷ [] } ∷ (instance_with 1 ∷ []);
  tables = table_of_second ∷ [];
}

-- The region of the first instance with its table.
abbrev pub first_with_table : Marks
first_with_table = record (region_of is_zero) { tables = is_zero }

-- ---- a memory that both have

-- The same store, in which the second instance has the memory of the first.
abbrev pub with_shared_memory : Store
with_shared_memory = record of_two {
  instances = instance_with 0 ∷ (record (instance_with 1) { memories = 0 ∷ [] } ∷ []);
}

-- ---- a host function that both import

abbrev pub host_function : FunctionInstance
host_function = record { ty = function_type [] []; implementation = InHost 0 }

-- The same store, with a host function that both instances have.
abbrev pub with_host : Store
with_host = record of_two {
  functions = function_in 0 ∷ (function_in 1 ∷ (host_function ∷ []));
  instances = record (instance_with 0) { functions = 0 ∷ (2 ∷ []) }
      ∷ (record (instance_with 1) { functions = 1 ∷ (2 ∷ []) } ∷ []);
}

-- The host function's address, or one that is marked.
abbrev pub and_two : (ℕ → Bool) → ℕ → Bool
and_two only zero = only 0
and_two only (suc zero) = only 1
and_two only (suc (suc n)) = is_zero n

-- The region of an instance with the host function.
abbrev pub region_with_host : (ℕ → Bool) → Marks
region_with_host only = record (region_of only) { functions = and_two only; hosts = is_zero }

-- ---- the answers of host functions

abbrev pub type_of_none : Unit {0} → FuncType
type_of_none host = function_type [] []

-- Any answer.
abbrev pub answers_anything : Behaviour (Unit {0})
answers_anything = record {
  type = type_of_none;
  may = λ host arguments bytes answer bytes' host'. true;
}

-- A trap with code 0, and no bytes.
abbrev pub is_trap : Answer → List ℕ → Bool
is_trap (Results values) bytes = false
is_trap (HostTrap zero) [] = true
is_trap (HostTrap zero) (byte ∷ bytes) = false
is_trap (HostTrap (suc code)) bytes = false

abbrev pub always_traps : Behaviour (Unit {0})
always_traps = record {
  type = type_of_none;
  may = λ host arguments bytes answer bytes' host'. is_trap answer bytes';
}
