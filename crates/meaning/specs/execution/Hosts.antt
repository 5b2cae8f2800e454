-- Host functions (Execution, Instructions, Host Functions): objects of any kind, each with a type and its own relation. The relation is
-- between the object, the arguments and the bytes that it borrows before the call, and its answer, the bytes and the object after it.
use Rattle.std.specs.Prelude.{◌≡◌, ℕ, List, [], length, map, Option, Some, None, option_map, slice_get, slice_set}
use Rattle.std.specs.List.{All}
use Rattle.core_types.specs.declared.types.FuncType.{FuncType}
use Rattle.core_types.specs.declared.types.ValType.{ValType}
use Rattle.core_types.specs.declared.outcome.Val.{Val}
use Rattle.meaning.specs.execution.Memories.{MemoryInstance}
use Rattle.meaning.specs.execution.Runs.{Answer, Results, HostTrap}
use Rattle.meaning.specs.execution.Store.{FunctionInstance, InHost, Store, with_memory}
use Rattle.meaning.specs.execution.Storage.{AreBytes}
use Rattle.meaning.specs.execution.Values.{FitsWidth, type_of}

-- Results of these types, whose numbers have their widths. A trap has no results.
abbrev pub AnswersWith : Answer → List ValType → Type 0
AnswersWith (Results values) types = (map type_of values ≡ types) × All FitsWidth values
AnswersWith (HostTrap code) types = Unit {0}

-- The bytes of the memory that is borrowed, or none if no memory is.
abbrev pub bytes_in : Option MemoryInstance → List ℕ
bytes_in None = []
bytes_in (Some memory) = memory.bytes

abbrev pub memory_lent : Store → (lent : Option ℕ) → Option MemoryInstance
memory_lent store None = None
memory_lent store (Some address) = slice_get store.memories address

abbrev pub lent_bytes : Store → (lent : Option ℕ) → List ℕ
lent_bytes store lent = bytes_in (memory_lent store lent)

-- The store with other bytes in a memory, if the memory exists.
abbrev pub with_bytes : Store → (address : ℕ) → Option MemoryInstance → List ℕ → Store
with_bytes store address None bytes = store
with_bytes store address (Some memory) bytes =
    with_memory store address (record memory { bytes = bytes })

abbrev pub with_lent_bytes : Store → (lent : Option ℕ) → List ℕ → Store
with_lent_bytes store None bytes = store
with_lent_bytes store (Some address) bytes =
    with_bytes store address (slice_get store.memories address) bytes

module _ {H : Type 0} (host_type : H → FuncType) where
  -- A host function has this number and type.
  abbrev pub HasType : List H → (number : ℕ) → FuncType → Type 0
  HasType hosts number t = option_map host_type (slice_get hosts number) ≡ Some t

  -- Each host function of the store exists, and has its type.
  abbrev pub HostsHaveTypes : Store → List H → Type 0
  HostsHaveTypes store hosts =
      (address number : ℕ) (f : FunctionInstance) → slice_get store.functions address ≡ Some f
      → f.implementation ≡ InHost number
      → HasType hosts number f.ty

module _ {H : Type 0} (host_type : H → FuncType)
    (Answers : H → List Val → List ℕ → Answer → List ℕ → H → Type 0) where
  -- The host function of a number answers. Its type stays, and so does the number of bytes that it borrows, and all other host functions.
  -- Its results have its result types, and the bytes after the call are bytes.
  pub record IsHostCall (hosts : List H) (number : ℕ) (arguments : List Val) (bytes : List ℕ)
      (answer : Answer) (bytes' : List ℕ) (hosts' : List H) : Type 0 where
    pub host : H
    pub host' : H
    pub is : slice_get hosts number ≡ Some host
    pub answers : Answers host arguments bytes answer bytes' host'
    pub typed : AnswersWith answer (host_type host).results
    pub same_type : host_type host' ≡ host_type host
    pub same_length : length bytes' ≡ length bytes
    pub are_bytes : AreBytes bytes'
    pub hosts_are : hosts' ≡ slice_set hosts number host'

  -- It borrows the memory at an address, if there is one, and changes nothing else of the store.
  abbrev pub IsHostStep : List H → (number : ℕ) → (lent : Option ℕ) → List Val → Store → Answer
      → Store → List H → Type 0
  IsHostStep hosts number lent arguments store answer store' hosts' =
      (bytes' : List ℕ) × IsHostCall hosts number arguments (lent_bytes store lent) answer bytes'
      hosts'
      × (store' ≡ with_lent_bytes store lent bytes')
