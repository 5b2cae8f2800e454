-- The store of a run of code, whose first memory was taken out of the state.
use Rattle.std.specs.Prelude.{◌≡◌, ℕ, List, Option, Some, None, slice_get}
use Rattle.core_types.specs.declared.types.Limits.{Limits}
use Rattle.meaning.specs.execution.Memories.{MemoryInstance}
use Rattle.meaning.specs.execution.Store.{Store}
use Rattle.sidetable.specs.declared.flat_module.FlatModule.{FlatModule}
use Rattle.store.specs.Contents.{Contents, IsLoaded, store_with}
use Rattle.store.specs.State.{StateContents, put_memory}
use Rattle.store.specs.declared.instances.Instance.{Instance}

-- The parts of a store while code of an instance runs: the instance, its module's flat code, and the state. If the instance has a memory,
-- also its address, its limits and its bytes. Meanwhile another memory is at that address in the state.
pub record World : Type 0 where
  pub code : Contents
  pub state : StateContents
  pub number : ℕ
  pub instance : Instance
  pub flat : FlatModule
  pub address : Option ℕ
  pub limits : Limits
  pub bytes : List ℕ

abbrev pub memory_in : World → MemoryInstance
memory_in w = record { limits = w.limits; bytes = w.bytes }

-- The state, after the memory is put back.
abbrev pub with_memory_back : StateContents → Option ℕ → MemoryInstance → StateContents
with_memory_back s None memory = s
with_memory_back s (Some address) memory = put_memory s address memory

abbrev pub store_in : World → Store
store_in w = store_with w.code (with_memory_back w.state w.address (memory_in w))

-- The instance has this number, this flat code, and this memory.
pub record IsInstance (w : World) : Type 0 where
  pub loaded : IsLoaded w.code w.number w.instance
  pub flat : w.flat ≡ w.instance.loaded.value.flat
  pub memory : slice_get w.instance.addresses.memories.items 0 ≡ w.address

-- A store of this code, seen from the instance of a number.
pub record Sees (its_code : Contents) (seen : Store) (number : ℕ) (w : World) : Type 0 where
  pub store : store_in w ≡ seen
  pub code : w.code ≡ its_code
  pub seen_from : w.number ≡ number
  pub instance : IsInstance w
