-- The part of the store that a run may change, in the terms of the definitions.
use Rattle.std.specs.Prelude.{ℕ, ◌≤◌, List, [], ◌++◌, length, slice_set, slice_index_or, None}
use Rattle.std.specs.List.{All}
use Rattle.core_types.specs.declared.outcome.Val.{Val}
use Rattle.core_types.specs.declared.outcome.Val.TheVariants.{I32 as I32Value}
use Rattle.core_types.specs.declared.types.Mutability.TheVariants.{Const}
use Rattle.core_types.specs.declared.types.ValType.TheVariants.{I32}
use Rattle.core_types.specs.declared.types.RefType.TheVariants as ref
use Rattle.meaning.specs.execution.Memories.{MemoryInstance}
use Rattle.meaning.specs.execution.Tables.{ElementInstance, TableInstance}
use Rattle.meaning.specs.execution.Store.{DataInstance, GlobalInstance, ObjectLists}
use Rattle.store.specs.Memories.{with_bytes}

-- The number of further objects of each kind for which memory is reserved.
pub record Room : Type 0 where
  pub tables : ℕ
  pub memories : ℕ
  pub globals : ℕ
  pub elements : ℕ
  pub datas : ℕ

-- The most entries of a table, and the most pages of a memory.
pub record Bounds : Type 0 where
  pub entries : ℕ
  pub pages : ℕ

-- The objects by address, the room for more, and the bounds.
pub record StateContents : Type 0 where
  pub contents : ObjectLists
  pub room : Room
  pub bounds : Bounds

-- No table has more entries and no memory more pages than it may have.
abbrev pub IsTableWithin : (entries : ℕ) → TableInstance → Type 0
IsTableWithin entries table = table.ty.limits.min ≤ entries

abbrev pub IsMemoryWithin : (pages : ℕ) → MemoryInstance → Type 0
IsMemoryWithin pages memory = memory.limits.min ≤ pages

pub record AreWithin (bounds : Bounds) (tables : List TableInstance)
    (memories : List MemoryInstance) : Type 0 where
  pub few_entries : All (IsTableWithin bounds.entries) tables
  pub few_pages : All (IsMemoryWithin bounds.pages) memories

-- There is room for these objects.
pub record IsRoomFor (room : Room) (objects : ObjectLists) : Type 0 where
  pub tables : length objects.tables ≤ room.tables
  pub memories : length objects.memories ≤ room.memories
  pub globals : length objects.globals ≤ room.globals
  pub elements : length objects.elements ≤ room.elements
  pub datas : length objects.datas ≤ room.datas

abbrev pub no_objects : ObjectLists
no_objects = record { tables = []; memories = []; globals = []; elements = []; datas = [] }

-- New objects after the existing ones.
abbrev pub append_objects : ObjectLists → ObjectLists → ObjectLists
append_objects old new = record {
  tables = old.tables ++ new.tables;
  memories = old.memories ++ new.memories;
  globals = old.globals ++ new.globals;
  elements = old.elements ++ new.elements;
  datas = old.datas ++ new.datas;
}

-- ---- objects by address, which must exist

abbrev pub no_table : TableInstance
no_table = record {
  ty = record { element = ref.FuncRef; limits = record { min = 0; max = None } };
  entries = [];
}

abbrev pub table_of : StateContents → (address : ℕ) → TableInstance
table_of s address = slice_index_or s.contents.tables address no_table

abbrev pub no_memory : MemoryInstance
no_memory = record { limits = record { min = 0; max = None }; bytes = [] }

abbrev pub memory_of : StateContents → (address : ℕ) → MemoryInstance
memory_of s address = slice_index_or s.contents.memories address no_memory

abbrev pub no_global : GlobalInstance
no_global = record { ty = record { value = I32; mutability = Const }; value = I32Value 0 }

abbrev pub global_of : StateContents → (address : ℕ) → GlobalInstance
global_of s address = slice_index_or s.contents.globals address no_global

abbrev pub no_elements : ElementInstance
no_elements = record { ty = ref.FuncRef; references = [] }

abbrev pub elements_of : StateContents → (address : ℕ) → ElementInstance
elements_of s address = slice_index_or s.contents.elements address no_elements

abbrev pub data_of : StateContents → (address : ℕ) → DataInstance
data_of s address = slice_index_or s.contents.datas address (record { bytes = [] })

-- ---- other objects at an address

abbrev pub put_table : StateContents → (address : ℕ) → TableInstance → StateContents
put_table s address table =
    record s { contents = record s.contents { tables = slice_set s.contents.tables address table } }

abbrev pub put_memory : StateContents → (address : ℕ) → MemoryInstance → StateContents
put_memory s address memory =
    record s {
      contents = record s.contents
          { memories = slice_set s.contents.memories address memory };
    }

abbrev pub put_global : StateContents → (address : ℕ) → Val → StateContents
put_global s address value = record s {
  contents = record s.contents {
    globals = slice_set s.contents.globals address
        (record { ty = (global_of s address).ty; value = value });
  };
}

abbrev pub put_elements : StateContents → (address : ℕ) → ElementInstance → StateContents
put_elements s address segment =
    record s {
      contents = record s.contents
          { elements = slice_set s.contents.elements address segment };
    }

abbrev pub put_data : StateContents → (address : ℕ) → DataInstance → StateContents
put_data s address segment =
    record s { contents = record s.contents { datas = slice_set s.contents.datas address segment } }

-- The state with these bytes written over the first bytes of a memory that was borrowed.
abbrev pub with_lent : StateContents → (address : ℕ) → List ℕ → StateContents
with_lent s address bytes = put_memory s address (with_bytes (memory_of s address) bytes)
