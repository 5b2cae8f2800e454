-- The effects of the instructions on a table on its entries (Execution, Table Instructions). An access that reaches past the end traps
-- before anything is written.
use Rattle.std.specs.Prelude.{ℕ, ◌+◌, List, ◌++◌, length, replicate, slice_get, slice_set, Option, Some, None, Result, Ok, Err, ◌&&◌, nat_le, nat_lt, if◌then◌else◌}
use Rattle.core_types.specs.declared.outcome.Trap.{Trap}
use Rattle.core_types.specs.declared.outcome.Trap.TheVariants.{TableBounds}
use Rattle.core_types.specs.declared.outcome.Val.{Val}
use Rattle.core_types.specs.declared.types.RefType.{RefType}
use Rattle.core_types.specs.declared.types.TableType.{TableType}
use Rattle.meaning.specs.execution.Memories.{raised}
use Rattle.meaning.specs.execution.Storage.{items_at, overwrite}
use Rattle.meaning.specs.execution.Values.{null_of}

-- The most entries that a table may have.
abbrev pub most_entries : ℕ
most_entries = 4294967295

-- A table instance: its type, whose minimum is its present size, and its entries (Table Instances).
pub record TableInstance : Type 0 where
  pub ty : TableType
  pub entries : List Val

-- An element instance: the type of its references, and the references. There are none after it was dropped (Element Instances).
pub record ElementInstance : Type 0 where
  pub ty : RefType
  pub references : List Val

-- A table with the minimum number of entries of its limits, all null (Allocation, Tables).
abbrev pub new_table : TableType → TableInstance
new_table ty = record { ty = ty; entries = replicate ty.limits.min (null_of ty.element) }

-- ---- entries

abbrev pub entry_or_trap : Option Val → Result Val Trap
entry_or_trap None = Err TableBounds
entry_or_trap (Some v) = Ok v

-- table.get.
abbrev pub read_entry : List Val → (offset : ℕ) → Result Val Trap
read_entry entries offset = entry_or_trap (slice_get entries offset)

-- table.set.
abbrev pub write_entry : List Val → (offset : ℕ) → Val → Result (List Val) Trap
write_entry entries offset v =
    if nat_lt offset (length entries) then Ok (slice_set entries offset v) else Err TableBounds

-- ---- bulk instructions

-- table.fill: that many entries become the value.
abbrev pub fill_entries : List Val → (offset : ℕ) → Val → (count : ℕ) → Result (List Val) Trap
fill_entries entries offset v count =
    if nat_le (offset + count) (length entries)
    then Ok (overwrite entries offset (replicate count v))
    else Err TableBounds

-- table.copy and table.init: that many entries become those of a source, which is read before anything is written.
abbrev pub copy_entries : List Val → List Val → (target from count : ℕ) → Result (List Val) Trap
copy_entries entries source target from count =
    if nat_le (from + count) (length source) && nat_le (target + count) (length entries)
    then Ok (overwrite entries target (items_at source from count))
    else Err TableBounds

-- ---- growth

-- The table followed by that many entries of this value (growtable).
abbrev pub grow_entries : TableInstance → Val → (count : ℕ) → TableInstance
grow_entries table v count = record {
  ty = record { element = table.ty.element; limits = raised table.ty.limits count };
  entries = table.entries ++ replicate count v;
}
