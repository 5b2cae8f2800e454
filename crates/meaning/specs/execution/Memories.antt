-- The effects of the instructions on a memory on its bytes (Execution, Memory Instructions). An access that reaches past the end traps
-- before anything is written.
use Rattle.std.specs.Prelude.{ℕ, ◌+◌, ◌*◌, ◌%◌, List, ◌++◌, length, replicate, Option, Some, None, Result, Ok, Err, Bool, true, ◌&&◌, nat_le, if◌then◌else◌}
use Rattle.core_types.specs.declared.op.LoadOp.{LoadOp}
use Rattle.core_types.specs.declared.op.LoadOp.TheVariants as load
use Rattle.core_types.specs.declared.op.Sign.TheVariants.{Signed, Unsigned}
use Rattle.core_types.specs.declared.op.StoreOp.{StoreOp}
use Rattle.core_types.specs.declared.op.StoreOp.TheVariants as store
use Rattle.core_types.specs.declared.op.Width.TheVariants.{W32, W64}
use Rattle.core_types.specs.declared.outcome.Trap.{Trap}
use Rattle.core_types.specs.declared.outcome.Trap.TheVariants.{MemoryBounds}
use Rattle.core_types.specs.declared.outcome.Val.{Val}
use Rattle.core_types.specs.declared.outcome.Val.TheVariants.{I32, I64}
use Rattle.core_types.specs.declared.types.Limits.{Limits}
use Rattle.meaning.specs.validation.Instructions.{load_width}
use Rattle.meaning.specs.execution.Numerics.{extended}
use Rattle.meaning.specs.execution.Storage.{items_at, bytes_of_number, number_of_bytes, overwrite}

-- The size of a page, in bytes.
abbrev pub page_size : ℕ
page_size = 65536

-- A memory instance: its limits, whose minimum is its present size in pages, and its bytes (Memory Instances).
pub record MemoryInstance : Type 0 where
  pub limits : Limits
  pub bytes : List ℕ

-- A memory with the minimum number of pages of its limits, all zero (Allocation, Memories).
abbrev pub new_memory : Limits → MemoryInstance
new_memory limits = record { limits = limits; bytes = replicate (page_size * limits.min) 0 }

-- ---- loads and stores

-- The value of a load, from the number that it read (t.load and t.loadN_sx).
abbrev pub loaded_value : LoadOp → ℕ → Val
loaded_value (load.Whole W32) n = I32 n
loaded_value (load.Whole W64) n = I64 n
loaded_value (load.Bits8 W32 Signed) n = I32 (extended 8 32 n)
loaded_value (load.Bits8 W32 Unsigned) n = I32 n
loaded_value (load.Bits8 W64 Signed) n = I64 (extended 8 64 n)
loaded_value (load.Bits8 W64 Unsigned) n = I64 n
loaded_value (load.Bits16 W32 Signed) n = I32 (extended 16 32 n)
loaded_value (load.Bits16 W32 Unsigned) n = I32 n
loaded_value (load.Bits16 W64 Signed) n = I64 (extended 16 64 n)
loaded_value (load.Bits16 W64 Unsigned) n = I64 n
loaded_value (load.Bits32 Signed) n = I64 (extended 32 64 n)
loaded_value (load.Bits32 Unsigned) n = I64 n

-- The value of a load at an offset.
abbrev pub load_from : LoadOp → List ℕ → (offset : ℕ) → Result Val Trap
load_from op bytes offset =
    if nat_le (offset + load_width op) (length bytes)
    then Ok (loaded_value op (number_of_bytes (items_at bytes offset (load_width op))))
    else Err MemoryBounds

-- The number that a store writes: that of an integer of its width.
abbrev pub stored_number : StoreOp → Val → Option ℕ
stored_number (store.Whole W32) (I32 n) = Some n
stored_number (store.Whole W64) (I64 n) = Some n
stored_number (store.Bits8 W32) (I32 n) = Some n
stored_number (store.Bits8 W64) (I64 n) = Some n
stored_number (store.Bits16 W32) (I32 n) = Some n
stored_number (store.Bits16 W64) (I64 n) = Some n
stored_number store.Bits32 (I64 n) = Some n
stored_number op value = None

-- The bytes after a store of a number at an offset.
abbrev pub store_into : List ℕ → (offset size : ℕ) → ℕ → Result (List ℕ) Trap
store_into bytes offset size n =
    if nat_le (offset + size) (length bytes)
    then Ok (overwrite bytes offset (bytes_of_number size n))
    else Err MemoryBounds

-- ---- bulk instructions

-- memory.fill: that many bytes become the low byte of the value.
abbrev pub fill_bytes : List ℕ → (offset value count : ℕ) → Result (List ℕ) Trap
fill_bytes bytes offset value count =
    if nat_le (offset + count) (length bytes)
    then Ok (overwrite bytes offset (replicate count (value % 256)))
    else Err MemoryBounds

-- memory.copy and memory.init: that many bytes become those of a source, which is read before anything is written.
abbrev pub copy_bytes : List ℕ → List ℕ → (target from count : ℕ) → Result (List ℕ) Trap
copy_bytes bytes source target from count =
    if nat_le (from + count) (length source) && nat_le (target + count) (length bytes)
    then Ok (overwrite bytes target (items_at source from count))
    else Err MemoryBounds

-- ---- growth

-- The size is not greater than the declared maximum, if there is one.
abbrev pub is_within : Option ℕ → ℕ → Bool
is_within None size = true
is_within (Some max) size = nat_le size max

-- Whether a memory or a table of these limits may grow by that many. It may grow up to its maximum, to the most that any may have, and to
-- the bound of the embedding.
abbrev pub can_grow : (bound most : ℕ) → Limits → (more : ℕ) → Bool
can_grow bound most limits more =
    nat_le (limits.min + more) bound &&
    (nat_le (limits.min + more) most && is_within limits.max (limits.min + more))

-- The limits with a present size that is greater by that many.
abbrev pub raised : Limits → (more : ℕ) → Limits
raised limits more = record { min = limits.min + more; max = limits.max }

-- The memory followed by that many pages of zeros (growmem).
abbrev pub grow_by : MemoryInstance → (pages : ℕ) → MemoryInstance
grow_by memory pages = record {
  limits = raised memory.limits pages;
  bytes = memory.bytes ++ replicate (page_size * pages) 0;
}
