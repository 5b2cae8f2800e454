-- Reading the types that instructions name.
use Rattle.std.specs.Prelude.{List, None, Option, Some, drop, if◌then◌else◌, negsuc, pos, ℕ, ℤ}
use Rattle.core_types.specs.declared.op.BlockType.{BlockType}
use Rattle.core_types.specs.declared.op.BlockType.TheVariants as block
use Rattle.core_types.specs.declared.types.RefType.{RefType}
use Rattle.core_types.specs.declared.types.RefType.TheVariants as reference
use Rattle.core_types.specs.declared.types.ValType.{ValType}
use Rattle.core_types.specs.declared.types.ValType.TheVariants as value
use Rattle.core_types.specs.reading.Conventions.{Reading, bare_at, case_at, chosen_at, mapped_at, no_case, ◌>>=◌}
use Rattle.core_types.specs.reading.Values.{begins_negative, begins_with, byte_at, signed_at}

abbrev pub val_type_case : ℕ → Reading ValType
val_type_case =
    case_at 0x7F (bare_at value.I32)
    (case_at 0x7E (bare_at value.I64)
    (case_at 0x70 (bare_at value.FuncRef)
    (case_at 0x6F (bare_at value.ExternRef) no_case)))

unfoldable pub val_type_at : Reading ValType
val_type_at bytes = chosen_at byte_at val_type_case bytes

abbrev pub ref_type_case : ℕ → Reading RefType
ref_type_case =
    case_at 0x70 (bare_at reference.FuncRef) (case_at 0x6F (bare_at reference.ExternRef) no_case)

unfoldable pub ref_type_at : Reading RefType
ref_type_at bytes = chosen_at byte_at ref_type_case bytes

-- A nonnegative signed number.
abbrev pub index_of : ℤ × List ℕ → Option (BlockType × List ℕ)
index_of (pos n, rest) = Some (block.Index n, rest)
index_of (negsuc n, rest) = None

-- A block type that is not empty.
abbrev pub other_block_type_at : Reading BlockType
other_block_type_at bytes =
    if begins_negative bytes then mapped_at block.Value val_type_at bytes
    else (signed_at 33 bytes >>= index_of)

unfoldable pub block_type_at : Reading BlockType
block_type_at bytes =
    if begins_with 0x40 bytes then Some (block.Empty, drop 1 bytes)
    else other_block_type_at bytes
