-- Reading instructions.
use Rattle.std.specs.Prelude.{List, None, Option, Some, [], if◌then◌else◌, map, nat_le, replicate, slice_get, ℕ, ◌++◌, ◌-◌, ◌∷◌}
use Rattle.core_types.specs.declared.op.BranchTable.{BranchTable}
use Rattle.core_types.specs.declared.op.ControlOp.{ControlOp}
use Rattle.core_types.specs.declared.op.ControlOp.TheVariants.{Br, BrIf, Call, CallIndirect, Nop, Return, ReturnCall, ReturnCallIndirect, Unreachable}
use Rattle.core_types.specs.declared.op.Conversion.TheVariants.{I32WrapI64, I64Extend32S, I64ExtendI32S, I64ExtendI32U}
use Rattle.core_types.specs.declared.op.MemArg.{MemArg}
use Rattle.core_types.specs.declared.op.MemoryOp.{MemoryOp}
use Rattle.core_types.specs.declared.op.MemoryOp.TheVariants as memory
use Rattle.core_types.specs.declared.op.NumericOp.{NumericOp}
use Rattle.core_types.specs.declared.op.NumericOp.TheVariants.{Binary, Compare, Convert, Eqz, Unary}
use Rattle.core_types.specs.declared.op.Op.{Op}
use Rattle.core_types.specs.declared.op.Op.TheVariants.{Block, Else, End, If, Loop, Plain}
use Rattle.core_types.specs.declared.op.ParametricOp.{ParametricOp}
use Rattle.core_types.specs.declared.op.ParametricOp.TheVariants.{DropOperand, Select}
use Rattle.core_types.specs.declared.op.PlainOp.{PlainOp}
use Rattle.core_types.specs.declared.op.PlainOp.TheVariants.{BrTable, Control, I32Const, I64Const, Memory, Numeric, Parametric, Reference, SelectTyped, Table, Variable}
use Rattle.core_types.specs.declared.op.ReferenceOp.{ReferenceOp}
use Rattle.core_types.specs.declared.op.ReferenceOp.TheVariants as reference_op
use Rattle.core_types.specs.declared.op.TableOp.{TableOp}
use Rattle.core_types.specs.declared.op.TableOp.TheVariants as table
use Rattle.core_types.specs.declared.op.VariableOp.{VariableOp}
use Rattle.core_types.specs.declared.op.VariableOp.TheVariants.{GlobalGet, GlobalSet, LocalGet, LocalSet, LocalTee}
use Rattle.core_types.specs.declared.op.Width.TheVariants.{W32, W64}
use Rattle.core_types.specs.Opcodes.{binary_ops, bit_counts, comparisons, loads, sign_extensions, stores}
use Rattle.core_types.specs.reading.Conventions.{Cases, Reading, bare_at, case_at, chosen_at, mapped_at, mapped_case, no_case, pair_at, up_to, ◌>>=◌}
use Rattle.core_types.specs.reading.Types.{block_type_at, ref_type_at, val_type_at}
use Rattle.core_types.specs.reading.Values.{byte_at, expected_at, index_at, signed_at, stored, unsigned_at, vector_at}

abbrev pub two_indices_at : Reading (ℕ × ℕ)
two_indices_at bytes = pair_at index_at index_at bytes

-- A signed number, as it is stored.
abbrev pub stored_at : ℕ → Reading ℕ
stored_at bits bytes = mapped_at (stored bits) (signed_at bits) bytes

unfoldable pub control_at : Cases ControlOp
control_at code bytes =
    (case_at 0x00 (bare_at Unreachable)
    (case_at 0x01 (bare_at Nop)
    (case_at 0x0C (mapped_at Br index_at)
    (case_at 0x0D (mapped_at BrIf index_at)
    (case_at 0x0F (bare_at Return)
    (case_at 0x10 (mapped_at Call index_at)
    (case_at 0x11 (mapped_at (λ x. CallIndirect x.0 x.1) two_indices_at)
    (case_at 0x12 (mapped_at ReturnCall index_at)
    (case_at 0x13 (mapped_at (λ x. ReturnCallIndirect x.0 x.1) two_indices_at) no_case))))))))) code
    bytes

abbrev pub branch_table : List ℕ × ℕ → BranchTable
branch_table parts = record { labels = parts.0; default = parts.1 }

unfoldable pub branch_table_at : Reading BranchTable
branch_table_at bytes = mapped_at branch_table (pair_at (vector_at (unsigned_at 32)) index_at) bytes

unfoldable pub reference_at : Cases ReferenceOp
reference_at code bytes =
    (case_at 0xD0 (mapped_at reference_op.Null ref_type_at)
    (case_at 0xD1 (bare_at reference_op.IsNull)
    (case_at 0xD2 (mapped_at reference_op.Func index_at) no_case))) code bytes

unfoldable pub parametric_at : Cases ParametricOp
parametric_at code bytes =
    (case_at 0x1A (bare_at DropOperand) (case_at 0x1B (bare_at Select) no_case)) code bytes

unfoldable pub variable_at : Cases VariableOp
variable_at code bytes =
    (case_at 0x20 (mapped_at LocalGet index_at)
    (case_at 0x21 (mapped_at LocalSet index_at)
    (case_at 0x22 (mapped_at LocalTee index_at)
    (case_at 0x23 (mapped_at GlobalGet index_at)
    (case_at 0x24 (mapped_at GlobalSet index_at) no_case))))) code bytes

unfoldable pub table_at : Cases TableOp
table_at code bytes =
    (case_at 0x25 (mapped_at table.Get index_at)
    (case_at 0x26 (mapped_at table.Set index_at) no_case)) code bytes

-- The table instructions after the byte FC, by number.
unfoldable pub prefixed_table_at : Cases TableOp
prefixed_table_at number bytes =
    (case_at 12 (mapped_at (λ x. table.Init x.0 x.1) two_indices_at)
    (case_at 13 (mapped_at table.ElemDrop index_at)
    (case_at 14 (mapped_at (λ x. table.Copy x.0 x.1) two_indices_at)
    (case_at 15 (mapped_at table.Grow index_at)
    (case_at 16 (mapped_at table.Size index_at)
    (case_at 17 (mapped_at table.Fill index_at) no_case)))))) number bytes

abbrev pub mem_arg : ℕ × ℕ → MemArg
mem_arg parts = record { align = parts.0; offset = parts.1 }

unfoldable pub mem_arg_at : Reading MemArg
mem_arg_at bytes = mapped_at mem_arg (pair_at (unsigned_at 32) (unsigned_at 32)) bytes

-- The operation of an opcode, in a row of opcodes from the first on.
abbrev pub in_row : {X : Type 0} → ℕ → List (Option X) → ℕ → Option X
in_row first row code =
    if nat_le first code then (slice_get row (code - first) >>= λ x. x) else None

unfoldable pub load_at : Cases MemoryOp
load_at code bytes = in_row 0x28 loads code >>= λ op. mapped_at (memory.Load op) mem_arg_at bytes

unfoldable pub store_at : Cases MemoryOp
store_at code bytes = in_row 0x36 stores code >>= λ op. mapped_at (memory.Store op) mem_arg_at bytes

-- The index of the one memory, and the instruction.
abbrev pub of_memory : MemoryOp → Reading MemoryOp
of_memory op bytes = mapped_at (λ nothing. op) (expected_at (0x00 ∷ [])) bytes

unfoldable pub memory_at : Cases MemoryOp
memory_at code bytes =
    (up_to 0x35 load_at
    (up_to 0x3E store_at
    (case_at 0x3F (of_memory memory.Size)
    (case_at 0x40 (of_memory memory.Grow) no_case)))) code bytes

-- The memory instructions after the byte FC, by number.
unfoldable pub prefixed_memory_at : Cases MemoryOp
prefixed_memory_at number bytes =
    (case_at 8 (mapped_at (λ x. memory.Init x.0) (pair_at index_at (expected_at (0x00 ∷ []))))
    (case_at 9 (mapped_at memory.DataDrop index_at)
    (case_at 10 (mapped_at (λ nothing. memory.Copy) (expected_at (0x00 ∷ 0x00 ∷ [])))
    (case_at 11 (of_memory memory.Fill) no_case)))) number bytes

unfoldable pub prefixed_at : Cases PlainOp
prefixed_at number bytes =
    (up_to 11 (mapped_case Memory prefixed_memory_at) (mapped_case Table prefixed_table_at)) number
    bytes

-- A row of numeric instructions, one for each operator of a list.
abbrev pub numeric_row : {X : Type 0} → (X → NumericOp) → List X → List (Option NumericOp)
numeric_row into row = map (λ x. Some (into x)) row

-- The numeric instructions without an immediate by opcode, from 45 on. Where there is none, there is an instruction on
-- floating-point numbers.
unfoldable pub numerics : List (Option NumericOp)
numerics =
    Some (Eqz W32) ∷ []
    ++ numeric_row (Compare W32) comparisons
    ++ Some (Eqz W64) ∷ []
    ++ numeric_row (Compare W64) comparisons
    ++ replicate 12 None
    ++ numeric_row (Unary W32) bit_counts
    ++ numeric_row (Binary W32) binary_ops
    ++ numeric_row (Unary W64) bit_counts
    ++ numeric_row (Binary W64) binary_ops
    ++ replicate 28 None
    ++ Some (Convert I32WrapI64) ∷ []
    ++ replicate 4 None
    ++ Some (Convert I64ExtendI32S) ∷ Some (Convert I64ExtendI32U) ∷ []
    ++ replicate 18 None
    ++ numeric_row (Unary W32) sign_extensions
    ++ numeric_row (Unary W64) sign_extensions
    ++ Some (Convert I64Extend32S) ∷ []

-- The numeric instruction without an immediate of an opcode, if there is one.
unfoldable pub numeric_of : ℕ → Option NumericOp
numeric_of code = in_row 0x45 numerics code

abbrev pub numeric_at : Cases NumericOp
numeric_at code bytes = numeric_of code >>= λ op. Some (op, bytes)

-- An instruction of a group with consecutive opcodes, after its opcode.
unfoldable pub group_at : Cases PlainOp
group_at code bytes =
    (up_to 0x13 (mapped_case Control control_at)
    (up_to 0x1B (mapped_case Parametric parametric_at)
    (up_to 0x24 (mapped_case Variable variable_at)
    (up_to 0x27 (mapped_case Table table_at)
    (up_to 0x40 (mapped_case Memory memory_at)
    (up_to 0xC4 (mapped_case Numeric numeric_at)
    (mapped_case Reference reference_at))))))) code bytes

-- An instruction without a body, after its opcode.
unfoldable pub plain_at : Cases PlainOp
plain_at code bytes =
    (case_at 0x0E (mapped_at BrTable branch_table_at)
    (case_at 0x1C (mapped_at SelectTyped (vector_at val_type_at))
    (case_at 0x41 (mapped_at I32Const (stored_at 32))
    (case_at 0x42 (mapped_at I64Const (stored_at 64))
    (case_at 0xFC (chosen_at (unsigned_at 32) prefixed_at) group_at))))) code bytes

-- A flat operation, after its opcode.
unfoldable pub operation_at : Cases Op
operation_at code bytes =
    (case_at 0x02 (mapped_at Block block_type_at)
    (case_at 0x03 (mapped_at Loop block_type_at)
    (case_at 0x04 (mapped_at If block_type_at)
    (case_at 0x05 (bare_at Else)
    (case_at 0x0B (bare_at End)
    (mapped_case Plain plain_at)))))) code bytes

unfoldable pub op_at : Reading Op
op_at bytes = chosen_at byte_at operation_at bytes
