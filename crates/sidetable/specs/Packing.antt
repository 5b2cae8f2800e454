-- Packed operations, as the operations that they represent.
use Rattle.std.specs.Prelude.{◌≡◌, ℕ, ◌+◌, ◌<◌, suc, List, map, take, drop, length}
use Rattle.core_types.specs.declared.op.BinaryOp.TheVariants.{Add, Sub, Mul, DivS, DivU, RemS, RemU, And, Or, Xor, Shl, ShrS, ShrU, Rotl, Rotr}
use Rattle.core_types.specs.declared.op.Comparison.TheVariants.{Eq, Ne, LtS, LtU, GtS, GtU, LeS, LeU, GeS, GeU}
use Rattle.core_types.specs.declared.op.ControlOp.TheVariants as control
use Rattle.core_types.specs.declared.op.Conversion.TheVariants.{I32WrapI64, I64ExtendI32S, I64ExtendI32U, I64Extend32S}
use Rattle.core_types.specs.declared.op.LoadOp.{LoadOp}
use Rattle.core_types.specs.declared.op.LoadOp.TheVariants as from
use Rattle.core_types.specs.declared.op.MemoryOp.TheVariants as memory
use Rattle.core_types.specs.declared.op.NumericOp.{NumericOp}
use Rattle.core_types.specs.declared.op.NumericOp.TheVariants.{Eqz, Compare, Unary, Binary, Convert}
use Rattle.core_types.specs.declared.op.ParametricOp.TheVariants as parametric
use Rattle.core_types.specs.declared.op.PlainOp.{PlainOp}
use Rattle.core_types.specs.declared.op.PlainOp.TheVariants as plain
use Rattle.core_types.specs.declared.op.ReferenceOp.TheVariants as reference
use Rattle.core_types.specs.declared.op.Sign.TheVariants.{Signed, Unsigned}
use Rattle.core_types.specs.declared.op.StoreOp.{StoreOp}
use Rattle.core_types.specs.declared.op.StoreOp.TheVariants as into
use Rattle.core_types.specs.declared.op.TableOp.TheVariants as table
use Rattle.core_types.specs.declared.op.UnaryOp.TheVariants.{Clz, Ctz, Popcnt, Extend8S, Extend16S}
use Rattle.core_types.specs.declared.op.VariableOp.TheVariants as variable
use Rattle.core_types.specs.declared.op.Width.TheVariants.{W32, W64}
use Rattle.core_types.specs.declared.types.RefType.TheVariants as ref
use Rattle.sidetable.specs.Flat.{FlatOp, Plain, Enter, If, Jump, Br, BrIf, BrTable, Return, Leave, at_offset, flat_op}
use Rattle.sidetable.specs.SideTables.{SideTables, branch_range_of, constant_of, entry_of_number, pair_of}
use Rattle.sidetable.specs.declared.operations.BinaryInstruction.{BinaryInstruction}
use Rattle.sidetable.specs.declared.operations.BinaryInstruction.TheVariants as binary
use Rattle.sidetable.specs.declared.operations.Entry.{Entry}
use Rattle.sidetable.specs.declared.operations.LoadInstruction.{LoadInstruction}
use Rattle.sidetable.specs.declared.operations.LoadInstruction.TheVariants as load
use Rattle.sidetable.specs.declared.operations.OtherInstruction.{OtherInstruction}
use Rattle.sidetable.specs.declared.operations.OtherInstruction.TheVariants as other
use Rattle.sidetable.specs.declared.operations.PackedOp.{PackedOp}
use Rattle.sidetable.specs.declared.operations.PackedOp.TheVariants as packed
use Rattle.sidetable.specs.declared.operations.StoreInstruction.{StoreInstruction}
use Rattle.sidetable.specs.declared.operations.StoreInstruction.TheVariants as store
use Rattle.sidetable.specs.declared.operations.TransferInstruction.{TransferInstruction}
use Rattle.sidetable.specs.declared.operations.TransferInstruction.TheVariants as transfer
use Rattle.sidetable.specs.declared.side_tables.BranchRange.{BranchRange}
use Rattle.sidetable.specs.declared.operations.UnaryInstruction.{UnaryInstruction}
use Rattle.sidetable.specs.declared.operations.UnaryInstruction.TheVariants as unary

-- ---- numeric instructions, loads and stores

abbrev pub binary_op : BinaryInstruction → NumericOp
binary_op binary.I32Sub = Binary W32 Sub
binary_op binary.I32Mul = Binary W32 Mul
binary_op binary.I32DivS = Binary W32 DivS
binary_op binary.I32DivU = Binary W32 DivU
binary_op binary.I32RemS = Binary W32 RemS
binary_op binary.I32RemU = Binary W32 RemU
binary_op binary.I32And = Binary W32 And
binary_op binary.I32Or = Binary W32 Or
binary_op binary.I32Xor = Binary W32 Xor
binary_op binary.I32Shl = Binary W32 Shl
binary_op binary.I32ShrS = Binary W32 ShrS
binary_op binary.I32ShrU = Binary W32 ShrU
binary_op binary.I32Rotl = Binary W32 Rotl
binary_op binary.I32Rotr = Binary W32 Rotr
binary_op binary.I64Add = Binary W64 Add
binary_op binary.I64Sub = Binary W64 Sub
binary_op binary.I64Mul = Binary W64 Mul
binary_op binary.I64DivS = Binary W64 DivS
binary_op binary.I64DivU = Binary W64 DivU
binary_op binary.I64RemS = Binary W64 RemS
binary_op binary.I64RemU = Binary W64 RemU
binary_op binary.I64And = Binary W64 And
binary_op binary.I64Or = Binary W64 Or
binary_op binary.I64Xor = Binary W64 Xor
binary_op binary.I64Shl = Binary W64 Shl
binary_op binary.I64ShrS = Binary W64 ShrS
binary_op binary.I64ShrU = Binary W64 ShrU
binary_op binary.I64Rotl = Binary W64 Rotl
binary_op binary.I64Rotr = Binary W64 Rotr
binary_op binary.I32Eq = Compare W32 Eq
binary_op binary.I32Ne = Compare W32 Ne
binary_op binary.I32LtS = Compare W32 LtS
binary_op binary.I32LtU = Compare W32 LtU
binary_op binary.I32GtS = Compare W32 GtS
binary_op binary.I32GtU = Compare W32 GtU
binary_op binary.I32LeS = Compare W32 LeS
binary_op binary.I32LeU = Compare W32 LeU
binary_op binary.I32GeS = Compare W32 GeS
binary_op binary.I32GeU = Compare W32 GeU
binary_op binary.I64Eq = Compare W64 Eq
binary_op binary.I64Ne = Compare W64 Ne
binary_op binary.I64LtS = Compare W64 LtS
binary_op binary.I64LtU = Compare W64 LtU
binary_op binary.I64GtS = Compare W64 GtS
binary_op binary.I64GtU = Compare W64 GtU
binary_op binary.I64LeS = Compare W64 LeS
binary_op binary.I64LeU = Compare W64 LeU
binary_op binary.I64GeS = Compare W64 GeS
binary_op binary.I64GeU = Compare W64 GeU

abbrev pub unary_op : UnaryInstruction → NumericOp
unary_op unary.I32Eqz = Eqz W32
unary_op unary.I64Eqz = Eqz W64
unary_op unary.I32Clz = Unary W32 Clz
unary_op unary.I32Ctz = Unary W32 Ctz
unary_op unary.I32Popcnt = Unary W32 Popcnt
unary_op unary.I32Extend8S = Unary W32 Extend8S
unary_op unary.I32Extend16S = Unary W32 Extend16S
unary_op unary.I64Clz = Unary W64 Clz
unary_op unary.I64Ctz = Unary W64 Ctz
unary_op unary.I64Popcnt = Unary W64 Popcnt
unary_op unary.I64Extend8S = Unary W64 Extend8S
unary_op unary.I64Extend16S = Unary W64 Extend16S
unary_op unary.I32WrapI64 = Convert I32WrapI64
unary_op unary.I64ExtendI32S = Convert I64ExtendI32S
unary_op unary.I64ExtendI32U = Convert I64ExtendI32U
unary_op unary.I64Extend32S = Convert I64Extend32S

abbrev pub load_op : LoadInstruction → LoadOp
load_op load.I64Load = from.Whole W64
load_op load.I32Load8S = from.Bits8 W32 Signed
load_op load.I32Load8U = from.Bits8 W32 Unsigned
load_op load.I64Load8S = from.Bits8 W64 Signed
load_op load.I64Load8U = from.Bits8 W64 Unsigned
load_op load.I32Load16S = from.Bits16 W32 Signed
load_op load.I32Load16U = from.Bits16 W32 Unsigned
load_op load.I64Load16S = from.Bits16 W64 Signed
load_op load.I64Load16U = from.Bits16 W64 Unsigned
load_op load.I64Load32S = from.Bits32 Signed
load_op load.I64Load32U = from.Bits32 Unsigned

abbrev pub store_op : StoreInstruction → StoreOp
store_op store.I32Store = into.Whole W32
store_op store.I64Store = into.Whole W64
store_op store.I32Store8 = into.Bits8 W32
store_op store.I64Store8 = into.Bits8 W64
store_op store.I32Store16 = into.Bits16 W32
store_op store.I64Store16 = into.Bits16 W64
store_op store.I64Store32 = into.Bits32

-- ---- instructions with a number

-- The entries of the labels of a branch by number.
abbrev pub branch_entries : SideTables → BranchRange → List Entry
branch_entries t r = take r.count (drop r.first t.entries.items)

-- A rarer call, or an operation that does not continue with the next one. A number is that of an entry, of a range, of a function or of a
-- pair.
abbrev pub transfer_op : SideTables → TransferInstruction → (number : ℕ) → FlatOp
transfer_op t transfer.Unreachable n = Plain (plain.Control control.Unreachable)
transfer_op t transfer.Jump n = Jump (entry_of_number t n)
transfer_op t transfer.Br n = Br (entry_of_number t n)
transfer_op t transfer.BrTable n =
    BrTable (branch_entries t (branch_range_of t n)) (entry_of_number t (branch_range_of t n).default)
transfer_op t transfer.Return n = Return (entry_of_number t n)
transfer_op t transfer.CallIndirect n =
    Plain (plain.Control (control.CallIndirect (pair_of t n).first (pair_of t n).second))
transfer_op t transfer.ReturnCall n = Plain (plain.Control (control.ReturnCall n))
transfer_op t transfer.ReturnCallIndirect n =
    Plain (plain.Control (control.ReturnCallIndirect (pair_of t n).first (pair_of t n).second))

abbrev pub other_op : SideTables → OtherInstruction → (number : ℕ) → PlainOp
other_op t other.Nop n = plain.Control control.Nop
other_op t other.DropOperand n = plain.Parametric parametric.DropOperand
other_op t other.Select n = plain.Parametric parametric.Select
other_op t (other.Unary op) n = plain.Numeric (unary_op op)
other_op t other.GlobalGet n = plain.Variable (variable.GlobalGet n)
other_op t other.GlobalSet n = plain.Variable (variable.GlobalSet n)
other_op t other.I64Const n = plain.I64Const (constant_of t n)
other_op t other.RefNullFunc n = plain.Reference (reference.Null ref.FuncRef)
other_op t other.RefNullExtern n = plain.Reference (reference.Null ref.ExternRef)
other_op t other.RefIsNull n = plain.Reference reference.IsNull
other_op t other.RefFunc n = plain.Reference (reference.Func n)
other_op t other.MemorySize n = plain.Memory memory.Size
other_op t other.MemoryGrow n = plain.Memory memory.Grow
other_op t other.MemoryFill n = plain.Memory memory.Fill
other_op t other.MemoryCopy n = plain.Memory memory.Copy
other_op t other.MemoryInit n = plain.Memory (memory.Init n)
other_op t other.DataDrop n = plain.Memory (memory.DataDrop n)
other_op t other.TableGet n = plain.Table (table.Get n)
other_op t other.TableSet n = plain.Table (table.Set n)
other_op t other.TableSize n = plain.Table (table.Size n)
other_op t other.TableGrow n = plain.Table (table.Grow n)
other_op t other.TableFill n = plain.Table (table.Fill n)
other_op t other.TableCopy n = plain.Table (table.Copy (pair_of t n).first (pair_of t n).second)
other_op t other.TableInit n = plain.Table (table.Init (pair_of t n).first (pair_of t n).second)
other_op t other.ElemDrop n = plain.Table (table.ElemDrop n)

-- ---- operations

abbrev pub unpacked : SideTables → PackedOp → FlatOp
unpacked t (packed.LocalGet x) = Plain (plain.Variable (variable.LocalGet x))
unpacked t (packed.LocalSet x) = Plain (plain.Variable (variable.LocalSet x))
unpacked t (packed.LocalTee x) = Plain (plain.Variable (variable.LocalTee x))
unpacked t (packed.I32Const n) = Plain (plain.I32Const n)
unpacked t packed.I32Add = Plain (plain.Numeric (Binary W32 Add))
unpacked t packed.Enter = Enter
unpacked t (packed.If n) = If (entry_of_number t n)
unpacked t (packed.BrIf n) = BrIf (entry_of_number t n)
unpacked t (packed.Call n) = Plain (plain.Control (control.Call n))
unpacked t (packed.Leave n) = Leave n
unpacked t (packed.I32Load offset) =
    Plain (plain.Memory (memory.Load (from.Whole W32) (at_offset offset)))
unpacked t (packed.Binary op) = Plain (plain.Numeric (binary_op op))
unpacked t (packed.Load op offset) =
    Plain (plain.Memory (memory.Load (load_op op) (at_offset offset)))
unpacked t (packed.Store op offset) =
    Plain (plain.Memory (memory.Store (store_op op) (at_offset offset)))
unpacked t (packed.Transfer op n) = transfer_op t op n
unpacked t (packed.Other op n) = Plain (other_op t op n)

-- ---- places in the side tables

-- The number is one of an entry, of a range whose entries exist, or of a pair, if the operation has one.
abbrev pub IsTransferWithin : SideTables → TransferInstruction → (number : ℕ) → Type 0
IsTransferWithin t transfer.Unreachable n = Unit {0}
IsTransferWithin t transfer.Jump n = n < length t.entries.items
IsTransferWithin t transfer.Br n = n < length t.entries.items
IsTransferWithin t transfer.BrTable n =
    (n < length t.branch_ranges.items)
    × ((branch_range_of t n).first + (branch_range_of t n).count < suc (length t.entries.items))
    × ((branch_range_of t n).default < length t.entries.items)
IsTransferWithin t transfer.Return n = n < length t.entries.items
IsTransferWithin t transfer.CallIndirect n = n < length t.pairs.items
IsTransferWithin t transfer.ReturnCall n = Unit {0}
IsTransferWithin t transfer.ReturnCallIndirect n = n < length t.pairs.items

abbrev pub IsOtherWithin : SideTables → OtherInstruction → (number : ℕ) → Type 0
IsOtherWithin t other.I64Const n = n < length t.constants.items
IsOtherWithin t other.TableCopy n = n < length t.pairs.items
IsOtherWithin t other.TableInit n = n < length t.pairs.items
IsOtherWithin t op n = Unit {0}

abbrev pub IsWithin : SideTables → PackedOp → Type 0
IsWithin t (packed.If n) = n < length t.entries.items
IsWithin t (packed.BrIf n) = n < length t.entries.items
IsWithin t (packed.Transfer op n) = IsTransferWithin t op n
IsWithin t (packed.Other op n) = IsOtherWithin t op n
IsWithin t op = Unit {0}

-- The packed operation represents this one.
pub record Packs (t : SideTables) (p : PackedOp) (o : FlatOp) : Type 0 where
  pub same : unpacked t p ≡ o
  pub within : IsWithin t p

-- It represents this instruction, whatever the side tables are.
abbrev pub PacksAlone : PackedOp → PlainOp → Type 0
PacksAlone p op = (t : SideTables) → Packs t p (Plain op)

-- The same within any labels.
abbrev pub PacksAnywhere : PackedOp → PlainOp → Type 0
PacksAnywhere p op =
    (t : SideTables) (outermost : Entry) (entries : List Entry)
    → Packs t p (flat_op outermost entries op)

-- The operations that packed operations represent.
abbrev pub made : SideTables → List PackedOp → List FlatOp
made t ops = map (unpacked t) ops
