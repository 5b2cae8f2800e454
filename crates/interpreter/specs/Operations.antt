-- What an operation needs, and what it leads to.
use Rattle.std.specs.Prelude.{◌≡◌, ℕ, suc, ◌+◌, ◌-◌, ◌%◌, ◌^◌, ◌<◌, ◌≤◌, List, [], ◌∷◌, length, drop, set, get_or, slice_get, Option, Some, Result, Ok, Err}
use Rattle.core_types.specs.declared.op.LoadOp.{LoadOp}
use Rattle.core_types.specs.declared.op.LoadOp.TheVariants.{Whole}
use Rattle.core_types.specs.declared.op.StoreOp.{StoreOp}
use Rattle.core_types.specs.declared.op.Width.TheVariants.{W32}
use Rattle.core_types.specs.declared.outcome.Trap.{Trap}
use Rattle.core_types.specs.declared.outcome.Trap.TheVariants.{Unreachable}
use Rattle.core_types.specs.declared.outcome.Val.{Val}
use Rattle.core_types.specs.declared.types.FuncType.{FuncType}
use Rattle.core_types.specs.declared.types.Mutability.TheVariants.{Var}
use Rattle.core_types.specs.declared.types.ValType.TheVariants.{I32}
use Rattle.meaning.specs.execution.Memories.{load_from, store_into}
use Rattle.meaning.specs.validation.Instructions.{store_width, load_type}
use Rattle.meaning.specs.execution.Store.{FunctionInstance}
use Rattle.meaning.specs.validation.Types.{function_type}
use Rattle.cells.specs.Cells.{IsCellOf, cell_of, value_of, value_of_result}
use Rattle.effects.specs.Numeric.{GivesBinary, GivesUnary, operand_type}
use Rattle.sidetable.specs.Flat.{FlatOp, Leave, Plain, Return}
use Rattle.sidetable.specs.Packing.{IsOtherWithin, IsTransferWithin, binary_op, branch_entries, load_op, other_op, store_op, unary_op}
use Rattle.sidetable.specs.SideTables.{branch_range_of, constant_of, entry_of_number, pair_of}
use Rattle.sidetable.specs.declared.operations.Entry.{Entry}
use Rattle.sidetable.specs.declared.operations.OtherInstruction.{OtherInstruction}
use Rattle.sidetable.specs.declared.operations.OtherInstruction.TheVariants as other
use Rattle.sidetable.specs.declared.operations.PackedOp.{PackedOp}
use Rattle.sidetable.specs.declared.operations.PackedOp.TheVariants as op
use Rattle.sidetable.specs.declared.operations.TransferInstruction.{TransferInstruction}
use Rattle.sidetable.specs.declared.operations.TransferInstruction.TheVariants as transfer
use Rattle.simulation.specs.Callees.{CallsEntry, CostsAround}
use Rattle.simulation.specs.Runs.{Ghost}
use Rattle.store.specs.Contents.{functions_in}
use Rattle.store.specs.State.{StateContents, global_of, put_global, table_of}
use Rattle.store.specs.declared.instances.Instance.{Instance}
use Rattle.interpreter.specs.Callees.{IsCalled, by_name, through_table}
use Rattle.interpreter.specs.Layout.{AreMoved}
use Rattle.interpreter.specs.Running.{ReachesForFree, IsDear, Machine, Pays, RunsAt, Traps, cells_in, height_in}
use Rattle.interpreter.specs.Worlds.{World}
use Rattle.interpreter.specs.declared.machine.CallKind.{CallKind}
use Rattle.interpreter.specs.declared.machine.CallKind.TheVariants.{Nested, Tail}

-- ---- machines after an operation

-- The machine with one more operand.
abbrev pub pushed : Machine → (cell : ℕ) → Machine
pushed m cell = record m {
  cells = set m.cells m.top m.operand;
  place = m.place + 1;
  top = m.top + 1;
  operand = cell;
}

-- The machine with another topmost operand.
abbrev pub replaced : Machine → (cell : ℕ) → Machine
replaced m cell = record m { place = m.place + 1; operand = cell }

-- The machine with another topmost operand, that many lower.
abbrev pub lowered : Machine → (by cell : ℕ) → Machine
lowered m by cell = record (replaced m cell) { top = m.top - by }

-- The machine with that many fewer operands.
abbrev pub popped : Machine → (by : ℕ) → Machine
popped m by = lowered m by (get_or m.cells (m.top - by) 0)

-- The machine with the topmost operand also in a local.
abbrev pub with_local : Machine → (x : ℕ) → Machine
with_local m x = record m { cells = set m.cells (m.base + x) m.operand }

-- The machine at a place, with the operands that an entry keeps moved down to its height.
abbrev pub landed : Machine → Entry → (cells' : List ℕ) → (operand' : ℕ) → Machine
landed m e cells' operand' = record m {
  cells = cells';
  place = e.target;
  top = m.base + e.height + e.kept;
  operand = operand';
}

-- The operand below the topmost one, and the one below that.
abbrev pub second_of : Machine → ℕ
second_of m = get_or m.cells (m.top - 1) 0

abbrev pub third_of : Machine → ℕ
third_of m = get_or m.cells (m.top - 2) 0

-- The addresses that the instance has under an index.
abbrev pub function_address : World → ℕ → ℕ
function_address w x = get_or w.instance.addresses.functions.items x 0

abbrev pub global_address : World → ℕ → ℕ
global_address w x = get_or w.instance.addresses.globals.items x 0

abbrev pub table_address : Instance → ℕ → ℕ
table_address i x = get_or i.addresses.tables.items x 0

-- The type that the instance has under an index.
abbrev pub type_of : Instance → ℕ → FuncType
type_of i x = get_or i.loaded.value.source.types x (function_type [] [])

-- The entry at an offset of the table that the instance has under an index.
abbrev pub entry_through : Instance → StateContents → (x offset : ℕ) → Option Val
entry_through i state x offset = slice_get (table_of state (table_address i x)).entries offset

-- The world with another value of a global.
abbrev pub with_global_cell : World → (address cell : ℕ) → World
with_global_cell w address cell =
    record w {
      state = put_global w.state address (value_of (global_of w.state address).ty.value cell);
    }

-- ---- what an operation needs

-- There are that many operands, and there is room for one more.
abbrev pub HasOperands : Machine → (count : ℕ) → Type 0
HasOperands m count = (m.base + count ≤ m.top) × (m.top < length m.cells)

-- The entry's operands are below a place.
abbrev pub HasKept : Machine → (top : ℕ) → Entry → Type 0
HasKept m top e = m.base + e.height + e.kept ≤ top

-- The type and the table of a pair of indices exist, and there is an operand for the offset of an entry.
abbrev pub IsReadyForCallThrough : World → Machine → (number : ℕ) → Type 0
IsReadyForCallThrough w m n =
    HasOperands m 1 × (n < length w.flat.tables.pairs.items)
    × ((pair_of w.flat.tables n).first < length w.instance.loaded.value.source.types)
    × ((pair_of w.flat.tables n).second < length w.instance.addresses.tables.items)
    × (table_address w.instance (pair_of w.flat.tables n).second < length w.state.contents.tables)

-- What a transfer names exists, and so do the operands that it takes and keeps.
abbrev pub IsReadyForTransfer : World → Machine → TransferInstruction → (number : ℕ) → Type 0
IsReadyForTransfer w m transfer.Jump n =
    (n < length w.flat.tables.entries.items) × (m.place < (entry_of_number w.flat.tables n).target)
IsReadyForTransfer w m transfer.Br n =
    (m.top < length m.cells) × (n < length w.flat.tables.entries.items)
    × HasKept m m.top (entry_of_number w.flat.tables n)
IsReadyForTransfer w m transfer.BrTable n =
    HasOperands m 1 × (n < length w.flat.tables.branch_ranges.items)
    × ((branch_range_of w.flat.tables n).first + (branch_range_of w.flat.tables n).count
    < suc (length w.flat.tables.entries.items))
    × ((branch_range_of w.flat.tables n).default < length w.flat.tables.entries.items)
    × HasKept m (m.top - 1) (get_or (branch_entries w.flat.tables (branch_range_of w.flat.tables n))
    m.operand (entry_of_number w.flat.tables (branch_range_of w.flat.tables n).default))
IsReadyForTransfer w m transfer.CallIndirect n = IsReadyForCallThrough w m n
IsReadyForTransfer w m transfer.ReturnCall n = n < length w.instance.addresses.functions.items
IsReadyForTransfer w m transfer.ReturnCallIndirect n = IsReadyForCallThrough w m n
IsReadyForTransfer w m kind n = IsTransferWithin w.flat.tables kind n

-- The same for the other instructions.
abbrev pub IsReadyForOther : World → Machine → OtherInstruction → (number : ℕ) → Type 0
IsReadyForOther w m other.DropOperand n = HasOperands m 1
IsReadyForOther w m other.Select n = HasOperands m 3
IsReadyForOther w m (other.Unary instruction) n =
    HasOperands m 1 × IsCellOf (operand_type (unary_op instruction)) m.operand
IsReadyForOther w m other.GlobalGet n =
    (m.top < length m.cells) × (n < length w.instance.addresses.globals.items)
    × (global_address w n < length w.state.contents.globals)
IsReadyForOther w m other.GlobalSet n =
    HasOperands m 1 × (n < length w.instance.addresses.globals.items)
    × (global_address w n < length w.state.contents.globals)
    × ((global_of w.state (global_address w n)).ty.mutability ≡ Var)
    × IsCellOf (global_of w.state (global_address w n)).ty.value m.operand
IsReadyForOther w m other.I64Const n =
    (m.top < length m.cells) × (n < length w.flat.tables.constants.items)
IsReadyForOther w m other.RefNullFunc n = m.top < length m.cells
IsReadyForOther w m other.RefNullExtern n = m.top < length m.cells
IsReadyForOther w m other.RefFunc n =
    (m.top < length m.cells) × (n < length w.instance.addresses.functions.items)
IsReadyForOther w m other.MemorySize n = m.top < length m.cells
IsReadyForOther w m kind n = IsOtherWithin w.flat.tables kind n

abbrev pub IsReadyFor : World → Machine → PackedOp → Type 0
IsReadyFor w m (op.LocalGet x) = (m.top < length m.cells) × (m.base + x < length m.cells)
IsReadyFor w m (op.LocalSet x) = HasOperands m 1 × (m.base + x < m.top)
IsReadyFor w m (op.LocalTee x) = HasOperands m 1 × (m.base + x < m.top)
IsReadyFor w m (op.I32Const n) = m.top < length m.cells
IsReadyFor w m op.I32Add = HasOperands m 2
IsReadyFor w m op.Enter = Unit {0}
IsReadyFor w m (op.If n) = HasOperands m 1 × (n < length w.flat.tables.entries.items)
IsReadyFor w m (op.BrIf n) =
    HasOperands m 1 × (n < length w.flat.tables.entries.items)
    × ((m.operand ≡ 0 → ⊥) → HasKept m (m.top - 1) (entry_of_number w.flat.tables n))
IsReadyFor w m (op.Call n) = n < length w.instance.addresses.functions.items
IsReadyFor w m (op.Leave n) = Unit {0}
IsReadyFor w m (op.I32Load offset) = HasOperands m 1 × IsCellOf I32 m.operand
IsReadyFor w m (op.Binary instruction) =
    HasOperands m 2 × IsCellOf (operand_type (binary_op instruction)) (second_of m)
    × IsCellOf (operand_type (binary_op instruction)) m.operand
IsReadyFor w m (op.Load instruction offset) = HasOperands m 1 × IsCellOf I32 m.operand
IsReadyFor w m (op.Store instruction offset) = HasOperands m 2 × IsCellOf I32 (second_of m)
IsReadyFor w m (op.Transfer kind n) = IsReadyForTransfer w m kind n
IsReadyFor w m (op.Other kind n) = IsReadyForOther w m kind n

-- ---- what it leads to

-- The operation leads to this machine, for one unit of fuel.
abbrev pub Costs : World → Machine → Ghost → Machine → Type 0
Costs w m g m' = Pays g m w m' × IsDear g m

-- The operation leads to the machine for a result's number, or to a trap.
abbrev pub Answers : World → Machine → Ghost → (ℕ → Machine) → Result ℕ Trap → Type 0
Answers w m g to (Ok n) = Pays g m w (to n)
Answers w m g to (Err trap) = Traps g m trap

-- A branch, after its operands were moved.
abbrev pub Lands : World → Machine → Ghost → (cells : List ℕ) → (top : ℕ) → Entry → Type 0
Lands w m g cells top e =
    (cells' : List ℕ) (operand' : ℕ)
    → AreMoved cells top (m.base + e.height) e.kept cells' operand'
    → Pays g m w (landed m e cells' operand')

-- A load: the number that is read replaces the address.
abbrev pub Reads : World → Machine → Ghost → LoadOp → (offset : ℕ) → Type 0
Reads w m g instruction offset =
    ((result : Result ℕ Trap)
    → load_from instruction w.bytes (m.operand + offset)
    ≡ value_of_result (load_type instruction) result
    → Answers w m g (replaced m) result)
    × IsDear g m

-- A store: these are the bytes of the memory afterwards.
abbrev pub IsWritten : World → Machine → Ghost → Result (List ℕ) Trap → Type 0
IsWritten w m g (Ok bytes) = Pays g m (record w { bytes = bytes }) (popped m 2)
IsWritten w m g (Err trap) = Traps g m trap

abbrev pub Writes : World → Machine → Ghost → StoreOp → (offset : ℕ) → Type 0
Writes w m g instruction offset =
    ((result : Result (List ℕ) Trap)
    → store_into w.bytes (second_of m + offset) (store_width instruction) m.operand ≡ result
    → IsWritten w m g result)
    × IsDear g m

-- A call of the function under an index. The function exists, and its arguments are on top.
abbrev pub CallsByName : CallKind → World → Machine → Ghost → (x : ℕ) → Type 0
CallsByName kind w m g x =
    (function : FunctionInstance)
    × (slice_get (functions_in w.code) (function_address w x) ≡ Some function)
    × IsCalled kind (by_name kind x) (function_address w x) function g (cells_in g m) m.place
    (height_in m) (height_in m)

-- A call of a function of a type through a table, by the entry at the offset that is the topmost operand.
abbrev pub CallsThrough : CallKind → World → Machine → Ghost → (type x : ℕ) → Type 0
CallsThrough kind w m g type x =
    (entry : Option Val) → entry_through w.instance w.state x m.operand ≡ entry
    → CallsEntry g (cells_in g m) m.place (height_in m)
    (λ address function. IsCalled kind (through_table kind type x) address function g (cells_in g m)
    m.place (height_in m) (height_in m - 1)) (type_of w.instance type) entry

-- Whatever waits around the frame, the next step costs one unit of fuel.
abbrev pub CostsOne : Ghost → Machine → Type 0
CostsOne g m = CostsAround g (cells_in g m) m.place (height_in m)

-- This operation is at the machine's place.
abbrev pub StandsThere : Machine → Ghost → FlatOp → Type 0
StandsThere m g o = (more : List FlatOp) × (drop m.place g.code.operations ≡ o ∷ more)

abbrev pub ExecutesTransfer : World → Machine → Ghost → TransferInstruction → (number : ℕ) → Type 0
ExecutesTransfer w m g transfer.Unreachable n = Traps g m Unreachable × IsDear g m
ExecutesTransfer w m g transfer.Jump n =
    ReachesForFree g m w (record m { place = (entry_of_number w.flat.tables n).target })
ExecutesTransfer w m g transfer.Br n =
    Lands w m g (set m.cells m.top m.operand) m.top (entry_of_number w.flat.tables n) × IsDear g m
ExecutesTransfer w m g transfer.BrTable n =
    Lands w m g m.cells (m.top - 1)
    (get_or (branch_entries w.flat.tables (branch_range_of w.flat.tables n)) m.operand
    (entry_of_number w.flat.tables (branch_range_of w.flat.tables n).default))
    × IsDear g m
ExecutesTransfer w m g transfer.Return n =
    StandsThere m g (Return (entry_of_number w.flat.tables n))
ExecutesTransfer w m g transfer.CallIndirect n =
    CallsThrough Nested w m g (pair_of w.flat.tables n).first (pair_of w.flat.tables n).second
    × CostsOne g m
ExecutesTransfer w m g transfer.ReturnCall n = CallsByName Tail w m g n × CostsOne g m
ExecutesTransfer w m g transfer.ReturnCallIndirect n =
    CallsThrough Tail w m g (pair_of w.flat.tables n).first (pair_of w.flat.tables n).second
    × CostsOne g m

-- The instructions that the loop does not execute: instructions on tables, bulk instructions and growth.
abbrev pub IsLeft : OtherInstruction → Type 0
IsLeft other.Nop = ⊥
IsLeft other.DropOperand = ⊥
IsLeft other.Select = ⊥
IsLeft (other.Unary instruction) = ⊥
IsLeft other.GlobalGet = ⊥
IsLeft other.GlobalSet = ⊥
IsLeft other.I64Const = ⊥
IsLeft other.RefNullFunc = ⊥
IsLeft other.RefNullExtern = ⊥
IsLeft other.RefIsNull = ⊥
IsLeft other.RefFunc = ⊥
IsLeft other.MemorySize = ⊥
IsLeft kind = Unit {0}

abbrev pub ExecutesOther : World → Machine → Ghost → OtherInstruction → (number : ℕ) → Type 0
ExecutesOther w m g other.Nop n = Costs w m g (record m { place = m.place + 1 })
ExecutesOther w m g other.DropOperand n = Costs w m g (popped m 1)
ExecutesOther w m g other.Select n =
    (m.operand ≡ 0 → Pays g m w (lowered m 2 (second_of m)))
    × ((m.operand ≡ 0 → ⊥) → Pays g m w (lowered m 2 (third_of m)))
    × IsDear g m
ExecutesOther w m g (other.Unary instruction) n =
    ((result : ℕ) → GivesUnary (unary_op instruction) m.operand result
    → Pays g m w (replaced m result))
    × IsDear g m
ExecutesOther w m g other.GlobalGet n =
    Costs w m g (pushed m (cell_of (global_of w.state (global_address w n)).value))
ExecutesOther w m g other.GlobalSet n =
    Pays g m (with_global_cell w (global_address w n) m.operand) (popped m 1) × IsDear g m
ExecutesOther w m g other.I64Const n = Costs w m g (pushed m (constant_of w.flat.tables n))
ExecutesOther w m g other.RefNullFunc n = Costs w m g (pushed m 0)
ExecutesOther w m g other.RefNullExtern n = Costs w m g (pushed m 0)
ExecutesOther w m g other.RefIsNull n =
    (m.operand ≡ 0 → Pays g m w (replaced m 1))
    × ((m.operand ≡ 0 → ⊥) → Pays g m w (replaced m 0))
    × IsDear g m
ExecutesOther w m g other.RefFunc n = Costs w m g (pushed m (function_address w n + 1))
ExecutesOther w m g other.MemorySize n = Costs w m g (pushed m w.limits.min)
-- what is left to others
ExecutesOther w m g kind n = StandsThere m g (Plain (other_op w.flat.tables kind n))

abbrev pub ExecutesIn : World → Machine → Ghost → PackedOp → Type 0
ExecutesIn w m g (op.LocalGet x) =
    Costs w m g (pushed m (get_or (set m.cells m.top m.operand) (m.base + x) 0))
ExecutesIn w m g (op.LocalSet x) = Costs w m g (popped (with_local m x) 1)
ExecutesIn w m g (op.LocalTee x) = Costs w m g (record (with_local m x) { place = m.place + 1 })
ExecutesIn w m g (op.I32Const n) = Costs w m g (pushed m n)
ExecutesIn w m g op.I32Add = Costs w m g (lowered m 1 ((second_of m + m.operand) % 2 ^ 32))
ExecutesIn w m g op.Enter = Costs w m g (record m { place = m.place + 1 })
ExecutesIn w m g (op.If n) =
    (m.operand ≡ 0 → Pays g m w
    (record (popped m 1) { place = (entry_of_number w.flat.tables n).target }))
    × ((m.operand ≡ 0 → ⊥) → Pays g m w (popped m 1))
    × IsDear g m
ExecutesIn w m g (op.BrIf n) =
    (m.operand ≡ 0 → Pays g m w (popped m 1))
    × ((m.operand ≡ 0 → ⊥) → Lands w m g m.cells (m.top - 1) (entry_of_number w.flat.tables n))
    × IsDear g m
ExecutesIn w m g (op.Call n) = CallsByName Nested w m g n × CostsOne g m
ExecutesIn w m g (op.Leave n) = StandsThere m g (Leave n)
ExecutesIn w m g (op.I32Load offset) = Reads w m g (Whole W32) offset
ExecutesIn w m g (op.Binary instruction) =
    ((result : Result ℕ Trap) → GivesBinary (binary_op instruction) (second_of m) m.operand result
    → Answers w m g (lowered m 1) result)
    × IsDear g m
ExecutesIn w m g (op.Load instruction offset) = Reads w m g (load_op instruction) offset
ExecutesIn w m g (op.Store instruction offset) = Writes w m g (store_op instruction) offset
ExecutesIn w m g (op.Transfer kind n) = ExecutesTransfer w m g kind n
ExecutesIn w m g (op.Other kind n) = ExecutesOther w m g kind n

-- Whatever runs there, it leads to this.
abbrev pub Executes : World → Machine → PackedOp → Type 0
Executes w m o = (g : Ghost) → RunsAt w m g → ExecutesIn w m g o

-- An operation is at the machine's place, has what it needs, and leads to this.
abbrev pub OperationsExecute : Type 0
OperationsExecute =
    (w : World) (m : Machine) (g : Ghost) → RunsAt w m g
    → (m.place < length w.flat.operations.items)
    × ((d : PackedOp) → IsReadyFor w m (get_or w.flat.operations.items m.place d)
    × ExecutesIn w m g (get_or w.flat.operations.items m.place d))
