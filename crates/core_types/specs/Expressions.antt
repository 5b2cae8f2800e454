-- Flat operations in eight bytes, and those that take more.
use Rattle.std.specs.Prelude.{ℕ, ⊤, Option, None, Some}
use denote.Ref.{Bor}
use Rattle.core_types.specs.declared.lent_op.Mark.{Mark}
use Rattle.core_types.specs.declared.lent_op.Mark.TheVariants as mark
use Rattle.core_types.specs.declared.lent_op.OpWith.{OpWith}
use Rattle.core_types.specs.declared.lent_op.OpWith.TheVariants as short
use Rattle.core_types.specs.declared.op.BlockType.{BlockType}
use Rattle.core_types.specs.declared.op.BlockType.TheVariants as block
use Rattle.core_types.specs.declared.op.ControlOp.TheVariants as control
use Rattle.core_types.specs.declared.op.LoadOp.{LoadOp}
use Rattle.core_types.specs.declared.op.LoadOp.TheVariants as load
use Rattle.core_types.specs.declared.op.MemoryOp.TheVariants as memory
use Rattle.core_types.specs.declared.op.Op.{Op}
use Rattle.core_types.specs.declared.op.Op.TheVariants as op
use Rattle.core_types.specs.declared.op.PlainOp.TheVariants as plain
use Rattle.core_types.specs.declared.op.ReferenceOp.TheVariants as reference
use Rattle.core_types.specs.declared.op.StoreOp.{StoreOp}
use Rattle.core_types.specs.declared.op.StoreOp.TheVariants as store
use Rattle.core_types.specs.declared.op.VariableOp.TheVariants as variable
use Rattle.core_types.specs.declared.types.ValType.{ValType}

-- The type of a block that takes nothing and gives this.
abbrev pub block_type_of : Option ValType → BlockType
block_type_of None = block.Empty
block_type_of (Some t) = block.Value t

-- A load.
abbrev pub load_at : LoadOp → ℕ → ℕ → Op
load_at o align offset = op.Plain (plain.Memory (memory.Load o (record { align = align; offset = offset })))

-- A store.
abbrev pub store_at : StoreOp → ℕ → ℕ → Op
store_at o align offset = op.Plain (plain.Memory (memory.Store o (record { align = align; offset = offset })))

-- The operation, with this function for one that takes more than eight bytes.
abbrev pub op_with : {T : Type 0} → (T → Op) → OpWith T → Op
op_with other short.Unreachable = op.Plain (plain.Control control.Unreachable)
op_with other short.Nop = op.Plain (plain.Control control.Nop)
op_with other (short.Br l) = op.Plain (plain.Control (control.Br l))
op_with other (short.BrIf l) = op.Plain (plain.Control (control.BrIf l))
op_with other short.Return = op.Plain (plain.Control control.Return)
op_with other (short.Call f) = op.Plain (plain.Control (control.Call f))
op_with other (short.RefNull t) = op.Plain (plain.Reference (reference.Null t))
op_with other short.RefIsNull = op.Plain (plain.Reference reference.IsNull)
op_with other (short.RefFunc f) = op.Plain (plain.Reference (reference.Func f))
op_with other (short.Parametric o) = op.Plain (plain.Parametric o)
op_with other (short.LocalGet x) = op.Plain (plain.Variable (variable.LocalGet x))
op_with other (short.LocalSet x) = op.Plain (plain.Variable (variable.LocalSet x))
op_with other (short.LocalTee x) = op.Plain (plain.Variable (variable.LocalTee x))
op_with other (short.GlobalGet x) = op.Plain (plain.Variable (variable.GlobalGet x))
op_with other (short.GlobalSet x) = op.Plain (plain.Variable (variable.GlobalSet x))
op_with other (short.Load w align offset) = load_at (load.Whole w) align offset
op_with other (short.Load8 w s align offset) = load_at (load.Bits8 w s) align offset
op_with other (short.Load16 w s align offset) = load_at (load.Bits16 w s) align offset
op_with other (short.Load32 s align offset) = load_at (load.Bits32 s) align offset
op_with other (short.Store w align offset) = store_at (store.Whole w) align offset
op_with other (short.Store8 w align offset) = store_at (store.Bits8 w) align offset
op_with other (short.Store16 w align offset) = store_at (store.Bits16 w) align offset
op_with other (short.Store32 align offset) = store_at store.Bits32 align offset
op_with other short.MemorySize = op.Plain (plain.Memory memory.Size)
op_with other short.MemoryGrow = op.Plain (plain.Memory memory.Grow)
op_with other short.MemoryFill = op.Plain (plain.Memory memory.Fill)
op_with other short.MemoryCopy = op.Plain (plain.Memory memory.Copy)
op_with other (short.Numeric o) = op.Plain (plain.Numeric o)
op_with other (short.I32Const n) = op.Plain (plain.I32Const n)
op_with other (short.I64Const n) = op.Plain (plain.I64Const n)
op_with other (short.Block t) = op.Block (block_type_of t)
op_with other (short.Loop t) = op.Loop (block_type_of t)
op_with other (short.If t) = op.If (block_type_of t)
op_with other short.Else = op.Else
op_with other short.End = op.End
op_with other (short.Other t) = other t

-- The borrowed operation.
abbrev pub lent_op : OpWith (Bor Op) → Op
lent_op o = op_with (λ op. op.now) o

-- The mark, as an operation.
abbrev pub mark_op : Mark → Op
mark_op (mark.Block t) = op.Block t
mark_op (mark.Loop t) = op.Loop t
mark_op (mark.If t) = op.If t
mark_op mark.Else = op.Else
mark_op mark.End = op.End

-- The short operation, or the other one.
abbrev pub short_op : Op → OpWith (Unit {0}) → Op
short_op other o = op_with (λ nothing. other) o

-- It begins or ends a body, or has a list.
abbrev pub HasListOrBody : Op → Type 0
HasListOrBody (op.Plain (plain.Control o)) = ⊥
HasListOrBody (op.Plain (plain.BrTable t)) = ⊤
HasListOrBody (op.Plain (plain.Reference o)) = ⊥
HasListOrBody (op.Plain (plain.Parametric o)) = ⊥
HasListOrBody (op.Plain (plain.SelectTyped types)) = ⊤
HasListOrBody (op.Plain (plain.Variable o)) = ⊥
HasListOrBody (op.Plain (plain.Table o)) = ⊥
HasListOrBody (op.Plain (plain.Memory o)) = ⊥
HasListOrBody (op.Plain (plain.Numeric o)) = ⊥
HasListOrBody (op.Plain (plain.I32Const n)) = ⊥
HasListOrBody (op.Plain (plain.I64Const n)) = ⊥
HasListOrBody o = ⊤
