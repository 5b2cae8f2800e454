-- The numbers of operands that each instruction takes and gives, which count its type (Validation, Instructions).
use Rattle.sidetable.specs.declared.counts.Counts.{Counts}
use Rattle.std.specs.Prelude.{◌≡◌, ◌≤◌, ℕ, zero, suc, ◌+◌, ◌-◌, List, length, max, Option, Some, None, slice_get}
use Rattle.core_types.specs.declared.op.BlockType.{BlockType}
use Rattle.core_types.specs.declared.op.ControlOp.{ControlOp}
use Rattle.core_types.specs.declared.op.ControlOp.TheVariants.{Unreachable, Nop, Br, BrIf, Return, Call, CallIndirect, ReturnCall, ReturnCallIndirect}
use Rattle.core_types.specs.declared.op.Op.{Op}
use Rattle.core_types.specs.declared.op.Op.TheVariants as op
use Rattle.core_types.specs.declared.op.ReferenceOp.{ReferenceOp}
use Rattle.core_types.specs.declared.op.ReferenceOp.TheVariants as reference
use Rattle.core_types.specs.declared.op.ParametricOp.{ParametricOp}
use Rattle.core_types.specs.declared.op.ParametricOp.TheVariants.{DropOperand, Select}
use Rattle.core_types.specs.declared.op.VariableOp.{VariableOp}
use Rattle.core_types.specs.declared.op.VariableOp.TheVariants.{LocalGet, LocalSet, LocalTee, GlobalGet, GlobalSet}
use Rattle.core_types.specs.declared.op.NumericOp.{NumericOp}
use Rattle.core_types.specs.declared.op.NumericOp.TheVariants.{Eqz, Compare, Unary, Binary, Convert}
use Rattle.core_types.specs.declared.op.TableOp.{TableOp}
use Rattle.core_types.specs.declared.op.TableOp.TheVariants as table
use Rattle.core_types.specs.declared.op.MemoryOp.{MemoryOp}
use Rattle.core_types.specs.declared.op.MemoryOp.TheVariants as memory
use Rattle.core_types.specs.declared.op.PlainOp.{PlainOp}
use Rattle.core_types.specs.declared.op.PlainOp.TheVariants.{Control, BrTable, Reference, Parametric, SelectTyped, Variable, Table, Memory, Numeric, I32Const, I64Const}
use Rattle.core_types.specs.declared.types.FuncType.{FuncType}
use Rattle.meaning.specs.validation.Types.{block_type}

-- The types that a function's body refers to: those of the module, and those of its functions by index, imports first.
pub record Signatures : Type 0 where
  pub types : List FuncType
  pub functions : List FuncType

abbrev pub counts : ℕ → ℕ → Counts
counts takes gives = record { takes = takes; gives = gives }

abbrev pub counts_of_type : Option FuncType → Counts
counts_of_type None = counts 0 0
counts_of_type (Some t) = counts (length t.params) (length t.results)

-- The counts with one more operand, an i32 on top.
abbrev pub with_i32_counts : Counts → Counts
with_i32_counts c = counts (suc c.takes) c.gives

abbrev pub reference_counts : ReferenceOp → Counts
reference_counts (reference.Null t) = counts 0 1
reference_counts reference.IsNull = counts 1 1
reference_counts (reference.Func x) = counts 0 1

abbrev pub parametric_counts : ParametricOp → Counts
parametric_counts DropOperand = counts 1 0
parametric_counts Select = counts 3 1

abbrev pub variable_counts : VariableOp → Counts
variable_counts (LocalGet x) = counts 0 1
variable_counts (LocalSet x) = counts 1 0
variable_counts (LocalTee x) = counts 1 1
variable_counts (GlobalGet x) = counts 0 1
variable_counts (GlobalSet x) = counts 1 0

abbrev pub numeric_counts : NumericOp → Counts
numeric_counts (Eqz width) = counts 1 1
numeric_counts (Compare width op) = counts 2 1
numeric_counts (Unary width op) = counts 1 1
numeric_counts (Binary width op) = counts 2 1
numeric_counts (Convert op) = counts 1 1

abbrev pub table_counts : TableOp → Counts
table_counts (table.Get x) = counts 1 1
table_counts (table.Set x) = counts 2 0
table_counts (table.Size x) = counts 0 1
table_counts (table.Grow x) = counts 2 1
table_counts (table.Fill x) = counts 3 0
table_counts (table.Copy target source) = counts 3 0
table_counts (table.Init segment x) = counts 3 0
table_counts (table.ElemDrop segment) = counts 0 0

abbrev pub memory_counts : MemoryOp → Counts
memory_counts (memory.Load op argument) = counts 1 1
memory_counts (memory.Store op argument) = counts 2 0
memory_counts memory.Size = counts 0 1
memory_counts memory.Grow = counts 1 1
memory_counts memory.Fill = counts 3 0
memory_counts memory.Copy = counts 3 0
memory_counts (memory.Init segment) = counts 3 0
memory_counts (memory.DataDrop segment) = counts 0 0

-- The counts, or none if the next operation is never reached from the instruction. A br_if takes its condition. The operands that it
-- passes to its label also stay.
abbrev pub control_counts : Signatures → ControlOp → Option Counts
control_counts s Unreachable = None
control_counts s Nop = Some (counts 0 0)
control_counts s (Br label) = None
control_counts s (BrIf label) = Some (counts 1 0)
control_counts s Return = None
control_counts s (Call x) = Some (counts_of_type (slice_get s.functions x))
control_counts s (CallIndirect ty x) = Some (with_i32_counts (counts_of_type (slice_get s.types ty)))
control_counts s (ReturnCall x) = None
control_counts s (ReturnCallIndirect ty x) = None

abbrev pub counts_of : Signatures → PlainOp → Option Counts
counts_of s (Control op) = control_counts s op
counts_of s (BrTable t) = None
counts_of s (Reference op) = Some (reference_counts op)
counts_of s (Parametric op) = Some (parametric_counts op)
counts_of s (SelectTyped types) = Some (counts 3 1)
counts_of s (Variable op) = Some (variable_counts op)
counts_of s (Table op) = Some (table_counts op)
counts_of s (Memory op) = Some (memory_counts op)
counts_of s (Numeric op) = Some (numeric_counts op)
counts_of s (I32Const n) = Some (counts 0 1)
counts_of s (I64Const n) = Some (counts 0 1)

-- This is an instruction without a body, which takes and gives that many operands.
abbrev pub HasCounts : Signatures → Op → Option Counts → Type 0
HasCounts s (op.Plain o) found = found ≡ counts_of s o
HasCounts s o found = ⊥

-- The number of parameters and the number of results of a block.
abbrev pub block_counts : Signatures → BlockType → Counts
block_counts s type = counts_of_type (block_type s.types type)

-- ---- heights: the number of operands above the locals, or none if the place is never reached

-- The height after an instruction with these counts.
abbrev pub changed : Counts → Option ℕ → Option ℕ
changed c None = None
changed c (Some h) = Some (h - c.takes + c.gives)

abbrev pub behind : Option Counts → Option ℕ → Option ℕ
behind None h = None
behind (Some c) h = changed c h

-- The height with that many operands less.
abbrev pub less : ℕ → Option ℕ → Option ℕ
less n None = None
less n (Some h) = Some (h - n)

-- The height below a number: none below 0.
abbrev pub height_below : ℕ → Option ℕ
height_below zero = None
height_below (suc h) = Some h

abbrev pub number_above : Option ℕ → ℕ
number_above None = 0
number_above (Some h) = suc h

abbrev pub height_or_zero : Option ℕ → ℕ
height_or_zero None = 0
height_or_zero (Some h) = h

-- The height at a place, and the greatest one so far.
pub record HeightsSoFar : Type 0 where
  pub here : Option ℕ
  pub greatest : ℕ

-- A place at this height follows. The greatest height so far is at least the one here.
pub record GoesOnAt (old : HeightsSoFar) (height : Option ℕ) (new : HeightsSoFar) : Type 0 where
  pub here : new.here ≡ height
  pub greatest : new.greatest ≡ max old.greatest (height_or_zero height)
  pub within : height_or_zero old.here ≤ old.greatest
