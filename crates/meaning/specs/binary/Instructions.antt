-- The encodings of instructions, bodies and expressions (Binary Format, Instructions).
use Rattle.std.specs.Prelude.{◌≡◌, ℕ, ◌+◌, ◌⊎◌, ℤ, List, [], ◌∷◌, Option, Some, slice_get, ◌++◌}
use Rattle.core_types.specs.declared.op.BranchTable.{BranchTable}
use Rattle.core_types.specs.declared.op.ControlOp.{ControlOp}
use Rattle.core_types.specs.declared.op.ControlOp.TheVariants.{Unreachable, Nop, Br, BrIf, Return, Call, CallIndirect, ReturnCall, ReturnCallIndirect}
use Rattle.core_types.specs.declared.op.Conversion.TheVariants.{I32WrapI64, I64ExtendI32S, I64ExtendI32U, I64Extend32S}
use Rattle.core_types.specs.declared.op.MemArg.{MemArg}
use Rattle.core_types.specs.declared.op.MemoryOp.{MemoryOp}
use Rattle.core_types.specs.declared.op.MemoryOp.TheVariants as memory
use Rattle.core_types.specs.declared.op.NumericOp.{NumericOp}
use Rattle.core_types.specs.declared.op.NumericOp.TheVariants.{Eqz, Compare, Unary, Binary, Convert}
use Rattle.core_types.specs.declared.op.ParametricOp.{ParametricOp}
use Rattle.core_types.specs.declared.op.ParametricOp.TheVariants.{DropOperand, Select}
use Rattle.core_types.specs.declared.op.PlainOp.{PlainOp}
use Rattle.core_types.specs.declared.op.PlainOp.TheVariants.{Control, BrTable, Reference, Parametric, SelectTyped, Variable, Table, Memory, Numeric, I32Const, I64Const}
use Rattle.core_types.specs.declared.op.ReferenceOp.{ReferenceOp}
use Rattle.core_types.specs.declared.op.ReferenceOp.TheVariants as reference
use Rattle.core_types.specs.declared.op.TableOp.{TableOp}
use Rattle.core_types.specs.declared.op.TableOp.TheVariants as table
use Rattle.core_types.specs.declared.op.VariableOp.{VariableOp}
use Rattle.core_types.specs.declared.op.VariableOp.TheVariants.{LocalGet, LocalSet, LocalTee, GlobalGet, GlobalSet}
use Rattle.core_types.specs.declared.op.Width.TheVariants.{W32, W64}
use Rattle.meaning.specs.binary.Values.{SpellsUnsigned, SpellsSigned, SpellsIndex, SpellsVector}
use Rattle.meaning.specs.binary.Conventions.{SpellsBoth, SpellsPair, SpellsTagged}
use Rattle.meaning.specs.binary.Types.{SpellsRefType, SpellsValType, SpellsBlockType}
use Rattle.core_types.specs.declared.op.Op.{Op}
use Rattle.meaning.specs.structure.Bodies.{Kind, BlockKind, LoopKind, IfKind, Body, Empty, Then, Nested, IfElse, writing}
use Rattle.core_types.specs.Opcodes.{loads, stores, comparisons, bit_counts, binary_ops, sign_extensions}
use Rattle.core_types.specs.reading.Values.{stored}

-- A signed number, by the number with which it is stored.
abbrev pub SpellsStored : ℕ → List ℕ → ℕ → Type 0
SpellsStored bits bytes n = (z : ℤ) × SpellsSigned bits bytes z × (n ≡ stored bits z)

-- The byte FC, an unsigned number, and an encoding after them.
abbrev pub SpellsPrefixed : {V : Type 0} → ℕ → (List ℕ → V → Type 0) → List ℕ → V → Type 0
SpellsPrefixed {V} n Spells bytes v =
    SpellsTagged 0xFC (SpellsPair (SpellsUnsigned 32) Spells) bytes (n, v)

-- These bytes and nothing more.
abbrev pub SpellsExactly : List ℕ → List ℕ → Unit {0} → Type 0
SpellsExactly expected bytes nothing = bytes ≡ expected

abbrev pub SpellsTwoIndices : List ℕ → ℕ × ℕ → Type 0
SpellsTwoIndices bytes pair = SpellsPair SpellsIndex SpellsIndex bytes pair

-- Control Instructions.
abbrev pub SpellsControl : List ℕ → ControlOp → Type 0
SpellsControl bytes Unreachable = bytes ≡ 0x00 ∷ []
SpellsControl bytes Nop = bytes ≡ 0x01 ∷ []
SpellsControl bytes (Br label) = SpellsTagged 0x0C SpellsIndex bytes label
SpellsControl bytes (BrIf label) = SpellsTagged 0x0D SpellsIndex bytes label
SpellsControl bytes Return = bytes ≡ 0x0F ∷ []
SpellsControl bytes (Call x) = SpellsTagged 0x10 SpellsIndex bytes x
SpellsControl bytes (CallIndirect ty x) = SpellsTagged 0x11 SpellsTwoIndices bytes (ty, x)
SpellsControl bytes (ReturnCall x) = SpellsTagged 0x12 SpellsIndex bytes x
SpellsControl bytes (ReturnCallIndirect ty x) = SpellsTagged 0x13 SpellsTwoIndices bytes (ty, x)

abbrev pub SpellsBranchTable : List ℕ → BranchTable → Type 0
SpellsBranchTable bytes t =
    SpellsBoth (SpellsVector SpellsIndex) SpellsIndex bytes t.labels t.default

-- Reference Instructions.
abbrev pub SpellsReference : List ℕ → ReferenceOp → Type 0
SpellsReference bytes (reference.Null t) = SpellsTagged 0xD0 SpellsRefType bytes t
SpellsReference bytes reference.IsNull = bytes ≡ 0xD1 ∷ []
SpellsReference bytes (reference.Func x) = SpellsTagged 0xD2 SpellsIndex bytes x

-- Parametric Instructions.
abbrev pub SpellsParametric : List ℕ → ParametricOp → Type 0
SpellsParametric bytes DropOperand = bytes ≡ 0x1A ∷ []
SpellsParametric bytes Select = bytes ≡ 0x1B ∷ []

-- Variable Instructions.
abbrev pub SpellsVariable : List ℕ → VariableOp → Type 0
SpellsVariable bytes (LocalGet x) = SpellsTagged 0x20 SpellsIndex bytes x
SpellsVariable bytes (LocalSet x) = SpellsTagged 0x21 SpellsIndex bytes x
SpellsVariable bytes (LocalTee x) = SpellsTagged 0x22 SpellsIndex bytes x
SpellsVariable bytes (GlobalGet x) = SpellsTagged 0x23 SpellsIndex bytes x
SpellsVariable bytes (GlobalSet x) = SpellsTagged 0x24 SpellsIndex bytes x

-- Table Instructions. A copy first names the table that it writes. An initialization first names the segment.
abbrev pub SpellsTable : List ℕ → TableOp → Type 0
SpellsTable bytes (table.Get x) = SpellsTagged 0x25 SpellsIndex bytes x
SpellsTable bytes (table.Set x) = SpellsTagged 0x26 SpellsIndex bytes x
SpellsTable bytes (table.Init segment x) = SpellsPrefixed 12 SpellsTwoIndices bytes (segment, x)
SpellsTable bytes (table.ElemDrop segment) = SpellsPrefixed 13 SpellsIndex bytes segment
SpellsTable bytes (table.Copy target source) =
    SpellsPrefixed 14 SpellsTwoIndices bytes (target, source)
SpellsTable bytes (table.Grow x) = SpellsPrefixed 15 SpellsIndex bytes x
SpellsTable bytes (table.Size x) = SpellsPrefixed 16 SpellsIndex bytes x
SpellsTable bytes (table.Fill x) = SpellsPrefixed 17 SpellsIndex bytes x

-- One byte, the opcode of x in a row of opcodes from the first on.
abbrev pub IsOpcode : {X : Type 0} → ℕ → List (Option X) → X → ℕ → Type 0
IsOpcode {X} first row x code =
    (place : ℕ) × (slice_get row place ≡ Some (Some x)) × (code ≡ first + place)

-- The alignment, and the offset.
abbrev pub SpellsMemArg : List ℕ → MemArg → Type 0
SpellsMemArg bytes m = SpellsBoth (SpellsUnsigned 32) (SpellsUnsigned 32) bytes m.align m.offset

-- Memory Instructions. The index of the one memory is the byte 00.
abbrev pub SpellsMemory : List ℕ → MemoryOp → Type 0
SpellsMemory bytes (memory.Load op argument) =
    (code : ℕ) × IsOpcode 0x28 loads op code × SpellsTagged code SpellsMemArg bytes argument
SpellsMemory bytes (memory.Store op argument) =
    (code : ℕ) × IsOpcode 0x36 stores op code × SpellsTagged code SpellsMemArg bytes argument
SpellsMemory bytes memory.Size = bytes ≡ 0x3F ∷ 0x00 ∷ []
SpellsMemory bytes memory.Grow = bytes ≡ 0x40 ∷ 0x00 ∷ []
SpellsMemory bytes (memory.Init segment) =
    SpellsPrefixed 8 (SpellsPair SpellsIndex (SpellsExactly (0x00 ∷ []))) bytes (segment, tt)
SpellsMemory bytes (memory.DataDrop segment) = SpellsPrefixed 9 SpellsIndex bytes segment
SpellsMemory bytes memory.Copy = SpellsPrefixed 10 (SpellsExactly (0x00 ∷ 0x00 ∷ [])) bytes tt
SpellsMemory bytes memory.Fill = SpellsPrefixed 11 (SpellsExactly (0x00 ∷ [])) bytes tt

-- One byte, that of x in a row of opcodes from the first on.
abbrev pub IsInRow : {X : Type 0} → ℕ → List X → X → List ℕ → Type 0
IsInRow {X} first row x bytes =
    (place : ℕ) × (slice_get row place ≡ Some x) × (bytes ≡ (first + place) ∷ [])

-- Numeric Instructions without an immediate.
abbrev pub SpellsNumeric : List ℕ → NumericOp → Type 0
SpellsNumeric bytes (Eqz W32) = bytes ≡ 0x45 ∷ []
SpellsNumeric bytes (Eqz W64) = bytes ≡ 0x50 ∷ []
SpellsNumeric bytes (Compare W32 op) = IsInRow 0x46 comparisons op bytes
SpellsNumeric bytes (Compare W64 op) = IsInRow 0x51 comparisons op bytes
SpellsNumeric bytes (Unary W32 op) =
    IsInRow 0x67 bit_counts op bytes ⊎ IsInRow 0xC0 sign_extensions op bytes
SpellsNumeric bytes (Unary W64 op) =
    IsInRow 0x79 bit_counts op bytes ⊎ IsInRow 0xC2 sign_extensions op bytes
SpellsNumeric bytes (Binary W32 op) = IsInRow 0x6A binary_ops op bytes
SpellsNumeric bytes (Binary W64 op) = IsInRow 0x7C binary_ops op bytes
SpellsNumeric bytes (Convert I32WrapI64) = bytes ≡ 0xA7 ∷ []
SpellsNumeric bytes (Convert I64ExtendI32S) = bytes ≡ 0xAC ∷ []
SpellsNumeric bytes (Convert I64ExtendI32U) = bytes ≡ 0xAD ∷ []
SpellsNumeric bytes (Convert I64Extend32S) = bytes ≡ 0xC4 ∷ []

-- An instruction that has no body.
abbrev pub SpellsPlain : List ℕ → PlainOp → Type 0
SpellsPlain bytes (Control op) = SpellsControl bytes op
SpellsPlain bytes (BrTable t) = SpellsTagged 0x0E SpellsBranchTable bytes t
SpellsPlain bytes (Reference op) = SpellsReference bytes op
SpellsPlain bytes (Parametric op) = SpellsParametric bytes op
SpellsPlain bytes (SelectTyped types) = SpellsTagged 0x1C (SpellsVector SpellsValType) bytes types
SpellsPlain bytes (Variable op) = SpellsVariable bytes op
SpellsPlain bytes (Table op) = SpellsTable bytes op
SpellsPlain bytes (Memory op) = SpellsMemory bytes op
SpellsPlain bytes (Numeric op) = SpellsNumeric bytes op
SpellsPlain bytes (I32Const n) = SpellsTagged 0x41 (SpellsStored 32) bytes n
SpellsPlain bytes (I64Const n) = SpellsTagged 0x42 (SpellsStored 64) bytes n

-- The opcode with which an instruction with a body begins.
abbrev pub opcode_of : Kind → ℕ
opcode_of BlockKind = 0x02
opcode_of LoopKind = 0x03
opcode_of IfKind = 0x04

-- Instructions in a row. A body extends to the byte 0B, and the first body of an if with two extends to the byte 05.
abbrev pub SpellsBody : List ℕ → Body → Type 0
SpellsBody bytes Empty = bytes ≡ []
SpellsBody bytes (Then op rest) =
    (first others : List ℕ) × (bytes ≡ first ++ others) × SpellsPlain first op ×
    SpellsBody others rest
SpellsBody bytes (Nested kind type inner rest) =
    (begin inside others : List ℕ) × (bytes ≡ begin ++ (inside ++ (0x0B ∷ others)))
    × SpellsTagged (opcode_of kind) SpellsBlockType begin type × SpellsBody inside inner ×
    SpellsBody others rest
SpellsBody bytes (IfElse type inner other rest) =
    (begin inside second others : List ℕ) ×
    (bytes ≡ begin ++ (inside ++ (0x05 ∷ (second ++ (0x0B ∷ others)))))
    × SpellsTagged 0x04 SpellsBlockType begin type
    × SpellsBody inside inner × SpellsBody second other × SpellsBody others rest

-- Instructions, and the end (Expressions).
abbrev pub SpellsExpression : List ℕ → Body → Type 0
SpellsExpression bytes tree = (body : List ℕ) × (bytes ≡ body ++ 0x0B ∷ []) × SpellsBody body tree

-- An expression, by its flat writing.
abbrev pub SpellsFlat : List ℕ → List Op → Type 0
SpellsFlat bytes ops = (tree : Body) × SpellsExpression bytes tree × (ops ≡ writing tree)
