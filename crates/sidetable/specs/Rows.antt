-- Worked rows of flat code, and the operations that each form of body leaves.
use Rattle.std.specs.Prelude.{◌≡◌, ℕ, ◌-◌, List, [], ◌∷◌}
use Rattle.core_types.specs.declared.op.BinaryOp.TheVariants.{Add, Sub}
use Rattle.core_types.specs.declared.op.BlockType.{BlockType}
use Rattle.core_types.specs.declared.op.BlockType.TheVariants as block
use Rattle.core_types.specs.declared.op.ControlOp.TheVariants as control
use Rattle.core_types.specs.declared.op.NumericOp.TheVariants.{Binary}
use Rattle.core_types.specs.declared.op.PlainOp.{PlainOp}
use Rattle.core_types.specs.declared.op.PlainOp.TheVariants.{Control, I32Const, Numeric, Variable}
use Rattle.core_types.specs.declared.op.VariableOp.TheVariants.{LocalGet, LocalSet, LocalTee}
use Rattle.core_types.specs.declared.op.Width.TheVariants.{W32}
use Rattle.core_types.specs.declared.types.ValType.TheVariants.{I32}
use Rattle.meaning.specs.structure.Bodies.{Body, BlockKind, LoopKind, IfKind, Empty, Then, Nested, IfElse}
use Rattle.sidetable.specs.Counts.{Signatures, block_counts}
use Rattle.sidetable.specs.Flat.{FlatOp, Plain, Enter, If, Jump, Br, BrIf, Return, Leave, entry_of, function_greatest, function_operations}

-- ---- functions

abbrev no_types : Signatures
no_types = record { types = []; functions = [] }

-- The instructions of a body without bodies in it.
abbrev pub sequence : List PlainOp → Body → Body
sequence [] rest = rest
sequence (op ∷ ops) rest = Then op (sequence ops rest)

abbrev pub plain_ops : List PlainOp → List FlatOp → List FlatOp
plain_ops [] more = more
plain_ops (op ∷ ops) more = Plain op ∷ plain_ops ops more

abbrev local : ℕ → PlainOp
local x = Variable (LocalGet x)

abbrev three_constants : List PlainOp
three_constants = I32Const 7 ∷ I32Const 8 ∷ I32Const 9 ∷ []

-- The code of a function with that many locals and results that begins at a place, and its greatest height.
abbrev pub IsCode : (locals results at : ℕ) → Body → List FlatOp → (greatest : ℕ) → Type 0
IsCode locals results at body ops greatest =
    (function_operations no_types locals results at body ≡ ops)
    × (function_greatest no_types locals results body ≡ greatest)

-- A block of one result, with a branch out of it after three constants, in a function with two locals whose code begins at 7.
abbrev pub BranchOverThree : Type 0
BranchOverThree =
    IsCode 2 1 7
    (Nested BlockKind (block.Value I32) (sequence three_constants
    (Then (Control (control.Br 0)) Empty)) Empty)
    (Enter ∷ plain_ops three_constants (Br (entry_of 12 1 2) ∷ Leave 1 ∷ []))
    5

-- A turn of the loop before its branch: it adds the first local to the second, and subtracts one from the first.
abbrev turn : List PlainOp
turn = local 1 ∷ local 0 ∷ Numeric (Binary W32 Add) ∷ Variable (LocalSet 1) ∷ local 0 ∷ I32Const 1 ∷
    Numeric (Binary W32 Sub) ∷
    Variable (LocalTee 0) ∷
    []

-- A sum by a loop.
abbrev pub Sum : Type 0
Sum =
    IsCode 2 1 0
    (Nested LoopKind block.Empty (sequence turn (Then (Control (control.BrIf 0)) Empty))
    (Then (local 1) Empty))
    (Enter ∷ plain_ops turn (BrIf (entry_of 0 0 2) ∷ Plain (local 1) ∷ Leave 1 ∷ []))
    4

-- An if of two constants, after three operations.
abbrev pub SevenOrEight : Type 0
SevenOrEight =
    IsCode 1 1 3
    (Then (local 0) (IfElse (block.Value I32) (Then (I32Const 7) Empty) (Then (I32Const 8) Empty)
    Empty))
    (Plain (local 0) ∷ If (entry_of 7 0 1) ∷ Plain (I32Const 7) ∷ Jump (entry_of 8 1 1) ∷
    Plain (I32Const 8) ∷
    Leave 1 ∷
    [])
    2

-- ---- what a form leaves, as the whole code of a module's first function, with that many locals and results

abbrev Leaves : Signatures → (locals results : ℕ) → Body → List FlatOp → Type 0
Leaves s locals results body ops = function_operations s locals results 0 body ≡ ops

abbrev branch : Body
branch = Then (Control (control.Br 0)) Empty

-- A block leaves one operation and its inside. A branch out of it continues after it, with its results.
abbrev pub BlockLeaves : Type 0
BlockLeaves =
    (s : Signatures) (locals results : ℕ) (type : BlockType)
    → Leaves s locals results (Nested BlockKind type branch Empty)
    (Enter ∷ Br (entry_of 2 (block_counts s type).gives (locals - (block_counts s type).takes)) ∷
    Leave results ∷
    [])

-- So does a loop. A branch to its label restarts it, with its parameters.
abbrev pub LoopLeaves : Type 0
LoopLeaves =
    (s : Signatures) (locals results : ℕ) (type : BlockType)
    → Leaves s locals results (Nested LoopKind type branch Empty)
    (Enter ∷ Br (entry_of 0 (block_counts s type).takes (locals - (block_counts s type).takes)) ∷
    Leave results ∷
    [])

-- An if without else continues after it if the condition is zero, with its parameters.
abbrev pub IfLeaves : Type 0
IfLeaves =
    (s : Signatures) (locals results : ℕ) (type : BlockType)
    → Leaves s locals results (Nested IfKind type branch Empty)
    (If (entry_of 2 (block_counts s type).takes (locals - 1 - (block_counts s type).takes)) ∷
    Br (entry_of 2 (block_counts s type).gives (locals - 1 - (block_counts s type).takes)) ∷
    Leave results ∷
    [])

-- One with else continues at its second body then. An else leaves a jump past that, with the results.
abbrev pub IfElseLeaves : Type 0
IfElseLeaves =
    (s : Signatures) (locals results : ℕ) (type : BlockType)
    → Leaves s locals results (IfElse type branch branch Empty)
    (If (entry_of 3 (block_counts s type).takes (locals - 1 - (block_counts s type).takes)) ∷
    Br (entry_of 4 (block_counts s type).gives (locals - 1 - (block_counts s type).takes)) ∷
    Jump (entry_of 4 (block_counts s type).gives (locals - 1 - (block_counts s type).takes)) ∷
    Br (entry_of 4 (block_counts s type).gives (locals - 1 - (block_counts s type).takes)) ∷
    Leave results ∷
    [])

-- A branch to the outermost label leaves the function with its results, as a return does.
abbrev pub BranchLeaves : Type 0
BranchLeaves =
    (s : Signatures) (locals results : ℕ)
    → Leaves s locals results branch (Br (entry_of 1 results locals) ∷ Leave results ∷ [])

abbrev pub ReturnLeaves : Type 0
ReturnLeaves =
    (s : Signatures) (locals results : ℕ)
    → Leaves s locals results (Then (Control control.Return) Empty)
    (Return (entry_of 1 results locals) ∷ Leave results ∷ [])
