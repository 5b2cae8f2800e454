-- The steps of instructions on tables, memories and segments, in a frame.
use Rattle.std.specs.Prelude.{◌≡◌, ℕ, suc, ◌+◌, ◌-◌, ◌<◌, ◌≤◌, List, [], ◌∷◌, ◌++◌, length, reverse, take, drop, get_or, Option, Some, None}
use Rattle.core_types.specs.declared.op.MemoryOp.{MemoryOp}
use Rattle.core_types.specs.declared.op.MemoryOp.TheVariants as memory
use Rattle.core_types.specs.declared.op.PlainOp.{PlainOp}
use Rattle.core_types.specs.declared.op.PlainOp.TheVariants.{Memory, Table}
use Rattle.core_types.specs.declared.op.TableOp.{TableOp}
use Rattle.core_types.specs.declared.op.TableOp.TheVariants as table
use Rattle.core_types.specs.declared.outcome.Trap.{Trap}
use Rattle.core_types.specs.declared.outcome.Val.{Val}
use Rattle.core_types.specs.declared.types.FuncType.{FuncType}
use Rattle.core_types.specs.declared.types.RefType.TheVariants.{FuncRef}
use Rattle.core_types.specs.declared.types.ValType.{ValType}
use Rattle.core_types.specs.declared.types.ValType.TheVariants.{I32}
use Rattle.meaning.specs.execution.Effects.{Done, Effect, Fails, Grown, effect, table_at}
use Rattle.meaning.specs.execution.Store.{Store}
use Rattle.meaning.specs.execution.Tables.{TableInstance}
use Rattle.meaning.specs.validation.Instructions.{load_type, store_type}
use Rattle.meaning.specs.validation.Types.{function_type, reference_type}
use Rattle.cells.specs.Cells.{AreCellsOf, IsCellOf, values_of}
use Rattle.sidetable.specs.Flat.{Plain}
use Rattle.simulation.specs.Instructions.{IsTrapped}
use Rattle.simulation.specs.Operations.{IsDear}
use Rattle.simulation.specs.Piles.{cells_of}
use Rattle.simulation.specs.Runs.{AsksToGrow, Ghost, IsBefore, Lacks, FrameReaches, frame_of}
use Rattle.simulation.specs.Settling.{HasNoAlignment}

-- ---- outcomes

-- A store and results at a cost, the topmost first; the same if something grows; or a trap.
pub data Outcome : Type 0 where
  made : (cost : ℕ) (store : Store) (results : List Val) → Outcome
  grown : (cost : ℕ) (store : Store) (results : List Val) → Outcome
  failed : (trap : Trap) → Outcome

-- The effect of this outcome over values.
abbrev pub effect_of : Outcome → (locals values : List Val) → Effect
effect_of (made cost store results) locals values = Done cost store locals (results ++ values)
effect_of (grown cost store results) locals values = Grown cost store locals (results ++ values)
effect_of (failed trap) locals values = Fails trap

-- The outcome has that many results, and the instances of the store.
abbrev pub IsOutcome : Store → (many : ℕ) → Outcome → Type 0
IsOutcome old many (made cost store results) =
    (length results ≡ many) × (store.instances ≡ old.instances)
IsOutcome old many (grown cost store results) =
    (length results ≡ many) × (store.instances ≡ old.instances)
IsOutcome old many (failed trap) = Unit {0}

-- ---- results of steps

-- At a cost, with this store and these results at a height, the code continues with the next operation.
abbrev pub IsMade : Ghost → (cost : ℕ) → Store → List ℕ → (at below : ℕ) → List Val → Type 0
IsMade g cost store' cells at below results =
    (cells' : List ℕ) (next_at next_top fuel left : ℕ)
    → take next_top cells' ≡ take below cells ++ cells_of results → length cells' ≡ length cells
    → next_at ≡ suc at → next_top ≡ below + length results → cost ≤ fuel → left ≡ fuel - cost
    → FrameReaches g fuel store' cells' next_at next_top left

-- Without fuel for the cost, the code lacks fuel.
abbrev pub IsDearAt : Ghost → (cost : ℕ) → List ℕ → (at top : ℕ) → Type 0
IsDearAt g cost cells at top = (fuel : ℕ) → fuel < cost → Lacks g fuel cells at top fuel

-- The outcome, over the cells up to a height. A growth is first asked for, at no cost.
abbrev pub HasOutcome : Ghost → List ℕ → (at top below : ℕ) → Outcome → Type 0
HasOutcome g cells at top below (made cost store results) =
    IsMade g cost store cells at below results × IsDearAt g cost cells at top
HasOutcome g cells at top below (grown cost store results) =
    IsMade g cost store cells at below results × IsDearAt g cost cells at top
    × ((fuel : ℕ) → AsksToGrow g fuel cells at top cost)
HasOutcome g cells at top below (failed trap) =
    IsTrapped g cells at top trap × IsDear g cells at top

-- ---- operands

-- The topmost cells, that many of them, the lowest first.
abbrev pub operand_cells : List ℕ → (top many : ℕ) → List ℕ
operand_cells cells top many = take many (drop (top - many) cells)

-- The operands are above the locals and have these types: in a row, and one by one from the top.
pub record HasOperands (g : Ghost) (cells : List ℕ) (top : ℕ) (types : List ValType) : Type 0 where
  pub above : length g.locals + length types ≤ top
  pub inside : top ≤ length cells
  pub fit : AreCellsOf types (operand_cells cells top (length types))
  pub each : (k : ℕ) → k < length types →
      IsCellOf (get_or (reverse types) k I32) (get_or cells (top - suc k) 0)

-- The operands of these types, the topmost first.
abbrev pub operands : List ValType → List ℕ → (top : ℕ) → List Val
operands types cells top = reverse (values_of types (operand_cells cells top (length types)))

-- Operands of these types are on top, and for each result of a function on them there is an outcome.
abbrev pub Answers : {T : Type 0} → Ghost → List ℕ → (at top : ℕ) → List ValType → T
    → (T → Outcome) → Type 0
Answers {T} g cells at top types found outcome =
    HasOperands g cells top types
    × ((result : T) → found ≡ result
    → HasOutcome g cells at top (top - length types) (outcome result))

-- ---- types of instructions

-- The type of the entries of a table, if it exists.
abbrev pub entry_type : Option (ℕ × TableInstance) → ValType
entry_type None = reference_type FuncRef
entry_type (Some (address, t)) = reference_type t.ty.element

-- The type of an instruction on tables, by the types of their entries.
abbrev pub table_instruction_type : (entries : ℕ → ValType) → TableOp → FuncType
table_instruction_type entries (table.Get x) = function_type (I32 ∷ []) (entries x ∷ [])
table_instruction_type entries (table.Set x) = function_type (I32 ∷ entries x ∷ []) []
table_instruction_type entries (table.Size x) = function_type [] (I32 ∷ [])
table_instruction_type entries (table.Grow x) = function_type (entries x ∷ I32 ∷ []) (I32 ∷ [])
table_instruction_type entries (table.Fill x) = function_type (I32 ∷ entries x ∷ I32 ∷ []) []
table_instruction_type entries (table.Copy target source) = function_type (I32 ∷ I32 ∷ I32 ∷ []) []
table_instruction_type entries (table.Init segment x) = function_type (I32 ∷ I32 ∷ I32 ∷ []) []
table_instruction_type entries (table.ElemDrop segment) = function_type [] []

abbrev pub memory_instruction_type : MemoryOp → FuncType
memory_instruction_type (memory.Load op argument) = function_type (I32 ∷ []) (load_type op ∷ [])
memory_instruction_type (memory.Store op argument) = function_type (I32 ∷ store_type op ∷ []) []
memory_instruction_type memory.Size = function_type [] (I32 ∷ [])
memory_instruction_type memory.Grow = function_type (I32 ∷ []) (I32 ∷ [])
memory_instruction_type memory.Fill = function_type (I32 ∷ I32 ∷ I32 ∷ []) []
memory_instruction_type memory.Copy = function_type (I32 ∷ I32 ∷ I32 ∷ []) []
memory_instruction_type (memory.Init segment) = function_type (I32 ∷ I32 ∷ I32 ∷ []) []
memory_instruction_type (memory.DataDrop segment) = function_type [] []

-- An instruction on tables, the memory or segments that is not a load or a store.
abbrev pub IsOnStore : PlainOp → Type 0
IsOnStore (Table op) = Unit {0}
IsOnStore (Memory op) = HasNoAlignment op
IsOnStore op = ⊥

-- The type of such an instruction in the frame.
abbrev pub instruction_type : Ghost → PlainOp → FuncType
instruction_type g (Table op) =
    table_instruction_type (λ (x : ℕ). entry_type (table_at g.store (frame_of g) x)) op
instruction_type g (Memory op) = memory_instruction_type op
instruction_type g op = function_type [] []

-- ---- all of them

-- The operands of the instruction exist, and there is room for its results. Its outcome is its effect on the operands.
abbrev pub ActsOnStore : Type 0
ActsOnStore =
    (g : Ghost) (cells : List ℕ) (at top : ℕ) (op : PlainOp) → IsOnStore op
    → IsBefore (Plain op) g cells at top
    → HasOperands g cells top (instruction_type g op).params
    × (top - length (instruction_type g op).params + length (instruction_type g op).results
    ≤ length cells)
    × ((outcome : Outcome) → IsOutcome g.store (length (instruction_type g op).results) outcome
    → ((values : List Val)
    → effect g.store (frame_of g) op (operands (instruction_type g op).params cells top ++ values)
    ≡ effect_of outcome g.locals values)
    → HasOutcome g cells at top (top - length (instruction_type g op).params) outcome)
