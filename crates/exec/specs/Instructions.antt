-- Instructions on tables, memories and segments, which the loop leaves to the call at rest.
use Rattle.std.specs.Prelude.{◌≡◌, ℕ, zero, suc, ◌+◌, ◌-◌, ◌<◌, ◌≤◌, List, length, set, get_or, Option, Some, None, Result, Ok, Err}
use Rattle.core_types.specs.declared.op.PlainOp.{PlainOp}
use Rattle.core_types.specs.declared.types.ValType.{ValType}
use Rattle.core_types.specs.declared.types.ValType.TheVariants.{I32}
use Rattle.meaning.specs.execution.Store.{ModuleInstance, Store, instance_of}
use Rattle.cells.specs.Cells.{IsCellOf}
use Rattle.sidetable.specs.Flat.{Plain}
use Rattle.sidetable.specs.declared.operations.OtherInstruction.{OtherInstruction}
use Rattle.sidetable.specs.declared.operations.OtherInstruction.TheVariants as other
use Rattle.simulation.specs.Outcomes.{HasOutcome, Outcome}
use Rattle.simulation.specs.Runs.{Ghost}
use Rattle.store.specs.Contents.{Contents, code_store}
use Rattle.effects.specs.Outcomes.{Gives}
use Rattle.effects.specs.declared.payment.Paid.{Paid}
use Rattle.effects.specs.declared.payment.Fault.{Fault}
use Rattle.interpreter.specs.Running.{Machine, cells_in, height_in}
use Rattle.interpreter.specs.Operations.{StandsThere}
use Rattle.interpreter.specs.Whole.{Whole}
use Rattle.interpreter.specs.declared.machine.Position.{Position}
use Rattle.interpreter.specs.declared.machine.Stop.{Stop}
use Rattle.interpreter.specs.declared.machine.Stop.TheVariants as stop
use Rattle.exec.specs.Resting.{AtRest, CallReaches, LacksMemory, Rests, StopsAtRest, fuel_left, machine_of, store_around}
use Rattle.exec.specs.declared.call.Call.{Call}

-- ---- before an instruction

-- The call rests before the instruction, in this run.
pub record RestsBefore (bound : ℕ) (r : AtRest) (op : PlainOp) (u : Whole) : Type 0 where
  pub rests : Rests bound r u
  pub there : StandsThere (machine_of r) u.ghost (Plain op)

abbrev pub RestsSomeBefore : AtRest → PlainOp → Type 0
RestsSomeBefore r op = (bound : ℕ) × (u : Whole) × RestsBefore bound r op u

-- The instance of the innermost frame.
abbrev pub instance_in : Contents → Call → ModuleInstance
instance_in code call = instance_of (code_store code) (Some call.position.instance)

-- The address exists.
abbrev pub IsNamed : Option ℕ → Type 0
IsNamed found = (address : ℕ) × (found ≡ Some address)

-- An operand, counted from the topmost one.
abbrev pub operand_of : Call → (depth : ℕ) → ℕ
operand_of call zero = call.position.operand
operand_of call (suc k) = get_or call.cells.items (call.position.top - suc k) 0

-- There are operands of these types, the topmost first.
pub record HasOperands (call : Call) (types : List ValType) : Type 0 where
  pub low : length types ≤ call.position.top
  pub inside : call.position.top < length call.cells.items
  pub cells : (k : ℕ) → k < length types → IsCellOf (get_or types k I32) (operand_of call k)

-- ---- the outcome of an instruction

-- The number of operands that an instruction takes.
abbrev pub taken_by : OtherInstruction → ℕ
taken_by other.MemoryGrow = 1
taken_by other.MemoryFill = 3
taken_by other.MemoryCopy = 3
taken_by other.MemoryInit = 3
taken_by other.TableGet = 1
taken_by other.TableSet = 2
taken_by other.TableGrow = 2
taken_by other.TableFill = 3
taken_by other.TableCopy = 3
taken_by other.TableInit = 3
taken_by kind = 0

-- There is room for the result, if there is one.
abbrev pub HasRoom : Machine → (taken : ℕ) → Option ℕ → Type 0
HasRoom m taken None = Unit {0}
HasRoom m taken (Some cell) = m.top - taken + 1 < length m.cells

abbrev pub HasRoomFor : Machine → (taken : ℕ) → Result Paid Fault → Type 0
HasRoomFor m taken (Ok paid) = HasRoom m taken paid.result
HasRoomFor m taken (Err fault) = Unit {0}

-- With that many operands the instruction has an outcome in the frame, and this is its result.
pub record HasResultIn (r : AtRest) (g : Ghost) (taken : ℕ) (new : Store)
    (result : Result Paid Fault) : Type 0 where
  pub outcome : Outcome
  pub has : HasOutcome g (cells_in g (machine_of r)) r.call.position.place
      (height_in (machine_of r)) (height_in (machine_of r) - taken) outcome
  pub low : (machine_of r).base + g.code.locals + taken ≤ (machine_of r).top
  pub room : HasRoomFor (machine_of r) taken result
  pub gives : Gives outcome (store_around r) new (fuel_left r) result

-- The same for any run there.
abbrev pub HasResult : AtRest → PlainOp → (taken : ℕ) → Store → Result Paid Fault → Type 0
HasResult r op taken new result =
    (bound : ℕ) (u : Whole) → RestsBefore bound r op u → HasResultIn r u.ghost taken new result

-- ---- where the call continues

-- Where the topmost operand would be after the instruction, and that operand: its result, or the one below its operands.
abbrev pub top_behind : (top taken : ℕ) → Option ℕ → ℕ
top_behind top taken None = top - taken
top_behind top taken (Some cell) = top - taken + 1

abbrev pub operand_behind : List ℕ → (top taken : ℕ) → Option ℕ → ℕ
operand_behind cells top taken None = get_or cells (top - taken) 0
operand_behind cells top taken (Some cell) = cell

-- The cells, with the topmost operand written back.
abbrev pub cells_behind : Call → List ℕ
cells_behind call = set call.cells.items call.position.top call.position.operand

abbrev pub position_behind : Call → (taken : ℕ) → Paid → Position
position_behind call taken paid =
    record call.position {
      place = call.position.place + 1;
      top = top_behind call.position.top taken paid.result;
      operand = operand_behind (cells_behind call) call.position.top taken paid.result;
      fuel = paid.fuel;
    }

-- The call continues after the instruction, with less fuel.
pub record ContinuesAfter (r : AtRest) (op : PlainOp) (r' : AtRest) : Type 0 where
  pub comes : (bound : ℕ) (u : Whole) → RestsBefore bound r op u
      → CallReaches bound r u r' (fuel_left r')
  pub falls : fuel_left r' < fuel_left r
  pub size : length r'.call.cells.items ≡ length r.call.cells.items
  pub callers : r'.call.callers ≡ r.call.callers

-- The call stops before the instruction: it costs more than is left, asks for memory, or traps.
abbrev pub StopsFor : (bound : ℕ) → AtRest → Whole → Stop → AtRest → Type 0
StopsFor bound r u stop.NoFuel r' = StopsAtRest bound r u stop.NoFuel r'
StopsFor bound r u stop.NoMemory r' = LacksMemory bound r u r'
StopsFor bound r u (stop.Traps trap) r' = StopsAtRest bound r u (stop.Traps trap) r'
StopsFor bound r u s r' = ⊥

-- The instruction was done, and the call continues, or the call stops before it.
abbrev pub Does : AtRest → PlainOp → Result (Unit {0}) Stop → AtRest → Type 0
Does r op (Ok u) r' = ContinuesAfter r op r'
Does r op (Err s) r' =
    (bound : ℕ) (u : Whole) → RestsBefore bound r op u → StopsFor bound r u s r'
