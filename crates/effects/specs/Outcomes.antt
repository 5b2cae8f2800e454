-- The outcomes of instructions on tables, memories and segments, with this fuel.
use Rattle.std.specs.Prelude.{◌≡◌, ℕ, ◌-◌, ◌<◌, ◌≤◌, List, [], ◌∷◌, map, Option, Some, None, Result, Ok, Err}
use Rattle.std.specs.declared.alloc.AllocError.{AllocError}
use Rattle.core_types.specs.declared.outcome.Trap.{Trap}
use Rattle.core_types.specs.declared.outcome.Val.{Val}
use Rattle.meaning.specs.execution.Costs.{instruction_cost}
use Rattle.meaning.specs.execution.Store.{Store}
use Rattle.cells.specs.Cells.{cell_of}
use Rattle.simulation.specs.Outcomes.{Outcome, failed, grown, made}
use Rattle.effects.specs.declared.payment.Paid.{Paid}
use Rattle.effects.specs.declared.payment.Fault.{Fault}
use Rattle.effects.specs.declared.payment.Fault.TheVariants.{NoFuel, NoMemory, Traps}

-- The cost of an outcome. A trap costs the same as any instruction.
abbrev pub cost_of : Outcome → ℕ
cost_of (made cost store results) = cost
cost_of (grown cost store results) = cost
cost_of (failed trap) = instruction_cost

-- There is no result, or one with this cell.
abbrev pub AreInCell : List Val → Option ℕ → Type 0
AreInCell results None = results ≡ []
AreInCell results (Some cell) = map cell_of results ≡ cell ∷ []

-- The cost, which is not nothing, was paid from the fuel.
pub record IsPaid (cost : ℕ) (results : List Val) (fuel : ℕ) (paid : Paid) : Type 0 where
  pub some : 1 ≤ cost
  pub enough : cost ≤ fuel
  pub left : paid.fuel ≡ fuel - cost
  pub result : AreInCell results paid.result

-- The instruction was done, and left this store.
abbrev pub IsDone : Outcome → Store → (fuel : ℕ) → Paid → Type 0
IsDone (made cost store results) new fuel paid = IsPaid cost results fuel paid × (new ≡ store)
IsDone (grown cost store results) new fuel paid = IsPaid cost results fuel paid × (new ≡ store)
IsDone (failed trap) new fuel paid = ⊥

-- Something grows at a cost for which there is fuel.
abbrev pub LacksMemory : Outcome → (fuel : ℕ) → Type 0
LacksMemory (made cost store results) fuel = ⊥
LacksMemory (grown cost store results) fuel = cost ≤ fuel
LacksMemory (failed trap) fuel = ⊥

-- The outcome is this trap, for which there is fuel.
abbrev pub IsTrap : Outcome → (fuel : ℕ) → Trap → Type 0
IsTrap (made cost store results) fuel other = ⊥
IsTrap (grown cost store results) fuel other = ⊥
IsTrap (failed trap) fuel other = (other ≡ trap) × (instruction_cost ≤ fuel)

-- The instruction was not done, for this reason.
abbrev pub HasFault : Outcome → (fuel : ℕ) → Fault → Type 0
HasFault o fuel NoFuel = fuel < cost_of o
HasFault o fuel NoMemory = LacksMemory o fuel
HasFault o fuel (Traps trap) = IsTrap o fuel trap

-- The instruction was done, or not done and the store is unchanged.
abbrev pub Gives : Outcome → (old new : Store) → (fuel : ℕ) → Result Paid Fault → Type 0
Gives o old new fuel (Ok paid) = IsDone o new fuel paid
Gives o old new fuel (Err fault) = HasFault o fuel fault × (new ≡ old)

-- ---- how results are made

-- This much of the fuel is left, or the fuel is less than the cost.
abbrev pub IsLeft : (fuel cost : ℕ) → Result ℕ Fault → Type 0
IsLeft fuel cost (Ok left) = (cost ≤ fuel) × (left ≡ fuel - cost)
IsLeft fuel cost (Err fault) = (fuel < cost) × (fault ≡ NoFuel)

abbrev pub paid_with : (fuel : ℕ) → Option ℕ → Paid
paid_with fuel result = record { fuel = fuel; result = result }

-- The outcome of a write that was paid for, with this fuel left.
abbrev pub after_write : {U : Type 0} → Result U Trap → (left : ℕ) → Result Paid Fault
after_write (Ok u) left = Ok (paid_with left None)
after_write (Err trap) left = Err (Traps trap)

-- The outcome of a growth that was paid for, with this fuel left.
abbrev pub after_growth : Result ℕ AllocError → (left : ℕ) → Result Paid Fault
after_growth (Ok size) left = Ok (paid_with left (Some size))
after_growth (Err error) left = Err NoMemory
