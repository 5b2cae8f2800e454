-- Instructions in their frame.
use Rattle.std.proofs.Common.{◌≡◌, ℕ, ◌-◌, ◌<◌, ◌≤◌, List, length, set, slice_get, get_or, refl, subst, sym, arith, ◌⊎◌, inl, inr, Bool, true, false, eqb}
use Rattle.std.proofs.lemmas.Bool.{eqb-false, eqb-true}
use Rattle.std.proofs.lemmas.List.{get_or_read}
use Rattle.std.proofs.lemmas.Option.{get_or_from_slice_get}
use Rattle.std.specs.Prelude.{Option, Some, None, IfNone, OnSome}
use mir.Val.{bool_byte}
use Rattle.meaning.specs.execution.Store.{GlobalInstance}
use Rattle.sidetable.specs.declared.operations.OtherInstruction.{OtherInstruction}
use Rattle.sidetable.specs.declared.operations.OtherInstruction.TheVariants as other
use Rattle.simulation.specs.Runs.{Ghost}
use Rattle.store.specs.State.{StateContents, global_of}
use Rattle.interpreter.specs.Looping.{machine_at}
use Rattle.interpreter.specs.Running.{IsDear, Machine, RunsAt}
use Rattle.interpreter.specs.Stepping.{IsPaid, Steps, StepsTo, StopsBefore, position_lowered, position_pushed}
use Rattle.interpreter.specs.Operations.{Costs, IsReadyForOther, ExecutesOther, global_address, lowered, pushed, replaced, with_global_cell}
use Rattle.interpreter.specs.Worlds.{World}
use Rattle.interpreter.specs.declared.machine.Position.{Position}
use Rattle.interpreter.specs.declared.machine.Stop.{Stop}
use Rattle.interpreter.specs.declared.machine.Stop.TheVariants as stop

-- What a name of a global reads.
pub global-read : (s : StateContents) (names : List ℕ) (n a : ℕ) (g : GlobalInstance) → n < length names → a ≡ get_or names n a
    → slice_get s.contents.globals a ≡ Some g → (get_or names n 0 ≡ a) × (global_of s a ≡ g)
global-read s names n a g inside is there = (sym (get_or_read names n a inside is 0), get_or_from_slice_get s.contents.globals a g _ there)

module _ (w : World) (m : Machine) (kind kind' : OtherInstruction) (n : ℕ) (is : kind ≡ kind') where
  -- What it needs, by the instruction.
  pub fits-as : IsReadyForOther w m kind n → IsReadyForOther w m kind' n
  fits-as fits = subst (λ (k : OtherInstruction). IsReadyForOther w m k n) is fits

module _ (w : World) (cells : List ℕ) (at : Position) (kind : OtherInstruction) (n : ℕ)
    (executes : (g : Ghost) → RunsAt w (machine_at cells at) g → ExecutesOther w (machine_at cells at) g kind n) where
  abbrev m : Machine
  m = machine_at cells at

  module _ (kind' : OtherInstruction) (is : kind ≡ kind') where
    leads-as : (g : Ghost) → RunsAt w m g → ExecutesOther w m g kind' n
    leads-as = subst (λ (k : OtherInstruction). (g : Ghost) → RunsAt w m g → ExecutesOther w m g k n) is executes

    -- Without fuel nothing is done.
    stops : (s : Stop) → s ≡ stop.NoFuel → at.fuel ≡ 0 → ((g : Ghost) → ExecutesOther w m g kind' n → IsDear g m) → StopsBefore w cells at w cells s
    stops s is none dear = rw is (record { same = refl; kept = refl; there = λ g r. dear g (leads-as g r) at.fuel (omega (arith, none)) })

    -- One more operand.
    pub pushes : (result : Option Position) (why : Stop) (cell cell' : ℕ) (cells' : List ℕ) → IsPaid at result why (position_pushed at cell)
        → OnSome result (cells' ≡ set cells at.top at.operand) → IfNone result (cells' ≡ cells) → cell ≡ cell'
        → ((g : Ghost) → ExecutesOther w m g kind' n → Costs w m g (pushed m cell')) → Steps w cells at result why w cells'
    pushes (Some to) why cell cell' cells' (paid, there) put kept same costs =
        rw (there, put, same) (record { there = refl; falls = omega (arith, paid); leads = λ g r. (costs g (leads-as g r)).0 at.fuel (at.fuel - 1) paid refl })
    pushes None why cell cell' cells' (there, none) put kept same costs = rw kept (stops why there none (λ g leads. (costs g leads).1))

    -- A topmost operand in the place of that many.
    pub lowers : (result : Option Position) (why : Stop) (by cell : ℕ) → IsPaid at result why (position_lowered at by cell)
        → ((g : Ghost) → ExecutesOther w m g kind' n → Costs w m g (lowered m by cell)) → Steps w cells at result why w cells
    lowers (Some to) why by cell (paid, there) costs =
        rw there (record { there = refl; falls = omega (arith, paid); leads = λ g r. (costs g (leads-as g r)).0 at.fuel (at.fuel - 1) paid refl })
    lowers None why by cell (there, none) costs = stops why there none (λ g leads. (costs g leads).1)

  -- In the place of no operand.
  pub replaced-here : (g : Ghost) (cell : ℕ) → Costs w m g (replaced m cell) → Costs w m g (lowered m 0 cell)
  replaced-here g cell costs = let same : at.top ≡ at.top - 0 = omega arith in subst (λ (t : ℕ). Costs w m g (record (replaced m cell) { top = t })) same costs

  -- The null of a type.
  pub pushes-null : (kind ≡ other.RefNullFunc) ⊎ (kind ≡ other.RefNullExtern) → (result : Option Position) (why : Stop) (cells' : List ℕ)
      → IsPaid at result why (position_pushed at 0) → OnSome result (cells' ≡ set cells at.top at.operand) → IfNone result (cells' ≡ cells)
      → Steps w cells at result why w cells'
  pushes-null (inl is) result why cells' paid put kept = pushes other.RefNullFunc is result why 0 0 cells' paid put kept refl (λ g leads. leads)
  pushes-null (inr is) result why cells' paid put kept = pushes other.RefNullExtern is result why 0 0 cells' paid put kept refl (λ g leads. leads)

  -- A test of the operand for the null.
  pub tests-null : (g : Ghost) (t : Bool) → eqb at.operand 0 ≡ t → ExecutesOther w m g other.RefIsNull n → Costs w m g (replaced m (bool_byte t))
  tests-null g true e (null, other, dear) = (null (eqb-true at.operand 0 e), dear)
  tests-null g false e (null, other, dear) = (other (eqb-false at.operand 0 e), dear)

  -- Another value of a global.
  pub sets : kind ≡ other.GlobalSet → (to : Position) (state' : StateContents) → (1 ≤ at.fuel)
      × (to ≡ position_lowered at 1 (get_or cells (at.top - 1) 0)) → state' ≡ (with_global_cell w (global_address w n) at.operand).state
      → StepsTo w cells at (record w { state = state' }) cells to
  sets is to state' (paid, there) same =
      rw (there, same) (record { there = refl; falls = omega (arith, paid); leads = λ g r. (leads-as other.GlobalSet is g r).0 at.fuel (at.fuel - 1) paid refl })
