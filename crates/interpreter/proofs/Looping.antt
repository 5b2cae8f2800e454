-- Operations in the loop.
use Rattle.std.proofs.Common.{◌≡◌, ℕ, ◌+◌, ◌-◌, ◌≤◌, List, subst, sym, refl, arith}
use Rattle.core_types.specs.declared.outcome.Trap.{Trap}
use Rattle.core_types.specs.declared.types.ValType.{ValType}
use Rattle.meaning.specs.execution.Configurations.{no_frame}
use Rattle.meaning.specs.execution.Runs.{NoHosts}
use Rattle.meaning.proofs.lemmas.Runs.{Steps-join}
use Rattle.sidetable.specs.SideTables.{entry_of_number}
use Rattle.sidetable.specs.declared.operations.Entry.{Entry}
use Rattle.sidetable.specs.declared.operations.PackedOp.{PackedOp}
use Rattle.sidetable.specs.declared.operations.PackedOp.TheVariants as op
use Rattle.simulation.specs.Runs.{Ghost}
use Rattle.store.specs.State.{StateContents}
use Rattle.interpreter.specs.Calling.{Leaves}
use Rattle.interpreter.specs.Layout.{AreMoved}
use Rattle.interpreter.specs.Looping.{loop_at, machine_at}
use Rattle.interpreter.specs.Running.{MachineReaches, IsDear, Pays, RunsAt, Traps}
use Rattle.interpreter.specs.Stepping.{StepsTo, StopsBefore, StopsThere}
use Rattle.interpreter.specs.Operations.{Lands, ExecutesIn, Executes}
use Rattle.interpreter.specs.Whole.{FallsAt, HasResults, Loop, Ran, LoopReaches, RunsSomeWhole, StopsAt, StopsFrom, Whole, left_to_do}
use Rattle.interpreter.specs.Worlds.{World, store_in}
use Rattle.interpreter.specs.declared.machine.Frame.{Frame}
use Rattle.interpreter.specs.declared.machine.Position.{Position}
use Rattle.interpreter.specs.declared.machine.Stop.{Stop}
use Rattle.interpreter.specs.declared.machine.Stop.TheVariants as stop
use Rattle.interpreter.proofs.Lifting.{ran-then, ran-turned, reaches-first, reaches-then, stops-failing, stops-lacking, stops-unpaid, turned}
use Rattle.interpreter.proofs.Returning.{end-leaves}

-- If the loop stops after a run, it stops from the start of the run.
stops-from : (bound : ℕ) (l l' l'' : Loop) (s : Stop) (w : Whole) (first : LoopReaches bound l w l') → StopsFrom bound l' first.new s l'' → StopsFrom bound l w s l''
stops-from bound l l' l'' stop.Over w first last = record {
  values = last.values;
  steps = Steps-join NoHosts bound no_frame first.steps last.steps;
  results = subst (λ (ts : List ValType). HasResults (store_in l''.world) l''.machine ts last.values) first.results last.results;
}
stops-from bound l l' l'' stop.Switches w first (there, goes) = (there, λ other seen. reaches-then bound l l' _ w first (goes other seen))
stops-from bound l l' l'' s w first last = record { there = reaches-then bound l l' _ w first last.there; by = last.by }

falls-from : (l l' l'' : Loop) (s : Stop) → left_to_do l' ≤ left_to_do l → FallsAt l' s l'' → FallsAt l s l''
falls-from l l' l'' stop.Switches first last = omega (arith, first, last)
falls-from l l' l'' stop.NoFuel first last = omega (arith, first, last)
falls-from l l' l'' stop.NoRoom first last = omega (arith, first, last)
falls-from l l' l'' s first last = tt

pub stops-then : (bound : ℕ) (l l' l'' : Loop) (s : Stop) → Ran bound l l' → StopsAt bound l' s l'' → StopsAt bound l s l''
stops-then bound l l' l'' s ran stops = record {
  from = λ w r. let first = ran.from w r in stops-from bound l l' l'' s w first (stops.from first.new first.runs);
  falls = falls-from l l' l'' s ran.falls stops.falls;
}

module _ (bound : ℕ) (start l : Loop) (ran : Ran bound start l) where
  -- What runs there, in its frame.
  pub runs-there : RunsSomeWhole bound start → (g : Ghost) × RunsAt l.world l.machine g
  runs-there (w, r) = let there = ran.from w r in (there.new.ghost, there.runs.runs)

  -- Some whole runs there.
  pub some-there : RunsSomeWhole bound start → RunsSomeWhole bound l
  some-there (w, r) = let there = ran.from w r in (there.new, there.runs)

  module _ (o o' : PackedOp) (executes : Executes l.world l.machine o) (is : o ≡ o') where
    leads : (g : Ghost) → RunsAt l.world l.machine g → ExecutesIn l.world l.machine g o'
    leads = subst (Executes l.world l.machine) is executes

    -- The operation was paid for.
    pub pays-op : (state' : StateContents) (bytes' cells' : List ℕ) (place' top' operand' : ℕ) → 1 ≤ l.fuel
        → ((g : Ghost) → ExecutesIn l.world l.machine g o'
        → Pays g l.machine (turned l state' bytes' cells' place' top' operand' (l.fuel - 1)).world
        (turned l state' bytes' cells' place' top' operand' (l.fuel - 1)).machine)
        → Ran bound start (turned l state' bytes' cells' place' top' operand' (l.fuel - 1))
    pays-op state' bytes' cells' place' top' operand' paid step =
        ran-then bound start l _ ran (ran-turned bound l state' bytes' cells' place' top' operand' (l.fuel - 1) (λ g r. step g (leads g r) l.fuel (l.fuel - 1) paid refl) (omega (arith, paid)))

    -- The loop lacks fuel.
    pub lacks-op : l.fuel ≡ 0 → ((g : Ghost) → ExecutesIn l.world l.machine g o' → IsDear g l.machine) → StopsAt bound start stop.NoFuel l
    lacks-op none dear = stops-then bound start l l stop.NoFuel ran (stops-lacking bound l (λ g r. dear g (leads g r) l.fuel (omega (arith, none))))

    -- The operation traps, and was paid for.
    pub fails-op : (trap : Trap) → 1 ≤ l.fuel → ((g : Ghost) → ExecutesIn l.world l.machine g o' → Traps g l.machine trap) → StopsAt bound start (stop.Traps trap) (record l { fuel = l.fuel - 1 })
    fails-op trap paid fails = stops-then bound start l _ (stop.Traps trap) ran (stops-failing bound l (l.fuel - 1) trap (λ g r. fails g (leads g r) l.fuel (l.fuel - 1) paid refl))

  -- A branch that is taken goes to its entry.
  pub branches-op : (o : PackedOp) (n : ℕ) (executes : Executes l.world l.machine o) (is : o ≡ op.BrIf n) → (e : Entry) → e ≡ entry_of_number l.world.flat.tables n → (cells' : List ℕ) (operand' : ℕ)
      → AreMoved l.machine.cells (l.machine.top - 1) (l.machine.base + e.height) e.kept cells' operand' → 1 ≤ l.fuel → (l.machine.operand ≡ 0 → ⊥)
      → Ran bound start (turned l l.world.state l.world.bytes cells' e.target (l.machine.base + e.height + e.kept) operand' (l.fuel - 1))
  branches-op o n executes is e e_is cells' operand' moved paid taken =
      pays-op o (op.BrIf n) executes is l.world.state l.world.bytes cells' e.target (l.machine.base + e.height + e.kept) operand' paid
      (λ g leads. subst (Lands l.world l.machine g l.machine.cells (l.machine.top - 1)) (sym e_is) (leads.1 taken) cells' operand' moved)

  -- The loop stops after an operation that can continue in another frame.
  pub stops-across : (s : Stop) (to : Position) (cells' : List ℕ) (callers' : List Frame) → StopsAt bound l s (loop_at l.world cells' callers' to)
      → StopsAt bound start s (loop_at l.world cells' callers' to)
  stops-across s to cells' callers' stops = stops-then bound start l _ s ran stops

-- The run to a position is a run to any equal position.
pub ran-at : (bound : ℕ) (start : Loop) (w : World) (cells : List ℕ) (callers : List Frame) (at to : Position) → to ≡ at
    → Ran bound start (loop_at w cells callers at) → Ran bound start (loop_at w cells callers to)
ran-at bound start w cells callers at to is ran = subst (λ (p : Position). Ran bound start (loop_at w cells callers p)) (sym is) ran

module _ (bound : ℕ) (start : Loop) (w : World) (cells : List ℕ) (callers : List Frame) (at : Position) (ran : Ran bound start (loop_at w cells callers at)) where
  -- The end of the code leaves the frame.
  pub leaves-op : RunsSomeWhole bound start → (o : PackedOp) (n : ℕ) → Executes w (machine_at cells at) o → o ≡ op.Leave n → Leaves bound w cells callers at at.fuel n
  leaves-op some o n executes is = end-leaves bound w cells callers at n (subst (Executes w (machine_at cells at)) is executes) (some-there bound start (loop_at w cells callers at) ran some)

  -- ---- rarer operations

  -- An instruction continued in its frame.
  pub steps-on : (state' : StateContents) (bytes' cells' : List ℕ) (to : Position) → StepsTo w cells at (record w { state = state'; bytes = bytes' }) cells' to
      → Ran bound start (loop_at (record w { state = state'; bytes = bytes' }) cells' callers to)
  steps-on state' bytes' cells' to steps =
      subst (λ (p : Position). Ran bound start (loop_at (record w { state = state'; bytes = bytes' }) cells' callers p)) (sym steps.there)
      (ran-then bound start (loop_at w cells callers at) _ ran (ran-turned bound (loop_at w cells callers at) state' bytes' cells' (at.place + 1) to.top to.operand to.fuel
      (λ g r. subst (λ (p : Position).
      MachineReaches g (machine_at cells at) at.fuel (record w { state = state'; bytes = bytes' }) (machine_at cells' p) to.fuel) steps.there
      (steps.leads g r)) (omega (arith, steps.falls))))

  stays : (runs : (g : Ghost) × RunsAt w (machine_at cells at) g) (s : Stop)
      → ((g : Ghost) → RunsAt w (machine_at cells at) g → StopsThere s w (machine_at cells at) at.fuel g)
      → StopsAt bound (loop_at w cells callers at) s (loop_at w cells callers at)
  stays runs stop.NoFuel there = stops-lacking bound (loop_at w cells callers at) there
  stays runs (stop.LeavesOther kind n) there = record {
    from = λ whole r. stops-unpaid bound (stop.LeavesOther kind n) refl (loop_at w cells callers at) (loop_at w cells callers at) whole
        (reaches-first bound (loop_at w cells callers at) whole r) (there whole.ghost r.runs);
    falls = tt;
  }
  stays runs other there = let (g, r) = runs in absurd (there g r)

  -- The loop stopped before the instruction.
  pub stops-before : RunsSomeWhole bound start → (s : Stop) (w' : World) (cells' : List ℕ) → StopsBefore w cells at w' cells' s → StopsAt bound start s (loop_at w' cells' callers at)
  stops-before some s w' cells' before =
      subst (λ (v : World). StopsAt bound start s (loop_at v cells' callers at)) (sym before.same)
      (subst (λ (cs : List ℕ). StopsAt bound start s (loop_at w cs callers at)) (sym before.kept)
      (stops-then bound start (loop_at w cells callers at) (loop_at w cells callers at) s ran (stays (runs-there bound start (loop_at w cells callers at) ran some) s before.there)))
