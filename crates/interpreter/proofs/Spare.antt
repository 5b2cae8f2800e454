-- Operations in the loop that keeps the spare fuel.
use Rattle.std.proofs.Common.{◌≡◌, ℕ, ◌+◌, ◌-◌, ◌^◌, ◌<◌, ◌≤◌, List, length, ap, subst, sym, ◌∙◌, arith}
use Rattle.std.specs.Prelude.{Option, Some, None}
use Rattle.core_types.specs.declared.outcome.Trap.{Trap}
use Rattle.meaning.specs.execution.Configurations.{no_frame}
use Rattle.meaning.specs.execution.Runs.{NoHosts}
use Rattle.meaning.proofs.lemmas.Runs.{Steps-fuel}
use Rattle.sidetable.specs.SideTables.{entry_of_number}
use Rattle.sidetable.specs.declared.operations.Entry.{Entry}
use Rattle.sidetable.specs.declared.operations.PackedOp.{PackedOp}
use Rattle.sidetable.specs.declared.operations.PackedOp.TheVariants as op
use Rattle.simulation.specs.Runs.{Ghost}
use Rattle.store.specs.State.{StateContents}
use Rattle.interpreter.specs.Ahead.{RanAhead, StopsOrLacks, fuel_ahead, position_ahead, position_with, rest_ahead, stop_with_more, with_rest}
use Rattle.interpreter.specs.Calling.{Leaves}
use Rattle.interpreter.specs.Crossing.{ContinuesInInstance}
use Rattle.interpreter.specs.Layout.{AreMoved}
use Rattle.interpreter.specs.Looping.{loop_at, machine_at}
use Rattle.interpreter.specs.Running.{Pays, Traps}
use Rattle.interpreter.specs.Stepping.{StepsTo, StopsBefore}
use Rattle.interpreter.specs.Operations.{ExecutesIn, Executes}
use Rattle.interpreter.specs.Whole.{Loop, Ran, RunsSomeWhole, RunsWhole, StopsAt, Whole, left_to_do, with_more_fuel}
use Rattle.interpreter.specs.Worlds.{World}
use Rattle.interpreter.specs.declared.ahead.Ahead.{Ahead}
use Rattle.interpreter.specs.declared.machine.Frame.{Frame}
use Rattle.interpreter.specs.declared.machine.Position.{Position}
use Rattle.interpreter.specs.declared.machine.Stop.{Stop}
use Rattle.interpreter.specs.declared.machine.Stop.TheVariants as stop
use Rattle.interpreter.proofs.Lifting.{ran-first, ran-then}
use Rattle.interpreter.proofs.Looping.{branches-op, fails-op, leaves-op, pays-op, ran-at, runs-there, some-there, steps-on, stops-before, stops-then}
use Rattle.interpreter.proofs.MoreFuel.{ran-more, runs-more, stops-more}
use Rattle.interpreter.proofs.Executing.{operations-execute}

-- At the end of a run, an operation is next.
pub before-end : (bound : ℕ) (start l : Loop) → Ran bound start l → RunsSomeWhole bound start → l.machine.place < length l.world.flat.operations.items
before-end bound start l ran some = let (g, r) = runs-there bound start l ran some in (operations-execute l.world l.machine g r).0

-- After a run the loop stops, or lacks fuel, as it does from the end of the run.
then-stops : (bound : ℕ) (l l' l'' : Loop) (s : Option Stop) → Ran bound l l' → StopsOrLacks bound l' s l'' → StopsOrLacks bound l s l''
then-stops bound l l' l'' (Some s) ran stops = stops-then bound l l' l'' s ran stops
then-stops bound l l' l'' None ran lacks = ran-then bound l l' l'' ran lacks

-- Where the loop stops it has no more fuel.
fuel-falls : (bound : ℕ) (l l' : Loop) (w : Whole) (s : Stop) → RunsWhole bound l w → bound < 2 ^ 64 → StopsAt bound l s l' → l'.fuel ≤ l.fuel
fuel-falls bound l l' w stop.Over r few stops = Steps-fuel NoHosts bound no_frame (stops.from w r).steps
fuel-falls bound l l' w stop.Switches r few stops = let deep = r.deep in let falls = stops.falls in omega (arith, deep, few, falls)
fuel-falls bound l l' w stop.NoFuel r few stops = let less = Steps-fuel NoHosts bound no_frame (stops.from w r).there.steps in omega (arith, less)
fuel-falls bound l l' w (stop.Traps trap) r few stops = let less = Steps-fuel NoHosts bound no_frame (stops.from w r).there.steps in omega (arith, less)
fuel-falls bound l l' w stop.NoDepth r few stops = let less = Steps-fuel NoHosts bound no_frame (stops.from w r).there.steps in omega (arith, less)
fuel-falls bound l l' w stop.NoRoom r few stops = let less = Steps-fuel NoHosts bound no_frame (stops.from w r).there.steps in omega (arith, less)
fuel-falls bound l l' w stop.NoMemory r few stops = let less = Steps-fuel NoHosts bound no_frame (stops.from w r).there.steps in omega (arith, less)
fuel-falls bound l l' w (stop.CallsHost kind address behind) r few stops = let less = Steps-fuel NoHosts bound no_frame (stops.from w r).there.steps in omega (arith, less)
fuel-falls bound l l' w (stop.LeavesOther kind n) r few stops = let less = Steps-fuel NoHosts bound no_frame (stops.from w r).there.steps in omega (arith, less)

-- The loop ran to any position that is equal to the one ahead.
pub ran-ahead : (bound : ℕ) (start : Loop) (w : World) (cells : List ℕ) (callers : List Frame) (end : ℕ) (to : Position) (at : Ahead) → to.instance ≡ w.number → position_ahead to.instance end at ≡ to
    → Ran bound start (loop_at w cells callers to) → to.fuel < 2 ^ 64 → RanAhead bound start w cells callers end at
ran-ahead bound start w cells callers end to at here is ran small = record {
  ran = subst (λ (n : ℕ). Ran bound start (loop_at w cells callers (position_ahead n end at))) here (subst (λ (p : Position). Ran bound start (loop_at w cells callers p)) (sym is) ran);
  small = subst (λ (p : Position). p.fuel < 2 ^ 64) (sym is) small;
}

module _ (bound : ℕ) (start : Loop) (w : World) (cells : List ℕ) (callers : List Frame) (end : ℕ) (at : Ahead) (ran : RanAhead bound start w cells callers end at) (inside : at.place < end) where
  -- The loop here, with all fuel and with one unit of it.
  abbrev all : Loop
  all = loop_at w cells callers (position_ahead w.number end at)

  abbrev one : Loop
  one = loop_at w cells callers (position_with w.number 1 at)

  is-all : 1 + rest_ahead end at ≡ fuel_ahead end at
  is-all = omega (arith, inside)

  -- The loop ran to there, with the rest added.
  pub ran-here : (p : Position) → p ≡ with_rest end at (position_with w.number 1 at) → Ran bound start (loop_at w cells callers p)
  ran-here p is = ran-at bound start w cells callers _ p is (subst (λ (n : ℕ). Ran bound start (loop_at w cells callers (position_with w.number n at))) (sym is-all) ran.ran)

  -- ---- operations in the loop's own code

  module _ (o o' : PackedOp) (executes : Executes w (machine_at cells (position_with w.number 1 at)) o) (is_op : o ≡ o') where
    -- The operation was paid for.
    pub pays-ahead : (state' : StateContents) (bytes' cells' : List ℕ) (top' operand' : ℕ)
        → ((g : Ghost) → ExecutesIn w (machine_at cells (position_with w.number 1 at)) g o'
        → Pays g (machine_at cells (position_with w.number 1 at)) (record w { state = state'; bytes = bytes' })
        (record (machine_at cells (position_with w.number 1 at)) { cells = cells'; place = at.place + 1; top = top'; operand = operand' }))
        → RanAhead bound start (record w { state = state'; bytes = bytes' }) cells' callers end (record at { place = at.place + 1; top = top'; operand = operand' })
    pays-ahead state' bytes' cells' top' operand' step =
        let small = ran.small in
        let paid : fuel_ahead end at - 1 ≡ fuel_ahead end (record at { place = at.place + 1 }) = omega (arith, inside) in
        record {
          ran = subst (λ (n : ℕ). Ran bound start
              (loop_at (record w { state = state'; bytes = bytes' }) cells' callers
              (position_with w.number n (record at { place = at.place + 1; top = top'; operand = operand' })))) paid
              (pays-op bound start all ran.ran o o' executes is_op state' bytes' cells' (at.place + 1) top' operand' (omega (arith, inside)) step);
          small = omega (arith, small, inside);
        }

    -- The operation leads to another place.
    pub jumps-ahead : (cells' : List ℕ) (place' top' operand' : ℕ)
        → ((g : Ghost) → ExecutesIn w (machine_at cells (position_with w.number 1 at)) g o'
        → Pays g (machine_at cells (position_with w.number 1 at)) w (record (machine_at cells (position_with w.number 1 at)) { cells = cells'; place = place'; top = top'; operand = operand' }))
        → Ran bound start (loop_at w cells' callers (with_rest end at (record (position_with w.number 0 at) { place = place'; top = top'; operand = operand' })))
    jumps-ahead cells' place' top' operand' step =
        let paid : fuel_ahead end at - 1 ≡ 0 + rest_ahead end at = omega (arith, inside) in
        subst (λ (n : ℕ). Ran bound start (loop_at w cells' callers (record (position_with w.number n at) { place = place'; top = top'; operand = operand' }))) paid
        (pays-op bound start all ran.ran o o' executes is_op w.state w.bytes cells' place' top' operand' (omega (arith, inside)) step)

    -- The operation traps, and was paid for.
    pub fails-ahead : (trap : Trap) → ((g : Ghost) → ExecutesIn w (machine_at cells (position_with w.number 1 at)) g o' → Traps g (machine_at cells (position_with w.number 1 at)) trap)
        → (p : Position) → p ≡ with_rest end at (position_with w.number 0 at) → StopsAt bound start (stop.Traps trap) (loop_at w cells callers p)
    fails-ahead trap fails p is =
        let paid : fuel_ahead end at - 1 ≡ 0 + rest_ahead end at = omega (arith, inside) in
        subst (λ (q : Position). StopsAt bound start (stop.Traps trap) (loop_at w cells callers q)) (sym is)
        (subst (λ (n : ℕ). StopsAt bound start (stop.Traps trap) (loop_at w cells callers (position_with w.number n at))) paid
        (fails-op bound start all ran.ran o o' executes is_op trap (omega (arith, inside)) fails))

  -- A branch that is taken goes to its entry.
  pub branches-ahead : (o : PackedOp) (n : ℕ) → Executes w (machine_at cells (position_with w.number 1 at)) o → o ≡ op.BrIf n → (e : Entry) → e
      ≡ entry_of_number w.flat.tables n → (cells' : List ℕ) (operand' : ℕ)
      → AreMoved cells (at.top - 1) (at.base + e.height) e.kept cells' operand' → (at.operand ≡ 0 → ⊥)
      → Ran bound start (loop_at w cells' callers (with_rest end at (record (position_with w.number 0 at) { place = e.target; top = at.base + e.height + e.kept; operand = operand' })))
  branches-ahead o n executes is e e_is cells' operand' moved taken =
      let paid : fuel_ahead end at - 1 ≡ 0 + rest_ahead end at = omega (arith, inside) in
      subst (λ (n : ℕ). Ran bound start (loop_at w cells' callers (record (position_with w.number n at) { place = e.target; top = at.base + e.height + e.kept; operand = operand' }))) paid
      (branches-op bound start all ran.ran o n executes is e e_is cells' operand' moved (omega (arith, inside)) taken)

  -- ---- where it lands

  -- The spare fuel there.
  pub jumps-on : (cells' : List ℕ) (next : Ahead) → fuel_ahead end next ≡ 0 + rest_ahead end at
      → Ran bound start (loop_at w cells' callers (position_with w.number (0 + rest_ahead end at) next)) → RanAhead bound start w cells' callers end next
  jumps-on cells' next fuel led =
      let small = ran.small in
      record {
        ran = subst (λ (n : ℕ). Ran bound start (loop_at w cells' callers (position_with w.number n next))) (sym fuel) led;
        small = omega (arith, small, inside, fuel);
      }

  module _ (cells' : List ℕ) (to there : Position) (landed : to ≡ there) (free : there.fuel ≡ 0) (next : Ahead) (is : position_ahead to.instance end next ≡ with_rest end at to) where
    fuel-there : fuel_ahead end next ≡ 0 + rest_ahead end at
    fuel-there = ap (λ (p : Position). p.fuel) is ∙ ap (λ (n : ℕ). n + rest_ahead end at) (ap (λ (p : Position). p.fuel) landed ∙ free)

    pub lands-smaller : left_to_do (loop_at w cells' callers (position_ahead w.number end next)) < left_to_do all
    lands-smaller = let fuel = fuel-there in omega (arith, inside, fuel)

    pub lands-on : there.instance ≡ w.number → Ran bound start (loop_at w cells' callers (with_rest end at there)) → RanAhead bound start w cells' callers end next
    lands-on here led =
        let small = ran.small in
        let fuel = ap (λ (p : Position). p.fuel) landed in
        ran-ahead bound start w cells' callers end (with_rest end at to) next (ap (λ (p : Position). p.instance) landed ∙ here) is
        (subst (λ (p : Position). Ran bound start (loop_at w cells' callers (with_rest end at p))) (sym landed) led) (omega (arith, inside, small, fuel, free))

  -- ---- operations that get one unit of fuel

  module _ (some : RunsSomeWhole bound start) where
    pub lent : RunsSomeWhole bound one
    lent = let (u, r) = some-there bound start all ran.ran some in (u, runs-more bound 0 all 1 u r)

    with-all : (s : Option Stop) (l' : Loop) → StopsOrLacks bound (with_more_fuel one (rest_ahead end at)) s l' → StopsOrLacks bound start s l'
    with-all s l' stops = then-stops bound start all l' s ran.ran (subst (λ (n : ℕ). StopsOrLacks bound (loop_at w cells callers (position_with w.number n at)) s l') is-all stops)

    with-rest : (w' : World) (cells' : List ℕ) (callers' : List Frame) (to : Position) → Ran bound one (loop_at w' cells' callers' to)
        → Ran bound start (loop_at w' cells' callers' (with_rest end at to))
    with-rest w' cells' callers' to goes = with-all None _ (ran-more bound (rest_ahead end at) one (loop_at w' cells' callers' to) goes)

    -- The end of the code leaves the frame.
    pub leaves-ahead : (o : PackedOp) (n : ℕ) → Executes w (machine_at cells (position_with w.number 1 at)) o → o ≡ op.Leave n → Leaves bound w cells callers (position_with w.number 1 at) 1 n
    leaves-ahead o n executes is = leaves-op bound one w cells callers (position_with w.number 1 at) (ran-first bound one) lent o n executes is

    module _ (cells' : List ℕ) (callers' : List Frame) (to : Position) where
      -- The loop continues, within the list, and at most the one unit is left.
      module _ (goes : ContinuesInInstance bound one cells' callers' to) where
        pub goes-within : end ≡ length w.flat.operations.items → to.place ≤ end
        goes-within is = let there = before-end bound one (loop_at w cells' callers' to) goes.0 lent in omega (arith, there, is)

        pub goes-left : to.fuel ≤ 1
        goes-left = let (u, r) = lent in Steps-fuel NoHosts bound no_frame (goes.0.from u r).steps

        module _ (next : Ahead) (is : position_ahead to.instance end next ≡ with_rest end at to) where
          pub goes-smaller : left_to_do (loop_at w cells' callers' (position_ahead w.number end next)) < left_to_do all
          goes-smaller =
              let place : next.place ≡ to.place = ap (λ (p : Position). p.place) is in
              let fuel : fuel_ahead end next ≡ to.fuel + rest_ahead end at = ap (λ (p : Position). p.fuel) is in
              let falls = goes.2 in
              omega (arith, inside, place, fuel, falls)

          pub goes-ahead : RanAhead bound start w cells' callers' end next
          goes-ahead =
              let left = goes-left in
              let small = ran.small in
              ran-ahead bound start w cells' callers' end (with_rest end at to) next goes.1 is (with-rest w cells' callers' to goes.0) (omega (arith, inside, left, small))

      -- The loop stops.
      pub stops-ahead : (w' : World) (s : Stop) → StopsAt bound one s (loop_at w' cells' callers' to) → (p : Position) → p ≡ with_rest end at to → (result : Option Stop) → result ≡ stop_with_more s
          → StopsOrLacks bound start result (loop_at w' cells' callers' p)
      stops-ahead w' s stops p is result result_is =
          subst (λ (q : Position). StopsOrLacks bound start result (loop_at w' cells' callers' q)) (sym is)
          (subst (λ (r : Option Stop). StopsOrLacks bound start r (loop_at w' cells' callers' (with_rest end at to))) (sym result_is)
          (with-all (stop_with_more s) _ (stops-more bound (rest_ahead end at) one (loop_at w' cells' callers' to) s stops)))

      pub stops-left : bound < 2 ^ 64 → (w' : World) (s : Stop) → StopsAt bound one s (loop_at w' cells' callers' to) → to.fuel ≤ 1
      stops-left few w' s stops = let (u, r) = lent in fuel-falls bound one (loop_at w' cells' callers' to) u s r few stops

    -- ---- rarer instructions

    pub steps-ahead : (state' : StateContents) (bytes' cells' : List ℕ) (to : Position) → StepsTo w cells (position_with w.number 1 at) (record w { state = state'; bytes = bytes' }) cells' to
        → RanAhead bound start (record w { state = state'; bytes = bytes' }) cells' callers end (record at { place = to.place; top = to.top; operand = to.operand })
    steps-ahead state' bytes' cells' to steps =
        let small = ran.small in
        let falls = steps.falls in
        let place : to.place ≡ at.place + 1 = ap (λ (p : Position). p.place) steps.there in
        let fuel : to.fuel + rest_ahead end at ≡ fuel_ahead end (record at { place = at.place + 1 }) = omega (arith, inside, falls) in
        let led = with-rest (record w { state = state'; bytes = bytes' }) cells' callers to
        (steps-on bound one w cells callers (position_with w.number 1 at) (ran-first bound one) state' bytes' cells' to steps) in
        subst (λ (n : ℕ). RanAhead bound start (record w { state = state'; bytes = bytes' }) cells' callers end (record at { place = n; top = to.top; operand = to.operand })) (sym place)
        (record {
          ran = subst (λ (n : ℕ). Ran bound start
              (loop_at (record w { state = state'; bytes = bytes' }) cells' callers
              (position_with w.number n (record at { place = at.place + 1; top = to.top; operand = to.operand })))) fuel
              (subst (λ (p : Position). Ran bound start (loop_at (record w { state = state'; bytes = bytes' }) cells' callers (record p { fuel = to.fuel + rest_ahead end at }))) steps.there led);
          small = omega (arith, small, inside);
        })

    pub stops-before-ahead : (s : Stop) (w' : World) (cells' : List ℕ) → StopsBefore w cells (position_with w.number 1 at) w' cells' s
        → (p : Position) → p ≡ with_rest end at (position_with w.number 1 at) → (result : Option Stop) → result ≡ stop_with_more s → StopsOrLacks bound start result (loop_at w' cells' callers p)
    stops-before-ahead s w' cells' before =
        stops-ahead cells' callers (position_with w.number 1 at) w' s (stops-before bound one w cells callers (position_with w.number 1 at) (ran-first bound one) lent s w' cells' before)
