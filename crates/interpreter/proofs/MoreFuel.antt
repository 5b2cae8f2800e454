-- What runs with some fuel also runs with more, and the additional fuel is left.
use Rattle.std.proofs.Common.{◌≡◌, ℕ, ◌+◌, arith, subst}
use Rattle.meaning.specs.execution.Configurations.{Configuration, no_frame}
use Rattle.meaning.specs.execution.Runs.{IsStep, NoHosts, State, Steps, calls, goes, grows, none, one_more, opens}
use Rattle.meaning.specs.execution.Store.{Store}
use Rattle.interpreter.specs.Ahead.{StopsOrLacks, stop_with_more}
use Rattle.interpreter.specs.Whole.{AsksNext, CallsHostNext, IsOver, Loop, OpensNext, Ran, LoopReaches, RunsWhole, StopsAt, StopsBy, StopsWhole, SwitchesTo, Whole, paid_for, with_more_fuel}
use Rattle.interpreter.specs.Running.{Machine}
use Rattle.interpreter.specs.Worlds.{store_in}
use Rattle.interpreter.specs.declared.machine.CallKind.{CallKind}
use Rattle.interpreter.specs.declared.machine.Stop.{Stop}
use Rattle.interpreter.specs.declared.machine.Stop.TheVariants as stop

module _ (bound k : ℕ) where
  abbrev more : State ⊥ → State ⊥
  more s = record s { fuel = s.fuel + k }

  step-more : {at at' : State ⊥} {c c' : Configuration} → IsStep NoHosts bound no_frame at c at' c' → IsStep NoHosts bound no_frame (more at) c (more at') c'
  step-more (goes is le f h) = goes is (omega (arith, le)) (omega (arith, le, f)) h
  step-more (grows is le f h) = grows is (omega (arith, le)) (omega (arith, le, f)) h
  step-more (opens is le f h within) = opens is (omega (arith, le)) (omega (arith, le, f)) h within
  step-more (calls is le f told then) = absurd told

  steps-more : {at at' : State ⊥} {c c' : Configuration} → Steps NoHosts bound no_frame at c at' c' → Steps NoHosts bound no_frame (more at) c (more at') c'
  steps-more none = none
  steps-more (one_more before last) = one_more (steps-more before) (step-more last)

  -- What a loop runs does not depend on its fuel.
  pub runs-more : (l : Loop) (n : ℕ) (w : Whole) → RunsWhole bound l w → RunsWhole bound (record l { fuel = n }) w
  runs-more l n w r = record { runs = r.runs; number = r.number; callers = r.callers; arity = r.arity; deep = r.deep; typed = r.typed }

  abbrev reaches-more : (l l' : Loop) (w : Whole) → LoopReaches bound l w l' → LoopReaches bound (with_more_fuel l k) w (with_more_fuel l' k)
  reaches-more l l' w r = record { new = r.new; results = r.results; steps = steps-more r.steps; runs = runs-more l' (l'.fuel + k) r.new r.runs }

  less : (l : Loop) (w : Whole) → RunsWhole bound (with_more_fuel l k) w → RunsWhole bound l w
  less l w r = runs-more (with_more_fuel l k) l.fuel w r

  pub ran-more : (l l' : Loop) → Ran bound l l' → Ran bound (with_more_fuel l k) (with_more_fuel l' k)
  ran-more l l' ran = record {
    from = λ w r. reaches-more l l' w (ran.from w (less l w r));
    falls = let falls = ran.falls in omega (arith, falls);
  }

  pub switches-more : (l l' : Loop) (w : Whole) → SwitchesTo bound l w l' → SwitchesTo bound (with_more_fuel l k) w (with_more_fuel l' k)
  switches-more l l' w (there, led) = (there, λ other seen. reaches-more l (record l' { world = other }) w (led other seen))

  over-more : (l l' : Loop) (w : Whole) → IsOver bound l w l' → IsOver bound (with_more_fuel l k) w (with_more_fuel l' k)
  over-more l l' w over = record { values = over.values; steps = steps-more over.steps; results = over.results }

  whole-more : (l l' : Loop) (w : Whole) (s : Stop) → StopsWhole bound l w s l'
      → ((fuel : ℕ) (w' : Whole) → StopsBy bound s l'.world (store_in l'.world) fuel l'.machine w' → StopsBy bound s l'.world (store_in l'.world) (fuel + k) l'.machine w')
      → StopsWhole bound (with_more_fuel l k) w s (with_more_fuel l' k)
  whole-more l l' w s stops by-more =
      let same : l'.fuel + paid_for s + k ≡ l'.fuel + k + paid_for s = omega arith in
      let both = subst (λ (n : ℕ). (t : LoopReaches bound (with_more_fuel l k) w (record l' { fuel = n })) × StopsBy bound s l'.world (store_in l'.world) n l'.machine t.new) same
      (reaches-more l (with_more_fuel l' (paid_for s)) w stops.there, by-more (l'.fuel + paid_for s) stops.there.new stops.by) in
      record { there = both.0; by = both.1 }

  asks-more : (store : Store) (fuel : ℕ) (w : Whole) → AsksNext bound store fuel w → AsksNext bound store (fuel + k) w
  asks-more store fuel w asks = let enough = asks.enough in record { asks = asks.asks; within = asks.within; enough = omega (arith, enough) }

  opens-more : (store : Store) (fuel : ℕ) (w : Whole) → OpensNext store fuel w → OpensNext store (fuel + k) w
  opens-more store fuel w opened = let paid = opened.paid in record { then = opened.then; opens = opened.opens; paid = omega (arith, paid) }

  host-more : (fuel : ℕ) (m : Machine) (w : Whole) (kind : CallKind) (address behind : ℕ) → CallsHostNext fuel m w kind address behind → CallsHostNext (fuel + k) m w kind address behind
  host-more fuel m w kind address behind host =
      let paid = host.paid in
      record { op = host.op; function = host.function; number = host.number; is_host = host.is_host; height = host.height; lies = host.lies; calls = host.calls; paid = omega (arith, paid) }

  -- If the loop stops, it also stops with more fuel, except for lack of fuel.
  pub stops-more : (l l' : Loop) (s : Stop) → StopsAt bound l s l' → StopsOrLacks bound (with_more_fuel l k) (stop_with_more s) (with_more_fuel l' k)
  stops-more l l' stop.Over stops = record { from = λ w r. over-more l l' w (stops.from w (less l w r)); falls = tt }
  stops-more l l' stop.Switches stops = record { from = λ w r. switches-more l l' w (stops.from w (less l w r)); falls = let falls = stops.falls in omega (arith, falls) }
  stops-more l l' stop.NoFuel stops = ran-more l l' (record {
    from = λ w r. let none : l'.fuel + 0 ≡ l'.fuel = omega arith in subst (λ (n : ℕ). LoopReaches bound l w (record l' { fuel = n })) none (stops.from w r).there;
    falls = stops.falls;
  })
  stops-more l l' (stop.Traps trap) stops = record {
    from = λ w r. whole-more l l' w (stop.Traps trap) (stops.from w (less l w r)) (λ fuel w' by. let paid = by.1 in (by.0, omega (arith, paid)));
    falls = tt;
  }
  stops-more l l' stop.NoDepth stops =
      record {
        from = λ w r. whole-more l l' w stop.NoDepth (stops.from w (less l w r))
            (λ fuel w' by. (opens-more (store_in l'.world) fuel w' by.0, by.1));
        falls = tt;
      }
  stops-more l l' stop.NoRoom stops = record {
    from = λ w r. whole-more l l' w stop.NoRoom (stops.from w (less l w r)) (λ fuel w' by. (asks-more (store_in l'.world) fuel w' by.0, by.1));
    falls = let falls = stops.falls in omega (arith, falls);
  }
  stops-more l l' stop.NoMemory stops = record { from = λ w r. whole-more l l' w stop.NoMemory (stops.from w (less l w r)) (λ fuel w' by. asks-more (store_in l'.world) fuel w' by); falls = tt }
  stops-more l l' (stop.CallsHost kind address behind) stops = record {
    from = λ w r. whole-more l l' w (stop.CallsHost kind address behind) (stops.from w (less l w r)) (λ fuel w' by. host-more fuel l'.machine w' kind address behind by);
    falls = tt;
  }
  stops-more l l' (stop.LeavesOther kind n) stops = record { from = λ w r. whole-more l l' w (stop.LeavesOther kind n) (stops.from w (less l w r)) (λ fuel w' by. by); falls = tt }
