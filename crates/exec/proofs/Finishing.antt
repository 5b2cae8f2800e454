-- Runs over host functions, part by part.
use Rattle.std.proofs.Common.{◌≡◌, ℕ, ◌+◌, ◌<◌, ◌≤◌, List, ◌++◌, length, reverse, take, drop, refl, ap, sym, subst, ◌∙◌, arith}
use Rattle.std.proofs.lemmas.List.{take_at}
use Rattle.std.specs.Prelude.{Option}
use Rattle.core_types.specs.declared.outcome.Trap.{Trap}
use Rattle.core_types.specs.declared.outcome.Val.{Val}
use Rattle.core_types.specs.declared.types.ValType.{ValType}
use Rattle.meaning.specs.execution.Configurations.{depth, no_frame}
use Rattle.meaning.specs.execution.Instructions.{Traps, next}
use Rattle.meaning.specs.execution.Runs.{Answer, Ending, OutOfDepth, OutOfFuel, OutOfMemory, Run, State, Steps, WithTrap, WithValues, end, no_depth, no_fuel}
use Rattle.meaning.specs.execution.Runs.{no_memory, none, price, trapped, values_left}
use Rattle.meaning.specs.execution.Store.{Store}
use Rattle.meaning.proofs.lemmas.Hosts.{steps-over}
use Rattle.meaning.proofs.lemmas.Runs.{Steps-fuel, Steps-join, Steps-run}
use Rattle.interpreter.specs.Whole.{CallsHostNext, HasResults, OpensNext, Whole, paid_for, whole}
use Rattle.interpreter.specs.declared.machine.CallKind.{CallKind}
use Rattle.interpreter.specs.declared.machine.Stop.{Stop}
use Rattle.interpreter.specs.declared.machine.Stop.TheVariants as stop
use Rattle.exec.specs.Hosting.{ReachesWithHosts, RestsWith, WaitsForHost}
use Rattle.exec.specs.Endings.{run_state}
use Rattle.exec.specs.Resting.{AtRest, CallReaches, CallStops, Ends, LacksMemory, StopsAtRest, fuel_left, machine_of, store_around}

module _ {H : Type 0} (HostStep : List H → ℕ → Option ℕ → List Val → Store → Answer → Store → List H → Type 0) (bound : ℕ) where
  -- The call has arrived where it starts.
  pub over-first : (r : AtRest) (hosts : List H) (w : Whole) (types : List ValType) → RestsWith bound r w types → ReachesWithHosts HostStep bound r hosts w r hosts
  over-first r hosts w types (rests, is) = record { new = w; results = refl; steps = none; rests = rests }

  abbrev pub over-then : (r r' r'' : AtRest) (hosts hosts' hosts'' : List H) (w : Whole) (first : ReachesWithHosts HostStep bound r hosts w r' hosts')
      → ReachesWithHosts HostStep bound r' hosts' first.new r'' hosts'' → ReachesWithHosts HostStep bound r hosts w r'' hosts''
  over-then r r' r'' hosts hosts' hosts'' w first second = record {
    new = second.new;
    results = second.results ∙ first.results;
    steps = Steps-join HostStep bound no_frame first.steps second.steps;
    rests = second.rests;
  }

  module _ (r r' : AtRest) (hosts : List H) (u : Whole) where
    -- Code of modules has the same steps over any host functions.
    pub led : (left : ℕ) (there : CallReaches bound r u r' left)
        → Steps HostStep bound no_frame (run_state (store_around r) hosts (fuel_left r)) (whole u) (run_state (store_around r') hosts left) (whole there.new)
    led left there = steps-over HostStep hosts bound no_frame there.steps

    -- The call is over.
    pub over-ends : (e : Ends bound r u r') (results : List Val) → results ≡ reverse e.values
        → Run HostStep bound no_frame (run_state (store_around r) hosts (fuel_left r)) (whole u) (WithValues results) (run_state (store_around r') hosts (fuel_left r'))
    over-ends e results is = Steps-run HostStep bound no_frame (steps-over HostStep hosts bound no_frame e.steps) (end (values_left refl (ap WithValues is) refl))

    -- The call lacks memory that the next step asks for.
    pub over-lacks : LacksMemory bound r u r' → Run HostStep bound no_frame (run_state (store_around r) hosts (fuel_left r)) (whole u) OutOfMemory (run_state (store_around r') hosts (fuel_left r'))
    over-lacks l = Steps-run HostStep bound no_frame (led (fuel_left r') l.there) (end (no_memory l.by.asks l.by.within l.by.enough refl refl))

    -- The call stops.
    module _ (s : Stop) (stops : StopsAtRest bound r u s r') where
      abbrev there : CallReaches bound r u r' (fuel_left r' + paid_for s)
      there = stops.there

      abbrev at : State H
      at = run_state (store_around r') hosts (fuel_left r' + paid_for s)

      abbrev last : State H
      last = run_state (store_around r') hosts (fuel_left r')

      same-fuel : paid_for s ≡ 0 → last ≡ at
      same-fuel unpaid = ap (run_state (store_around r') hosts) (omega (arith, unpaid))

      pub stops-trapped : (trap : Trap) → next (store_around r') no_frame (whole there.new) ≡ Traps 1 trap → paid_for s ≡ 1
          → Run HostStep bound no_frame (run_state (store_around r) hosts (fuel_left r)) (whole u) (WithTrap trap) last
      stops-trapped trap traps paid = Steps-run HostStep bound no_frame (led (fuel_left r' + paid_for s) there)
          (end (trapped traps (omega (arith, paid)) refl (ap (run_state (store_around r') hosts) (omega (arith, paid)))))

      module _ (unpaid : paid_for s ≡ 0) where
        abbrev RunsTo : Ending → Type 0
        RunsTo ending = Run HostStep bound no_frame (run_state (store_around r) hosts (fuel_left r)) (whole u) ending last

        pub stops-dear : fuel_left r' + paid_for s < price (next (store_around r') no_frame (whole there.new)) → RunsTo OutOfFuel
        stops-dear dear = Steps-run HostStep bound no_frame (led (fuel_left r' + paid_for s) there) (end (no_fuel dear refl (same-fuel unpaid)))

        pub stops-deep : OpensNext (store_around r') (fuel_left r' + paid_for s) there.new → bound ≤ depth (whole there.new) → RunsTo OutOfDepth
        stops-deep o deep = Steps-run HostStep bound no_frame (led (fuel_left r' + paid_for s) there) (end (no_depth o.opens o.paid deep refl (same-fuel unpaid)))

        -- The call has arrived where a host function is called.
        abbrev pub stops-over : ReachesWithHosts HostStep bound r hosts u r' hosts
        stops-over = record {
          new = there.new;
          results = there.results;
          steps = subst (λ (n : ℕ). Steps HostStep bound no_frame (run_state (store_around r) hosts (fuel_left r)) (whole u)
              (run_state (store_around r') hosts n) (whole there.new)) (omega (arith, unpaid))
              (led (fuel_left r' + paid_for s) there);
          rests = there.rests;
        }

        pub stops-waiting : (kind : CallKind) (address behind : ℕ)
            → CallsHostNext (fuel_left r' + paid_for s) (machine_of r') there.new kind address behind → WaitsForHost bound r' there.new kind address behind
        stops-waiting kind address behind calls = record {
          rests = there.rests;
          next = subst (λ (n : ℕ). CallsHostNext n (machine_of r') there.new kind address behind) (omega (arith, unpaid)) calls;
        }

-- ---- a run from its start

-- The call has arrived at another place, from whatever rests at the start.
pub record CameOver {H : Type 0} (HostStep : List H → ℕ → Option ℕ → List Val → Store → Answer → Store → List H → Type 0)
    (bound : ℕ) (r : AtRest) (hosts : List H) (types : List ValType) (r' : AtRest) (hosts' : List H) : Type 0 where
  pub from : (w : Whole) → RestsWith bound r w types → ReachesWithHosts HostStep bound r hosts w r' hosts'

abbrev RunsSo : {H : Type 0} (HostStep : List H → ℕ → Option ℕ → List Val → Store → Answer → Store → List H → Type 0)
    → (bound : ℕ) → (r : AtRest) → (hosts : List H) → Whole → Ending → (r' : AtRest) → (hosts' : List H) → Type 0
RunsSo HostStep bound r hosts w ending r' hosts' = Run HostStep bound no_frame (run_state (store_around r) hosts (fuel_left r)) (whole w) ending (run_state (store_around r') hosts' (fuel_left r'))

module _ {H : Type 0} {HostStep : List H → ℕ → Option ℕ → List Val → Store → Answer → Store → List H → Type 0} {bound : ℕ} {r : AtRest} {hosts : List H} {types : List ValType} where
  pub came-over-first : CameOver HostStep bound r hosts types r hosts
  came-over-first = record { from = λ w is. over-first HostStep bound r hosts w types is }

  module _ {r' : AtRest} {hosts' : List H} (came : CameOver HostStep bound r hosts types r' hosts') {w : Whole} (is : RestsWith bound r w types) where
    abbrev first : ReachesWithHosts HostStep bound r hosts w r' hosts'
    first = came.from w is

    module _ {r'' : AtRest} where
      pub ends-so : (c : CallStops bound r' stop.Over r'') (results : List Val) → results ≡ reverse (c first.new first.rests).values → RunsSo HostStep bound r hosts w (WithValues results) r'' hosts'
      ends-so c results are = Steps-run HostStep bound no_frame first.steps (over-ends HostStep bound r' r'' hosts' first.new (c first.new first.rests) results are)

      over-typed : (c : CallStops bound r' stop.Over r'') → HasResults (store_around r'') (machine_of r'') types (c first.new first.rests).values
      over-typed c = let e = c first.new first.rests in subst (λ (ts : List ValType). HasResults (store_around r'') (machine_of r'') ts e.values) (first.results ∙ is.1) e.results

      pub some-results : CallStops bound r' stop.Over r'' → (s : Store) × (values : List Val) × HasResults s (machine_of r'') types values
      some-results c = (store_around r'', (c first.new first.rests).values, over-typed c)

      -- With the results, as they are read, in the place of that many values.
      pub ends-taken : (c : CallStops bound r' stop.Over r'') (values old : List Val) (n : ℕ) (results : List Val) (fuel : ℕ) → length values ≡ n
          → ((s : Store) (given : List Val) → HasResults s (machine_of r'') types given → values ≡ reverse given)
          → results ≡ take n (values ++ drop (length values) old) → fuel ≡ fuel_left r''
          → Run HostStep bound no_frame (run_state (store_around r) hosts (fuel_left r)) (whole w) (WithValues results)
          (run_state (store_around r'') hosts' fuel)
      ends-taken c values old n results fuel size reads taken left =
          subst (λ (k : ℕ). Run HostStep bound no_frame (run_state (store_around r) hosts (fuel_left r)) (whole w) (WithValues results) (run_state (store_around r'') hosts' k)) (sym left)
          (ends-so c results (taken ∙ take_at values (drop (length values) old) n size ∙ reads (store_around r'') (c first.new first.rests).values (over-typed c)))

      pub traps-so : (trap : Trap) → CallStops bound r' (stop.Traps trap) r'' → RunsSo HostStep bound r hosts w (WithTrap trap) r'' hosts'
      traps-so trap c = let stops = c first.new first.rests in
          Steps-run HostStep bound no_frame first.steps (stops-trapped HostStep bound r' r'' hosts' first.new (stop.Traps trap) stops trap stops.by.0 refl)

      pub dear-so : CallStops bound r' stop.NoFuel r'' → RunsSo HostStep bound r hosts w OutOfFuel r'' hosts'
      dear-so c = let stops = c first.new first.rests in Steps-run HostStep bound no_frame first.steps (stops-dear HostStep bound r' r'' hosts' first.new stop.NoFuel stops refl stops.by)

      pub deep-so : CallStops bound r' stop.NoDepth r'' → RunsSo HostStep bound r hosts w OutOfDepth r'' hosts'
      deep-so c = let stops = c first.new first.rests in Steps-run HostStep bound no_frame first.steps (stops-deep HostStep bound r' r'' hosts' first.new stop.NoDepth stops refl stops.by.0 stops.by.1)

      pub lacks-so : CallStops bound r' stop.NoMemory r'' → RunsSo HostStep bound r hosts w OutOfMemory r'' hosts'
      lacks-so c = Steps-run HostStep bound no_frame first.steps (over-lacks HostStep bound r' r'' hosts' first.new (c first.new first.rests))

      -- A host function is called.
      module _ {kind : CallKind} {address behind : ℕ} (c : CallStops bound r' (stop.CallsHost kind address behind) r'') where
        abbrev stops : StopsAtRest bound r' first.new (stop.CallsHost kind address behind) r''
        stops = c first.new first.rests

        abbrev pub waiting : Whole
        waiting = stops.there.new

        pub waits-so : WaitsForHost bound r'' waiting kind address behind
        waits-so = stops-waiting HostStep bound r' r'' hosts' first.new (stop.CallsHost kind address behind) stops refl kind address behind stops.by

        abbrev pub called : ReachesWithHosts HostStep bound r hosts w r'' hosts'
        called = over-then HostStep bound r r' r'' hosts hosts' hosts' w first (stops-over HostStep bound r' r'' hosts' first.new (stop.CallsHost kind address behind) stops refl)

        pub ended-so : (r3 : AtRest) (hosts3 : List H) (ending : Ending)
            → ((u : Whole) → WaitsForHost bound r'' u kind address behind
            → Run HostStep bound no_frame (run_state (store_around r'') hosts' (fuel_left r'')) (whole u) ending
            (run_state (store_around r3) hosts3 (fuel_left r3)))
            → RunsSo HostStep bound r hosts w ending r3 hosts3
        ended-so r3 hosts3 ending ended = Steps-run HostStep bound no_frame called.steps (ended waiting waits-so)

        -- The fuel does not grow.
        pub called-fuel : fuel_left r'' ≤ fuel_left r'
        called-fuel = Steps-fuel HostStep bound no_frame (stops-over HostStep bound r' r'' hosts' first.new (stop.CallsHost kind address behind) stops refl).steps

  pub came-answered : {r' r'' r3 : AtRest} {hosts' hosts3 : List H} → (came : CameOver HostStep bound r hosts types r' hosts')
      → {kind : CallKind} {address behind : ℕ} → (c : CallStops bound r' (stop.CallsHost kind address behind) r'')
      → ((u : Whole) → WaitsForHost bound r'' u kind address behind → ReachesWithHosts HostStep bound r'' hosts' u r3 hosts3) → CameOver HostStep bound r hosts types r3 hosts3
  came-answered {r'} {r''} {r3} {hosts'} {hosts3} came c answered = record {
    from = λ w is. over-then HostStep bound r r'' r3 hosts hosts' hosts3 w (called came is c) (answered (waiting came is c) (waits-so came is c));
  }
