-- Runs of code of one instance, from rest to rest.
use Rattle.std.proofs.Common.{◌≡◌, ℕ, ◌+◌, length, take, ap, sym, subst, ◌∙◌}
use Rattle.meaning.specs.structure.Bodies.{Empty}
use Rattle.meaning.specs.execution.Configurations.{Configuration, Running, no_frame}
use Rattle.meaning.specs.execution.Runs.{NoHosts, Steps}
use Rattle.meaning.specs.execution.Store.{Store}
use Rattle.soundness.specs.Configurations.{ConfigurationHasType}
use Rattle.soundness.specs.Places.{outermost}
use Rattle.soundness.specs.Stores.{StoreIsValid}
use Rattle.sidetable.specs.FlatModules.{operations_of}
use Rattle.store.specs.Contents.{Contents}
use Rattle.interpreter.specs.Callers.{CallersStand}
use Rattle.exec.specs.Resting.{AtRest, CallReaches, FallsTo, CallStepsTo, Rests, RestsSome, RunsFrom, RunsTo, fuel_left, loop_of, machine_of, store_around}
use Rattle.interpreter.specs.Whole.{FallsAt, HasResults, IsSeenFrom, Loop, LoopReaches, RunsWhole, StopsAt, StopsBy, StopsFrom, Whole, paid_for, state, whole}
use Rattle.interpreter.specs.Worlds.{Sees, World, memory_in, store_in, with_memory_back}
use Rattle.interpreter.specs.declared.machine.Stop.{Stop}
use Rattle.interpreter.specs.declared.machine.Stop.TheVariants as stop
use Rattle.interpreter.proofs.Worlds.{flat-seen}
use Rattle.exec.proofs.Seeing.{seen-from}

-- ---- any view of the store

-- What the loop runs in a store, it also runs in the store as seen from the same instance.
runs-seen : (bound : ℕ) (l : Loop) (u : Whole) (other : World) → IsSeenFrom l.number l.world other → RunsWhole bound l u → RunsWhole bound (record l { world = other }) u
runs-seen bound l u other seen r = record {
  runs = record {
    runs = r.runs.runs;
    low = r.runs.low;
    scrap = r.runs.scrap;
    operations = r.runs.operations ∙ ap operations_of
        (r.runs.instance.flat ∙ sym (flat-seen l.world.code l.world.number l.world.instance r.runs.instance.loaded other seen.code
        (seen.seen_from ∙ r.number) seen.instance));
    store = r.runs.store ∙ sym seen.store;
    number = r.runs.number ∙ sym r.number ∙ sym seen.seen_from;
    instance = seen.instance;
  };
  number = sym seen.seen_from;
  callers = subst (λ (c : Contents). CallersStand c (length l.machine.cells) l.callers u.callers u.ghost.code.outermost.kept (take l.machine.base l.machine.cells)) (sym seen.code) r.callers;
  arity = r.arity;
  deep = r.deep;
  typed = subst (λ (s : Store). ConfigurationHasType s outermost (whole u) u.results) (sym seen.store) r.typed;
}

-- For any fuel.
refuelled : (bound : ℕ) (l : Loop) (fuel : ℕ) (u : Whole) → RunsWhole bound (record l { fuel = fuel }) u → RunsWhole bound l u
refuelled bound l fuel u r = record { runs = r.runs; number = r.number; callers = r.callers; arity = r.arity; deep = r.deep; typed = r.typed }

module _ (bound : ℕ) (r : AtRest) where
  pub runs-at : (u : Whole) → Rests bound r u → (w : World) → Sees r.code (store_around r) r.call.position.instance w → RunsWhole bound (loop_of w r) u
  runs-at u rests w sees =
      runs-seen bound (loop_of rests.world r) u w
      (record {
        store = sees.store ∙ sym rests.sees.store;
        code = sees.code ∙ sym rests.sees.code;
        seen_from = sees.seen_from;
        instance = sees.instance;
      }) rests.runs

  abbrev rests-so : (u : Whole) (w : World) → w.code ≡ r.code → store_in w ≡ store_around r → RunsWhole bound (loop_of w r) u → Rests bound r u
  rests-so u w code store runs = record { world = w; sees = record { store = store; code = code; seen_from = sym runs.number; instance = runs.runs.instance }; runs = runs }

  pub rests-valid : RestsSome bound r → StoreIsValid (store_around r)
  rests-valid (u, rests) = subst StoreIsValid (rests.runs.runs.store ∙ rests.sees.store) rests.runs.runs.runs.typed.valid

-- ---- a run of the loop

module _ (bound : ℕ) (r r' : AtRest) (w w' : World) (start : Sees r.code (store_around r) r.call.position.instance w) (code_is : w'.code ≡ r'.code) (store_is : store_in w' ≡ store_around r') where
  led : (u : Whole) (end : Store) → end ≡ store_around r' → (left : ℕ) (c : Configuration)
      → Steps NoHosts bound no_frame (state (store_in w) (fuel_left r)) (whole u) (state end left) c → CallStepsTo bound r u r' left c
  led u end end_is left c steps =
      subst (λ (s : Store). Steps NoHosts bound no_frame (state (store_around r) (fuel_left r)) (whole u) (state s left) c) end_is
      (subst (λ (s : Store). Steps NoHosts bound no_frame (state s (fuel_left r)) (whole u) (state end left) c) start.store steps)

  abbrev comes : (u : Whole) (other : World) → other.code ≡ r'.code → store_in other ≡ store_around r' → (left : ℕ)
      → LoopReaches bound (loop_of w r) u (record (loop_of other r') { fuel = left }) → CallReaches bound r u r' left
  comes u other code store left t = record {
    new = t.new;
    results = t.results;
    steps = led u (store_in other) store left (whole t.new) t.steps;
    rests = rests-so bound r' t.new other code store (refuelled bound (loop_of other r') left t.new t.runs);
  }

  runs-to : (s : Stop) (u : Whole) → StopsFrom bound (loop_of w r) u s (loop_of w' r') → RunsTo bound r u s r'
  runs-to stop.Over u o = record {
    values = o.values;
    steps = led u (store_in w') store_is (fuel_left r') (Running o.values Empty) o.steps;
    results = subst (λ (s : Store). HasResults s (machine_of r') u.results o.values) store_is o.results;
  }
  runs-to stop.Switches u (there, goes) =
      let (other, sees) = seen-from w'.code (with_memory_back w'.state w'.address (memory_in w')) r'.call.position.instance there in
      comes u other (sees.code ∙ code_is) (sees.store ∙ store_is) (fuel_left r') (goes other sees)
  runs-to s u stops = record {
    there = comes u w' code_is store_is (fuel_left r' + paid_for s) stops.there;
    by = subst (λ (z : Store). StopsBy bound s w' z (fuel_left r' + paid_for s) (machine_of r') stops.there.new) store_is stops.by;
  }

  falls-to : (s : Stop) → FallsAt (loop_of w r) s (loop_of w' r') → FallsTo r s r'
  falls-to stop.Switches falls = falls
  falls-to stop.NoRoom falls = falls
  falls-to s falls = tt

  pub runs-on : (s : Stop) → StopsAt bound (loop_of w r) s (loop_of w' r') → RunsFrom bound r s r'
  runs-on s stops = record { from = λ u rests. runs-to s u (stops.from u (runs-at bound r u rests w start)); falls = falls-to s stops.falls }

-- The store is valid afterwards.
module _ (bound : ℕ) (l l' : Loop) (u : Whole) where
  valid-from : (s : Stop) → StopsFrom bound l u s l' → StoreIsValid (store_in l'.world)
  valid-from stop.Over o = o.results.valid
  valid-from stop.Switches (there, goes) =
      let (other, sees) = seen-from l'.world.code (with_memory_back l'.world.state l'.world.address (memory_in l'.world)) l'.number there in
      let t = goes other sees in
      subst StoreIsValid (t.runs.runs.store ∙ sees.store) t.runs.runs.runs.typed.valid
  valid-from s stops = subst StoreIsValid stops.there.runs.runs.store stops.there.runs.runs.runs.typed.valid

pub stops-valid : (bound : ℕ) (r : AtRest) (w : World) → Sees r.code (store_around r) r.call.position.instance w → RestsSome bound r
    → (s : Stop) (l' : Loop) → StopsAt bound (loop_of w r) s l' → StoreIsValid (store_in l'.world)
stops-valid bound r w sees (u, rests) s l' stops = valid-from bound (loop_of w r) l' u s (stops.from u (runs-at bound r u rests w sees))
