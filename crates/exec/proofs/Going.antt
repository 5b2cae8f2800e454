-- Runs of code of instances, one after the other.
use Rattle.std.proofs.Common.{◌≡◌, ◌≢◌, ℕ, suc, ◌+◌, ◌-◌, ◌*◌, ◌^◌, ◌<◌, ◌≤◌, List, ◌++◌, length, replicate, Some, slice_get, refl, ap, sym, subst, ◌∙◌, arith, length-append}
use Rattle.std.proofs.lemmas.List.{length-replicate}
use Rattle.std.proofs.lemmas.Option.{slice_get_within}
use Rattle.std.specs.Global.{Vec}
use Rattle.core_types.specs.declared.types.ValType.{ValType}
use Rattle.core_types.specs.declared.op.PlainOp.{PlainOp}
use Rattle.meaning.specs.execution.Configurations.{Configuration, no_frame}
use Rattle.meaning.specs.execution.Runs.{IsStep, NoHosts, State, Steps, calls, goes, grows, none, one_more, opens}
use Rattle.meaning.proofs.lemmas.Runs.{Steps-join}
use Rattle.soundness.specs.Stores.{StoreIsValid}
use Rattle.sidetable.specs.Flat.{Plain}
use Rattle.sidetable.specs.Packing.{other_op}
use Rattle.sidetable.specs.declared.operations.OtherInstruction.{OtherInstruction}
use Rattle.sidetable.specs.declared.flat_module.FlatModule.{FlatModule}
use Rattle.sidetable.specs.declared.side_tables.SideTables.{SideTables}
use Rattle.store.specs.Contents.{Contents}
use Rattle.store.specs.declared.instances.Instance.{Instance}
use Rattle.interpreter.specs.Looping.{loop_at}
use Rattle.interpreter.specs.Operations.{IsLeft, StandsThere}
use Rattle.exec.specs.Instructions.{ContinuesAfter, RestsBefore, RestsSomeBefore, StopsFor}
use Rattle.exec.specs.Resting.{AtRest, CallReaches, CallStops, CallStopsFrom, LacksMemory, Rests, RestsSome, RunsFrom, RunsTo, StopsAtRest, fuel_left, left_of, loop_of, machine_of, store_around}
use Rattle.interpreter.specs.Whole.{AsksNext, HasResults, RunsWhole, Whole, left_at, paid_for}
use Rattle.interpreter.specs.Worlds.{Sees, World}
use Rattle.interpreter.specs.declared.machine.Frame.{Frame}
use Rattle.interpreter.specs.declared.machine.Stop.{Stop}
use Rattle.interpreter.specs.declared.machine.Stop.TheVariants as stop
use Rattle.interpreter.proofs.Forms.{inside}
use Rattle.exec.proofs.Growing.{longer-whole}
use Rattle.exec.proofs.Resting.{rests-valid}

-- A call has arrived at another place.
pub record Came (bound : ℕ) (r r' : AtRest) : Type 0 where
  pub from : (u : Whole) → Rests bound r u → CallReaches bound r u r' (fuel_left r')

-- The call with other cells.
abbrev pub with_cells : AtRest → Vec ℕ → AtRest
with_cells r v = record r { call = record r.call { cells = v } }

-- The same work is left, with more cells.
pub measure-grows : (left left' : ℕ) (old mid new : List ℕ) → left' ≤ left → length mid ≡ length old → 1 ≤ length old → new ≡ mid ++ replicate (length mid) 0 → length new < 2 ^ 64
    → 2 ^ 64 * left' + (2 ^ 64 - length new) < 2 ^ 64 * left + (2 ^ 64 - length old)
measure-grows left left' old mid new le same some is few =
    let all = ap (λ (z : List ℕ). length z) is in
    let sum = length-append mid (replicate (length mid) 0) in
    let more : length (replicate (length mid) 0) ≡ length mid = length-replicate {A = ℕ} (length mid) 0 in
    omega (arith, le, same, some, all, sum, more, few)

-- Less work is left with less fuel.
measure-falls : (fuel fuel' callers callers' place place' size size' : ℕ) → fuel' < fuel → suc callers' < 2 ^ 64 → size' ≡ size
    → 2 ^ 64 * left_at fuel' callers' place' + (2 ^ 64 - size') < 2 ^ 64 * left_at fuel callers place + (2 ^ 64 - size)
measure-falls fuel fuel' callers callers' place place' size size' less few same = omega (arith, less, few, same)

-- Steps spend fuel.
module _ (bound : ℕ) where
  step-spends : {at at' : State ⊥} {c c' : Configuration} → IsStep NoHosts bound no_frame at c at' c' → at'.fuel ≤ at.fuel
  step-spends (goes is enough left hosts) = omega (arith, left)
  step-spends (grows is enough left hosts) = omega (arith, left)
  step-spends (opens is enough left hosts within) = omega (arith, left)
  step-spends (calls is enough left told after) = absurd told

  steps-spend : {at at' : State ⊥} {c c' : Configuration} → Steps NoHosts bound no_frame at c at' c' → at'.fuel ≤ at.fuel
  steps-spend none = omega arith
  steps-spend (one_more before last) = let first = steps-spend before in let then_last = step-spends last in omega (arith, first, then_last)

module _ (bound : ℕ) where
  pub came-first : (r : AtRest) → Came bound r r
  came-first r = record { from = λ u rests. record { new = u; results = refl; steps = none; rests = rests } }

  pub rests-there : (r r' : AtRest) → RestsSome bound r → Came bound r r' → RestsSome bound r'
  rests-there r r' (u, rests) came = let there = came.from u rests in (there.new, there.rests)

  pub some-cells : (r : AtRest) → RestsSome bound r → 1 ≤ length r.call.cells.items
  some-cells r (u, rests) = let within = inside rests.world (machine_of r) u.ghost rests.runs.runs in omega (arith, within)

  abbrev comes-then : (r r' r'' : AtRest) (u : Whole) (left : ℕ) (first : CallReaches bound r u r' (fuel_left r')) → CallReaches bound r' first.new r'' left → CallReaches bound r u r'' left
  comes-then r r' r'' u left first second = record {
    new = second.new;
    results = second.results ∙ first.results;
    steps = Steps-join NoHosts bound no_frame first.steps second.steps;
    rests = second.rests;
  }

  abbrev stops-later : (r r' r'' : AtRest) (u : Whole) (s : Stop) (first : CallReaches bound r u r' (fuel_left r')) → StopsAtRest bound r' first.new s r'' → StopsAtRest bound r u s r''
  stops-later r r' r'' u s first last = record { there = comes-then r r' r'' u (fuel_left r'' + paid_for s) first last.there; by = last.by }

  -- The call asks for memory.
  asks-for-memory : (r r' : AtRest) (u : Whole) → StopsAtRest bound r u stop.NoMemory r' → LacksMemory bound r u r'
  asks-for-memory r r' u stops =
      let same : fuel_left r' + 0 ≡ fuel_left r' = omega arith in
      let both = subst (λ (left : ℕ). (c : CallReaches bound r u r' left) × AsksNext bound (store_around r') left c.new) same (stops.there, stops.by) in
      record { there = both.0; by = both.1 }

  module _ (r r' r'' : AtRest) (came : Came bound r r') where
    -- Code of another instance is next.
    pub came-switched : RunsFrom bound r' stop.Switches r'' → Came bound r r''
    came-switched runs = record { from = λ u rests. let first = came.from u rests in comes-then r r' r'' u (fuel_left r'') first (runs.from first.new first.rests) }

    -- The call is over, or stops.
    concludes-from : (s : Stop) → s ≢ stop.Switches → s ≢ stop.NoRoom → ((kind : OtherInstruction) (n : ℕ) → s ≢ stop.LeavesOther kind n)
        → (u : Whole) (first : CallReaches bound r u r' (fuel_left r')) → RunsTo bound r' first.new s r'' → CallStopsFrom bound r u s r''
    concludes-from stop.Over apart roomy its u first ends = record {
      values = ends.values;
      steps = Steps-join NoHosts bound no_frame first.steps ends.steps;
      results = subst (λ (ts : List ValType). HasResults (store_around r'') (machine_of r'') ts ends.values) first.results ends.results;
    }
    concludes-from stop.Switches apart roomy its u first there = apart refl
    concludes-from stop.NoRoom apart roomy its u first stops = roomy refl
    concludes-from (stop.LeavesOther kind n) apart roomy its u first stops = absurd (its kind n refl)
    concludes-from stop.NoMemory apart roomy its u first stops = asks-for-memory r r'' u (stops-later r r' r'' u stop.NoMemory first stops)
    concludes-from s apart roomy its u first stops = stops-later r r' r'' u s first stops

    pub concludes-so : (s : Stop) → s ≢ stop.Switches → s ≢ stop.NoRoom → ((kind : OtherInstruction) (n : ℕ) → s ≢ stop.LeavesOther kind n) → RunsFrom bound r' s r'' → CallStops bound r s r''
    concludes-so s apart roomy its runs u rests = let first = came.from u rests in concludes-from s apart roomy its u first (runs.from first.new first.rests)

    valid-from : (s : Stop) → s ≢ stop.Switches → s ≢ stop.NoRoom → ((kind : OtherInstruction) (n : ℕ) → s ≢ stop.LeavesOther kind n) → (u : Whole)
        → CallStopsFrom bound r u s r'' → StoreIsValid (store_around r'')
    valid-from stop.Over apart roomy its u ends = ends.results.valid
    valid-from stop.Switches apart roomy its u wrong = absurd wrong
    valid-from stop.NoRoom apart roomy its u wrong = absurd wrong
    valid-from (stop.LeavesOther kind n) apart roomy its u wrong = absurd wrong
    valid-from s apart roomy its u stops = rests-valid bound r'' (stops.there.new, stops.there.rests)

    pub concludes-valid : (s : Stop) → s ≢ stop.Switches → s ≢ stop.NoRoom → ((kind : OtherInstruction) (n : ℕ) → s ≢ stop.LeavesOther kind n)
        → RunsFrom bound r' s r'' → RestsSome bound r → StoreIsValid (store_around r'')
    concludes-valid s apart roomy its runs (u, rests) = valid-from s apart roomy its u (concludes-so s apart roomy its runs u rests)

    -- The loop stops with `NoRoom`.
    module _ (runs : RunsFrom bound r' stop.NoRoom r'') where
      abbrev stopped : (u : Whole) → Rests bound r u → StopsAtRest bound r u stop.NoRoom r''
      stopped u rests = let first = came.from u rests in stops-later r r' r'' u stop.NoRoom first (runs.from first.new first.rests)

      pub unable-valid : RestsSome bound r → StoreIsValid (store_around r'')
      unable-valid (u, rests) = let there = (stopped u rests).there in rests-valid bound r'' (there.new, there.rests)

      -- Then there are other cells.
      module _ (v : Vec ℕ) where
        abbrev moved : (u : Whole) (left : ℕ) (there : CallReaches bound r u r'' left)
            → RunsWhole bound (loop_at there.rests.world v.items r''.call.callers r''.call.position) there.new → CallReaches bound r u (with_cells r'' v) left
        moved u left there runs_whole = record {
          new = there.new;
          results = there.results;
          steps = there.steps;
          rests = record { world = there.rests.world; sees = there.rests.sees; runs = runs_whole };
        }

        pub came-grown : (more : List ℕ) → v.items ≡ r''.call.cells.items ++ more → Came bound r (with_cells r'' v)
        came-grown more is = record {
          from = λ u rests.
              let there = (stopped u rests).there in
              let same : fuel_left r'' + 0 ≡ fuel_left r'' = omega arith in
              subst (λ (left : ℕ). CallReaches bound r u (with_cells r'' v) left) same
              (moved u (fuel_left r'' + 0) there
              (subst (λ (z : List ℕ). RunsWhole bound (loop_at there.rests.world z r''.call.callers r''.call.position) there.new) (sym is)
              (longer-whole bound (loop_of there.rests.world r'') there.new more there.rests.runs)));
        }

        pub concludes-unable : v.items ≡ r''.call.cells.items → CallStops bound r stop.NoMemory (with_cells r'' v)
        concludes-unable is u rests =
            let stops = stopped u rests in
            asks-for-memory r (with_cells r'' v) u
            (record {
              there = moved u (fuel_left r'' + 0) stops.there
                  (subst (λ (z : List ℕ). RunsWhole bound (loop_at stops.there.rests.world z r''.call.callers r''.call.position) stops.there.new) (sym is) stops.there.rests.runs);
              by = stops.by.0;
            })

  -- ---- instructions that the loop leaves to others

  -- The instance whose code is next exists.
  pub left-there : (r r' r'' : AtRest) → Came bound r r' → (kind : OtherInstruction) (n : ℕ) → RunsFrom bound r' (stop.LeavesOther kind n) r''
      → RestsSome bound r → r''.call.position.instance < length r''.code.instances
  left-there r r' r'' came kind n runs (u, rests) =
      let first = came.from u rests in
      let its = (runs.from first.new first.rests).there.rests in
      let inside = slice_get_within its.world.code.instances its.world.number its.world.instance its.sees.instance.loaded.there in
      let same = ap (λ (c : Contents). length c.instances) its.sees.code in
      let seen = its.sees.seen_from in
      omega (arith, inside, same, seen)

  module _ (r r' r'' r3 : AtRest) (came : Came bound r r') (kind : OtherInstruction) (n : ℕ) (runs : RunsFrom bound r' (stop.LeavesOther kind n) r'')
      (tables : SideTables) (are : (i : Instance) → slice_get r''.code.instances r''.call.position.instance ≡ Some i → tables ≡ i.loaded.value.flat.tables) where
    abbrev op : PlainOp
    op = other_op tables kind n

    -- The tables are those of the world that is seen.
    tables-seen : (w : World) → Sees r''.code (store_around r'') r''.call.position.instance w → w.flat.tables ≡ tables
    tables-seen w sees =
        ap (λ (z : FlatModule). z.tables) sees.instance.flat
        ∙ sym (are w.instance (subst (λ (n : ℕ). slice_get r''.code.instances n ≡ Some w.instance) sees.seen_from
        (subst (λ (c : Contents). slice_get c.instances w.number ≡ Some w.instance) sees.code sees.instance.loaded.there)))

    -- The call has arrived before the instruction.
    come-before : (u : Whole) → Rests bound r u → (there : CallReaches bound r u r'' (fuel_left r'')) × RestsBefore bound r'' op there.new
    come-before u rests =
        let first = came.from u rests in
        let stops = stops-later r r' r'' u (stop.LeavesOther kind n) first (runs.from first.new first.rests) in
        let same : fuel_left r'' + 0 ≡ fuel_left r'' = omega arith in
        let stands = subst (λ (ts : SideTables). StandsThere (machine_of r'') stops.there.new.ghost (Plain (other_op ts kind n)))
        (tables-seen stops.there.rests.world stops.there.rests.sees) stops.by.1 in
        let (there, its) = subst (λ (left : ℕ). (c : CallReaches bound r u r'' left) × StandsThere (machine_of r'') c.new.ghost (Plain op)) same (stops.there, stands) in
        (there, record { rests = there.rests; there = its })

    pub left-before : RestsSome bound r → IsLeft kind
    left-before (u, rests) = let first = came.from u rests in (runs.from first.new first.rests).by.0

    pub some-before : RestsSome bound r → RestsSomeBefore r'' op
    some-before (u, rests) = let (there, b) = come-before u rests in (bound, there.new, b)

    -- The call continues after the instruction.
    pub came-done : ContinuesAfter r'' op r3 → Came bound r r3
    came-done done = record { from = λ u rests. let (there, b) = come-before u rests in comes-then r r'' r3 u (fuel_left r3) there (done.comes bound there.new b) }

    pub falls-done : RestsSome bound r → bound < 2 ^ 64 → ContinuesAfter r'' op r3 → (size : length r''.call.cells.items ≡ length r'.call.cells.items)
        → 2 ^ 64 * left_of r3 + (2 ^ 64 - length r3.call.cells.items) < 2 ^ 64 * left_of r' + (2 ^ 64 - length r'.call.cells.items)
    falls-done (u, rests) small done size =
        let first = came.from u rests in
        let spent : fuel_left r'' + 0 ≤ fuel_left r' = steps-spend bound (runs.from first.new first.rests).there.steps in
        let deep = (come-before u rests).1.rests.runs.deep in
        let as_many = ap (λ (fs : List Frame). length fs) done.callers in
        measure-falls (fuel_left r') (fuel_left r3) (length r'.call.callers) (length r3.call.callers) r'.call.position.place r3.call.position.place
        (length r'.call.cells.items) (length r3.call.cells.items)
        (omega (arith, spent, done.falls)) (omega (arith, deep, as_many, small)) (done.size ∙ size)

    -- The call stops there.
    concludes-there : (s : Stop) (u : Whole) (there : CallReaches bound r u r'' (fuel_left r'')) → StopsFor bound r'' there.new s r3 → CallStopsFrom bound r u s r3
    concludes-there stop.NoFuel u there stops = stops-later r r'' r3 u stop.NoFuel there stops
    concludes-there stop.NoMemory u there lacks = record { there = comes-then r r'' r3 u (fuel_left r3) there lacks.there; by = lacks.by }
    concludes-there (stop.Traps trap) u there stops = stops-later r r'' r3 u (stop.Traps trap) there stops
    concludes-there s u there wrong = absurd wrong

    valid-there : (s : Stop) (u : Whole) → StopsFor bound r'' u s r3 → StoreIsValid (store_around r3)
    valid-there stop.NoFuel u stops = rests-valid bound r3 (stops.there.new, stops.there.rests)
    valid-there stop.NoMemory u lacks = rests-valid bound r3 (lacks.there.new, lacks.there.rests)
    valid-there (stop.Traps trap) u stops = rests-valid bound r3 (stops.there.new, stops.there.rests)
    valid-there s u wrong = absurd wrong

    module _ (s : Stop) (stops : (bound : ℕ) (u : Whole) → RestsBefore bound r'' op u → StopsFor bound r'' u s r3) where
      pub concludes-before : CallStops bound r s r3
      concludes-before u rests = let (there, b) = come-before u rests in concludes-there s u there (stops bound there.new b)

      pub valid-before : RestsSome bound r → StoreIsValid (store_around r3)
      valid-before (u, rests) = let (there, b) = come-before u rests in valid-there s there.new (stops bound there.new b)
