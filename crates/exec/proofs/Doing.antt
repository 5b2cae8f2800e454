-- What an instruction's outcome in its frame means for the whole, at rest.
use Rattle.std.proofs.Common.{◌≡◌, ℕ, ◌+◌, ◌-◌, ◌^◌, ◌<◌, ◌≤◌, List, length, take, refl, ap, sym, subst, ◌∙◌, arith}
use Rattle.std.proofs.lemmas.List.{length-set}
use Rattle.std.specs.Prelude.{Result, Ok, Err}
use Rattle.core_types.specs.declared.op.PlainOp.{PlainOp}
use Rattle.core_types.specs.declared.outcome.Trap.{Trap}
use Rattle.core_types.specs.declared.types.ValType.{ValType}
use Rattle.meaning.specs.execution.Configurations.{Frame, depth, no_frame}
use Rattle.meaning.specs.execution.Instructions.{Grows, Next, Traps, next}
use Rattle.meaning.specs.execution.Layers.{outermost, plug}
use Rattle.meaning.specs.execution.Runs.{AsksForMemory, IsWithinBound, NoHosts, Steps, price}
use Rattle.meaning.specs.execution.Store.{Store}
use Rattle.meaning.proofs.lemmas.Layers.{plugged-grows}
use Rattle.soundness.specs.Configurations.{ConfigurationHasType}
use Rattle.soundness.specs.Places.{outermost as outside_place}
use Rattle.soundness.specs.Stores.{StoreIsValid}
use Rattle.simulation.specs.Outcomes.{HasOutcome, Outcome, failed, grown, made}
use Rattle.simulation.specs.Runs.{AsksToGrow, Fails, Lacks, config_of, frame_of}
use Rattle.simulation.specs.Standing.{FrameCode}
use Rattle.simulation.proofs.Frames.{steps-lifted}
use Rattle.store.specs.Contents.{Contents, IsLoaded, store_with}
use Rattle.store.specs.State.{StateContents}
use Rattle.effects.specs.Outcomes.{IsDone, HasFault, cost_of}
use Rattle.effects.specs.declared.payment.Paid.{Paid}
use Rattle.effects.specs.declared.payment.Fault.{Fault}
use Rattle.effects.specs.declared.payment.Fault.TheVariants as fault
use Rattle.interpreter.specs.Callers.{CallersStand, layers_around}
use Rattle.interpreter.specs.Looping.{loop_at}
use Rattle.interpreter.specs.Running.{MachineReaches, RunsAt, cells_in, height_in}
use Rattle.interpreter.specs.Whole.{AsksNext, Loop, LoopReaches, RunsWhole, StopsBy, Whole, layers_of, state, whole}
use Rattle.interpreter.specs.Worlds.{Sees, World, store_in}
use Rattle.interpreter.specs.declared.machine.Frame.{Frame as WaitingFrame}
use Rattle.interpreter.specs.declared.machine.Position.{Position}
use Rattle.interpreter.specs.declared.machine.Stop.TheVariants as stop
use Rattle.interpreter.proofs.Lifting.{fails-whole, lacks-whole, layers-out, lifted-there, runs-then, steps-typed, with_ghost}
use Rattle.interpreter.proofs.Forms.{inside}
use Rattle.interpreter.proofs.Executing.{place-fits}
use Rattle.interpreter.proofs.Worlds.{flat-seen}
use Rattle.exec.specs.Instructions.{HasResult, ContinuesAfter, HasRoom, RestsBefore, RestsSomeBefore, cells_behind, operand_behind, position_behind, top_behind}
use Rattle.exec.specs.Resting.{AtRest, CallReaches, LacksMemory, Rests, StopsAtRest, at_rest, fuel_left, loop_of, machine_of, store_around}
use Rattle.exec.specs.declared.call.Call.{Call}
use Rattle.exec.proofs.Behind.{goes-on, machine_behind}
use Rattle.exec.proofs.Seeing.{seen-from}

module _ (bound : ℕ) (r : AtRest) (u : Whole) (rests : Rests bound r u) (state' : StateContents) (call' : Call) where
  abbrev number : ℕ
  number = r.call.position.instance

  abbrev runs : RunsAt rests.world (machine_of r) u.ghost
  runs = rests.runs.runs

  abbrev there : AtRest
  there = at_rest r.code state' call'

  -- The instance exists.
  number-there : IsLoaded r.code number rests.world.instance
  number-there =
      subst (λ (n : ℕ). IsLoaded r.code n rests.world.instance) rests.sees.seen_from
      (subst (λ (c : Contents). IsLoaded c rests.world.number rests.world.instance) rests.sees.code rests.sees.instance.loaded)

  flat-same : (w' : World) → Sees r.code (store_with r.code state') number w' → w'.flat ≡ rests.world.flat
  flat-same w' sees = flat-seen r.code number rests.world.instance number-there w' sees.code sees.seen_from sees.instance ∙ sym rests.sees.instance.flat

  store-is : u.ghost.store ≡ store_around r
  store-is = runs.store ∙ rests.sees.store

  -- ---- where the call rests

  -- Something runs there, with these cells.
  abbrev RestsAt : Whole → (cells : List ℕ) → List WaitingFrame → Position → Type 0
  RestsAt new cells callers position = (w : World) × Sees r.code (store_with r.code state') position.instance w × RunsWhole bound (loop_at w cells callers position) new

  abbrev rests-so : (new : Whole) (cells : List ℕ) (callers : List WaitingFrame) (position : Position) → call'.cells.items ≡ cells → call'.callers
      ≡ callers → call'.position ≡ position → RestsAt new cells callers position → Rests bound there new
  rests-so new cells callers position cells_are callers_are position_is at =
      let (w, sees, its) = subst (λ (p : Position). RestsAt new call'.cells.items call'.callers p) (sym position_is)
      (subst (λ (fs : List WaitingFrame). RestsAt new call'.cells.items fs position) (sym callers_are)
      (subst (λ (z : List ℕ). RestsAt new z callers position) (sym cells_are) at)) in
      record { world = w; sees = sees; runs = its }

  -- ---- the call continues in its frame

  module _ (cells' : List ℕ) (place top operand left : ℕ)
      (goes : (w' : World) → Sees r.code (store_with r.code state') number w'
      → MachineReaches u.ghost (machine_of r) (fuel_left r) w' (record (machine_of r) { cells = cells'; place = place; top = top; operand = operand }) left) where
    abbrev position : Position
    position = record r.call.position { place = place; top = top; operand = operand; fuel = left }

    pub went : call'.cells.items ≡ cells' → call'.callers ≡ r.call.callers → call'.position ≡ position → CallReaches bound r u there left
    went cells_are callers_are position_is =
        let (w', sees) = seen-from r.code state' number (rests.world.instance, number-there) in
        let led = goes w' sees in
        let h = led.leads.new in
        let same = led.leads.same in
        let kept : h.code.outermost.kept ≡ u.ghost.code.outermost.kept = ap (λ (f : FrameCode). f.outermost.kept) same.code in
        let steps : Steps NoHosts bound no_frame (state (store_around r) (fuel_left r)) (whole u) (state (store_in w') left) (whole (with_ghost u h)) =
        subst (λ (n : ℕ). Steps NoHosts bound no_frame (state (store_around r) (fuel_left r)) (whole u) (state (store_in w') left)
        (plug (layers_around u.callers n) (frame_of h) (config_of h))) (sym kept)
        (subst (λ (s : Store). Steps NoHosts bound no_frame (state s (fuel_left r)) (whole u) (state (store_in w') left) (plug (layers_of u) (frame_of h) (config_of h))) store-is
        (steps-lifted u.ghost.store (store_in w') bound (layers_of u) (layers-out u.callers u.ghost.code.outermost.kept) (frame_of u.ghost)
        (frame_of h) (config_of u.ghost) (config_of h) (fuel_left r) left led.leads.steps)) in
        let before : ConfigurationHasType (store_around r) outside_place (whole u) u.results = subst
        (λ (s : Store). ConfigurationHasType s outside_place (whole u) u.results) rests.sees.store rests.runs.typed in
        let (valid, typed) = steps-typed bound u.results (subst StoreIsValid store-is runs.runs.typed.valid, before) steps in
        let code_is : rests.world.code ≡ w'.code = rests.sees.code ∙ sym sees.code in
        record {
          new = with_ghost u h;
          results = refl;
          steps = subst (λ (s : Store). Steps NoHosts bound no_frame (state (store_around r) (fuel_left r)) (whole u) (state s left) (whole (with_ghost u h))) sees.store steps;
          rests = rests-so (with_ghost u h) cells' r.call.callers position cells_are callers_are position_is (
            w',
            sees,
            record {
              runs = runs-then rests.world (machine_of r) u.ghost runs w' (sees.seen_from ∙ sym rests.sees.seen_from) (flat-same w' sees) sees.instance cells' place top operand (fuel_left r) left led;
              number = sym sees.seen_from;
              callers = subst (λ (c : Contents). CallersStand c (length cells') r.call.callers u.callers h.code.outermost.kept (take (machine_of r).base cells')) code_is
                  (subst (λ (n : ℕ). CallersStand rests.world.code n r.call.callers u.callers h.code.outermost.kept (take (machine_of r).base cells')) (sym led.size)
                  (subst (λ (n : ℕ). CallersStand rests.world.code (length r.call.cells.items) r.call.callers u.callers n (take (machine_of r).base cells')) (sym kept)
                  (subst (λ (z : List ℕ). CallersStand rests.world.code (length r.call.cells.items) r.call.callers u.callers u.ghost.code.outermost.kept z) (sym led.below) rests.runs.callers)));
              arity = kept ∙ rests.runs.arity ∙ ap (λ (ts : List ValType). length ts) (sym same.results);
              deep = rests.runs.deep;
              typed = typed;
            },
          );
        }

  -- ---- the call stays where it is

  module _ (same : store_with r.code state' ≡ store_around r) (cells_are : call'.cells.items ≡ r.call.cells.items)
      (callers_are : call'.callers ≡ r.call.callers) (left : ℕ) (position_is : call'.position ≡ record r.call.position { fuel = left }) where
    abbrev its_loop : Loop
    its_loop = loop_of rests.world r

    abbrev stayed : (fuel : ℕ) → LoopReaches bound its_loop u (record its_loop { fuel = fuel }) → CallReaches bound r u there fuel
    stayed fuel t =
        let sees : Sees r.code (store_with r.code state') number rests.world =
        record { store = rests.sees.store ∙ sym same; code = rests.sees.code; seen_from = rests.sees.seen_from; instance = rests.sees.instance } in
        let its = t.runs in
        record {
          new = t.new;
          results = t.results;
          steps = subst (λ (s : Store). Steps NoHosts bound no_frame (state (store_around r) (fuel_left r)) (whole u) (state s fuel) (whole t.new)) sees.store
              (subst (λ (s : Store). Steps NoHosts bound no_frame (state s (fuel_left r)) (whole u) (state (store_in rests.world) fuel) (whole t.new)) rests.sees.store t.steps);
          rests = rests-so t.new r.call.cells.items r.call.callers (record r.call.position { fuel = left }) cells_are callers_are position_is (
            rests.world,
            sees,
            record { runs = its.runs; number = its.number; callers = its.callers; arity = its.arity; deep = its.deep; typed = its.typed },
          );
        }

    -- The next step costs more than is left.
    pub lacks-fuel : left ≡ fuel_left r
        → Lacks u.ghost (fuel_left r) (cells_in u.ghost (machine_of r)) (machine_of r).place (height_in (machine_of r)) (fuel_left r)
        → StopsAtRest bound r u stop.NoFuel there
    lacks-fuel left_is lacks =
        let (t, dear) = lacks-whole bound its_loop u rests.runs lacks in
        let dear' = subst (λ (s : Store). fuel_left r < price (next s no_frame (whole t.new))) (rests.sees.store ∙ sym same) dear in
        let now : fuel_left r ≡ fuel_left there + 0 = omega (arith, left_is, ap (λ (p : Position). p.fuel) position_is) in
        let both = subst (λ (n : ℕ). (c : CallReaches bound r u there n) × StopsBy bound stop.NoFuel c.rests.world (store_around there) n (machine_of there) c.new) now
        (stayed (fuel_left r) t, dear') in
        record { there = both.0; by = both.1 }

    -- The call traps.
    pub traps : (trap : Trap) → 1 ≤ fuel_left r → left ≡ fuel_left r - 1
        → Fails u.ghost (fuel_left r) (cells_in u.ghost (machine_of r)) (machine_of r).place (height_in (machine_of r)) left trap
        → StopsAtRest bound r u (stop.Traps trap) there
    traps trap enough left_is fails =
        let (t, wrong) = fails-whole bound its_loop u rests.runs left trap fails in
        let wrong' = subst (λ (s : Store). next s no_frame (whole t.new) ≡ Traps 1 trap) (rests.sees.store ∙ sym same) wrong in
        let now : left + 1 ≡ fuel_left there + 1 = ap (λ (p : Position). p.fuel + 1) (sym position_is) in
        let both = subst (λ (n : ℕ). (c : CallReaches bound r u there n)
        × StopsBy bound (stop.Traps trap) c.rests.world (store_around there) n (machine_of there) c.new) now (stayed (left + 1) t, (wrong', omega arith)) in
        record { there = both.0; by = both.1 }

    -- The call asks to grow.
    pub lacks-memory : left ≡ fuel_left r → (cost : ℕ) → cost ≤ fuel_left r
        → AsksToGrow u.ghost (fuel_left r) (cells_in u.ghost (machine_of r)) (machine_of r).place (height_in (machine_of r)) cost → LacksMemory bound r u there
    lacks-memory left_is cost enough asks =
        let t = lifted-there bound its_loop u rests.runs (fuel_left r) asks.leads in
        let h = asks.leads.new in
        let inside : next (store_around there) (frame_of h) (config_of h) ≡ Grows cost asks.grown asks.frame asks.behind =
        subst (λ (s : Store). next s (frame_of h) (config_of h) ≡ Grows cost asks.grown asks.frame asks.behind) (asks.leads.store ∙ store-is ∙ sym same) asks.grows in
        let grows : next (store_around there) no_frame (whole t.new) ≡ Grows cost asks.grown (outermost (layers_of t.new) asks.frame) (plug (layers_of t.new) asks.frame asks.behind) =
        subst (λ (f : Frame). next (store_around there) f (whole t.new)
        ≡ Grows cost asks.grown (outermost (layers_of t.new) asks.frame) (plug (layers_of t.new) asks.frame asks.behind))
        (layers-out u.callers h.code.outermost.kept (frame_of h))
        (plugged-grows (store_around there) (layers_of t.new) (frame_of h) asks.frame asks.grown cost (config_of h) asks.behind inside) in
        let now : fuel_left r ≡ fuel_left there = left_is_now left_is in
        let asked : AsksNext bound (store_around there) (fuel_left r) t.new = record {
          asks = subst AsksForMemory (sym grows) tt;
          within = subst (λ (n : Next). IsWithinBound bound (depth (whole t.new)) n) (sym grows) tt;
          enough = subst (λ (n : Next). price n ≤ fuel_left r) (sym grows) enough;
        } in
        let both = subst (λ (n : ℕ). (c : CallReaches bound r u there n) × AsksNext bound (store_around there) n c.new) now (stayed (fuel_left r) t, asked) in
        record { there = both.0; by = both.1 }
      where
        left_is_now : left ≡ fuel_left r → fuel_left r ≡ fuel_left there
        left_is_now e = sym e ∙ ap (λ (p : Position). p.fuel) (sym position_is)

-- ---- the result of an instruction

module _ (r : AtRest) (op : PlainOp) (taken : ℕ) (state' : StateContents) where
  abbrev Acted : Result Paid Fault → Type 0
  Acted result = HasResult r op taken (store_with r.code state') result

  pub enough : (result : Result Paid Fault) → RestsSomeBefore r op → Acted result → taken ≤ r.call.position.top
  enough result (bound, u, b) acts = omega (arith, (acts bound u b).low)

  module _ (some : RestsSomeBefore r op) where
    pub inside-cells : r.call.position.top < length r.call.cells.items
    inside-cells = let (bound, u, b) = some in inside b.rests.world (machine_of r) u.ghost b.rests.runs.runs

    pub next-fits : r.call.position.place + 1 < 2 ^ 32
    next-fits = let (bound, u, b) = some in place-fits b.rests.world (machine_of r) u.ghost b.rests.runs.runs

  -- ---- it was done

  module _ (paid : Paid) (acts : Acted (Ok paid)) (call' : Call) where
    module _ (bound : ℕ) (u : Whole) (b : RestsBefore bound r op u) where
      its-goes : (o : Outcome) → HasOutcome u.ghost (cells_in u.ghost (machine_of r)) (machine_of r).place (height_in (machine_of r))
          (height_in (machine_of r) - taken) o → (low : (machine_of r).base + u.ghost.code.locals + taken ≤ (machine_of r).top)
          → HasRoom (machine_of r) taken paid.result
          → IsDone o (store_with r.code state') (fuel_left r) paid → (w' : World) → Sees r.code (store_with r.code state') r.call.position.instance w'
          → MachineReaches u.ghost (machine_of r) (fuel_left r) w' (machine_behind b.rests.world (machine_of r) u.ghost b.rests.runs.runs taken low paid.result) paid.fuel
      its-goes (made cost store results) (makes, dear) low room (is, store_is) w' sees =
          goes-on b.rests.world (machine_of r) u.ghost b.rests.runs.runs taken low cost store results paid.result is.result room makes w'
          (sym store_is ∙ sym sees.store) (fuel_left r) paid.fuel is.enough is.left
      its-goes (grown cost store results) (makes, dear, asks) low room (is, store_is) w' sees =
          goes-on b.rests.world (machine_of r) u.ghost b.rests.runs.runs taken low cost store results paid.result is.result room makes w'
          (sym store_is ∙ sym sees.store) (fuel_left r) paid.fuel is.enough is.left
      its-goes (failed trap) has low room wrong w' sees = absurd wrong

      its-falls : (o : Outcome) → IsDone o (store_with r.code state') (fuel_left r) paid → paid.fuel < fuel_left r
      its-falls (made cost store results) (is, store_is) = omega (arith, is.some, is.enough, is.left)
      its-falls (grown cost store results) (is, store_is) = omega (arith, is.some, is.enough, is.left)
      its-falls (failed trap) wrong = absurd wrong

    pub did : RestsSomeBefore r op → call'.cells.items ≡ cells_behind r.call → call'.callers ≡ r.call.callers → call'.position
        ≡ position_behind r.call taken paid → ContinuesAfter r op (at_rest r.code state' call')
    did (bound, u, b) cells_are callers_are position_is =
        let fuel_is : call'.position.fuel ≡ paid.fuel = ap (λ (p : Position). p.fuel) position_is in record {
          comes = λ bound u b.
              let has = acts bound u b in
              subst (λ (n : ℕ). CallReaches bound r u (at_rest r.code state' call') n) (sym fuel_is)
              (went bound r u b.rests state' call' (cells_behind r.call) (r.call.position.place + 1)
              (top_behind r.call.position.top taken paid.result) (operand_behind (cells_behind r.call) r.call.position.top taken paid.result) paid.fuel
              (its-goes bound u b has.outcome has.has has.low has.room has.gives) cells_are callers_are position_is);
          falls = let less = its-falls bound u b (acts bound u b).outcome (acts bound u b).gives in omega (arith, less, fuel_is);
          size = ap (λ (z : List ℕ). length z) cells_are ∙ length-set r.call.cells.items r.call.position.top r.call.position.operand;
          callers = callers_are;
        }

  -- ---- it was refused

  module _ (bound : ℕ) (u : Whole) (b : RestsBefore bound r op u) where
    abbrev Has : Outcome → Type 0
    Has o = HasOutcome u.ghost (cells_in u.ghost (machine_of r)) (machine_of r).place (height_in (machine_of r)) (height_in (machine_of r) - taken) o

    its-lack : (o : Outcome) → Has o → fuel_left r < cost_of o → Lacks u.ghost (fuel_left r) (cells_in u.ghost (machine_of r)) (machine_of r).place (height_in (machine_of r)) (fuel_left r)
    its-lack (made cost store results) (makes, dear) less = dear (fuel_left r) less
    its-lack (grown cost store results) (makes, dear, asks) less = dear (fuel_left r) less
    its-lack (failed trap) (traps, dear) less = dear (fuel_left r) less

    pub refused-fuel : Acted (Err fault.NoFuel) → StopsAtRest bound r u stop.NoFuel (at_rest r.code state' r.call)
    refused-fuel acts =
        let has = acts bound u b in
        lacks-fuel bound r u b.rests state' r.call has.gives.1 refl refl (fuel_left r) refl refl (its-lack has.outcome has.has has.gives.0)

    its-growth : (same : store_with r.code state' ≡ store_around r) (o : Outcome) → Has o → HasFault o (fuel_left r) fault.NoMemory → LacksMemory bound r u (at_rest r.code state' r.call)
    its-growth same (made cost store results) has wrong = absurd wrong
    its-growth same (grown cost store results) (makes, dear, asks) paid = lacks-memory bound r u b.rests state' r.call same refl refl (fuel_left r) refl refl cost paid (asks (fuel_left r))
    its-growth same (failed trap) has wrong = absurd wrong

    pub refused-memory : Acted (Err fault.NoMemory) → LacksMemory bound r u (at_rest r.code state' r.call)
    refused-memory acts = let has = acts bound u b in its-growth has.gives.1 has.outcome has.has has.gives.0

    module _ (trap : Trap) where
      its-trap : (same : store_with r.code state' ≡ store_around r) (o : Outcome) → Has o → HasFault o (fuel_left r) (fault.Traps trap)
          → (call' : Call) → call'.cells.items ≡ r.call.cells.items → call'.callers ≡ r.call.callers → call'.position
          ≡ record r.call.position { fuel = fuel_left r - 1 }
          → StopsAtRest bound r u (stop.Traps trap) (at_rest r.code state' call')
      its-trap same (made cost store results) has wrong call' cells_are callers_are position_is = absurd wrong
      its-trap same (grown cost store results) has wrong call' cells_are callers_are position_is = absurd wrong
      its-trap same (failed other) (fails, dear) (is, paid) call' cells_are callers_are position_is =
          traps bound r u b.rests state' call' same cells_are callers_are (fuel_left r - 1) position_is trap paid refl
          (subst (λ (t : Trap). Fails u.ghost (fuel_left r) (cells_in u.ghost (machine_of r)) (machine_of r).place (height_in (machine_of r))
          (fuel_left r - 1) t) (sym is) (fails (fuel_left r) (fuel_left r - 1) paid refl))

      pub refused-trap : Acted (Err (fault.Traps trap)) → (call' : Call) → call'.cells.items ≡ r.call.cells.items → call'.callers ≡ r.call.callers
          → call'.position ≡ record r.call.position { fuel = fuel_left r - 1 } → StopsAtRest bound r u (stop.Traps trap) (at_rest r.code state' call')
      refused-trap acts = let has = acts bound u b in its-trap has.gives.1 has.outcome has.has has.gives.0

  -- There is fuel for a trap.
  pub some-fuel : (trap : Trap) → RestsSomeBefore r op → Acted (Err (fault.Traps trap)) → 1 ≤ fuel_left r
  some-fuel trap (bound, u, b) acts = let has = acts bound u b in by has.outcome has.gives.0
    where
      by : (o : Outcome) → HasFault o (fuel_left r) (fault.Traps trap) → 1 ≤ fuel_left r
      by (made cost store results) wrong = absurd wrong
      by (grown cost store results) wrong = absurd wrong
      by (failed other) (is, paid) = paid
