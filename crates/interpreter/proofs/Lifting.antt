-- A step of the innermost frame is a step of the whole.
use Rattle.std.proofs.Common.{◌≡◌, ℕ, ◌+◌, ◌-◌, ◌<◌, ◌≤◌, List, [], ◌∷◌, length, take, refl, ap, sym, subst, ◌∙◌, arith}
use Rattle.std.specs.Prelude.{Some}
use Rattle.core_types.specs.declared.outcome.Trap.{Trap}
use Rattle.core_types.specs.declared.types.ValType.{ValType}
use Rattle.meaning.specs.structure.Bodies.{Empty}
use Rattle.meaning.specs.execution.Configurations.{Activation, Configuration, Frame, InFrame, Label, no_frame}
use Rattle.meaning.specs.execution.Instructions.{Next, Goes, Grows, Opens, CallsHost, Traps, Branches, Returns, TailCalls, Over, NotReady, next, step_in_frame, step_in_label}
use Rattle.meaning.specs.execution.Layers.{AroundFrame, AroundLabel, Layer, outermost, plug}
use Rattle.meaning.specs.execution.Runs.{IsStep, NoHosts, State, Steps, calls, goes, grows, none, one_more, opens, price}
use Rattle.meaning.specs.execution.Store.{Store}
use Rattle.meaning.proofs.lemmas.Layers.{plugged-traps}
use Rattle.meaning.proofs.lemmas.Runs.{Steps-join}
use Rattle.soundness.specs.Configurations.{ConfigurationHasType, IsGood}
use Rattle.soundness.specs.Places.{outermost as outside_place}
use Rattle.soundness.specs.Stores.{StoreIsValid}
use Rattle.soundness.proofs.Steps.{stays-good}
use Rattle.sidetable.specs.FlatModules.{operations_of}
use Rattle.simulation.specs.Callees.{CostsAround}
use Rattle.simulation.specs.Calls.{activation_of, around}
use Rattle.simulation.specs.Runs.{Fails, Ghost, Lacks, FrameReaches, Runs, StepsIn, config_of, frame_of}
use Rattle.simulation.specs.Standing.{FrameCode}
use Rattle.simulation.proofs.Frames.{steps-lifted}
use Rattle.store.specs.State.{StateContents}
use Rattle.interpreter.specs.Callers.{Caller, CallersStand, layers_around}
use Rattle.interpreter.specs.Layout.{put_back}
use Rattle.interpreter.specs.Running.{MachineReaches, Machine, RunsAt, cells_in, height_in}
use Rattle.interpreter.specs.Whole.{Loop, Ran, LoopReaches, RunsWhole, StopsAt, StopsBy, StopsWhole, Whole, layers_of, left_to_do, paid_for, whole}
use Rattle.interpreter.specs.Worlds.{IsInstance, World, store_in}
use Rattle.interpreter.specs.declared.machine.Stop.{Stop}
use Rattle.interpreter.specs.declared.machine.Stop.TheVariants as stop

-- ---- layers around a frame

around-out : (labels : List Label) (layers : List Layer) (f : Frame) → outermost (around labels layers) f ≡ outermost layers f
around-out [] layers f = refl
around-out (label ∷ labels) layers f = around-out labels layers f

-- Outside of the waiting frames there is no frame.
pub layers-out : (cs : List Caller) (arity : ℕ) (f : Frame) → outermost (layers_around cs arity) f ≡ no_frame
layers-out [] arity f = refl
layers-out (c ∷ cs) arity f =
    around-out c.labels (layers_around cs c.code.outermost.kept) (record { instance = Some c.instance; locals = c.locals })
    ∙ layers-out cs c.code.outermost.kept (record { instance = Some c.instance; locals = c.locals })

module _ (store : Store) (n : ℕ) where
  dear-in-label : (frame : Frame) (label : Label) (x : Next) → n < price x → n < price (step_in_label store frame label x)
  dear-in-label frame label (Goes cost store' frame' c) lt = lt
  dear-in-label frame label (Grows cost store' frame' c) lt = lt
  dear-in-label frame label (Opens cost store' c) lt = lt
  dear-in-label frame label (CallsHost cost number lent arguments c) lt = lt
  dear-in-label frame label (Traps cost trap) lt = lt
  dear-in-label frame label (Branches to values) lt = absurd (omega (arith, lt))
  dear-in-label frame label (Returns values) lt = absurd (omega (arith, lt))
  dear-in-label frame label (TailCalls lent function values) lt = absurd (omega (arith, lt))
  dear-in-label frame label (Over values) lt = absurd (omega (arith, lt))
  dear-in-label frame label NotReady lt = absurd (omega (arith, lt))

  dear-in-frame : (outer own : Frame) (a : Activation) (x : Next) → n < price x → n < price (step_in_frame store outer a own x)
  dear-in-frame outer own a (Goes cost store' frame' c) lt = lt
  dear-in-frame outer own a (Grows cost store' frame' c) lt = lt
  dear-in-frame outer own a (Opens cost store' c) lt = lt
  dear-in-frame outer own a (CallsHost cost number lent arguments c) lt = lt
  dear-in-frame outer own a (Traps cost trap) lt = lt
  dear-in-frame outer own a (Branches to values) lt = absurd (omega (arith, lt))
  dear-in-frame outer own a (Returns values) lt = absurd (omega (arith, lt))
  dear-in-frame outer own a (TailCalls lent function values) lt = absurd (omega (arith, lt))
  dear-in-frame outer own a (Over values) lt = absurd (omega (arith, lt))
  dear-in-frame outer own a NotReady lt = absurd (omega (arith, lt))

  -- A step that costs more than that within layers does so in the whole.
  pub dear-plugged : (layers : List Layer) (frame : Frame) (c : Configuration) → n < price (next store frame c) → n < price (next store (outermost layers frame) (plug layers frame c))
  dear-plugged [] frame c lt = lt
  dear-plugged (AroundLabel label ∷ layers) frame c lt = dear-plugged layers frame _ (dear-in-label frame label (next store frame c) lt)
  dear-plugged (AroundFrame a outer ∷ layers) frame c lt = dear-plugged layers outer _ (dear-in-frame outer frame a (next store frame c) lt)

  -- The same for a step that costs more in any frame around it.
  dear-around : (cs : List Caller) (arity : ℕ) (frame : Frame) (c : Configuration) → ((outer : Frame) (a : Activation) → n < price (next store outer (InFrame a frame c)))
      → n < price (next store (outermost (layers_around cs arity) frame) (plug (layers_around cs arity) frame c))
  dear-around [] arity frame c lt = lt no_frame (activation_of arity [] Empty)
  dear-around (k ∷ cs) arity frame c lt =
      let outer : Frame = record { instance = Some k.instance; locals = k.locals } in
      dear-plugged (around k.labels (layers_around cs k.code.outermost.kept)) outer (InFrame (activation_of arity k.values k.rest) frame c) (lt outer (activation_of arity k.values k.rest))

-- ---- types

module _ (bound : ℕ) (results : List ValType) where
  abbrev IsTyped : Store → Configuration → Type 0
  IsTyped store c = StoreIsValid store × ConfigurationHasType store outside_place c results

  step-typed : {at at' : State ⊥} {c c' : Configuration} → IsTyped at.store c → IsStep NoHosts bound no_frame at c at' c' → IsTyped at'.store c'
  step-typed {at} {at'} {c} {c'} (valid, typed) s = by s
    where
      good : (n : Next) → next at.store no_frame c ≡ n → IsGood at.store outside_place results n
      good n is = subst (λ (q : Next). IsGood at.store outside_place results q) is (stays-good at.store outside_place no_frame c results valid (refl, tt) typed)

      by : IsStep NoHosts bound no_frame at c at' c' → IsTyped at'.store c'
      by (goes is enough fuel hosts) = let (follows, then_valid, own, then_typed) = good _ is in (then_valid, then_typed)
      by (grows is enough fuel hosts) = let (follows, then_valid, own, then_typed) = good _ is in (then_valid, then_typed)
      by (opens is enough fuel hosts within) = let (same, then_typed) = good _ is in (subst StoreIsValid (sym same) valid, then_typed)
      by (calls is enough fuel told then) = absurd told

  -- Steps of a typed configuration lead to a typed one.
  pub steps-typed : {at at' : State ⊥} {c c' : Configuration} → IsTyped at.store c → Steps NoHosts bound no_frame at c at' c' → IsTyped at'.store c'
  steps-typed is none = is
  steps-typed is (one_more before last) = step-typed (steps-typed is before) last

-- ---- steps in the frame

-- What the frame leads to runs there.
pub runs-then : (w : World) (m : Machine) (g : Ghost) → RunsAt w m g → (w' : World) → w'.number ≡ w.number → w'.flat ≡ w.flat → IsInstance w' → (cells' : List ℕ) (place top operand fuel left : ℕ)
    → (led : MachineReaches g m fuel w' (record m { cells = cells'; place = place; top = top; operand = operand }) left)
    → RunsAt w' (record m { cells = cells'; place = place; top = top; operand = operand }) led.leads.new
runs-then w m g r w' number flat instance cells' place top operand fuel left led =
    let l = led.leads in
    let locals : l.new.code.locals ≡ g.code.locals = ap (λ (c : FrameCode). c.locals) l.same.code in
    let size = led.size in
    record {
      runs = subst (λ (n : ℕ). Runs l.new (put_back n m.base cells' top operand) place (top - m.base)) (sym locals) l.runs;
      low = let low = led.low in omega (arith, low, locals);
      scrap = omega (arith, size, r.scrap, locals);
      operations = ap (λ (c : FrameCode). c.operations) l.same.code ∙ r.operations ∙ ap operations_of (sym flat);
      store = l.store;
      number = l.same.instance ∙ r.number ∙ sym number;
      instance = instance;
    }

-- The loop after an operation in its frame.
abbrev pub turned : Loop → StateContents → (bytes cells : List ℕ) → (place top operand fuel : ℕ) → Loop
turned l state bytes cells place top operand fuel =
    record l {
      world = record l.world { state = state; bytes = bytes };
      machine = record l.machine { cells = cells; place = place; top = top; operand = operand };
      fuel = fuel;
    }

-- The whole with another innermost frame.
abbrev pub with_ghost : Whole → Ghost → Whole
with_ghost w g = record w { ghost = g }

-- The same with the store that the loop has.
abbrev leads-there : (g : Ghost) (s : Store) (fuel : ℕ) (cells : List ℕ) (at top left : ℕ) → g.store ≡ s → FrameReaches g fuel g.store cells at top left → FrameReaches g fuel s cells at top left
leads-there g s fuel cells at top left is l = record {
  new = l.new;
  same = l.same;
  store = l.store ∙ is;
  steps = subst (λ (z : Store). StepsIn g.store (frame_of g) (config_of g) fuel z (frame_of l.new) (config_of l.new) left) is l.steps;
  runs = l.runs;
}

module _ (bound : ℕ) (l : Loop) (w : Whole) (r : RunsWhole bound l w) where
  abbrev pub lifted : (state' : StateContents) (bytes' cells' : List ℕ) (place' top' operand' left' : ℕ)
      → MachineReaches w.ghost l.machine l.fuel (turned l state' bytes' cells' place' top' operand' left').world (turned l state' bytes' cells' place' top' operand' left').machine left'
      → LoopReaches bound l w (turned l state' bytes' cells' place' top' operand' left')
  lifted state' bytes' cells' place' top' operand' left' led =
      let l' = turned l state' bytes' cells' place' top' operand' left' in
      let h = led.leads.new in
      let same = led.leads.same in
      let kept : h.code.outermost.kept ≡ w.ghost.code.outermost.kept = ap (λ (f : FrameCode). f.outermost.kept) same.code in
      let steps : Steps NoHosts bound no_frame (record { store = store_in l.world; hosts = []; fuel = l.fuel }) (whole w)
      (record { store = store_in l'.world; hosts = []; fuel = left' }) (whole (with_ghost w h)) =
      subst (λ (n : ℕ). Steps NoHosts bound no_frame (record { store = store_in l.world; hosts = []; fuel = l.fuel }) (whole w)
      (record { store = store_in l'.world; hosts = []; fuel = left' }) (plug (layers_around w.callers n) (frame_of h) (config_of h))) (sym kept)
      (subst (λ (s : Store). Steps NoHosts bound no_frame (record { store = s; hosts = []; fuel = l.fuel }) (whole w)
      (record { store = store_in l'.world; hosts = []; fuel = left' }) (plug (layers_of w) (frame_of h) (config_of h))) r.runs.store
      (steps-lifted w.ghost.store (store_in l'.world) bound (layers_of w) (layers-out w.callers w.ghost.code.outermost.kept) (frame_of w.ghost)
      (frame_of h) (config_of w.ghost) (config_of h) l.fuel left' led.leads.steps)) in
      let (valid, typed) = steps-typed bound w.results (subst StoreIsValid r.runs.store r.runs.runs.typed.valid, r.typed) steps in
      record {
        new = with_ghost w h;
        results = refl;
        steps = steps;
        runs = record {
          runs = runs-then l.world l.machine w.ghost r.runs l'.world refl refl
              (record { loaded = r.runs.instance.loaded; flat = r.runs.instance.flat; memory = r.runs.instance.memory }) cells' place' top' operand'
              l.fuel left' led;
          number = r.number;
          callers = subst (λ (n : ℕ). CallersStand l.world.code n l.callers w.callers h.code.outermost.kept (take l.machine.base cells')) (sym led.size)
              (subst (λ (n : ℕ). CallersStand l.world.code (length l.machine.cells) l.callers w.callers n (take l.machine.base cells')) (sym kept)
              (subst (λ (z : List ℕ). CallersStand l.world.code (length l.machine.cells) l.callers w.callers w.ghost.code.outermost.kept z) (sym led.below) r.callers));
          arity = kept ∙ r.arity ∙ ap (λ (ts : List ValType). length ts) (sym same.results);
          deep = r.deep;
          typed = typed;
        };
      }

  -- The frame continues to where the loop is.
  abbrev pub lifted-there : (left : ℕ) → FrameReaches w.ghost l.fuel w.ghost.store (cells_in w.ghost l.machine) l.machine.place (height_in l.machine) left
      → LoopReaches bound l w (record l { fuel = left })
  lifted-there left leads =
      lifted l.world.state l.world.bytes l.machine.cells l.machine.place l.machine.top l.machine.operand left
      (record {
        leads = leads-there w.ghost (store_in l.world) l.fuel (cells_in w.ghost l.machine) l.machine.place (height_in l.machine) left
            r.runs.store leads;
        low = r.runs.low;
        size = refl;
        below = refl;
      })

  -- If the next step in the frame costs more than is left, so does the next step of the whole.
  pub lacks-whole : Lacks w.ghost l.fuel (cells_in w.ghost l.machine) l.machine.place (height_in l.machine) l.fuel → (there : LoopReaches bound l w l)
      × (l.fuel < price (next (store_in l.world) no_frame (whole there.new)))
  lacks-whole lacks =
      let there = lifted-there l.fuel lacks.leads in
      let h = lacks.leads.new in
      let layers = layers_of there.new in (
        there,
        subst (λ (f : Frame). l.fuel < price (next (store_in l.world) f (whole there.new))) (layers-out w.callers h.code.outermost.kept (frame_of h))
            (dear-plugged (store_in l.world) l.fuel layers (frame_of h) (config_of h)
            (subst (λ (s : Store). l.fuel < price (next s (frame_of h) (config_of h))) (lacks.leads.store ∙ r.runs.store) lacks.dear)),
      )

  -- The same for a step that costs one unit of fuel in any frame around it.
  pub lacks-around : CostsAround w.ghost (cells_in w.ghost l.machine) l.machine.place (height_in l.machine) → l.fuel ≡ 0
      → (there : LoopReaches bound l w l) × (l.fuel < price (next (store_in l.world) no_frame (whole there.new)))
  lacks-around costs empty =
      let there = lifted-there l.fuel (record { new = costs.new; same = costs.same; store = costs.store; steps = costs.steps l.fuel; runs = costs.runs }) in
      let h = costs.new in (
        there,
        subst (λ (f : Frame). l.fuel < price (next (store_in l.world) f (whole there.new))) (layers-out w.callers h.code.outermost.kept (frame_of h))
            (dear-around (store_in l.world) l.fuel w.callers h.code.outermost.kept (frame_of h) (config_of h)
            (λ outer a. subst (λ (s : Store). l.fuel < price (next s outer (InFrame a (frame_of h) (config_of h)))) (costs.store ∙ r.runs.store) (omega (arith, costs.price_is outer a, empty)))),
      )

  -- The same for a trap.
  pub fails-whole : (left : ℕ) (trap : Trap) → Fails w.ghost l.fuel (cells_in w.ghost l.machine) l.machine.place (height_in l.machine) left trap
      → (there : LoopReaches bound l w (record l { fuel = left + 1 })) × (next (store_in l.world) no_frame (whole there.new) ≡ Traps 1 trap)
  fails-whole left trap fails =
      let there = lifted-there (left + 1) fails.leads in
      let h = fails.leads.new in (
        there,
        subst (λ (f : Frame). next (store_in l.world) f (whole there.new) ≡ Traps 1 trap) (layers-out w.callers h.code.outermost.kept (frame_of h))
            (plugged-traps (store_in l.world) (layers_of there.new) (frame_of h) 1 trap (config_of h)
            (subst (λ (s : Store). next s (frame_of h) (config_of h) ≡ Traps 1 trap) (fails.leads.store ∙ r.runs.store) fails.traps)),
      )

-- ---- runs of the whole

module _ (bound : ℕ) where
  abbrev pub reaches-then : (l l' l'' : Loop) (w : Whole) (first : LoopReaches bound l w l') → LoopReaches bound l' first.new l'' → LoopReaches bound l w l''
  reaches-then l l' l'' w first second = record {
    new = second.new;
    results = second.results ∙ first.results;
    steps = Steps-join NoHosts bound no_frame first.steps second.steps;
    runs = second.runs;
  }

  -- A run has arrived where it starts.
  abbrev pub reaches-first : (l : Loop) (w : Whole) → RunsWhole bound l w → LoopReaches bound l w l
  reaches-first l w r = record { new = w; results = refl; steps = none; runs = r }

  pub ran-first : (l : Loop) → Ran bound l l
  ran-first l = record { from = reaches-first l; falls = omega arith }

  pub ran-then : (l l' l'' : Loop) → Ran bound l l' → Ran bound l' l'' → Ran bound l l''
  ran-then l l' l'' first second = record { from = λ w r. let f = first.from w r in reaches-then l l' l'' w f (second.from f.new f.runs); falls = omega (arith, first.falls, second.falls) }

  -- The loop stops where nothing was paid for the next step.
  pub stops-unpaid : (s : Stop) → paid_for s ≡ 0 → (l l' : Loop) (w : Whole) (there : LoopReaches bound l w l')
      → StopsBy bound s l'.world (store_in l'.world) l'.fuel l'.machine there.new → StopsWhole bound l w s l'
  stops-unpaid s none_paid l l' w there by =
      let same : l'.fuel ≡ l'.fuel + paid_for s = omega (arith, none_paid) in
      let both = subst (λ (n : ℕ). (t : LoopReaches bound l w (record l' { fuel = n })) × StopsBy bound s l'.world (store_in l'.world) n l'.machine t.new) same (there, by) in
      record { there = both.0; by = both.1 }

  -- An operation continues in the frame, whatever runs there.
  pub ran-turned : (l : Loop) (state' : StateContents) (bytes' cells' : List ℕ) (place' top' operand' left' : ℕ)
      → ((g : Ghost) → RunsAt l.world l.machine g
      → MachineReaches g l.machine l.fuel (turned l state' bytes' cells' place' top' operand' left').world
      (turned l state' bytes' cells' place' top' operand' left').machine left')
      → left_to_do (turned l state' bytes' cells' place' top' operand' left') ≤ left_to_do l → Ran bound l (turned l state' bytes' cells' place' top' operand' left')
  ran-turned l state' bytes' cells' place' top' operand' left' step falls =
      record { from = λ w r. lifted bound l w r state' bytes' cells' place' top' operand' left' (step w.ghost r.runs); falls = falls }

  -- The loop lacks fuel, or traps.
  pub stops-lacking : (l : Loop) → ((g : Ghost) → RunsAt l.world l.machine g → Lacks g l.fuel (cells_in g l.machine) l.machine.place (height_in l.machine) l.fuel) → StopsAt bound l stop.NoFuel l
  stops-lacking l lacks = record { from = λ w r. let (there, dear) = lacks-whole bound l w r (lacks w.ghost r.runs) in stops-unpaid stop.NoFuel refl l l w there dear; falls = omega arith }

  pub stops-empty : (l : Loop) → ((g : Ghost) → RunsAt l.world l.machine g → CostsAround g (cells_in g l.machine) l.machine.place (height_in l.machine)) → l.fuel ≡ 0 → StopsAt bound l stop.NoFuel l
  stops-empty l costs empty = record { from = λ w r. let (there, dear) = lacks-around bound l w r (costs w.ghost r.runs) empty in stops-unpaid stop.NoFuel refl l l w there dear; falls = omega arith }

  pub stops-failing : (l : Loop) (left : ℕ) (trap : Trap) → ((g : Ghost) → RunsAt l.world l.machine g → Fails g l.fuel (cells_in g l.machine) l.machine.place (height_in l.machine) left trap)
      → StopsAt bound l (stop.Traps trap) (record l { fuel = left })
  stops-failing l left trap fails =
      record {
        from = λ w r. let (there, traps) = fails-whole bound l w r left trap (fails w.ghost r.runs) in
            record { there = there; by = (traps, omega arith) };
        falls = tt;
      }
