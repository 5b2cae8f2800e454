-- A frame that is left: the waiting one continues, or the run is over.
use Rattle.std.proofs.Common.{◌≡◌, ℕ, suc, ◌+◌, ◌-◌, ◌<◌, ◌≤◌, List, [], ◌∷◌, ◌++◌, length, map, take, drop, set, Some, refl, ap, sym, subst, ◌∙◌, arith, length-append}
use Rattle.std.proofs.lemmas.List.{append-nil, length-set, length-take-le}
use Rattle.core_types.specs.declared.outcome.Val.{Val}
use Rattle.core_types.specs.declared.types.ValType.{ValType}
use Rattle.meaning.specs.structure.Bodies.{Body, Empty}
use Rattle.meaning.specs.execution.Configurations.{Configuration, Frame as Activated, InFrame, Label, Running, no_frame}
use Rattle.meaning.specs.execution.Instructions.{Goes, next}
use Rattle.meaning.specs.execution.Layers.{Layer, outermost, plug}
use Rattle.meaning.specs.execution.Runs.{NoHosts, Steps, goes, none, one_more}
use Rattle.meaning.specs.execution.Store.{Store}
use Rattle.meaning.specs.soundness.Values.{ValuesHaveTypes}
use Rattle.soundness.specs.Configurations.{ConfigurationHasType, FrameHasPlace}
use Rattle.soundness.specs.Places.{context_at, inside_frame, outermost as outside_place}
use Rattle.soundness.specs.Stores.{StoreIsValid}
use Rattle.soundness.proofs.Insides.{inside-typed}
use Rattle.soundness.proofs.Steps.{stays-good}
use Rattle.simulation.specs.Calls.{activation_of, around, opened_in}
use Rattle.simulation.specs.Piles.{cells_of}
use Rattle.simulation.specs.Runs.{Ghost, config_of, frame_of}
use Rattle.simulation.specs.Settling.{in_frame}
use Rattle.simulation.specs.Standing.{StandsIn, values_under}
use Rattle.simulation.proofs.Steps.{within}
use Rattle.cells.specs.Cells.{cell_of}
use Rattle.sidetable.specs.FlatModules.{operations_of}
use Rattle.store.specs.Contents.{Contents, IsLoaded}
use Rattle.interpreter.specs.Callers.{Caller, CallerStands, CallersStand, layers_around}
use Rattle.interpreter.specs.Calling.{position_resumed}
use Rattle.interpreter.specs.Layout.{AreMoved, put_back}
use Rattle.interpreter.specs.Looping.{loop_at, machine_at}
use Rattle.interpreter.specs.Running.{Machine, RunsAt}
use Rattle.interpreter.specs.Whole.{IsOver, IsSeenFrom, Loop, LoopReaches, RunsWhole, SwitchesTo, Whole, whole}
use Rattle.interpreter.specs.Worlds.{IsInstance, World, store_in}
use Rattle.interpreter.proofs.Worlds.{flat-seen}
use Rattle.interpreter.specs.declared.machine.Frame.{Frame}
use Rattle.interpreter.specs.declared.machine.Position.{Position}
use Rattle.interpreter.proofs.Cells.{frame-length}
use Rattle.interpreter.proofs.Forms.{inside}
use Rattle.interpreter.proofs.Lifting.{layers-out, steps-typed}
use Rattle.interpreter.proofs.ResultCells.{base-is, held_values, results-land, results-lie, results-low, same-size, under-kept}
use Rattle.interpreter.proofs.Switching.{switched}

-- One step leaves the frame for this cost, with the topmost values.
pub record IsLeft (cost : ℕ) (h : Ghost) : Type 0 where
  pub enough : h.code.outermost.kept ≤ length h.values
  pub leaves : (layers : List Layer) (outer : Activated) (beneath : List Val) (behind : Body) (waiting : List Label)
      → next h.store (outermost layers outer) (plug (opened_in h.code.outermost.kept beneath behind outer waiting layers) (frame_of h) (config_of h))
      ≡ Goes cost h.store (outermost layers outer) (plug layers outer (in_frame (take h.code.outermost.kept h.values ++ beneath) waiting behind))

-- What runs in the innermost frame of a typed whole is typed there.
pub frame-typed : (store : Store) (cs : List Caller) (arity : ℕ) (frame : Activated) (x : Configuration) (results : List ValType)
    → ConfigurationHasType store outside_place (plug (layers_around cs arity) frame x) results
    → (given types : List ValType) × (arity ≡ length given) × ValuesHaveTypes store frame.locals types × ConfigurationHasType store (inside_frame frame.instance types given) x given
frame-typed store [] arity frame x results (stack, given, types, arity_is, values, own, inside_typed, onward) = (given, types, arity_is, own, inside_typed)
frame-typed store (c ∷ cs) arity frame x results typed =
    let outer : Activated = record { instance = Some c.instance; locals = c.locals } in
    let around_c : List Layer = around c.labels (layers_around cs c.code.outermost.kept) in
    let own : FrameHasPlace store (outermost around_c outer) outside_place = subst (λ (f : Activated). FrameHasPlace store f outside_place) (sym (layers-out (c ∷ cs) arity frame)) (refl, tt) in
    let (place, all, there, (stack, given, types, arity_is, values, own_locals, inside_typed, onward)) = inside-typed store around_c outer
    (InFrame (activation_of arity c.values c.rest) frame x) outside_place results own typed in
    (given, types, arity_is, own_locals, inside_typed)

-- What runs where a waiting frame continues, with these results.
abbrev pub ghost_resumed : Caller → Store → (types given : List ValType) → List Val → Ghost
ghost_resumed c store types given values = record {
  code = c.code;
  store = store;
  instance = c.instance;
  types = types;
  results = given;
  locals = c.locals;
  values = values ++ c.values;
  labels = c.labels;
  rest = c.rest;
}

module _ (code : Contents) (size : ℕ) (frame : Frame) (c : Caller) (arity : ℕ) (below : List ℕ) (stands : CallerStands code size frame c arity below)
    (store : Store) (valid : StoreIsValid store) (types given : List ValType) (own : ValuesHaveTypes store c.locals types)
    (its_types : (context_at store (inside_frame (Some c.instance) types given)).types ≡ c.code.signatures.types)
    (its_functions : (context_at store (inside_frame (Some c.instance) types given)).functions ≡ c.code.signatures.functions)
    (values : List Val) (many : length values ≡ arity) (typed : ConfigurationHasType store (inside_frame (Some c.instance) types given) (in_frame (values ++ c.values) c.labels c.rest) given) where
  abbrev locals : ℕ
  locals = c.code.locals

  stands-on : StandsIn c.code frame.place (values ++ c.values) c.labels c.rest
  stands-on = subst (λ (p : ℕ). StandsIn c.code p (values ++ c.values) c.labels c.rest) (sym stands.place) (stands.stands values many)

  -- Its operands are within the room of its frame.
  pub caller-room : frame.base + locals + held_values c + length values < size
  caller-room =
      let high = within c.code stands-on.entries _ _ _ _ _ stands-on.here in
      omega (arith, high, length-append values c.values, stands.room)

  pub caller-runs : (cells' : List ℕ) (top operand : ℕ) → length cells' ≡ size → top ≡ frame.base + locals + held_values c + length values
      → take (locals + held_values c + length values) (put_back locals frame.base cells' top operand) ≡ map cell_of c.locals ++ cells_of ((values ++ c.values) ++ values_under c.labels)
      → (other : World) → store_in other ≡ store → other.code ≡ code → other.number ≡ frame.instance → IsInstance other
      → RunsAt other (record { base = frame.base; cells = cells'; place = frame.place; top = top; operand = operand }) (ghost_resumed c store types given values)
  caller-runs cells' top operand same_size top_is held other store_is code_is number instance =
      let joined = length-append values c.values in
      let room = caller-room in
      let scrap : frame.base + locals < length cells' = omega (arith, room, same_size) in
      let written = length-set cells' top operand in
      let whole_size = frame-length locals frame.base (set cells' top operand) (omega (arith, written, scrap)) in
      let height_is : locals + held_values c + length values ≡ top - frame.base = omega (arith, top_is) in record {
        runs = record {
          stands = stands-on;
          holds = record {
            held = subst (λ (q : ℕ). take q (put_back locals frame.base cells' top operand) ≡ map cell_of c.locals ++ cells_of ((values ++ c.values) ++ values_under c.labels)) height_is held;
            top_is = omega (arith, top_is, stands.count, joined);
            count = stands.count;
            room = omega (arith, stands.room, whole_size, written, same_size);
          };
          typed = record { valid = valid; own = own; typed = typed; types = its_types; functions = its_functions };
        };
        low = omega (arith, top_is);
        scrap = scrap;
        operations = stands.operations ∙ ap operations_of (sym (flat-seen code c.instance stands.instance stands.loaded other code_is (number ∙ stands.number) instance));
        store = sym store_is;
        number = sym stands.number ∙ sym number;
        instance = instance;
      }

module _ (bound : ℕ) (w : World) (cells : List ℕ) (at : Position) (fuel cost : ℕ) (paid : cost ≤ fuel) (left_is : at.fuel ≡ fuel - cost) (h : Ghost)
    (left : IsLeft cost h) (n : ℕ) (n_is : n ≡ h.code.outermost.kept) (all_results : List ValType) where
  abbrev m : Machine
  m = machine_at cells at

  abbrev before : List Frame → Loop
  before callers = loop_at w cells callers (record at { fuel = fuel })

  abbrev whole_of : List Caller → Whole
  whole_of cs = record { ghost = h; callers = cs; results = all_results }

  many : n ≤ length h.values
  many = omega (arith, left.enough, n_is)

  -- ---- a frame waits

  module _ (frame : Frame) (others : List Frame) (c : Caller) (cs : List Caller) (r : RunsWhole bound (before (frame ∷ others)) (whole_of (c ∷ cs))) where
    abbrev outer : Activated
    outer = record { instance = Some c.instance; locals = c.locals }

    abbrev then_runs : Configuration
    then_runs = in_frame (take n h.values ++ c.values) c.labels c.rest

    goes-back : next (store_in w) no_frame (whole (whole_of (c ∷ cs))) ≡ Goes cost (store_in w) no_frame (plug (layers_around cs c.code.outermost.kept) outer then_runs)
    goes-back =
        subst (λ (z : Store). next z no_frame (whole (whole_of (c ∷ cs))) ≡ Goes cost z no_frame (plug (layers_around cs c.code.outermost.kept) outer then_runs)) r.runs.store
        (subst (λ (k : ℕ). next h.store no_frame (whole (whole_of (c ∷ cs)))
        ≡ Goes cost h.store no_frame (plug (layers_around cs c.code.outermost.kept) outer
        (in_frame (take k h.values ++ c.values) c.labels c.rest))) (sym n_is)
        (subst (λ (f : Activated). next h.store f (whole (whole_of (c ∷ cs)))
        ≡ Goes cost h.store f (plug (layers_around cs c.code.outermost.kept) outer
        (in_frame (take h.code.outermost.kept h.values ++ c.values) c.labels c.rest))) (layers-out cs c.code.outermost.kept outer)
        (left.leaves (layers_around cs c.code.outermost.kept) outer c.values c.rest c.labels)))

    steps : Steps NoHosts bound no_frame (record { store = store_in w; hosts = []; fuel = fuel }) (whole (whole_of (c ∷ cs)))
        (record { store = store_in w; hosts = []; fuel = at.fuel }) (plug (layers_around cs c.code.outermost.kept) outer then_runs)
    steps = one_more none (goes goes-back paid left_is refl)

    pub back-fits : (1 ≤ at.base) × (at.base - 1 + n ≤ at.top)
    back-fits =
        let base = base-is w m h r.runs n many w.code frame c h.code.outermost.kept r.callers.0 in
        let low = results-low w m h r.runs n many in
        (omega (arith, base), omega (arith, low))

    module _ (cells' : List ℕ) (operand' : ℕ) (moved : AreMoved (set cells at.top at.operand) at.top (at.base - 1) n cells' operand') where
      abbrev stands : CallerStands w.code (length cells) frame c h.code.outermost.kept (take at.base cells)
      stands = r.callers.0

      size : length cells' ≡ length cells
      size = same-size w m h r.runs n many w.code frame c h.code.outermost.kept stands cells' operand' moved

      base : at.base ≡ suc (frame.base + c.code.locals) + held_values c
      base = base-is w m h r.runs n many w.code frame c h.code.outermost.kept stands

      abbrev top' : ℕ
      top' = at.base - 1 + n

      resumed-in : (other : World) → IsSeenFrom frame.instance w other
          → LoopReaches bound (before (frame ∷ others)) (whole_of (c ∷ cs))
          (record (loop_at w cells' others (position_resumed at frame n operand')) { world = other })
      resumed-in other seen =
          let (valid, all_typed) = steps-typed bound all_results (subst StoreIsValid r.runs.store r.runs.runs.typed.valid, r.typed) steps in
          let (given, types, arity_is, own, typed) = frame-typed (store_in w) cs c.code.outermost.kept outer then_runs all_results all_typed in
          let taken : length (take n h.values) ≡ n = length-take-le n h.values many in
          let top_is : top' ≡ frame.base + c.code.locals + held_values c + length (take n h.values) = omega (arith, base, taken) in
          let held : take (c.code.locals + held_values c + length (take n h.values)) (put_back c.code.locals frame.base cells' top' operand')
          ≡ map cell_of c.locals ++ cells_of ((take n h.values ++ c.values) ++ values_under c.labels) =
          subst (λ (k : ℕ). take (c.code.locals + held_values c + k) (put_back c.code.locals frame.base cells' top' operand')
          ≡ map cell_of c.locals ++ cells_of ((take n h.values ++ c.values) ++ values_under c.labels)) (sym taken)
          (subst (λ (q : ℕ). take (c.code.locals + held_values c + n) (put_back c.code.locals frame.base cells' q operand')
          ≡ map cell_of c.locals ++ cells_of ((take n h.values ++ c.values) ++ values_under c.labels)) (omega (arith, base))
          (results-land w m h r.runs n many w.code frame c h.code.outermost.kept stands cells' operand' moved)) in
          switched bound (before (frame ∷ others)) (loop_at w cells' others (position_resumed at frame n operand')) (whole_of (c ∷ cs))
          (record { ghost = ghost_resumed c (store_in w) types given (take n h.values); callers = cs; results = all_results }) other seen r refl steps
          (caller-runs w.code (length cells) frame c h.code.outermost.kept (take at.base cells) stands (store_in w) valid types given own
          stands.signatures.types stands.signatures.functions (take n h.values) (taken ∙ n_is) typed cells' top' operand' size top_is held other
          seen.store seen.code seen.seen_from seen.instance)
          (subst (λ (z : List ℕ). CallersStand w.code (length cells') others cs c.code.outermost.kept z)
          (sym (under-kept w m h r.runs n many w.code frame c h.code.outermost.kept stands cells' operand' moved))
          (subst (λ (q : ℕ). CallersStand w.code q others cs c.code.outermost.kept (take frame.base (take at.base cells))) (sym size) r.callers.1))
          arity_is (let deep = r.deep in omega (arith, deep))

      pub resumed : SwitchesTo bound (before (frame ∷ others)) (whole_of (c ∷ cs)) (loop_at w cells' others (position_resumed at frame n operand'))
      resumed = ((stands.instance, subst (λ (q : ℕ). IsLoaded w.code q stands.instance) (sym stands.number) stands.loaded), resumed-in)

  -- ---- no frame waits

  module _ (r : RunsWhole bound (before []) (whole_of [])) where
    goes-out : next (store_in w) no_frame (whole (whole_of [])) ≡ Goes cost (store_in w) no_frame (Running (take n h.values) Empty)
    goes-out =
        subst (λ (z : Store). next z no_frame (whole (whole_of [])) ≡ Goes cost z no_frame (Running (take n h.values) Empty)) r.runs.store
        (subst (λ (k : ℕ). next h.store no_frame (whole (whole_of [])) ≡ Goes cost h.store no_frame (Running (take k h.values) Empty)) (sym n_is)
        (left.leaves [] no_frame [] Empty [] ∙ ap (λ (vs : List Val). Goes cost h.store no_frame (Running vs Empty)) (append-nil (take h.code.outermost.kept h.values))))

    out : Steps NoHosts bound no_frame (record { store = store_in w; hosts = []; fuel = fuel }) (whole (whole_of []))
        (record { store = store_in w; hosts = []; fuel = at.fuel }) (Running (take n h.values) Empty)
    out = one_more none (goes goes-out paid left_is refl)

    pub ended : IsOver bound (before []) (whole_of []) (loop_at w cells [] at)
    ended =
        let (valid, typed) = steps-typed bound all_results (subst StoreIsValid r.runs.store r.runs.runs.typed.valid, r.typed) out in
        let given = stays-good (store_in w) outside_place no_frame (Running (take n h.values) Empty) all_results valid (refl, tt) typed in
        let taken = length-take-le n h.values many in record {
          values = take n h.values;
          steps = out;
          results = record {
            valid = valid;
            typed = given;
            room = inside w m h r.runs;
            low = let low = results-low w m h r.runs n many in omega (arith, low, taken);
            lie = subst (λ (k : ℕ). take k (drop (at.top + 1 - k) (set cells at.top at.operand)) ≡ cells_of (take n h.values)) (sym taken) (results-lie w m h r.runs n many);
          };
        }
