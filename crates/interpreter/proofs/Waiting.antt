-- A call of a function of a module: its frame is opened, and the caller waits.
use Rattle.std.proofs.Common.{◌≡◌, ℕ, suc, ◌+◌, ◌-◌, ◌<◌, ◌≤◌, List, ◌∷◌, ◌++◌, length, take, drop, set, replicate, Some, slice_get, refl, ap, sym, subst, ◌∙◌, arith}
use Rattle.std.proofs.lemmas.List.{length-drop, length-set, length-take-le}
use Rattle.core_types.specs.declared.op.PlainOp.{PlainOp}
use Rattle.meaning.specs.structure.Bodies.{Body, Then}
use Rattle.meaning.specs.execution.Configurations.{Frame as Activated, depth, no_frame}
use Rattle.meaning.specs.execution.Instructions.{Opens, call_function, lent_memory, next, step_instruction}
use Rattle.meaning.specs.execution.Layers.{plug}
use Rattle.meaning.specs.execution.Modules.{code_of}
use Rattle.meaning.specs.execution.Runs.{none, one_more, opens}
use Rattle.meaning.specs.execution.Store.{Store, instance_of}
use Rattle.soundness.specs.Places.{context_at, instance_context}
use Rattle.sidetable.specs.Counts.{Signatures, counts, counts_of}
use Rattle.sidetable.specs.FlatModules.{operations_of}
use Rattle.simulation.specs.Entries.{callee}
use Rattle.simulation.specs.Runs.{Ghost, frame_of, place_of}
use Rattle.simulation.specs.Settling.{in_frame}
use Rattle.simulation.specs.Standing.{StandsIn}
use Rattle.simulation.proofs.Calls.{frames-come-and-go}
use Rattle.simulation.proofs.Frames.{callers-on}
use Rattle.store.specs.Contents.{AreOfContext, IsLoaded, code_store, function_of, signatures_of_instance}
use Rattle.store.specs.declared.instances.ModuleFunction.{ModuleFunction}
use Rattle.interpreter.specs.Callers.{Caller, CallerStands, CallersStand}
use Rattle.interpreter.specs.Calling.{declared_locals, frame_waiting, position_opened}
use Rattle.interpreter.specs.Looping.{loop_at, machine_at}
use Rattle.interpreter.specs.Running.{Machine, RunsAt}
use Rattle.interpreter.specs.Whole.{IsSeenFrom, Loop, LoopReaches, RunsWhole, SwitchesTo, Whole, layers_of, whole}
use Rattle.interpreter.specs.Worlds.{World, store_in}
use Rattle.interpreter.specs.declared.machine.Frame.{Frame}
use Rattle.interpreter.specs.declared.machine.Position.{Position}
use Rattle.interpreter.proofs.Cells.{frame-length}
use Rattle.interpreter.proofs.Entering.{declared, declared-is, entered-runs, fits, machine_entered}
use Rattle.interpreter.proofs.Finding.{IsAtAddress}
use Rattle.interpreter.proofs.Lifting.{layers-out}
use Rattle.interpreter.proofs.Opening.{ArgumentsLie, callee-own, caller-cells, outer-below, top-inside}
use Rattle.interpreter.proofs.Switching.{callers-count, switched, whole-depth}

module _ (bound : ℕ) (w : World) (cells : List ℕ) (callers : List Frame) (at : Position) (u : Whole) (r : RunsWhole bound (loop_at w cells callers at) u)
    (op : PlainOp) (top operand address : ℕ) (f : ModuleFunction) (found : IsAtAddress w.code address f)
    (b : ArgumentsLie op (machine_at cells at) u.ghost top operand f.ty.now f.instance (code_of f.func.now))
    (counted : counts_of u.ghost.code.signatures op ≡ Some (counts (b.over + length f.ty.now.params) (length f.ty.now.results)))
    (step : step_instruction u.ghost.store (frame_of u.ghost) op u.ghost.values b.rest
    ≡ call_function 1 u.ghost.store (lent_memory u.ghost.store (frame_of u.ghost)) (Some (function_of f.ty.now f.instance f.func.now)) b.values
    b.rest) where
  abbrev m : Machine
  m = machine_at cells at

  abbrev l : Loop
  l = loop_at w cells callers at

  abbrev pub h : Ghost
  h = u.ghost

  abbrev pub n : ℕ
  n = length f.ty.now.params

  abbrev pub k : ℕ
  k = length f.func.now.locals

  abbrev pub s : Signatures
  s = signatures_of_instance (slice_get w.code.instances f.instance)

  -- The waiting frame, and the whole with the callee's frame.
  abbrev pub waiting : Caller
  waiting = record {
    code = h.code;
    at = at.place + 1;
    instance = h.instance;
    locals = h.locals;
    values = drop n b.values;
    labels = h.labels;
    rest = b.rest;
  }

  abbrev pub called : Whole
  called = record {
    ghost = callee h s (operations_of found.instance.loaded.value.flat) f.flat.now.place f.ty.now f.instance (code_of f.func.now)
        b.values;
    callers = waiting ∷ u.callers;
    results = u.results;
  }

  -- ---- the step

  pub opens-next : next (store_in w) no_frame (whole u) ≡ Opens 1 (store_in w) (whole called)
  opens-next =
      subst (λ (z : Store). next z no_frame (whole u) ≡ Opens 1 z (whole called)) r.runs.store
      (subst (λ (z : Body). next h.store no_frame (plug (layers_of u) (frame_of h) (in_frame h.values h.labels z)) ≡ Opens 1 h.store (whole called)) (sym b.rest_is)
      (subst (λ (z : Activated). next h.store z (plug (layers_of u) (frame_of h) (in_frame h.values h.labels (Then op b.rest)))
      ≡ Opens 1 h.store (whole called)) (layers-out u.callers h.code.outermost.kept (frame_of h))
      (frames-come-and-go.called_by h.store (layers_of u) (frame_of h) op (lent_memory h.store (frame_of h)) f.ty.now f.instance (code_of f.func.now) h.values b.values h.labels b.rest step b.enough)))

  pub depth-is : depth (whole u) ≡ suc (length callers)
  depth-is =
      whole-depth u.callers h.code.outermost.kept (frame_of h) h.values h.labels h.rest
      ∙ ap suc (sym (callers-count w.code (length cells) callers u.callers h.code.outermost.kept (take at.base cells) r.callers))

  -- ---- what exists

  abbrev base' : ℕ
  base' = top + 1 - f.flat.now.params

  its-fit : at.base + f.flat.now.params ≤ top
  its-fit = fits w m h r.runs op top operand address f found b

  its-declared : f.flat.now.params ≤ f.flat.now.locals
  its-declared = declared w m h r.runs op top operand address f found b

  base-is : base' + n ≡ top + 1
  base-is = omega (arith, its-fit, found.flat.params)

  context : AreOfContext h.code.signatures (instance_context (code_store w.code) (instance_of (code_store w.code) (Some h.instance)))
  context = record {
    types = subst (λ (z : Store). (context_at z (place_of h)).types ≡ h.code.signatures.types) r.runs.store r.runs.runs.typed.types;
    functions = subst (λ (z : Store). (context_at z (place_of h)).functions ≡ h.code.signatures.functions) r.runs.store r.runs.runs.typed.functions;
  }

  -- ---- with the cells after the arguments cleared

  module _ (cells' : List ℕ) (filled : take (top + 1 + declared_locals f) cells' ≡ take (top + 1) (set cells top operand) ++ replicate (declared_locals f) 0) (size : length cells' ≡ length cells)
      (room : base' + f.flat.now.greatest < length cells) where
    filled-all : take (top + 1 + k) cells' ≡ take (top + 1) (set cells top operand) ++ replicate k 0
    filled-all = subst (λ (q : ℕ). take (top + 1 + q) cells' ≡ take (top + 1) (set cells top operand) ++ replicate q 0) (declared-is w m h r.runs op top operand address f found b) filled

    waits : CallerStands w.code (length cells') (frame_waiting at) waiting (length f.ty.now.results) (take base' cells')
    waits =
        let in_cells = top-inside w m h r.runs op top operand f.ty.now f.instance (code_of f.func.now) b in
        let taken_size = length-take-le base' cells' (omega (arith, size, in_cells)) in
        let dropped_size = length-drop n b.values in
        let many : length h.values ≡ length b.values + b.over = omega (arith, r.runs.runs.holds.top_is, b.holds.top_is, b.above) in
        let next_place : suc at.place ≡ at.place + 1 = omega arith in
        let written = length-set cells top operand in
        let whole_size = frame-length h.code.locals at.base (set cells top operand) (omega (arith, written, r.runs.scrap)) in record {
          place = refl;
          number = r.number ∙ sym r.runs.number;
          instance = w.instance;
          loaded = subst (λ (q : ℕ). IsLoaded w.code q w.instance) (sym r.runs.number) r.runs.instance.loaded;
          operations = r.runs.operations ∙ ap operations_of r.runs.instance.flat;
          count = r.runs.runs.holds.count;
          signatures = context;
          held = caller-cells w m h r.runs op top operand f.ty.now f.instance (code_of f.func.now) b cells' filled-all size base' base-is;
          high = omega (arith, taken_size, dropped_size, b.holds.top_is, b.top_is, r.runs.runs.holds.count, its-fit, found.flat.params, b.enough);
          room = omega (arith, r.runs.runs.holds.room, whole_size, written, r.runs.scrap, size);
          stands = λ results is.
              subst (λ (p : ℕ). StandsIn h.code p (results ++ drop n b.values) h.labels b.rest) next_place
              (callers-on h.code at.place h.values (drop n b.values) results h.labels op b.rest (b.over + n) (length f.ty.now.results) counted
              (omega (arith, many, b.enough)) (omega (arith, many, dropped_size)) is
              (subst (λ (z : Body). StandsIn h.code at.place h.values h.labels z) b.rest_is r.runs.runs.stands));
        }

    opened-runs : (other : World) → IsSeenFrom f.instance w other → RunsAt other (machine_at cells' (position_opened at top f)) called.ghost
    opened-runs other seen =
        let own = callee-own w m h r.runs op top operand f.ty.now f.instance (code_of f.func.now) b cells' filled-all size base' base-is in
        let top_is : base' + f.flat.now.locals ≡ top + 1 + declared_locals f = omega (arith, its-fit, its-declared) in
        subst (λ (q : ℕ). RunsAt other (machine_entered f cells' base' q) called.ghost) top_is
        (entered-runs w m h r.runs op top operand address f found b cells' base' own (omega (arith, room, size)) other seen)

    opened-in : 1 ≤ at.fuel → suc (length callers) < bound → (other : World) → IsSeenFrom f.instance w other
        → LoopReaches bound l u (record (loop_at w cells' (frame_waiting at ∷ callers) (position_opened at top f)) { world = other })
    opened-in some shallow other seen =
        switched bound l (loop_at w cells' (frame_waiting at ∷ callers) (position_opened at top f)) u called other seen r refl
        (one_more none (opens opens-next some refl refl (omega (arith, depth-is, shallow))))
        (opened-runs other seen) (
          waits,
          subst (λ (z : List ℕ). CallersStand w.code (length cells') callers u.callers h.code.outermost.kept z)
              (sym (outer-below w m h r.runs op top operand f.ty.now f.instance (code_of f.func.now) b cells' filled-all size base' base-is))
              (subst (λ (q : ℕ). CallersStand w.code q callers u.callers h.code.outermost.kept (take at.base cells)) (sym size) r.callers),
        )
        refl (omega (arith, shallow))

    pub opened : 1 ≤ at.fuel → suc (length callers) < bound → SwitchesTo bound l u (loop_at w cells' (frame_waiting at ∷ callers) (position_opened at top f))
    opened some shallow = ((found.instance, found.loaded), opened-in some shallow)
