-- A tail call of a function of a module: its frame replaces the frame that calls.
use Rattle.std.proofs.Common.{◌≡◌, ℕ, ◌+◌, ◌-◌, ◌<◌, ◌≤◌, List, [], ◌∷◌, ◌++◌, length, take, drop, set, replicate, Some, slice_get, refl, ap, sym, subst, ◌∙◌, arith, append_assoc}
use Rattle.std.proofs.lemmas.List.{take-set-le}
use Rattle.core_types.specs.declared.op.PlainOp.{PlainOp}
use Rattle.core_types.specs.declared.types.ValType.{ValType}
use Rattle.meaning.specs.structure.Bodies.{Body, Empty, Then}
use Rattle.meaning.specs.execution.Configurations.{Frame as Activated, depth, no_frame}
use Rattle.meaning.specs.execution.Instructions.{Grows, Next, TailCalls, frame_of as frame_of_call, lent_memory, next, step_instruction}
use Rattle.meaning.specs.execution.Layers.{Layer, plug}
use Rattle.meaning.specs.execution.Modules.{code_of}
use Rattle.meaning.specs.execution.Runs.{AsksForMemory, IsWithinBound, grows, none, one_more, price}
use Rattle.meaning.specs.execution.Store.{Store}
use Rattle.simulation.specs.Calls.{opened_in}
use Rattle.simulation.specs.Entries.{callee}
use Rattle.simulation.specs.Laws.{function_label}
use Rattle.simulation.specs.Runs.{Ghost, frame_of}
use Rattle.simulation.specs.Settling.{in_frame}
use Rattle.simulation.proofs.Calls.{frames-come-and-go}
use Rattle.sidetable.specs.FlatModules.{operations_of}
use Rattle.store.specs.Contents.{function_of, signatures_of_instance}
use Rattle.store.specs.declared.instances.ModuleFunction.{ModuleFunction}
use Rattle.interpreter.specs.Callers.{Caller, CallersStand, layers_around}
use Rattle.interpreter.specs.Calling.{AreReplaced, declared_locals, position_replaced}
use Rattle.interpreter.specs.Looping.{loop_at, machine_at}
use Rattle.interpreter.specs.Running.{Machine}
use Rattle.interpreter.specs.Whole.{AsksNext, IsSeenFrom, Loop, LoopReaches, RunsWhole, SwitchesTo, Whole, whole}
use Rattle.interpreter.specs.Worlds.{World, store_in}
use Rattle.interpreter.specs.declared.machine.Frame.{Frame}
use Rattle.interpreter.specs.declared.machine.Position.{Position}
use Rattle.interpreter.proofs.Entering.{declared-is, entered-runs}
use Rattle.interpreter.proofs.Finding.{IsAtAddress}
use Rattle.interpreter.proofs.Lifting.{layers-out}
use Rattle.interpreter.proofs.Opening.{ArgumentsLie, placed-below, placed-own}
use Rattle.interpreter.proofs.Switching.{switched}

-- Cells that are moved down, and others after them that are cleared.
pub moved-and-cleared : (cells moved cleared : List ℕ) (base from count many top operand : ℕ) → base ≤ top → take (base + count) moved
    ≡ take base (set cells top operand) ++ take count (drop from (set cells top operand))
    → take (base + count + many) cleared ≡ take (base + count) moved ++ replicate many 0 → take (base + (count + many)) cleared
    ≡ take base cells ++ (take count (drop from (set cells top operand)) ++ replicate many 0)
moved-and-cleared cells moved cleared base from count many top operand low moved_is cleared_is =
    let put = set cells top operand in
    let sum : base + count + many ≡ base + (count + many) = omega arith in
    ap (λ (n : ℕ). take n cleared) (sym sum) ∙ cleared_is ∙ ap (λ (z : List ℕ). z ++ replicate many 0) moved_is
    ∙ append_assoc (take base put) (take count (drop from put)) (replicate many 0)
    ∙ ap (λ (z : List ℕ). z ++ (take count (drop from put) ++ replicate many 0)) (take-set-le base cells top operand low)

module _ (bound : ℕ) (w : World) (cells : List ℕ) (callers : List Frame) (at : Position) (u : Whole) (r : RunsWhole bound (loop_at w cells callers at) u)
    (op : PlainOp) (top operand address : ℕ) (f : ModuleFunction) (found : IsAtAddress w.code address f)
    (b : ArgumentsLie op (machine_at cells at) u.ghost top operand f.ty.now f.instance (code_of f.func.now))
    (results : f.ty.now.results ≡ u.ghost.results)
    (step : step_instruction u.ghost.store (frame_of u.ghost) op u.ghost.values b.rest
    ≡ TailCalls (lent_memory u.ghost.store (frame_of u.ghost)) (function_of f.ty.now f.instance f.func.now) b.values) where
  abbrev m : Machine
  m = machine_at cells at

  abbrev l : Loop
  l = loop_at w cells callers at

  abbrev h : Ghost
  h = u.ghost

  abbrev n : ℕ
  n = length f.ty.now.params

  abbrev k : ℕ
  k = length f.func.now.locals

  -- The whole with the callee's frame.
  abbrev replaced_whole : Whole
  replaced_whole = record {
    ghost = callee h (signatures_of_instance (slice_get w.code.instances f.instance)) (operations_of found.instance.loaded.value.flat)
        f.flat.now.place f.ty.now f.instance (code_of f.func.now) b.values;
    callers = u.callers;
    results = u.results;
  }

  -- ---- the step

  -- Within any waiting frames.
  grows-in : (cs : List Caller) (arity : ℕ) → next h.store no_frame (plug (layers_around cs arity) (frame_of h) (in_frame h.values h.labels (Then op b.rest)))
      ≡ Grows 1 h.store no_frame (plug (layers_around cs (length f.ty.now.results)) (frame_of_call f.ty.now f.instance (code_of f.func.now) b.values)
      (in_frame [] (function_label (length f.ty.now.results) ∷ []) (code_of f.func.now).body))
  grows-in [] arity =
      frames-come-and-go.replaced h.store [] no_frame (frame_of h) arity [] h.values b.values Empty op (lent_memory h.store (frame_of h)) f.ty.now
      f.instance (code_of f.func.now) h.labels [] b.rest step b.enough
  grows-in (c ∷ cs) arity =
      let outer : Activated = record { instance = Some c.instance; locals = c.locals } in
      let layers : List Layer = layers_around cs c.code.outermost.kept in
      subst (λ (z : Activated). next h.store z (plug (opened_in arity c.values c.rest outer c.labels layers) (frame_of h) (in_frame h.values h.labels (Then op b.rest)))
      ≡ Grows 1 h.store z (plug (opened_in (length f.ty.now.results) c.values c.rest outer c.labels layers)
      (frame_of_call f.ty.now f.instance (code_of f.func.now) b.values)
      (in_frame [] (function_label (length f.ty.now.results) ∷ []) (code_of f.func.now).body)))
      (layers-out cs c.code.outermost.kept outer)
      (frames-come-and-go.replaced h.store layers outer (frame_of h) arity c.values h.values b.values c.rest op (lent_memory h.store (frame_of h))
      f.ty.now f.instance (code_of f.func.now) h.labels c.labels b.rest step b.enough)

  pub grows-next : next (store_in w) no_frame (whole u) ≡ Grows 1 (store_in w) no_frame (whole replaced_whole)
  grows-next =
      subst (λ (z : Store). next z no_frame (whole u) ≡ Grows 1 z no_frame (whole replaced_whole)) r.runs.store
      (subst (λ (z : Body). next h.store no_frame (plug (layers_around u.callers h.code.outermost.kept) (frame_of h) (in_frame h.values h.labels z))
      ≡ Grows 1 h.store no_frame (whole replaced_whole)) (sym b.rest_is)
      (grows-in u.callers h.code.outermost.kept))

  pub asks : 1 ≤ at.fuel → AsksNext bound (store_in w) at.fuel u
  asks some = record {
    asks = subst AsksForMemory (sym grows-next) tt;
    within = subst (λ (z : Next). IsWithinBound bound (depth (whole u)) z) (sym grows-next) tt;
    enough = subst (λ (z : Next). price z ≤ at.fuel) (sym grows-next) some;
  }

  -- ---- with the arguments moved down, and the cells after them cleared

  module _ (cells' : List ℕ) (replaced_so : AreReplaced cells at.base (record at { top = top; operand = operand }) f cells')
      (room : at.base + f.flat.now.greatest < length cells) where
    filled : take (at.base + (n + k)) cells' ≡ take at.base cells ++ (take n (drop (top + 1 - n) (set cells top operand)) ++ replicate k 0)
    filled =
        subst (λ (q : ℕ). take (at.base + q) cells' ≡ take at.base cells ++ (take n (drop (top + 1 - n) (set cells top operand)) ++ replicate k 0)) found.flat.locals
        (subst (λ (q : ℕ). take (at.base + f.flat.now.locals) cells'
        ≡ take at.base cells ++ (take n (drop (top + 1 - n) (set cells top operand)) ++ replicate q 0))
        (declared-is w m h r.runs op top operand address f found b)
        (subst (λ (q : ℕ). take (at.base + f.flat.now.locals) cells'
        ≡ take at.base cells ++ (take q (drop (top + 1 - q) (set cells top operand)) ++ replicate (declared_locals f) 0)) found.flat.params replaced_so.0))

    replaced-in : 1 ≤ at.fuel → (other : World) → IsSeenFrom f.instance w other → LoopReaches bound l u (record (loop_at w cells' callers (position_replaced at f)) { world = other })
    replaced-in some other seen =
        let own = placed-own w m h r.runs op top operand f.ty.now f.instance (code_of f.func.now) b cells' filled in
        let size = replaced_so.1 in
        let arity : h.code.outermost.kept ≡ length f.ty.now.results = r.arity ∙ ap (λ (ts : List ValType). length ts) (sym results) in
        switched bound l (loop_at w cells' callers (position_replaced at f)) u replaced_whole other seen r refl
        (one_more none (grows grows-next some refl refl))
        (entered-runs w m h r.runs op top operand address f found b cells' at.base own (omega (arith, room, size)) other seen)
        (subst (λ (z : List ℕ). CallersStand w.code (length cells') callers u.callers (length f.ty.now.results) z)
        (sym (placed-below w m h r.runs op top operand f.ty.now f.instance (code_of f.func.now) b cells' filled))
        (subst (λ (q : ℕ). CallersStand w.code (length cells') callers u.callers q (take at.base cells)) arity
        (subst (λ (q : ℕ). CallersStand w.code q callers u.callers h.code.outermost.kept (take at.base cells)) (sym size) r.callers)))
        refl r.deep

    pub replaced : 1 ≤ at.fuel → SwitchesTo bound l u (loop_at w cells' callers (position_replaced at f))
    replaced some = ((found.instance, found.loaded), replaced-in some)
