-- Frames that are left, whatever runs.
use Rattle.std.proofs.Common.{◌≡◌, ℕ, ◌+◌, ◌-◌, ◌≤◌, List, [], ◌∷◌, ◌++◌, length, take, set, ap, sym, subst, ◌∙◌, arith}
use Rattle.std.proofs.lemmas.List.{take_all}
use Rattle.core_types.specs.declared.op.ControlOp.TheVariants as control
use Rattle.core_types.specs.declared.op.PlainOp.TheVariants as plain
use Rattle.core_types.specs.declared.outcome.Val.{Val}
use Rattle.core_types.specs.declared.types.ValType.{ValType}
use Rattle.meaning.specs.structure.Bodies.{Body, Empty, Then}
use Rattle.meaning.specs.execution.Configurations.{Frame as Activated, Label, no_frame}
use Rattle.meaning.specs.execution.Instructions.{Goes, Next, next}
use Rattle.meaning.specs.execution.Layers.{Layer, outermost, plug}
use Rattle.meaning.specs.execution.Runs.{NoHosts}
use Rattle.meaning.proofs.lemmas.Runs.{Steps-join}
use Rattle.simulation.specs.Calls.{opened_in}
use Rattle.simulation.specs.Runs.{Ghost, frame_of}
use Rattle.simulation.specs.Settling.{in_frame}
use Rattle.simulation.proofs.Calls.{frames-come-and-go}
use Rattle.interpreter.specs.Callers.{Caller}
use Rattle.interpreter.specs.Calling.{Leaves, position_resumed}
use Rattle.interpreter.specs.Layout.{AreMoved}
use Rattle.interpreter.specs.Looping.{loop_at, machine_at}
use Rattle.interpreter.specs.Running.{Machine}
use Rattle.interpreter.specs.Whole.{HasResults, IsOver, Loop, LoopReaches, RunsSomeWhole, RunsWhole, SwitchesTo, Whole}
use Rattle.interpreter.specs.Worlds.{World, store_in}
use Rattle.interpreter.specs.declared.machine.Frame.{Frame}
use Rattle.interpreter.specs.declared.machine.Position.{Position}
use Rattle.interpreter.proofs.Forms.{inside}
use Rattle.interpreter.proofs.Lifting.{reaches-then}
use Rattle.interpreter.proofs.Resuming.{IsLeft, back-fits, ended, resumed}

-- Lists that are the same begin with the same frame, and continue alike.
parts-same : (x y : Frame) (xs ys : List Frame) → x ∷ xs ≡ y ∷ ys → (x ≡ y) × (xs ≡ ys)
parts-same x y xs ys e = (cc, cc)

-- ---- the step

module _ (h : Ghost) where
  abbrev arity : ℕ
  arity = h.code.outermost.kept

  -- The next step in a frame with this inside.
  abbrev next_inside : List Layer → Activated → List Val → Body → List Label → (labels : List Label) → (rest : Body) → Next
  next_inside layers outer beneath behind waiting labels rest = next h.store (outermost layers outer)
      (plug (opened_in arity beneath behind outer waiting layers) (frame_of h) (in_frame h.values labels rest))

  -- The frame is left.
  abbrev left_for : (cost : ℕ) → List Layer → Activated → List Val → Body → List Label → Next
  left_for cost layers outer beneath behind waiting = Goes cost h.store (outermost layers outer) (plug layers outer (in_frame (take arity h.values ++ beneath) waiting behind))

  -- Only values are left, the same number as the frame gives.
  pub left-over : h.labels ≡ [] → h.rest ≡ Empty → length h.values ≡ arity → IsLeft 0 h
  left-over no_labels no_rest count = record {
    enough = omega (arith, count);
    leaves = λ layers outer beneath behind waiting.
        subst (λ (ls : List Label). next_inside layers outer beneath behind waiting ls h.rest ≡ left_for 0 layers outer beneath behind waiting) (sym no_labels)
        (subst (λ (b : Body). next_inside layers outer beneath behind waiting [] b ≡ left_for 0 layers outer beneath behind waiting) (sym no_rest)
        (frames-come-and-go.over h.store layers outer (frame_of h) arity beneath h.values behind waiting
        ∙ ap (λ (vs : List Val). Goes 0 h.store (outermost layers outer) (plug layers outer (in_frame (vs ++ beneath) waiting behind))) (sym (take_all arity h.values (omega (arith, count))))));
  }

  -- There is a return.
  pub left-back : (rest : Body) → h.rest ≡ Then (plain.Control control.Return) rest → arity ≤ length h.values → IsLeft 1 h
  left-back rest is enough = record {
    enough = enough;
    leaves = λ layers outer beneath behind waiting.
        subst (λ (b : Body). next_inside layers outer beneath behind waiting h.labels b ≡ left_for 1 layers outer beneath behind waiting) (sym is)
        (frames-come-and-go.returned h.store layers outer (frame_of h) arity beneath h.values behind h.labels waiting rest enough);
  }

-- ---- whatever runs

module _ (bound : ℕ) (w : World) (cells : List ℕ) (at : Position) (fuel : ℕ) where
  abbrev m : Machine
  m = machine_at cells at

  abbrev before : List Frame → Loop
  before callers = loop_at w cells callers (record at { fuel = fuel })

  -- The whole arrives where one step leaves its frame, with that many results.
  abbrev pub CanLeave : (callers : List Frame) → (cost results : ℕ) → Type 0
  CanLeave callers cost results =
      (u : Whole) → RunsWhole bound (before callers) u → (s : LoopReaches bound (before callers) u (before callers)) × IsLeft cost s.new.ghost × (results ≡ s.new.ghost.code.outermost.kept)

  module _ (cost results : ℕ) (paid : cost ≤ fuel) (left_is : at.fuel ≡ fuel - cost) where
    over-from : (h : Ghost) (cs : List Caller) (all_results : List ValType)
        → RunsWhole bound (before []) (record { ghost = h; callers = cs; results = all_results }) → IsLeft cost h → results ≡ h.code.outermost.kept
        → IsOver bound (before []) (record { ghost = h; callers = cs; results = all_results }) (loop_at w cells [] at)
    over-from h [] all_results r left is = ended bound w cells at fuel cost paid left_is h left results is all_results r
    over-from h (c ∷ cs) all_results r left is = absurd r.callers

    fits-from : (frame : Frame) (others : List Frame) (h : Ghost) (cs : List Caller) (all_results : List ValType)
        → RunsWhole bound (before (frame ∷ others)) (record { ghost = h; callers = cs; results = all_results }) → IsLeft cost h → results
        ≡ h.code.outermost.kept
        → (1 ≤ at.base) × (at.base - 1 + results ≤ at.top)
    fits-from frame others h [] all_results r left is = absurd r.callers
    fits-from frame others h (c ∷ cs) all_results r left is = back-fits bound w cells at fuel cost paid left_is h left results is all_results frame others c cs r

    back-from : (frame : Frame) (others : List Frame) (cells' : List ℕ) (operand' : ℕ)
        → AreMoved (set cells at.top at.operand) at.top (at.base - 1) results cells' operand' → (h : Ghost) (cs : List Caller) (all_results : List ValType)
        → RunsWhole bound (before (frame ∷ others)) (record { ghost = h; callers = cs; results = all_results }) → IsLeft cost h → results ≡ h.code.outermost.kept
        → SwitchesTo bound (before (frame ∷ others)) (record { ghost = h; callers = cs; results = all_results }) (loop_at w cells' others (position_resumed at frame results operand'))
    back-from frame others cells' operand' moved h [] all_results r left is = absurd r.callers
    back-from frame others cells' operand' moved h (c ∷ cs) all_results r left is = resumed bound w cells at fuel cost paid left_is h left results is
        all_results frame others c cs r cells' operand' moved

    leaves-last : RunsSomeWhole bound (before []) → CanLeave [] cost results → Leaves bound w cells [] at fuel results
    leaves-last (v, q) can = record {
      some = (v, q);
      room = inside w m v.ghost q.runs;
      paid = omega (arith, left_is);
      over = λ none u r.
          let (s, left, is) = can u r in
          let o = over-from s.new.ghost s.new.callers s.new.results s.runs left is in record {
            values = o.values;
            steps = Steps-join NoHosts bound no_frame s.steps o.steps;
            results = subst (λ (ts : List ValType). HasResults (store_in w) (machine_at cells at) ts o.values) s.results o.results;
          };
      fits = λ frame others are. absurd (let wrong = are in cc);
      back = λ frame others are. absurd (let wrong = are in cc);
    }

    leaves-inner : (frame : Frame) (others : List Frame) → RunsSomeWhole bound (before (frame ∷ others)) → CanLeave (frame ∷ others) cost results
        → Leaves bound w cells (frame ∷ others) at fuel results
    leaves-inner frame others (v, q) can = record {
      some = (v, q);
      room = inside w m v.ghost q.runs;
      paid = omega (arith, left_is);
      over = λ none. absurd (let wrong = none in cc);
      fits = λ frame' others' are. let (s, left, is) = can v q in fits-from frame others s.new.ghost s.new.callers s.new.results s.runs left is;
      back = λ frame' others' are cells' operand' moved u r.
          let (s, left, is) = can u r in
          let both : (frame ≡ frame') × (others ≡ others') = parts-same frame frame' others others' are in
          let led = back-from frame others cells' operand' moved s.new.ghost s.new.callers s.new.results s.runs left is in
          subst (λ (f : Frame). SwitchesTo bound (before (frame ∷ others)) u (loop_at w cells' others' (position_resumed at f results operand'))) both.0
          (subst (λ (fs : List Frame). SwitchesTo bound (before (frame ∷ others)) u (loop_at w cells' fs (position_resumed at frame results operand'))) both.1
          (led.0, λ other seen. reaches-then bound (before (frame ∷ others)) (before (frame ∷ others)) _ u s (led.1 other seen)));
    }

    pub leaves-so : (callers : List Frame) → RunsSomeWhole bound (before callers) → CanLeave callers cost results → Leaves bound w cells callers at fuel results
    leaves-so [] some can = leaves-last some can
    leaves-so (frame ∷ others) some can = leaves-inner frame others some can
