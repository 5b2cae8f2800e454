-- Frames above frames.
use Rattle.std.proofs.Common.{◌≡◌, ℕ, ◌≤◌, List, [], ◌∷◌, ◌++◌, length, map, reverse, take, drop, refl, ap, sym, ◌∙◌, arith, length-append}
use Rattle.std.proofs.lemmas.List.{drop_at, length-take-le, take_at}
use Rattle.std.specs.Prelude.{Option, Some}
use Rattle.core_types.specs.declared.op.ControlOp.TheVariants as control
use Rattle.core_types.specs.declared.op.PlainOp.{PlainOp}
use Rattle.core_types.specs.declared.op.PlainOp.TheVariants as plain
use Rattle.core_types.specs.declared.outcome.Val.{Val}
use Rattle.core_types.specs.declared.types.FuncType.{FuncType}
use Rattle.meaning.specs.structure.Bodies.{Body, Empty, Then}
use Rattle.meaning.specs.execution.Configurations.{Activation, Configuration, Frame, InFrame, InLabel, Label, Running}
use Rattle.meaning.specs.execution.Instructions.{Goes, Grows, NotReady, Opens, Returns, TailCalls, call_function, call_implementation, frame_of, in_place}
use Rattle.meaning.specs.execution.Instructions.{lent_memory, next, step_in_frame, step_in_label, step_instruction, topmost}
use Rattle.meaning.specs.execution.Layers.{AroundFrame, Layer, outermost, plug}
use Rattle.meaning.specs.execution.Store.{Code, FunctionInstance, InCode, Store}
use Rattle.meaning.specs.execution.Values.{default_of}
use Rattle.meaning.proofs.lemmas.Layers.{if-at-most, plugged-goes, plugged-grows, plugged-opens}
use Rattle.simulation.specs.Calls.{FramesComeAndGo, activation_of, around}
use Rattle.simulation.specs.Laws.{function_label}
use Rattle.simulation.specs.Settling.{in_frame, inside_labels}
use Rattle.simulation.proofs.Settling.{labels-go, labels-grow}

pub plug-around : (labels : List Label) (layers : List Layer) (frame : Frame) (x : Configuration) → plug (around labels layers) frame x ≡ plug layers frame (inside_labels labels x)
plug-around [] layers frame x = refl
plug-around (label ∷ labels) layers frame x = plug-around labels layers frame (InLabel label x)

module _ (store : Store) (frame : Frame) where
  labels-open : (labels : List Label) (cost : ℕ) (store' : Store) (x y : Configuration) → next store frame x ≡ Opens cost store' y
      → next store frame (inside_labels labels x) ≡ Opens cost store' (inside_labels labels y)
  labels-open [] cost store' x y e = e
  labels-open (label ∷ labels) cost store' x y e = labels-open labels cost store' (InLabel label x) (InLabel label y) (ap (step_in_label store frame label) e)

  labels-return : (labels : List Label) (kept : List Val) (x : Configuration) → next store frame x ≡ Returns kept → next store frame (inside_labels labels x) ≡ Returns kept
  labels-return [] kept x e = e
  labels-return (label ∷ labels) kept x e = labels-return labels kept (InLabel label x) (ap (step_in_label store frame label) e)

  labels-tail-call : (labels : List Label) (lent : Option ℕ) (function : FunctionInstance) (kept : List Val) (x : Configuration) → next store frame x
      ≡ TailCalls lent function kept → next store frame (inside_labels labels x) ≡ TailCalls lent function kept
  labels-tail-call [] lent function kept x e = e
  labels-tail-call (label ∷ labels) lent function kept x e = labels-tail-call labels lent function kept (InLabel label x) (ap (step_in_label store frame label) e)

called-goes : (store : Store) (layers : List Layer) (frame : Frame) (op : PlainOp) (lent : Option ℕ) (t : FuncType) (instance : ℕ) (code : Code)
    (values others : List Val) (labels : List Label) (rest : Body)
    → step_instruction store frame op values rest ≡ call_function 1 store lent (Some (record { ty = t; implementation = InCode instance code })) others rest → length t.params ≤ length others
    → next store (outermost layers frame) (plug layers frame (in_frame values labels (Then op rest)))
    ≡ Opens 1 store (plug (AroundFrame (activation_of (length t.results) (drop (length t.params) others) rest) frame ∷ around labels layers) (frame_of t instance code others)
    (in_frame [] (function_label (length t.results) ∷ []) code.body))
called-goes store layers frame op lent t instance code values others labels rest step enough =
    plugged-opens store layers frame store 1 (in_frame values labels (Then op rest)) (inside_labels labels entered)
    (labels-open store frame labels 1 store (Running values (Then op rest)) entered opens)
    ∙ ap (λ (c : Configuration). Opens 1 store c) (sym (plug-around labels layers frame entered))
  where
    entered : Configuration
    entered = InFrame (activation_of (length t.results) (drop (length t.params) others) rest) (frame_of t instance code others) (in_frame [] (function_label (length t.results) ∷ []) code.body)

    opens : next store frame (Running values (Then op rest)) ≡ Opens 1 store entered
    opens = step ∙ if-at-most (length t.params) (length others) (Opens 1 store entered) NotReady enough

module _ (store : Store) (layers : List Layer) (outer own : Frame) (arity : ℕ) (under values : List Val) (behind : Body) where
  left-frame : (waiting : List Label) (cost : ℕ) (x : Configuration) (kept : List Val)
      → next store outer (InFrame (activation_of arity under behind) own x) ≡ Goes cost store outer (Running kept behind)
      → next store (outermost layers outer) (plug (AroundFrame (activation_of arity under behind) outer ∷ around waiting layers) own x)
      ≡ Goes cost store (outermost layers outer) (plug layers outer (in_frame kept waiting behind))
  left-frame waiting cost x kept e =
      ap (next store (outermost layers outer)) (plug-around waiting layers outer (InFrame (activation_of arity under behind) own x))
      ∙ plugged-goes store layers outer outer store cost (inside_labels waiting (InFrame (activation_of arity under behind) own x)) (in_frame kept waiting behind)
      (labels-go store outer waiting cost store outer (InFrame (activation_of arity under behind) own x) (Running kept behind) e)

  returned-goes : (labels waiting : List Label) (rest : Body) → arity ≤ length values
      → next store (outermost layers outer)
      (plug (AroundFrame (activation_of arity under behind) outer ∷ around waiting layers) own
      (in_frame values labels (Then (plain.Control control.Return) rest)))
      ≡ Goes 1 store (outermost layers outer) (plug layers outer (in_frame (take arity values ++ under) waiting behind))
  returned-goes labels waiting rest enough =
      left-frame waiting 1 (in_frame values labels (Then (plain.Control control.Return) rest)) (take arity values ++ under)
      (ap (step_in_frame store outer (activation_of arity under behind) own) (labels-return store own labels values (Running values (Then (plain.Control control.Return) rest)) refl)
      ∙ if-at-most arity (length values) (Goes 1 store outer (Running (take arity values ++ under) behind)) NotReady enough)

  over-goes : (waiting : List Label)
      → next store (outermost layers outer) (plug (AroundFrame (activation_of arity under behind) outer ∷ around waiting layers) own (in_frame values [] Empty))
      ≡ Goes 0 store (outermost layers outer) (plug layers outer (in_frame (values ++ under) waiting behind))
  over-goes waiting = left-frame waiting 0 (in_frame values [] Empty) (values ++ under) refl

-- ---- tail calls

-- The arguments on what was below a frame.
abbrev pub arguments_on : FuncType → (others under : List Val) → List Val
arguments_on t others under = take (length t.params) others ++ under

module _ (t : FuncType) (others under : List Val) (enough : length t.params ≤ length others) where
  pub arguments-enough : length t.params ≤ length (arguments_on t others under)
  arguments-enough = omega (arith, length-append (take (length t.params) others) under, length-take-le (length t.params) others enough)

  pub arguments-same : topmost t.params (arguments_on t others under) ≡ topmost t.params others
  arguments-same = ap reverse (take_at (take (length t.params) others) under (length t.params) (length-take-le (length t.params) others enough))

  pub under-same : drop (length t.params) (arguments_on t others under) ≡ under
  under-same = drop_at (take (length t.params) others) under (length t.params) (length-take-le (length t.params) others enough)

-- At its frame a tail call is a call in the frame's place.
pub placed : (store : Store) (outer own : Frame) (activation : Activation) (op : PlainOp) (lent : Option ℕ) (function : FunctionInstance) (values others : List Val) (labels : List Label) (rest : Body)
    → step_instruction store own op values rest ≡ TailCalls lent function others → length function.ty.params ≤ length others
    → next store outer (InFrame activation own (in_frame values labels (Then op rest)))
    ≡ in_place outer (call_implementation 1 store lent function.ty function.implementation (arguments_on function.ty others activation.values) activation.rest)
placed store outer own activation op lent function values others labels rest step enough =
    let on = arguments_on function.ty others activation.values in
    ap (step_in_frame store outer activation own) (labels-tail-call store own labels lent function others (Running values (Then op rest)) step)
    ∙ if-at-most (length function.ty.params) (length others) (in_place outer (call_function 1 store lent (Some function) on activation.rest)) NotReady enough
    ∙ ap (in_place outer) (if-at-most (length function.ty.params) (length on)
    (call_implementation 1 store lent function.ty function.implementation on activation.rest) NotReady
    (arguments-enough function.ty others activation.values enough))

replaced-grows : (store : Store) (layers : List Layer) (outer own : Frame) (arity : ℕ) (under values others : List Val) (behind : Body) (op : PlainOp)
    (lent : Option ℕ) (t : FuncType) (instance : ℕ) (code : Code) (labels waiting : List Label) (rest : Body)
    → step_instruction store own op values rest ≡ TailCalls lent (record { ty = t; implementation = InCode instance code }) others → length t.params ≤ length others
    → next store (outermost layers outer) (plug (AroundFrame (activation_of arity under behind) outer ∷ around waiting layers) own (in_frame values labels (Then op rest)))
    ≡ Grows 1 store (outermost layers outer) (plug (AroundFrame (activation_of (length t.results) under behind) outer ∷ around waiting layers) (frame_of t instance code others)
    (in_frame [] (function_label (length t.results) ∷ []) code.body))
replaced-grows store layers outer own arity under values others behind op lent t instance code labels waiting rest step enough =
    ap (next store (outermost layers outer)) (plug-around waiting layers outer before)
    ∙ plugged-grows store layers outer outer store 1 (inside_labels waiting before) (inside_labels waiting (entered under (topmost t.params others)))
    (labels-grow store outer waiting 1 store outer before (entered under (topmost t.params others)) grows)
    ∙ ap (λ (c : Configuration). Grows 1 store (outermost layers outer) c) (sym (plug-around waiting layers outer (entered under (topmost t.params others))))
  where
    before : Configuration
    before = InFrame (activation_of arity under behind) own (in_frame values labels (Then op rest))

    entered : List Val → List Val → Configuration
    entered below arguments = InFrame (activation_of (length t.results) below behind)
        (record { instance = Some instance; locals = arguments ++ map default_of code.locals }) (in_frame [] (function_label (length t.results) ∷ []) code.body)

    grows : next store outer before ≡ Grows 1 store outer (entered under (topmost t.params others))
    grows =
        placed store outer own (activation_of arity under behind) op lent (record { ty = t; implementation = InCode instance code }) values others labels rest step enough
        ∙ ap (λ (vs : List Val). Grows 1 store outer (entered vs (topmost t.params (arguments_on t others under)))) (under-same t others under enough)
        ∙ ap (λ (vs : List Val). Grows 1 store outer (entered under vs)) (arguments-same t others under enough)

pub frames-come-and-go : FramesComeAndGo
frames-come-and-go = record {
  called = λ store layers frame x t instance code values labels rest there enough.
      called-goes store layers frame (plain.Control (control.Call x)) (lent_memory store frame) t instance code values values labels rest
      (ap (λ (o : Option FunctionInstance). call_function 1 store (lent_memory store frame) o values rest) there) enough;
  called_by = called-goes;
  returned = λ store layers outer own arity under values behind labels waiting rest. returned-goes store layers outer own arity under values behind labels waiting rest;
  over = λ store layers outer own arity under values behind waiting. over-goes store layers outer own arity under values behind waiting;
  replaced = replaced-grows;
}
