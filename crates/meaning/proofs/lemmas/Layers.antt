-- A step of a configuration within labels and frames is a step of the whole.
use Rattle.std.proofs.Common.{◌≡◌, ℕ, zero, ◌+◌, ◌<◌, ◌≤◌, List, [], ◌∷◌, ◌++◌, length, take, refl, ap, sym, ◌∙◌, add-suc, add-zero, suc-add, zero-add, arith}
use Rattle.std.proofs.lemmas.Bool.{le-leb, leb-true}
use Rattle.std.specs.Prelude.{Bool, Option, Some, true, false, if◌then◌else◌, nat_le}
use Rattle.core_types.specs.declared.outcome.Trap.{Trap}
use Rattle.core_types.specs.declared.outcome.Val.{Val}
use Rattle.meaning.specs.execution.Configurations.{Activation, Configuration, Frame, InFrame, InLabel, Label, Running, answered, continue_with, depth}
use Rattle.meaning.specs.execution.Costs.{instruction_cost}
use Rattle.meaning.specs.execution.Instructions.{Branches, CallsHost, Goes, Grows, NotReady, Opens, Returns, TailCalls, Traps, call_function, in_place, next, step_in_frame, step_in_label}
use Rattle.meaning.specs.execution.Layers.{AroundFrame, AroundLabel, Layer, count_frames, outermost, plug}
use Rattle.meaning.specs.execution.Store.{FunctionInstance, Store}

module _ {A : Type 0} (a b : ℕ) (x y : A) where
  pub if-at-most : a ≤ b → (if nat_le a b then x else y) ≡ x
  if-at-most h = ap (λ (t : Bool). if t then x else y) (le-leb a b h)

  pub if-more : b < a → (if nat_le a b then x else y) ≡ y
  if-more h = go (nat_le a b) refl
    where
      go : (t : Bool) → nat_le a b ≡ t → (if nat_le a b then x else y) ≡ y
      go true e = absurd (let le : a ≤ b = leb-true a b e in omega arith)
      go false e = ap (λ (t : Bool). if t then x else y) e

-- ---- a step within layers

module _ (store : Store) where
  pub plugged-goes : (layers : List Layer) (frame frame' : Frame) (store' : Store) (cost : ℕ) (x y : Configuration) → next store frame x
      ≡ Goes cost store' frame' y → next store (outermost layers frame) (plug layers frame x)
      ≡ Goes cost store' (outermost layers frame') (plug layers frame' y)
  plugged-goes [] frame frame' store' cost x y e = e
  plugged-goes (AroundLabel label ∷ layers) frame frame' store' cost x y e = plugged-goes layers frame frame' store' cost (InLabel label x) (InLabel label y) (ap (step_in_label store frame label) e)
  plugged-goes (AroundFrame activation outer ∷ layers) frame frame' store' cost x y e = plugged-goes layers outer outer store' cost
      (InFrame activation frame x) (InFrame activation frame' y) (ap (step_in_frame store outer activation frame) e)

  pub plugged-grows : (layers : List Layer) (frame frame' : Frame) (store' : Store) (cost : ℕ) (x y : Configuration) → next store frame x
      ≡ Grows cost store' frame' y → next store (outermost layers frame) (plug layers frame x)
      ≡ Grows cost store' (outermost layers frame') (plug layers frame' y)
  plugged-grows [] frame frame' store' cost x y e = e
  plugged-grows (AroundLabel label ∷ layers) frame frame' store' cost x y e = plugged-grows layers frame frame' store' cost (InLabel label x) (InLabel label y) (ap (step_in_label store frame label) e)
  plugged-grows (AroundFrame activation outer ∷ layers) frame frame' store' cost x y e = plugged-grows layers outer outer store' cost
      (InFrame activation frame x) (InFrame activation frame' y) (ap (step_in_frame store outer activation frame) e)

  pub plugged-opens : (layers : List Layer) (frame : Frame) (store' : Store) (cost : ℕ) (x y : Configuration) → next store frame x
      ≡ Opens cost store' y → next store (outermost layers frame) (plug layers frame x) ≡ Opens cost store' (plug layers frame y)
  plugged-opens [] frame store' cost x y e = e
  plugged-opens (AroundLabel label ∷ layers) frame store' cost x y e = plugged-opens layers frame store' cost (InLabel label x) (InLabel label y) (ap (step_in_label store frame label) e)
  plugged-opens (AroundFrame activation outer ∷ layers) frame store' cost x y e = plugged-opens layers outer store' cost (InFrame activation frame x)
      (InFrame activation frame y) (ap (step_in_frame store outer activation frame) e)

  pub plugged-traps : (layers : List Layer) (frame : Frame) (cost : ℕ) (trap : Trap) (x : Configuration) → next store frame x ≡ Traps cost trap
      → next store (outermost layers frame) (plug layers frame x) ≡ Traps cost trap
  plugged-traps [] frame cost trap x e = e
  plugged-traps (AroundLabel label ∷ layers) frame cost trap x e = plugged-traps layers frame cost trap (InLabel label x) (ap (step_in_label store frame label) e)
  plugged-traps (AroundFrame activation outer ∷ layers) frame cost trap x e = plugged-traps layers outer cost trap (InFrame activation frame x) (ap (step_in_frame store outer activation frame) e)

  pub plugged-calls : (layers : List Layer) (frame : Frame) (cost number : ℕ) (lent : Option ℕ) (arguments : List Val) (x y : Configuration)
      → next store frame x ≡ CallsHost cost number lent arguments y → next store (outermost layers frame) (plug layers frame x)
      ≡ CallsHost cost number lent arguments (plug layers frame y)
  plugged-calls [] frame cost number lent arguments x y e = e
  plugged-calls (AroundLabel label ∷ layers) frame cost number lent arguments x y e = plugged-calls layers frame cost number lent arguments
      (InLabel label x) (InLabel label y) (ap (step_in_label store frame label) e)
  plugged-calls (AroundFrame activation outer ∷ layers) frame cost number lent arguments x y e = plugged-calls layers outer cost number lent arguments
      (InFrame activation frame x) (InFrame activation frame y) (ap (step_in_frame store outer activation frame) e)

  pub plugged-waits : (layers : List Layer) (frame : Frame) (x : Configuration) → next store frame x ≡ NotReady → next store (outermost layers frame) (plug layers frame x) ≡ NotReady
  plugged-waits [] frame x e = e
  plugged-waits (AroundLabel label ∷ layers) frame x e = plugged-waits layers frame (InLabel label x) (ap (step_in_label store frame label) e)
  plugged-waits (AroundFrame activation outer ∷ layers) frame x e = plugged-waits layers outer (InFrame activation frame x) (ap (step_in_frame store outer activation frame) e)

-- Results of a host function are pushed within the layers.
pub plugged-answered : (layers : List Layer) (frame : Frame) (results : List Val) (x : Configuration) → answered results (plug layers frame x) ≡ plug layers frame (answered results x)
plugged-answered [] frame results x = refl
plugged-answered (AroundLabel label ∷ layers) frame results x = plugged-answered layers frame results (InLabel label x)
plugged-answered (AroundFrame activation outer ∷ layers) frame results x = plugged-answered layers outer results (InFrame activation frame x)

-- The frames of the layers, and those within them.
pub plugged-depth : (layers : List Layer) (frame : Frame) (x : Configuration) → depth (plug layers frame x) ≡ count_frames layers + depth x
plugged-depth [] frame x = sym (zero-add (depth x))
plugged-depth (AroundLabel label ∷ layers) frame x = plugged-depth layers frame (InLabel label x)
plugged-depth (AroundFrame activation outer ∷ layers) frame x = plugged-depth layers outer (InFrame activation frame x) ∙ add-suc
    (count_frames layers) (depth x) ∙ sym (suc-add (count_frames layers) (depth x))

-- ---- labels only

-- A configuration within labels, the innermost first.
abbrev pub in_labels : List Label → Configuration → Configuration
in_labels [] x = x
in_labels (label ∷ labels) x = in_labels labels (InLabel label x)

-- Labels within layers.
abbrev pub around_labels : List Label → List Layer → List Layer
around_labels [] layers = layers
around_labels (label ∷ labels) layers = AroundLabel label ∷ around_labels labels layers

pub plugged-labels : (labels : List Label) (layers : List Layer) (frame : Frame) (x : Configuration) → plug (around_labels labels layers) frame x ≡ plug layers frame (in_labels labels x)
plugged-labels [] layers frame x = refl
plugged-labels (label ∷ labels) layers frame x = plugged-labels labels layers frame (InLabel label x)

pub outermost-labels : (labels : List Label) (layers : List Layer) (frame : Frame) → outermost (around_labels labels layers) frame ≡ outermost layers frame
outermost-labels [] layers frame = refl
outermost-labels (label ∷ labels) layers frame = outermost-labels labels layers frame

pub frames-labels : (labels : List Label) (layers : List Layer) → count_frames (around_labels labels layers) ≡ count_frames layers
frames-labels [] layers = refl
frames-labels (label ∷ labels) layers = frames-labels labels layers

-- ---- branches and returns

module _ (store : Store) (frame : Frame) (kept : List Val) where
  -- A branch leaves the labels within its target.
  pub branch-passes : (labels : List Label) (further : ℕ) (x : Configuration) → next store frame x ≡ Branches (length labels + further) kept
      → next store frame (in_labels labels x) ≡ Branches further kept
  branch-passes [] further x e = e ∙ ap (λ (n : ℕ). Branches n kept) (zero-add further)
  branch-passes (label ∷ labels) further x e = branch-passes labels further (InLabel label x)
      (ap (step_in_label store frame label) (e ∙ ap (λ (n : ℕ). Branches n kept) (suc-add (length labels) further)))

  pub return-passes : (labels : List Label) (x : Configuration) → next store frame x ≡ Returns kept → next store frame (in_labels labels x) ≡ Returns kept
  return-passes [] x e = e
  return-passes (label ∷ labels) x e = return-passes labels (InLabel label x) (ap (step_in_label store frame label) e)

  module _ (labels : List Label) (label : Label) (x : Configuration) (e : next store frame x ≡ Branches (length labels) kept) where
    branch-arrives : next store frame (in_labels labels x) ≡ Branches zero kept
    branch-arrives = branch-passes labels zero x (e ∙ ap (λ (n : ℕ). Branches n kept) (sym (add-zero (length labels))))

    -- A branch to the label lands.
    pub branch-lands : label.arity ≤ length kept → next store frame (InLabel label (in_labels labels x))
        ≡ Goes instruction_cost store frame (Running (take label.arity kept ++ label.values) (continue_with label.continuation label.rest))
    branch-lands le = ap (step_in_label store frame label) branch-arrives ∙ if-at-most label.arity (length kept) _ NotReady le

  module _ (labels : List Label) (activation : Activation) (outer : Frame) (x : Configuration) (e : next store frame x ≡ Returns kept) where
    -- A return from the frame lands.
    pub return-lands : activation.arity ≤ length kept → next store outer (InFrame activation frame (in_labels labels x))
        ≡ Goes instruction_cost store outer (Running (take activation.arity kept ++ activation.values) activation.rest)
    return-lands le = ap (step_in_frame store outer activation frame) (return-passes labels x e) ∙ if-at-most activation.arity (length kept) _ NotReady le

    pub return-lacks : length kept < activation.arity → next store outer (InFrame activation frame (in_labels labels x)) ≡ NotReady
    return-lacks lt = ap (step_in_frame store outer activation frame) (return-passes labels x e) ∙ if-more activation.arity (length kept)
        (Goes instruction_cost store outer (Running (take activation.arity kept ++ activation.values) activation.rest)) NotReady lt

-- ---- tail calls

module _ (store : Store) (frame : Frame) (lent : Option ℕ) (function : FunctionInstance) (kept : List Val) where
  pub tail-call-passes : (labels : List Label) (x : Configuration) → next store frame x ≡ TailCalls lent function kept → next store frame (in_labels labels x) ≡ TailCalls lent function kept
  tail-call-passes [] x e = e
  tail-call-passes (label ∷ labels) x e = tail-call-passes labels (InLabel label x) (ap (step_in_label store frame label) e)

  -- A tail call lands at its frame.
  pub tail-call-lands : (labels : List Label) (activation : Activation) (outer : Frame) (x : Configuration) → next store frame x
      ≡ TailCalls lent function kept → length function.ty.params ≤ length kept
      → next store outer (InFrame activation frame (in_labels labels x))
      ≡ in_place outer (call_function instruction_cost store lent (Some function) (take (length function.ty.params) kept ++ activation.values)
      activation.rest)
  tail-call-lands labels activation outer x e le = ap (step_in_frame store outer activation frame) (tail-call-passes labels x e) ∙ if-at-most (length function.ty.params) (length kept) _ NotReady le
