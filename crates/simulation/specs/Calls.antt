-- Frames above frames: what a caller keeps while a function that it called runs, and the effects of calls and returns on the whole.
use Rattle.std.specs.Prelude.{◌≡◌, ℕ, ◌≤◌, List, [], ◌∷◌, ◌++◌, length, take, drop, Option, Some}
use Rattle.core_types.specs.declared.op.ControlOp.TheVariants as control
use Rattle.core_types.specs.declared.op.PlainOp.{PlainOp}
use Rattle.core_types.specs.declared.op.PlainOp.TheVariants as plain
use Rattle.core_types.specs.declared.outcome.Val.{Val}
use Rattle.core_types.specs.declared.types.FuncType.{FuncType}
use Rattle.meaning.specs.structure.Bodies.{Body, Empty, Then}
use Rattle.meaning.specs.execution.Configurations.{Activation, Frame, Label}
use Rattle.meaning.specs.execution.Instructions.{Goes, Grows, Opens, TailCalls, call_function, frame_of, function_at, next, step_instruction}
use Rattle.meaning.specs.execution.Layers.{AroundFrame, AroundLabel, Layer, outermost, plug}
use Rattle.meaning.specs.execution.Store.{Code, InCode, Store}
use Rattle.simulation.specs.Laws.{function_label}
use Rattle.simulation.specs.Settling.{in_frame}

-- Layers after labels, the innermost first.
abbrev pub around : List Label → List Layer → List Layer
around [] layers = layers
around (label ∷ labels) layers = AroundLabel label ∷ around labels layers

-- The activation around which a caller's frame waits. It gives that many results.
abbrev pub activation_of : (arity : ℕ) → List Val → Body → Activation
activation_of arity values rest = record { arity = arity; values = values; rest = rest }

-- The layers of a frame that is opened. A caller waits around it, with these values and this rest, within labels.
abbrev pub opened_in : (arity : ℕ) → List Val → Body → Frame → List Label → List Layer → List Layer
opened_in arity values rest frame labels layers =
    AroundFrame (activation_of arity values rest) frame ∷ around labels layers

-- The effects of calls and returns on the whole.
pub record FramesComeAndGo : Type 0 where
  -- a call of a function in code opens a frame around its body
  pub called : (store : Store) (layers : List Layer) (frame : Frame) (x : ℕ) (t : FuncType)
      (instance : ℕ) (code : Code) (values : List Val) (labels : List Label) (rest : Body)
      → function_at store frame x
      ≡ Some (record { ty = t; implementation = InCode instance code })
      → length t.params ≤ length values
      → next store (outermost layers frame)
      (plug layers frame (in_frame values labels (Then (plain.Control (control.Call x)) rest)))
      ≡ Opens 1 store
      (plug (opened_in (length t.results) (drop (length t.params) values) rest frame labels layers)
      (frame_of t instance code values)
      (in_frame [] (function_label (length t.results) ∷ []) code.body))
  -- so does any instruction that does this call, with these values up to the arguments
  pub called_by : (store : Store) (layers : List Layer) (frame : Frame) (op : PlainOp)
      (lent : Option ℕ) (t : FuncType) (instance : ℕ) (code : Code) (values others : List Val)
      (labels : List Label) (rest : Body)
      → step_instruction store frame op values rest
      ≡ call_function 1 store lent (Some (record { ty = t; implementation = InCode instance code }))
      others rest
      → length t.params ≤ length others
      → next store (outermost layers frame)
      (plug layers frame (in_frame values labels (Then op rest)))
      ≡ Opens 1 store
      (plug (opened_in (length t.results) (drop (length t.params) others) rest frame labels layers)
      (frame_of t instance code others)
      (in_frame [] (function_label (length t.results) ∷ []) code.body))
  -- a return leaves its frame from within labels, with the topmost values
  pub returned : (store : Store) (layers : List Layer) (outer own : Frame) (arity : ℕ)
      (under values : List Val) (behind : Body) (labels waiting : List Label) (rest : Body)
      → arity ≤ length values
      → next store (outermost layers outer)
      (plug (opened_in arity under behind outer waiting layers) own
      (in_frame values labels (Then (plain.Control control.Return) rest)))
      ≡ Goes 1 store (outermost layers outer)
      (plug layers outer (in_frame (take arity values ++ under) waiting behind))
  -- a frame around values only is left at no cost
  pub over : (store : Store) (layers : List Layer) (outer own : Frame) (arity : ℕ)
      (under values : List Val) (behind : Body) (waiting : List Label)
      → next store (outermost layers outer)
      (plug (opened_in arity under behind outer waiting layers) own (in_frame values [] Empty))
      ≡ Goes 0 store (outermost layers outer)
      (plug layers outer (in_frame (values ++ under) waiting behind))
  -- a tail call of a function in code replaces its own frame with one around the body
  pub replaced : (store : Store) (layers : List Layer) (outer own : Frame) (arity : ℕ)
      (under values others : List Val) (behind : Body) (op : PlainOp) (lent : Option ℕ)
      (t : FuncType) (instance : ℕ) (code : Code) (labels waiting : List Label) (rest : Body)
      → step_instruction store own op values rest
      ≡ TailCalls lent (record { ty = t; implementation = InCode instance code }) others
      → length t.params ≤ length others
      → next store (outermost layers outer)
      (plug (opened_in arity under behind outer waiting layers) own
      (in_frame values labels (Then op rest)))
      ≡ Grows 1 store (outermost layers outer)
      (plug (opened_in (length t.results) under behind outer waiting layers)
      (frame_of t instance code others)
      (in_frame [] (function_label (length t.results) ∷ []) code.body))
