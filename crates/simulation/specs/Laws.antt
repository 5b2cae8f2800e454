-- Laws of where code is.
use Rattle.std.specs.Prelude.{◌≡◌, ℕ, suc, ◌+◌, ◌-◌, ◌≤◌, List, [], ◌∷◌, ◌++◌, length, map, take, drop, replicate, Some}
use Rattle.core_types.specs.declared.op.PlainOp.{PlainOp}
use Rattle.core_types.specs.declared.outcome.Val.{Val}
use Rattle.core_types.specs.declared.types.FuncType.{FuncType}
use Rattle.core_types.specs.declared.types.OperandType.{OperandType}
use Rattle.core_types.specs.declared.types.ValType.{ValType}
use Rattle.meaning.specs.structure.Bodies.{Body, Empty, Then}
use Rattle.meaning.specs.execution.Configurations.{Configuration, Frame, Label, Onward, no_frame}
use Rattle.meaning.specs.execution.Instructions.{topmost}
use Rattle.meaning.specs.execution.Layers.{Layer, outermost, plug}
use Rattle.meaning.specs.execution.Runs.{NoHosts, State, Steps}
use Rattle.meaning.specs.execution.Store.{Store}
use Rattle.meaning.specs.execution.Values.{default_of}
use Rattle.meaning.specs.soundness.Values.{ValueHasType}
use Rattle.meaning.specs.validation.Context.{Context}
use Rattle.meaning.specs.validation.Instructions.{HasType, known}
use Rattle.cells.specs.Cells.{cell_of, value_of}
use Rattle.sidetable.specs.Counts.{Signatures, counts, counts_of}
use Rattle.sidetable.specs.Flat.{FlatOp, function_entry, function_greatest, function_operations}
use Rattle.simulation.specs.Piles.{cells_of}
use Rattle.simulation.specs.Runs.{StepsIn}
use Rattle.simulation.specs.Standing.{EndsAt, FrameCode, StandsIn, last_height}

-- The context's types are those that a body refers to.
pub record HasSignatures (context : Context) (s : Signatures) : Type 0 where
  pub types : context.types ≡ s.types
  pub functions : context.functions ≡ s.functions

-- If a body leads from operands to others and its end is reached, the height changes by the difference of their numbers.
abbrev pub EndsTyped : Type 0
EndsTyped =
    (context : Context) (s : Signatures) → HasSignatures context s
    → (under : ℕ) (body : Body) (before after : List OperandType)
    → HasType context body before after → (h : ℕ) → h ≡ under + length before
    → EndsAt (last_height s (Some h) body) (under + length after)

-- The label around the body of a function with that many results.
abbrev pub function_label : (results : ℕ) → Label
function_label results =
    record { arity = results; continuation = Onward; values = []; rest = Empty }

-- The code of a function with that many locals and results, which begins at a place among operations.
abbrev pub code_at : Signatures → List FlatOp → (locals results at : ℕ) → Body → FrameCode
code_at s ops locals results at body = record {
  signatures = s;
  operations = ops;
  outermost = function_entry locals results at body;
  locals = locals;
  greatest = function_greatest s locals results body;
}

-- The code begins there.
abbrev pub BeginsAt : Signatures → List FlatOp → (locals results at : ℕ) → Body → Type 0
BeginsAt s ops locals results at body =
    (more : List FlatOp) × (drop at ops ≡ function_operations s locals results at body ++ more)

-- A typed body's flat code is at its first place, within the function's label, when its frame is opened.
abbrev pub FunctionsAreEntered : Type 0
FunctionsAreEntered =
    (context : Context) (s : Signatures) → HasSignatures context s → (t : FuncType) (body : Body)
    → HasType context body [] (known t.results) → (ops : List FlatOp) (locals at : ℕ)
    → BeginsAt s ops locals (length t.results) at body
    → StandsIn (code_at s ops locals (length t.results) at body) at []
    (function_label (length t.results) ∷ []) body

-- The state of a run in a store without host functions.
abbrev with_fuel : Store → (fuel : ℕ) → State ⊥
with_fuel store fuel = record { store = store; hosts = []; fuel = fuel }

-- Steps in a frame are steps of it within layers, with nothing outside of these.
abbrev pub StepsAreLifted : Type 0
StepsAreLifted =
    (store store' : Store) (bound : ℕ) (layers : List Layer) (frame frame' : Frame)
    (c d : Configuration) (fuel left : ℕ)
    → outermost layers frame ≡ no_frame → outermost layers frame' ≡ no_frame
    → ((f : Frame) → outermost layers f ≡ no_frame)
    → StepsIn store frame c fuel store' frame' d left
    → Steps NoHosts bound no_frame (with_fuel store fuel) (plug layers frame c)
    (with_fuel store' left) (plug layers frame' d)

-- After an instruction with these counts, with its results on what was below its operands, the code is at the next place.
abbrev pub CallersGoOn : Type 0
CallersGoOn =
    (f : FrameCode) (at : ℕ) (values others results : List Val) (labels : List Label)
    (op : PlainOp) (rest : Body) (takes gives : ℕ)
    → counts_of f.signatures op ≡ Some (counts takes gives) → takes ≤ length values
    → length others ≡ length values - takes → length results ≡ gives
    → StandsIn f at values labels (Then op rest)
    → StandsIn f (suc at) (results ++ others) labels rest

-- The cells of values on a stack.
pub record CellsAreValues : Type 0 where
  -- a cell, read at the type of its value, is the value
  pub read : (store : Store) (v : Val) (t : ValType) → ValueHasType store v t
      → value_of t (cell_of v) ≡ v
  -- the cell of a type's first value is zero
  pub firsts : (ts : List ValType) → map cell_of (map default_of ts) ≡ replicate (length ts) 0
  -- the arguments of a call are the first locals of the callee, in the same cells
  pub arguments : (cells below : List ℕ) (top : ℕ) (params : List ValType) (values : List Val)
      → take top cells ≡ below ++ cells_of values → length params ≤ length values
      → top ≡ length below + length values → top ≤ length cells
      → take (length params) (drop (top - length params) cells)
      ≡ map cell_of (topmost params values)
