-- The frames that wait for results.
use Rattle.std.specs.Prelude.{◌≡◌, ℕ, ◌+◌, ◌<◌, List, [], ◌∷◌, ◌++◌, length, map, take, Some}
use Rattle.core_types.specs.declared.outcome.Val.{Val}
use Rattle.meaning.specs.structure.Bodies.{Body, Empty}
use Rattle.meaning.specs.execution.Configurations.{Label, no_frame}
use Rattle.meaning.specs.execution.Layers.{AroundFrame, Layer}
use Rattle.meaning.specs.execution.Store.{instance_of}
use Rattle.soundness.specs.Places.{instance_context}
use Rattle.cells.specs.Cells.{cell_of}
use Rattle.sidetable.specs.FlatModules.{operations_of}
use Rattle.simulation.specs.Calls.{activation_of, around}
use Rattle.simulation.specs.Piles.{cells_of}
use Rattle.simulation.specs.Standing.{FrameCode, StandsIn, under, values_under}
use Rattle.store.specs.Contents.{AreOfContext, Contents, IsLoaded, code_store}
use Rattle.store.specs.declared.instances.Instance.{Instance}
use Rattle.interpreter.specs.declared.machine.Frame.{Frame}
use Rattle.interpreter.specs.Layout.{without_scrap}

-- A waiting frame in the terms of the reduction: its code and the place after the call, its locals, and the rest of its configuration.
pub record Caller : Type 0 where
  pub code : FrameCode
  pub at : ℕ
  pub instance : ℕ
  pub locals : List Val
  pub values : List Val
  pub labels : List Label
  pub rest : Body

-- The layers of the waiting frames around a frame with that many results, the innermost first. Outside of all there is no frame.
abbrev pub layers_around : List Caller → (arity : ℕ) → List Layer
layers_around [] arity = AroundFrame (activation_of arity [] Empty) no_frame ∷ []
layers_around (c ∷ cs) arity =
    AroundFrame (activation_of arity c.values c.rest)
    (record { instance = Some c.instance; locals = c.locals })
    ∷ around c.labels (layers_around cs c.code.outermost.kept)

-- A frame that waits for that many results, of an instance of its module. Its cells end where those of the frame that it called begin.
pub record CallerStands (code : Contents) (size : ℕ) (frame : Frame) (c : Caller) (arity : ℕ)
    (below : List ℕ) : Type 0 where
  pub place : frame.place ≡ c.at
  pub number : frame.instance ≡ c.instance
  pub instance : Instance
  pub loaded : IsLoaded code c.instance instance
  pub operations : c.code.operations ≡ operations_of instance.loaded.value.flat
  pub count : length c.locals ≡ c.code.locals
  pub signatures : AreOfContext c.code.signatures
      (instance_context (code_store code) (instance_of (code_store code) (Some c.instance)))
  pub held : without_scrap c.code.locals frame.base below ≡
      map cell_of c.locals ++ cells_of (c.values ++ values_under c.labels)
  pub high : length below ≡ frame.base + c.code.locals + 1 + (length c.values + under c.labels)
  pub room : frame.base + c.code.greatest < size
  pub stands : (results : List Val) → length results ≡ arity
      → StandsIn c.code c.at (results ++ c.values) c.labels c.rest

-- The same for all waiting frames, the innermost first.
abbrev pub CallersStand : Contents → (size : ℕ) → List Frame → List Caller → (arity : ℕ)
    → (below : List ℕ) → Type 0
CallersStand code size [] [] arity below = Unit {0}
CallersStand code size [] (c ∷ cs) arity below = ⊥
CallersStand code size (frame ∷ frames) [] arity below = ⊥
CallersStand code size (frame ∷ frames) (c ∷ cs) arity below =
    CallerStands code size frame c arity below
    × CallersStand code size frames cs c.code.outermost.kept (take frame.base below)
