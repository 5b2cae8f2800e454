-- Labels and frames around a configuration (Execution, Runtime Structure, Evaluation Contexts).
use Rattle.std.specs.Prelude.{ℕ, zero, suc, List, [], ◌∷◌}
use Rattle.meaning.specs.execution.Configurations.{Activation, Frame, Label, Configuration, InLabel, InFrame}

pub data Layer : Type 0 where
  AroundLabel : (label : Label) → Layer
  -- a frame, which itself is in a frame of this state
  AroundFrame : (activation : Activation) (outer : Frame) → Layer

-- A configuration within these layers, the innermost first. The innermost frame has this state.
abbrev pub plug : List Layer → Frame → Configuration → Configuration
plug [] frame configuration = configuration
plug (AroundLabel label ∷ layers) frame configuration =
    plug layers frame (InLabel label configuration)
plug (AroundFrame activation outer ∷ layers) frame configuration =
    plug layers outer (InFrame activation frame configuration)

-- The frame outside of the layers.
abbrev pub outermost : List Layer → Frame → Frame
outermost [] frame = frame
outermost (AroundLabel label ∷ layers) frame = outermost layers frame
outermost (AroundFrame activation outer ∷ layers) frame = outermost layers outer

-- The number of frames among the layers.
abbrev pub count_frames : List Layer → ℕ
count_frames [] = zero
count_frames (AroundLabel label ∷ layers) = count_frames layers
count_frames (AroundFrame activation outer ∷ layers) = suc (count_frames layers)
