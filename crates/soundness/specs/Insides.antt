-- The inside of a typed configuration.
use Rattle.std.specs.Prelude.{List}
use Rattle.core_types.specs.declared.types.ValType.{ValType}
use Rattle.meaning.specs.execution.Configurations.{Configuration, Frame}
use Rattle.meaning.specs.execution.Layers.{Layer, outermost, plug}
use Rattle.meaning.specs.execution.Store.{Store}
use Rattle.soundness.specs.Configurations.{ConfigurationHasType, FrameHasPlace}
use Rattle.soundness.specs.Places.{Place}

-- The inside of labels and frames is typed at its own place, where a machine finds operands of the right types.
abbrev pub InsideIsTyped : Type 0
InsideIsTyped = (store : Store) (layers : List Layer) (frame : Frame) (inside : Configuration)
    (place : Place) (results : List ValType)
    → FrameHasPlace store (outermost layers frame) place
    → ConfigurationHasType store place (plug layers frame inside) results
    → (own : Place) × (given : List ValType) × FrameHasPlace store frame own ×
    ConfigurationHasType store own inside given
