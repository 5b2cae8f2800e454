use Rattle.std.proofs.Common.{take}
use Rattle.std.specs.Prelude.{All, IfSome}
use Rattle.validator.specs.ControlFrames.{FitsLabelAt}
use Rattle.validator.proofs.instructions.control.branches.fit_labels.Given as goal

abbrev pub invariant-loop-index : goal.invariant-loop-index
invariant-loop-index l =
    All (FitsLabelAt l.innermost l.outer l.given) (take l.index-index l.numbers) × IfSome l.fitting (FitsLabelAt l.innermost l.outer l.given)
