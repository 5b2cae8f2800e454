use Rattle.std.proofs.Common.{take}
use Rattle.std.specs.Prelude.{All, IfSome}
use Rattle.meaning.specs.validation.Instructions.{known}
use Rattle.validator.specs.ControlFrames.{FitsLabelAt}
use Rattle.validator.proofs.instructions.control.branches.have_types.Given as goal

abbrev pub invariant-loop-index : goal.invariant-loop-index
invariant-loop-index l =
    All (FitsLabelAt l.innermost l.outer (known l.types)) (take l.index-index l.numbers) × IfSome l.fitting (FitsLabelAt l.innermost l.outer (known l.types))
