use Rattle.std.proofs.Common.{◌≡◌, drop}
use Rattle.validator.specs.References.{set_marks}
use Rattle.validator.proofs.context.references.mark_functions.Given as goal

abbrev pub invariant-loop-index : goal.invariant-loop-index
invariant-loop-index l = set_marks l.marks (drop l.index-index l.indices) ≡ set_marks l.fn.marks l.fn.indices
