use Rattle.std.proofs.Common.{ℕ, ◌<◌, slice_index_or}
use Rattle.core_types.specs.declared.outcome.Val.{Val}
use Rattle.meaning.specs.execution.Values.{FitsWidth}
use Rattle.hostfunc.proofs.boxes.show_widths.Given as goal

-- Those before this place have been read.
abbrev pub invariant-loop-i : goal.invariant-loop-i
invariant-loop-i l = (k : ℕ) (d : Val) → k < l.i → FitsWidth (slice_index_or l.values k d)
