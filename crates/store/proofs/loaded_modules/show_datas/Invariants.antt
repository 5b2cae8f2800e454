use Rattle.std.proofs.Common.{ℕ, ◌<◌, slice_index_or}
use Rattle.core_types.specs.declared.module.DataSegment.{DataSegment}
use Rattle.meaning.specs.execution.Storage.{AreBytes}
use Rattle.store.proofs.loaded_modules.show_datas.Given as goal

-- Those before this place have been read.
abbrev pub invariant-loop-k : goal.invariant-loop-k
invariant-loop-k l = (k : ℕ) (d : DataSegment) → k < l.k → AreBytes (slice_index_or l.datas k d).bytes
