use Rattle.std.proofs.Common.{◌≡◌, ℕ}
use Rattle.core_types.specs.declared.module.DataSegment.{DataSegment}
use Rattle.meaning.specs.execution.Modules.{data_task}
use Rattle.instantiate.specs.Tasks.{instance_in, link_state}
use Rattle.meaning.specs.execution.Runs.{NoHosts}
use Rattle.instantiate.proofs.lemmas.Tasks.{SoFar}
use Rattle.instantiate.proofs.tasks.run_data_segments.Given as goal

-- A run of the rest of the segments is a run of all.
abbrev pub invariant-loop-k : goal.invariant-loop-k
invariant-loop-k l =
    (l.meter.bound ≡ l.initial.meter.bound)
    × (l.meter.frames ≡ l.initial.meter.frames)
    × (l.operands ≡ l.initial.operands)
    × SoFar NoHosts l.initial.meter.bound l.linked.instance (instance_in l.linked) (λ (x : ℕ) (e : DataSegment). data_task x e.bytes e.mode)
    l.linked.module_read.now.datas (link_state l.linked.code.now l.initial.state l.initial.meter.left)
    (link_state l.linked.code.now l.state l.meter.left) l.k
