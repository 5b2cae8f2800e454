use Rattle.std.proofs.Common.{length}
use Rattle.core_types.specs.declared.op.MemoryOp.TheVariants.{DataDrop as DataDropForm, Init as MemoryInitForm}
use Rattle.core_types.specs.declared.op.PlainOp.TheVariants.{Memory as MemoryForm}
use Rattle.instantiate.specs.Tasks.{instance_in, link_state}
use Rattle.meaning.specs.execution.Runs.{NoHosts}
use Rattle.instantiate.proofs.lemmas.Tasks.{copied, stuck-bytes}
use Rattle.instantiate.proofs.tasks.run_data_segment.Goals as goal

pub returns-in-Some-clause-ran : goal.returns-in-Some-clause-ran
returns-in-Some-clause-ran c =
    let code = c.args.linked.now.code.now in
    let has = c.in-Some.ensures.offset in
    let run = rw (c.count_operand-count.ensures, c.len.ensures) at c.copy_bytes.ensures.run in
    rw c.in-Active.is (copied NoHosts c.args.meter.now.bound c.args.linked.now.instance (instance_in c.args.linked.now) c.copy_bytes.result
    (link_state code c.args.state.now c.args.meter.now.left) (link_state code c.copy_bytes.new.state c.copy_bytes.new.meter.left)
    c.in-Active.offset (length c.args.wanted.now.bytes) c.in-Some.target (MemoryForm (MemoryInitForm c.args.x))
    (MemoryForm (DataDropForm c.args.x)) has run)

pub returns-in-None-clause-ran : goal.returns-in-None-clause-ran
returns-in-None-clause-ran c =
    let code = c.args.linked.now.code.now in
    let none = c.in-None.ensures.offset in
    rw c.in-Active.is (stuck-bytes NoHosts c.args.meter.now.bound c.args.linked.now.instance (instance_in c.args.linked.now)
    (link_state code c.args.state.now c.args.meter.now.left) c.in-Active.offset (length c.args.wanted.now.bytes) c.args.x
    (MemoryForm (DataDropForm c.args.x)) none)
