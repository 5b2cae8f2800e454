use Rattle.std.proofs.Common.{[], ◌∷◌}
use Rattle.core_types.specs.declared.outcome.Val.TheVariants.{I32}
use Rattle.core_types.specs.declared.op.MemoryOp.TheVariants.{DataDrop as DataDropForm, Init as MemoryInitForm}
use Rattle.core_types.specs.declared.op.PlainOp.TheVariants.{Memory as MemoryForm}
use Rattle.meaning.specs.structure.Bodies.{Empty, Then}
use Rattle.meaning.specs.execution.Configurations.{Running}
use Rattle.instantiate.specs.Tasks.{frame_in, link_state}
use Rattle.instantiate.proofs.lemmas.Tasks.{step-runs}
use Rattle.instantiate.proofs.copies.copy_bytes.Goals as goal

pub returns-clause-run : goal.returns-clause-run
returns-clause-run c =
    let code = c.args.linked.now.code.now in
    let last = Then (MemoryForm (DataDropForm c.args.segment)) Empty in
    step-runs c.drop_data_segment.result c.args.meter.now.bound (frame_in c.args.linked.now) (link_state code c.args.state.now c.args.meter.now.left)
    (link_state code c.init_bytes.new.state c.init_bytes.new.meter.left)
    (link_state code c.drop_data_segment.new.state c.drop_data_segment.new.meter.left)
    (Running (I32 c.args.count ∷ (I32 0 ∷ (I32 c.args.target ∷ []))) (Then (MemoryForm (MemoryInitForm c.args.segment)) last)) (Running [] last)
    (c.in_ok-init_bytes.ensures.step last) (rw c.in_ok-init_bytes.ensures.bound at c.drop_data_segment.ensures.run)
