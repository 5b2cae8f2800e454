use Rattle.std.proofs.Common.{[], ◌∷◌}
use Rattle.core_types.specs.declared.outcome.Val.TheVariants.{I32}
use Rattle.core_types.specs.declared.op.PlainOp.TheVariants.{Table as TableForm}
use Rattle.core_types.specs.declared.op.TableOp.TheVariants.{ElemDrop as ElemDropForm, Init as TableInitForm}
use Rattle.meaning.specs.structure.Bodies.{Empty, Then}
use Rattle.meaning.specs.execution.Configurations.{Running}
use Rattle.instantiate.specs.Tasks.{frame_in, link_state}
use Rattle.instantiate.proofs.lemmas.Tasks.{step-runs}
use Rattle.instantiate.proofs.copies.copy_elements.Goals as goal

pub returns-clause-run : goal.returns-clause-run
returns-clause-run c =
    let code = c.args.linked.now.code.now in
    let last = Then (TableForm (ElemDropForm c.args.segment)) Empty in
    step-runs c.drop_element_segment.result c.args.meter.now.bound (frame_in c.args.linked.now)
    (link_state code c.args.state.now c.args.meter.now.left) (link_state code c.init_elements.new.state c.init_elements.new.meter.left)
    (link_state code c.drop_element_segment.new.state c.drop_element_segment.new.meter.left)
    (Running (I32 c.args.count ∷ (I32 0 ∷ (I32 c.args.target ∷ []))) (Then (TableForm (TableInitForm c.args.segment c.args.table)) last))
    (Running [] last) (c.in_ok-init_elements.ensures.step last) (rw c.in_ok-init_elements.ensures.bound at c.drop_element_segment.ensures.run)
