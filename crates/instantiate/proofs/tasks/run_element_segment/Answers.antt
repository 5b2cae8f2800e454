use Rattle.core_types.specs.declared.op.PlainOp.TheVariants.{Table as TableForm}
use Rattle.core_types.specs.declared.op.TableOp.TheVariants.{ElemDrop as ElemDropForm, Init as TableInitForm}
use Rattle.meaning.specs.execution.Modules.{item_count}
use Rattle.instantiate.specs.Tasks.{instance_in, link_state}
use Rattle.meaning.specs.execution.Runs.{NoHosts}
use Rattle.instantiate.proofs.lemmas.Tasks.{copied, dropped, stuck-elements}
use Rattle.instantiate.proofs.tasks.run_element_segment.Goals as goal

pub returns-in-Declarative-clause-ran : goal.returns-in-Declarative-clause-ran
returns-in-Declarative-clause-ran c =
    let code = c.args.linked.now.code.now in
    rw c.in-Declarative.is (dropped NoHosts c.args.meter.now.bound c.args.linked.now.instance (instance_in c.args.linked.now)
    c.drop_element_segment.result (link_state code c.args.state.now c.args.meter.now.left)
    (link_state code c.drop_element_segment.new.state c.drop_element_segment.new.meter.left) (TableForm (ElemDropForm c.args.x))
    c.drop_element_segment.ensures.run)

pub returns-in-Some-clause-ran : goal.returns-in-Some-clause-ran
returns-in-Some-clause-ran c =
    let code = c.args.linked.now.code.now in
    let has = c.in-Some.ensures.offset in
    let run = rw (c.count_operand-count.ensures, c.item_count.ensures) at c.copy_elements.ensures.run in
    rw c.in-Active.is (copied NoHosts c.args.meter.now.bound c.args.linked.now.instance (instance_in c.args.linked.now) c.copy_elements.result
    (link_state code c.args.state.now c.args.meter.now.left) (link_state code c.copy_elements.new.state c.copy_elements.new.meter.left)
    c.in-Active.offset (item_count c.args.wanted.now.items) c.in-Some.target (TableForm (TableInitForm c.args.x c.in-Active.table))
    (TableForm (ElemDropForm c.args.x)) has run)

pub returns-in-None-clause-ran : goal.returns-in-None-clause-ran
returns-in-None-clause-ran c =
    let code = c.args.linked.now.code.now in
    let none = c.in-None.ensures.offset in
    rw c.in-Active.is (stuck-elements NoHosts c.args.meter.now.bound c.args.linked.now.instance (instance_in c.args.linked.now)
    (link_state code c.args.state.now c.args.meter.now.left) c.in-Active.offset (item_count c.args.wanted.now.items) c.args.x c.in-Active.table
    (TableForm (ElemDropForm c.args.x)) none)
