use Rattle.std.proofs.Common.{ℕ, [], ap, refl}
use Rattle.std.specs.Prelude.{Option}
use Rattle.core_types.specs.declared.op.PlainOp.TheVariants.{Table}
use Rattle.core_types.specs.declared.op.TableOp.TheVariants.{ElemDrop}
use Rattle.meaning.specs.structure.Bodies.{Empty, Then}
use Rattle.meaning.specs.execution.Configurations.{Running}
use Rattle.meaning.specs.execution.Effects.{drop_elements}
use Rattle.meaning.specs.execution.Instructions.{continue_after}
use Rattle.meaning.specs.execution.Store.{with_elements}
use Rattle.meaning.specs.execution.Tables.{ElementInstance}
use Rattle.simulation.specs.Outcomes.{made}
use Rattle.store.specs.Contents.{store_with}
use Rattle.store.specs.State.{elements_of}
use Rattle.instantiate.specs.Tasks.{frame_in, link_state}
use Rattle.instantiate.proofs.lemmas.Copies.{gets-stuck, steps-or-ends, steps-run}
use Rattle.instantiate.proofs.copies.drop_element_segment.Goals as goal

pub returns-in_default-clause-run : goal.returns-in_default-clause-run
returns-in_default-clause-run c =
    let old = store_with c.args.linked.now.code.now c.args.state.now in
    let frame = frame_in c.args.linked.now in
    gets-stuck c.args.meter.now.bound c.args.linked.now.instance old c.args.meter.now.left (Running [] (Then (Table (ElemDrop c.args.segment)) Empty)) Empty
    (ap (λ (found : Option (ℕ × ElementInstance)). continue_after frame (drop_elements old frame found []) Empty) c.in_default.ensures)

pub returns-clause-run : goal.returns-clause-run
returns-clause-run c =
    let code = c.args.linked.now.code.now in
    let old = store_with code c.args.state.now in
    let new = store_with code c.drop_elements.new.state in
    let frame = frame_in c.args.linked.now in
    let a = c.in-Some.address in
    let first = Running [] (Then (Table (ElemDrop c.args.segment)) Empty) in
    let o = made 1 (with_elements old a (record { ty = (elements_of c.args.state.now a).ty; references = [] })) [] in
    steps-run c.pass.result c.args.meter.now.bound frame (link_state code c.args.state.now c.args.meter.now.left) (link_state code c.drop_elements.new.state c.pass.new.meter.left) first
    (steps-or-ends c.args.meter.now.bound c.args.linked.now.instance old c.args.meter.now.left first Empty new c.pass.new.meter.left c.pass.result o (refl, refl)
    (ap (λ (found : Option (ℕ × ElementInstance)). continue_after frame (drop_elements old frame found []) Empty) c.in-Some.ensures.1)
    (c.pass.ensures.passes o old new (rw c.left.ensures at (c.drop_elements.ensures code))))
