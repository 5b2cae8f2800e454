use Rattle.std.proofs.Common.{ℕ, [], ap, refl}
use Rattle.std.specs.Prelude.{Option}
use Rattle.core_types.specs.declared.op.PlainOp.TheVariants.{Memory}
use Rattle.core_types.specs.declared.op.MemoryOp.TheVariants.{DataDrop}
use Rattle.meaning.specs.structure.Bodies.{Empty, Then}
use Rattle.meaning.specs.execution.Configurations.{Running}
use Rattle.meaning.specs.execution.Effects.{drop_data}
use Rattle.meaning.specs.execution.Instructions.{continue_after}
use Rattle.meaning.specs.execution.Store.{DataInstance, with_data}
use Rattle.simulation.specs.Outcomes.{made}
use Rattle.store.specs.Contents.{store_with}
use Rattle.instantiate.specs.Tasks.{frame_in, link_state}
use Rattle.instantiate.proofs.lemmas.Copies.{gets-stuck, steps-or-ends, steps-run}
use Rattle.instantiate.proofs.copies.drop_data_segment.Goals as goal

pub returns-in_default-clause-run : goal.returns-in_default-clause-run
returns-in_default-clause-run c =
    let old = store_with c.args.linked.now.code.now c.args.state.now in
    let frame = frame_in c.args.linked.now in
    gets-stuck c.args.meter.now.bound c.args.linked.now.instance old c.args.meter.now.left (Running [] (Then (Memory (DataDrop c.args.segment)) Empty)) Empty
    (ap (λ (found : Option (ℕ × DataInstance)). continue_after frame (drop_data old frame found []) Empty) c.in_default.ensures)

pub returns-clause-run : goal.returns-clause-run
returns-clause-run c =
    let code = c.args.linked.now.code.now in
    let old = store_with code c.args.state.now in
    let new = store_with code c.drop_data.new.state in
    let frame = frame_in c.args.linked.now in
    let a = c.in-Some.address in
    let first = Running [] (Then (Memory (DataDrop c.args.segment)) Empty) in
    let o = made 1 (with_data old a (record { bytes = [] })) [] in
    steps-run c.pass.result c.args.meter.now.bound frame (link_state code c.args.state.now c.args.meter.now.left) (link_state code c.drop_data.new.state c.pass.new.meter.left) first
    (steps-or-ends c.args.meter.now.bound c.args.linked.now.instance old c.args.meter.now.left first Empty new c.pass.new.meter.left c.pass.result o (refl, refl)
    (ap (λ (found : Option (ℕ × DataInstance)). continue_after frame (drop_data old frame found []) Empty) c.in-Some.ensures.1)
    (c.pass.ensures.passes o old new (rw c.left.ensures at (c.drop_data.ensures code))))
