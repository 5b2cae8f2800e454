use Rattle.std.proofs.Common.{ℕ, [], ◌∷◌, ap, ◌∙◌}
use Rattle.std.specs.Prelude.{Option}
use Rattle.core_types.specs.declared.op.MemoryOp.TheVariants.{Init}
use Rattle.core_types.specs.declared.op.PlainOp.TheVariants.{Memory}
use Rattle.core_types.specs.declared.outcome.Val.TheVariants.{I32}
use Rattle.meaning.specs.structure.Bodies.{Then}
use Rattle.meaning.specs.execution.Configurations.{Running}
use Rattle.meaning.specs.execution.Effects.{Effect, in_memory, init_memory}
use Rattle.meaning.specs.execution.Instructions.{continue_after}
use Rattle.meaning.specs.execution.Memories.{MemoryInstance, copy_bytes}
use Rattle.meaning.specs.execution.Store.{DataInstance}
use Rattle.simulation.specs.Bulk.{written_memory}
use Rattle.simulation.proofs.Bulk.{write-effect, write-outcome}
use Rattle.store.specs.Contents.{store_with}
use Rattle.store.specs.State.{data_of, memory_of}
use Rattle.instantiate.specs.Tasks.{frame_in}
use Rattle.instantiate.proofs.lemmas.Copies.{gets-stuck, steps-or-ends}
use Rattle.instantiate.proofs.copies.init_bytes.Goals as goal

pub returns-in_default-clause-step : goal.returns-in_default-clause-step
returns-in_default-clause-step c rest =
    let old = store_with c.args.linked.now.code.now c.args.state.now in
    let frame = frame_in c.args.linked.now in
    let operands = I32 c.args.count ∷ (I32 0 ∷ (I32 c.args.target ∷ [])) in
    gets-stuck c.args.meter.now.bound c.args.linked.now.instance old c.args.meter.now.left (Running operands (Then (Memory (Init c.args.segment)) rest)) rest
    (ap (λ (into : Option (ℕ × MemoryInstance)). continue_after frame (in_memory old frame into (Init c.args.segment) operands) rest) c.in_default.ensures)

pub returns-in_default-find_data-clause-step : goal.returns-in_default-find_data-clause-step
returns-in_default-find_data-clause-step c rest =
    let old = store_with c.args.linked.now.code.now c.args.state.now in
    let frame = frame_in c.args.linked.now in
    let operands = I32 c.args.count ∷ (I32 0 ∷ (I32 c.args.target ∷ [])) in
    let a = c.in-Some.address in
    gets-stuck c.args.meter.now.bound c.args.linked.now.instance old c.args.meter.now.left (Running operands (Then (Memory (Init c.args.segment)) rest)) rest
    (ap (λ (into : Option (ℕ × MemoryInstance)). continue_after frame (in_memory old frame into (Init c.args.segment) operands) rest) c.in-Some.ensures.1
    ∙ ap (λ (from : Option (ℕ × DataInstance)). continue_after frame (init_memory old frame a (memory_of c.args.state.now a) from operands) rest) c.in_default-find_data.ensures)

pub returns-clause-step : goal.returns-clause-step
returns-clause-step c rest =
    let old = store_with c.args.linked.now.code.now c.args.state.now in
    let new = store_with c.args.linked.now.code.now c.init_memory.new.state in
    let frame = frame_in c.args.linked.now in
    let operands = I32 c.args.count ∷ (I32 0 ∷ (I32 c.args.target ∷ [])) in
    let a = c.in-Some.address in
    let m = memory_of c.args.state.now a in
    let segment = data_of c.args.state.now c.in-Some-find_data.source in
    let copied = copy_bytes m.bytes segment.bytes c.args.target 0 c.args.count in
    let o = written_memory old c.args.count a m copied in
    let is = ap (λ (into : Option (ℕ × MemoryInstance)). continue_after frame (in_memory old frame into (Init c.args.segment) operands) rest) c.in-Some.ensures.1
    ∙ ap (λ (from : Option (ℕ × DataInstance)). continue_after frame (init_memory old frame a m from operands) rest) c.in-Some-find_data.ensures.1
    ∙ ap (λ (e : Effect). continue_after frame e rest) (write-effect old frame c.args.count a m copied []) in
    steps-or-ends c.args.meter.now.bound c.args.linked.now.instance old c.args.meter.now.left
    (Running operands (Then (Memory (Init c.args.segment)) rest)) rest new c.pass.new.meter.left c.pass.result o
    (write-outcome old frame c.args.count a m copied) is (c.pass.ensures.passes o old new (rw c.left-fuel.ensures at (c.init_memory.ensures c.args.linked.now.code.now)))
