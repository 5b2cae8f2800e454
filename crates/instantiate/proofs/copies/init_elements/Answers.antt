use Rattle.std.proofs.Common.{ℕ, [], ◌∷◌, ap, ◌∙◌}
use Rattle.std.specs.Prelude.{Option, Some}
use Rattle.core_types.specs.declared.op.PlainOp.TheVariants.{Table}
use Rattle.core_types.specs.declared.op.TableOp.TheVariants.{Init}
use Rattle.core_types.specs.declared.outcome.Val.TheVariants.{I32}
use Rattle.meaning.specs.structure.Bodies.{Then}
use Rattle.meaning.specs.execution.Configurations.{Running}
use Rattle.meaning.specs.execution.Costs.{entries_cost}
use Rattle.meaning.specs.execution.Effects.{Effect, elements_at, init_table}
use Rattle.meaning.specs.execution.Instructions.{continue_after}
use Rattle.meaning.specs.execution.Tables.{ElementInstance, TableInstance, copy_entries}
use Rattle.simulation.specs.Tables.{written_table}
use Rattle.simulation.proofs.Tables.{write-effect, write-outcome}
use Rattle.store.specs.Contents.{store_with}
use Rattle.store.specs.State.{elements_of, table_of}
use Rattle.instantiate.specs.Tasks.{frame_in}
use Rattle.instantiate.proofs.lemmas.Copies.{gets-stuck, steps-or-ends}
use Rattle.instantiate.proofs.copies.init_elements.Goals as goal

pub returns-in_default-clause-step : goal.returns-in_default-clause-step
returns-in_default-clause-step c rest =
    let old = store_with c.args.linked.now.code.now c.args.state.now in
    let frame = frame_in c.args.linked.now in
    let operands = I32 c.args.count ∷ (I32 0 ∷ (I32 c.args.target ∷ [])) in
    gets-stuck c.args.meter.now.bound c.args.linked.now.instance old c.args.meter.now.left (Running operands (Then (Table (Init c.args.segment c.args.table)) rest)) rest
    (ap (λ (into : Option (ℕ × TableInstance)). continue_after frame (init_table old frame into (elements_at old frame c.args.segment) operands) rest) c.in_default.ensures)

pub returns-in_default-find_elements-clause-step : goal.returns-in_default-find_elements-clause-step
returns-in_default-find_elements-clause-step c rest =
    let old = store_with c.args.linked.now.code.now c.args.state.now in
    let frame = frame_in c.args.linked.now in
    let operands = I32 c.args.count ∷ (I32 0 ∷ (I32 c.args.target ∷ [])) in
    gets-stuck c.args.meter.now.bound c.args.linked.now.instance old c.args.meter.now.left (Running operands (Then (Table (Init c.args.segment c.args.table)) rest)) rest
    (ap (λ (into : Option (ℕ × TableInstance)). continue_after frame (init_table old frame into (elements_at old frame c.args.segment) operands) rest) c.in-Some.ensures.1
    ∙ ap (λ (from : Option (ℕ × ElementInstance)).
    continue_after frame (init_table old frame (Some (c.in-Some.address, table_of c.args.state.now c.in-Some.address)) from operands) rest)
    c.in_default-find_elements.ensures)

pub returns-clause-step : goal.returns-clause-step
returns-clause-step c rest =
    let old = store_with c.args.linked.now.code.now c.args.state.now in
    let new = store_with c.args.linked.now.code.now c.init_table.new.state in
    let frame = frame_in c.args.linked.now in
    let operands = I32 c.args.count ∷ (I32 0 ∷ (I32 c.args.target ∷ [])) in
    let a = c.in-Some.address in
    let t = table_of c.args.state.now a in
    let segment = elements_of c.args.state.now c.in-Some-find_elements.source in
    let copied = copy_entries t.entries segment.references c.args.target 0 c.args.count in
    let o = written_table old (entries_cost c.args.count) a t copied in
    let is = ap (λ (into : Option (ℕ × TableInstance)). continue_after frame (init_table old frame into (elements_at old frame c.args.segment) operands) rest) c.in-Some.ensures.1
    ∙ ap (λ (from : Option (ℕ × ElementInstance)). continue_after frame (init_table old frame (Some (a, t)) from operands) rest) c.in-Some-find_elements.ensures.1
    ∙ ap (λ (e : Effect). continue_after frame e rest) (write-effect old frame (entries_cost c.args.count) a t copied []) in
    steps-or-ends c.args.meter.now.bound c.args.linked.now.instance old c.args.meter.now.left
    (Running operands (Then (Table (Init c.args.segment c.args.table)) rest)) rest new c.pass.new.meter.left c.pass.result o
    (write-outcome old frame (entries_cost c.args.count) a t copied) is (c.pass.ensures.passes o old new (rw c.left-fuel.ensures at (c.init_table.ensures c.args.linked.now.code.now)))
