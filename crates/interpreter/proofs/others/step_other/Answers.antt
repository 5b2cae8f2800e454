use Rattle.std.proofs.Common.{◌≡◌, ◌+◌, ◌-◌, ℕ, get_or, refl, ap, sym, ◌∙◌}
use Rattle.std.proofs.lemmas.List.{get_or_read}
use Rattle.core_types.specs.declared.types.GlobalType.{GlobalType}
use Rattle.cells.specs.Cells.{cell_of, value_of}
use Rattle.meaning.specs.execution.Store.{GlobalInstance}
use Rattle.sidetable.specs.declared.operations.OtherInstruction.TheVariants as other
use Rattle.store.specs.State.{global_of, put_global}
use Rattle.interpreter.specs.Looping.{machine_at, world_at}
use Rattle.interpreter.specs.Stepping.{IsPaid, position_lowered}
use Rattle.interpreter.proofs.Stepping.{fits-as, global-read, lowers, pushes, pushes-null, replaced-here, sets, tests-null}
use Rattle.interpreter.proofs.others.step_other.Goals as goal
use Rattle.interpreter.proofs.others.step_other.Goals.{then-at-eq0, else-at-eq0}

pub returns-in-Nop : goal.returns-in-Nop
returns-in-Nop c bytes fits executes = lowers (world_at c.args.around c.args.state.now bytes) c.args.cells.now c.args.at c.args.kind c.args.n executes
    other.Nop c.in-Nop.is _ _ _ _ c.lower.ensures
    (λ g leads. replaced-here (world_at c.args.around c.args.state.now bytes) c.args.cells.now c.args.at c.args.kind c.args.n executes g _ leads)

pub returns-in-DropOperand : goal.returns-in-DropOperand
returns-in-DropOperand c bytes fits executes = lowers (world_at c.args.around c.args.state.now bytes) c.args.cells.now c.args.at c.args.kind c.args.n
    executes other.DropOperand c.in-DropOperand.is _ _ _ _ c.lower-in-DropOperand.ensures (λ g leads. leads)

pub returns-after-at-eq0 : goal.returns-after-at-eq0
returns-after-at-eq0 c bytes fits executes = elim c.if-at-eq0.branch [
  | then-at-eq0 v ↦ lowers (world_at c.args.around c.args.state.now bytes) c.args.cells.now c.args.at c.args.kind c.args.n executes other.Select
      c.in-Select.is _ _ _ _ c.lower-in-Select.ensures (λ g leads. rw v.chosen-is (leads.0 v.if-at-eq0.true, leads.2))
  | else-at-eq0 v ↦ lowers (world_at c.args.around c.args.state.now bytes) c.args.cells.now c.args.at c.args.kind c.args.n executes other.Select
      c.in-Select.is _ _ _ _ c.lower-in-Select.ensures (λ g leads. rw v.chosen-is (leads.1 v.if-at-eq0.false, leads.2))
]

pub returns-in-Unary : goal.returns-in-Unary
returns-in-Unary c bytes fits executes =
    lowers (world_at c.args.around c.args.state.now bytes) c.args.cells.now c.args.at c.args.kind c.args.n executes (other.Unary c.in-Unary.instruction) c.in-Unary.is _ _ _ _ c.lower-in-Unary.ensures
    (λ g leads. replaced-here (world_at c.args.around c.args.state.now bytes) c.args.cells.now c.args.at c.args.kind c.args.n executes g _
    (leads.0 c.compute_unary.result c.compute_unary.ensures, leads.1))

pub returns-in-Some : goal.returns-in-Some
returns-in-Some c bytes fits executes =
    let (room, inside, there) = fits-as (world_at c.args.around c.args.state.now bytes) (machine_at c.args.cells.now c.args.at) c.args.kind other.GlobalGet c.args.n c.in-GlobalGet.is fits in
    let found = rw c.in-Some.is at c.global.ensures in
    let (named, read) = global-read c.args.state.now c.args.around.instance.now.addresses.globals.items c.args.n c.index-address.result.now
    c.in-Some.variable.now inside c.index-address.ensures (sym found) in
    let cell : c.cell_of.result ≡ cell_of (global_of c.args.state.now (get_or c.args.around.instance.now.addresses.globals.items c.args.n 0)).value =
    c.cell_of.ensures ∙ ap cell_of (c.value.ensures ∙ ap (λ (g : GlobalInstance). g.value) (sym read) ∙ ap (λ (a : ℕ). (global_of c.args.state.now a).value) (sym named)) in
    pushes (world_at c.args.around c.args.state.now bytes) c.args.cells.now c.args.at c.args.kind c.args.n executes other.GlobalGet c.in-GlobalGet.is _ _
    _ _ _ c.push.ensures.paid c.push.ensures.pushed c.push.ensures.kept cell (λ g leads. leads)

pub returns-in_ok-to-in-GlobalSet : goal.returns-in_ok-to-in-GlobalSet
returns-in_ok-to-in-GlobalSet c bytes fits executes =
    let (least, inside, there, mutable, typed) = fits-as (world_at c.args.around c.args.state.now bytes) (machine_at c.args.cells.now c.args.at)
    c.args.kind other.GlobalSet c.args.n c.in-GlobalSet.is fits in
    let found = rw c.in-Some-global.is at c.global-in-GlobalSet.ensures in
    let (named, read) = global-read c.args.state.now c.args.around.instance.now.addresses.globals.items c.args.n
    c.index-address-in-GlobalSet.result.now c.in-Some-global.variable.now inside c.index-address-in-GlobalSet.ensures (sym found) in
    let ensured : IsPaid c.args.at c.lower-in-GlobalSet.result c.lower-in-GlobalSet.new.why
    (position_lowered c.args.at 1 (get_or c.args.cells.now (c.args.at.top - 1) 0)) = c.lower-in-GlobalSet.ensures in
    let paid = rw c.in_ok-to-in-GlobalSet.was at ensured in
    let value : c.value_of-value.result ≡ value_of (global_of c.args.state.now c.index-address-in-GlobalSet.result.now).ty.value c.args.at.operand =
    c.value_of-value.ensures ∙ ap (λ (t : GlobalType). value_of t.value c.args.at.operand) c.ty.ensures ∙ ap (λ (g : GlobalInstance). value_of g.ty.value c.args.at.operand) (sym read) in
    sets (world_at c.args.around c.args.state.now bytes) c.args.cells.now c.args.at c.args.kind c.args.n executes c.in-GlobalSet.is _ _ paid
    (c.set_global.ensures ∙ ap (put_global c.args.state.now c.index-address-in-GlobalSet.result.now) value ∙ ap
    (λ (a : ℕ). put_global c.args.state.now a (value_of (global_of c.args.state.now a).ty.value c.args.at.operand)) (sym named))

pub returns-in-I64Const : goal.returns-in-I64Const
returns-in-I64Const c bytes fits executes =
    let (room, inside) = fits-as (world_at c.args.around c.args.state.now bytes) (machine_at c.args.cells.now c.args.at) c.args.kind other.I64Const c.args.n c.in-I64Const.is fits in
    pushes (world_at c.args.around c.args.state.now bytes) c.args.cells.now c.args.at c.args.kind c.args.n executes other.I64Const c.in-I64Const.is _ _ _
    _ _ c.push-in-I64Const.ensures.paid c.push-in-I64Const.ensures.pushed c.push-in-I64Const.ensures.kept
    (get_or_read _ _ _ inside c.index.ensures 0) (λ g leads. leads)

pub returns-in-RefNullFunc : goal.returns-in-RefNullFunc
returns-in-RefNullFunc c bytes fits executes = pushes-null (world_at c.args.around c.args.state.now bytes) c.args.cells.now c.args.at c.args.kind
    c.args.n executes c.in-RefNullFunc.is _ _ _ c.push-in-RefNullFunc.ensures.paid c.push-in-RefNullFunc.ensures.pushed c.push-in-RefNullFunc.ensures.kept

pub returns-in-RefIsNull : goal.returns-in-RefIsNull
returns-in-RefIsNull c bytes fits executes =
    lowers (world_at c.args.around c.args.state.now bytes) c.args.cells.now c.args.at c.args.kind c.args.n executes other.RefIsNull c.in-RefIsNull.is _ _ _ _ c.lower-in-RefIsNull.ensures
    (λ g leads. replaced-here (world_at c.args.around c.args.state.now bytes) c.args.cells.now c.args.at c.args.kind c.args.n executes g _
    (rw c.from.ensures (tests-null (world_at c.args.around c.args.state.now bytes) c.args.cells.now c.args.at c.args.kind c.args.n executes g _ refl leads)))

pub returns-in-RefFunc : goal.returns-in-RefFunc
returns-in-RefFunc c bytes fits executes =
    let (room, inside) = fits-as (world_at c.args.around c.args.state.now bytes) (machine_at c.args.cells.now c.args.at) c.args.kind other.RefFunc c.args.n c.in-RefFunc.is fits in
    pushes (world_at c.args.around c.args.state.now bytes) c.args.cells.now c.args.at c.args.kind c.args.n executes other.RefFunc c.in-RefFunc.is _ _ _ _
    _ c.push-in-RefFunc.ensures.paid c.push-in-RefFunc.ensures.pushed c.push-in-RefFunc.ensures.kept
    (ap (λ (x : ℕ). x + 1) (c.from-in-RefFunc.ensures ∙ get_or_read _ _ _ inside c.index-in-RefFunc.ensures 0)) (λ g leads. leads)

pub returns-in-MemorySize : goal.returns-in-MemorySize
returns-in-MemorySize c bytes fits executes =
    pushes (world_at c.args.around c.args.state.now bytes) c.args.cells.now c.args.at c.args.kind c.args.n executes other.MemorySize c.in-MemorySize.is _
    _ _ _ _ c.push-in-MemorySize.ensures.paid c.push-in-MemorySize.ensures.pushed c.push-in-MemorySize.ensures.kept c.from-in-MemorySize.ensures
    (λ g leads. leads)
