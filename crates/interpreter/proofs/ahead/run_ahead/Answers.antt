use Rattle.std.proofs.Common.{◌≡◌, ◌+◌, ◌-◌, ◌%◌, ◌^◌, ℕ, ap, get_or, length, refl, subst, sym, ◌∙◌, arith}
use Rattle.std.proofs.Math.Nat.{add-mod-mod, mod-add-mod}
use Rattle.std.specs.Prelude.{Ok, Err}
use Rattle.interpreter.specs.Ahead.{position_ahead}
use Rattle.interpreter.specs.Looping.{loop_at, world_at}
use Rattle.interpreter.specs.Whole.{Ran}
use Rattle.interpreter.specs.declared.machine.Position.{Position}
use Rattle.interpreter.specs.declared.machine.Stop.TheVariants as stop
use Rattle.interpreter.proofs.Lifting.{ran-first}
use Rattle.interpreter.proofs.Looping.{ran-at, runs-there}
use Rattle.interpreter.proofs.Spare.{before-end, branches-ahead, fails-ahead, goes-ahead, goes-left, goes-smaller, goes-within, jumps-ahead, jumps-on, lands-on}
use Rattle.interpreter.proofs.Spare.{lands-smaller, leaves-ahead, lent, pays-ahead, ran-here, steps-ahead, stops-ahead, stops-before-ahead, stops-left}
use Rattle.interpreter.proofs.ahead.run_ahead.Goals as goal

pub ahead_of-requires : goal.ahead_of-requires
ahead_of-requires c = record { before = let inside = before-end _ _ _ (ran-first _ _) c.requires.sound in rw c.as_slice-operations.ensures.value (omega (arith, inside)) }

pub returns-in_default : goal.returns-in_default
returns-in_default c = record { stops = ran-first _ _ }

pub loop-x-init : goal.loop-x-init
loop-x-init c =
    record {
      ran = subst (λ (n : ℕ). Ran c.args.around.bound
          (loop_at (world_at c.args.around c.args.state.now c.args.memory.now) c.args.cells.now c.args.callers.now c.args.position.now)
          (loop_at (world_at c.args.around c.args.state.now c.args.memory.now) c.args.cells.now c.args.callers.now
          (position_ahead n (length c.as_slice-operations.result.now) c.in-Some.start))) c.requires.sound.1.number
          (ran-at _ _ _ _ _ _ _ (sym c.in-Some.ensures.some) (ran-first _ _));
      small = c.in-Some.ensures.small;
    }

pub fetch-requires : goal.fetch-requires
fetch-requires c = record { code = c.as_slice-operations.ensures.value; sound = runs-there _ _ _ c.loop-x.invariant.ran c.requires.sound }

pub loop-x-preserved-in-LocalGet : goal.loop-x-preserved-in-LocalGet
loop-x-preserved-in-LocalGet c = pays-ahead _ _ _ _ _ _ _ c.loop-x.invariant c.fetch.ensures.inside _ _ c.fetch.ensures.executes c.in-LocalGet.is _ _ _ _ _ (λ g leads. leads.0)

pub loop-x-preserved-in-LocalSet : goal.loop-x-preserved-in-LocalSet
loop-x-preserved-in-LocalSet c = pays-ahead _ _ _ _ _ _ _ c.loop-x.invariant c.fetch.ensures.inside _ _ c.fetch.ensures.executes c.in-LocalSet.is _ _ _ _ _ (λ g leads. leads.0)

pub loop-x-preserved-in-LocalTee : goal.loop-x-preserved-in-LocalTee
loop-x-preserved-in-LocalTee c = pays-ahead _ _ _ _ _ _ _ c.loop-x.invariant c.fetch.ensures.inside _ _ c.fetch.ensures.executes c.in-LocalTee.is _ _ _ _ _ (λ g leads. leads.0)

pub loop-x-preserved-in-I32Const : goal.loop-x-preserved-in-I32Const
loop-x-preserved-in-I32Const c = pays-ahead _ _ _ _ _ _ _ c.loop-x.invariant c.fetch.ensures.inside _ _ c.fetch.ensures.executes c.in-I32Const.is _ _ _ _ _ (λ g leads. rw c.from.ensures leads.0)

pub loop-x-preserved-in-I32Add : goal.loop-x-preserved-in-I32Add
loop-x-preserved-in-I32Add c =
    let below = get_or c.loop-x.cells (c.loop-x.at.top - 1) 0 in
    let sum : (c.low.result + c.low-in-I32Add.result) % 2 ^ 32 ≡ (below + c.loop-x.at.operand) % 2 ^ 32 =
    rw (c.low.ensures, c.low-in-I32Add.ensures) (mod-add-mod below (2 ^ 32) (c.loop-x.at.operand % 2 ^ 32) ∙ add-mod-mod below c.loop-x.at.operand (2 ^ 32)) in
    pays-ahead _ _ _ _ _ _ _ c.loop-x.invariant c.fetch.ensures.inside _ _ c.fetch.ensures.executes c.in-I32Add.is _ _ _ _ _ (λ g leads. rw (c.from-in-I32Add.ensures, sum) leads.0)

pub loop-x-preserved-in-Enter : goal.loop-x-preserved-in-Enter
loop-x-preserved-in-Enter c = pays-ahead _ _ _ _ _ _ _ c.loop-x.invariant c.fetch.ensures.inside _ _ c.fetch.ensures.executes c.in-Enter.is _ _ _ _ _ (λ g leads. leads.0)

pub returns-then-at : goal.returns-then-at
returns-then-at c = record { stops = ran-here _ _ _ _ _ _ _ c.loop-x.invariant c.fetch.ensures.inside _ c.add_rest.ensures }

pub spare_at-requires-clause-there : goal.spare_at-requires-clause-there
spare_at-requires-clause-there c = let inside = before-end _ _ _
    (jumps-ahead _ _ _ _ _ _ _ c.loop-x.invariant c.fetch.ensures.inside _ _ c.fetch.ensures.executes c.in-If.is c.loop-x.cells
    c.entry-target.result.target (c.loop-x.at.top - 1) (get_or c.loop-x.cells (c.loop-x.at.top - 1) 0)
    (λ g leads. rw c.entry-target.ensures (leads.0 c.if-condition-eq0.true))) c.requires.sound in rw c.as_slice-operations.ensures.value (omega (arith, inside))

pub loop-x-preserved-then-condition-eq0 : goal.loop-x-preserved-then-condition-eq0
loop-x-preserved-then-condition-eq0 c = jumps-on _ _ _ _ _ _ _ c.loop-x.invariant c.fetch.ensures.inside _ _ c.spare_at.ensures
    (jumps-ahead _ _ _ _ _ _ _ c.loop-x.invariant c.fetch.ensures.inside _ _ c.fetch.ensures.executes c.in-If.is c.loop-x.cells
    c.entry-target.result.target (c.loop-x.at.top - 1) (get_or c.loop-x.cells (c.loop-x.at.top - 1) 0)
    (λ g leads. rw c.entry-target.ensures (leads.0 c.if-condition-eq0.true)))

pub loop-x-preserved-else-condition-eq0 : goal.loop-x-preserved-else-condition-eq0
loop-x-preserved-else-condition-eq0 c =
    pays-ahead _ _ _ _ _ _ _ c.loop-x.invariant c.fetch.ensures.inside _ _ c.fetch.ensures.executes c.in-If.is _ _ _ _ _ (λ g leads. leads.1 c.if-condition-eq0.false)

pub loop-x-preserved-then-condition-eq0-2 : goal.loop-x-preserved-then-condition-eq0-2
loop-x-preserved-then-condition-eq0-2 c = pays-ahead _ _ _ _ _ _ _ c.loop-x.invariant c.fetch.ensures.inside _ _ c.fetch.ensures.executes c.in-BrIf.is _
    _ _ _ _ (λ g leads. leads.0 c.if-condition-eq0-2.true)

pub returns-then-at-2 : goal.returns-then-at-2
returns-then-at-2 c = record { stops = ran-here _ _ _ _ _ _ _ c.loop-x.invariant c.fetch.ensures.inside _ c.add_rest-then-at-2.ensures }

pub ahead_at-at-requires-clause-there : goal.ahead_at-at-requires-clause-there
ahead_at-at-requires-clause-there c =
    let place = ap (λ (p : Position). p.place) c.branch-cells.ensures.landed in
    let inside = before-end _ _ _ (branches-ahead _ _ _ _ _ _ _ c.loop-x.invariant c.fetch.ensures.inside _ _ c.fetch.ensures.executes c.in-BrIf.is
    c.entry-e.result c.entry-e.ensures _ _ c.branch-cells.ensures.moved c.if-condition-eq0-2.false) c.requires.sound in
    rw c.as_slice-operations.ensures.value (omega (arith, place, inside))

pub ahead_at-at-requires-clause-one : goal.ahead_at-at-requires-clause-one
ahead_at-at-requires-clause-one c = let fuel = ap (λ (p : Position). p.fuel) c.branch-cells.ensures.landed in omega (arith, fuel)

pub loop-x-smaller-else-condition-eq0-2 : goal.loop-x-smaller-else-condition-eq0-2
loop-x-smaller-else-condition-eq0-2 c = lands-smaller _ _ _ _ _ _ _ c.loop-x.invariant c.fetch.ensures.inside c.branch-cells.new.cells _ _ c.branch-cells.ensures.landed refl _ c.ahead_at-at.ensures

pub loop-x-preserved-else-condition-eq0-2 : goal.loop-x-preserved-else-condition-eq0-2
loop-x-preserved-else-condition-eq0-2 c = lands-on _ _ _ _ _ _ _ c.loop-x.invariant c.fetch.ensures.inside c.branch-cells.new.cells _ _
    c.branch-cells.ensures.landed refl _ c.ahead_at-at.ensures refl
    (branches-ahead _ _ _ _ _ _ _ c.loop-x.invariant c.fetch.ensures.inside _ _ c.fetch.ensures.executes c.in-BrIf.is c.entry-e.result c.entry-e.ensures
    _ _ c.branch-cells.ensures.moved c.if-condition-eq0-2.false)

pub call-requires-clause-sound : goal.call-requires-clause-sound
call-requires-clause-sound c = lent _ _ _ _ _ _ _ c.loop-x.invariant c.fetch.ensures.inside c.requires.sound

pub call-requires-clause-executes : goal.call-requires-clause-executes
call-requires-clause-executes c = rw c.in-Call.is at c.fetch.ensures.executes

pub returns-then-at-3 : goal.returns-then-at-3
returns-then-at-3 c = record { stops = ran-here _ _ _ _ _ _ _ c.loop-x.invariant c.fetch.ensures.inside _ c.add_rest-then-at-3.ensures }

pub ahead_at-at-requires-in-Goes-clause-there : goal.ahead_at-at-requires-in-Goes-clause-there
ahead_at-at-requires-in-Goes-clause-there c = goes-within _ _ _ _ _ _ _ c.loop-x.invariant c.fetch.ensures.inside c.requires.sound c.call.new.cells
    c.call.new.callers c.call.new.at (c.in-Goes.ensures) (rw c.as_slice-operations.ensures.value)

pub ahead_at-at-requires-in-Goes-clause-one : goal.ahead_at-at-requires-in-Goes-clause-one
ahead_at-at-requires-in-Goes-clause-one c = goes-left _ _ _ _ _ _ _ c.loop-x.invariant c.fetch.ensures.inside c.requires.sound c.call.new.cells c.call.new.callers c.call.new.at (c.in-Goes.ensures)

pub loop-x-smaller-in-Goes : goal.loop-x-smaller-in-Goes
loop-x-smaller-in-Goes c = goes-smaller _ _ _ _ _ _ _ c.loop-x.invariant c.fetch.ensures.inside c.requires.sound c.call.new.cells c.call.new.callers
    c.call.new.at (c.in-Goes.ensures) _ c.ahead_at-at-in-Goes.ensures

pub loop-x-preserved-in-Goes : goal.loop-x-preserved-in-Goes
loop-x-preserved-in-Goes c = goes-ahead _ _ _ _ _ _ _ c.loop-x.invariant c.fetch.ensures.inside c.requires.sound c.call.new.cells c.call.new.callers
    c.call.new.at (c.in-Goes.ensures) _ c.ahead_at-at-in-Goes.ensures

pub add_rest-requires-in-Switches-clause-one : goal.add_rest-requires-in-Switches-clause-one
add_rest-requires-in-Switches-clause-one c = stops-left _ _ _ _ _ _ _ c.loop-x.invariant c.fetch.ensures.inside c.requires.sound c.call.new.cells
    c.call.new.callers c.call.new.at (omega arith) (world_at c.args.around c.loop-x.state c.loop-x.memory) stop.Switches
    (record { from = (c.in-Switches.ensures).0; falls = (c.in-Switches.ensures).1 })

pub returns-in-Switches : goal.returns-in-Switches
returns-in-Switches c = record {
  stops = stops-ahead _ _ _ _ _ _ _ c.loop-x.invariant c.fetch.ensures.inside c.requires.sound c.call.new.cells
      c.call.new.callers c.call.new.at _ stop.Switches (record { from = (c.in-Switches.ensures).0; falls = (c.in-Switches.ensures).1 }) _
      c.add_rest-in-Switches.ensures _ refl;
}

pub add_rest-requires-in-Stops-clause-one : goal.add_rest-requires-in-Stops-clause-one
add_rest-requires-in-Stops-clause-one c = stops-left _ _ _ _ _ _ _ c.loop-x.invariant c.fetch.ensures.inside c.requires.sound c.call.new.cells
    c.call.new.callers c.call.new.at (omega arith) _ _ (c.in-Stops.ensures)

pub returns-in-Stops : goal.returns-in-Stops
returns-in-Stops c = record {
  stops = stops-ahead _ _ _ _ _ _ _ c.loop-x.invariant c.fetch.ensures.inside c.requires.sound c.call.new.cells
      c.call.new.callers c.call.new.at _ _ (c.in-Stops.ensures) _ c.add_rest-in-Stops.ensures _ c.with_more.ensures;
}

pub leave-requires-clause-leaves : goal.leave-requires-clause-leaves
leave-requires-clause-leaves c = (1, leaves-ahead _ _ _ _ _ _ _ c.loop-x.invariant c.fetch.ensures.inside c.requires.sound _ _ c.fetch.ensures.executes c.in-Leave.is)

pub returns-then-at-4 : goal.returns-then-at-4
returns-then-at-4 c = record { stops = ran-here _ _ _ _ _ _ _ c.loop-x.invariant c.fetch.ensures.inside _ c.add_rest-then-at-4.ensures }

pub ahead_at-at-requires-in-Goes-leave-clause-there : goal.ahead_at-at-requires-in-Goes-leave-clause-there
ahead_at-at-requires-in-Goes-leave-clause-there c = goes-within _ _ _ _ _ _ _ c.loop-x.invariant c.fetch.ensures.inside c.requires.sound
    c.leave.new.cells c.leave.new.callers c.leave.new.at
    (c.in-Goes-leave.ensures 1 (leaves-ahead _ _ _ _ _ _ _ c.loop-x.invariant c.fetch.ensures.inside c.requires.sound _ _ c.fetch.ensures.executes
    c.in-Leave.is)) (rw c.as_slice-operations.ensures.value)

pub ahead_at-at-requires-in-Goes-leave-clause-one : goal.ahead_at-at-requires-in-Goes-leave-clause-one
ahead_at-at-requires-in-Goes-leave-clause-one c = goes-left _ _ _ _ _ _ _ c.loop-x.invariant c.fetch.ensures.inside c.requires.sound c.leave.new.cells
    c.leave.new.callers c.leave.new.at
    (c.in-Goes-leave.ensures 1 (leaves-ahead _ _ _ _ _ _ _ c.loop-x.invariant c.fetch.ensures.inside c.requires.sound _ _ c.fetch.ensures.executes c.in-Leave.is))

pub loop-x-smaller-in-Goes-leave : goal.loop-x-smaller-in-Goes-leave
loop-x-smaller-in-Goes-leave c = goes-smaller _ _ _ _ _ _ _ c.loop-x.invariant c.fetch.ensures.inside c.requires.sound c.leave.new.cells
    c.leave.new.callers c.leave.new.at
    (c.in-Goes-leave.ensures 1 (leaves-ahead _ _ _ _ _ _ _ c.loop-x.invariant c.fetch.ensures.inside c.requires.sound _ _ c.fetch.ensures.executes
    c.in-Leave.is)) _ c.ahead_at-at-in-Goes-leave.ensures

pub loop-x-preserved-in-Goes-leave : goal.loop-x-preserved-in-Goes-leave
loop-x-preserved-in-Goes-leave c = goes-ahead _ _ _ _ _ _ _ c.loop-x.invariant c.fetch.ensures.inside c.requires.sound c.leave.new.cells
    c.leave.new.callers c.leave.new.at
    (c.in-Goes-leave.ensures 1 (leaves-ahead _ _ _ _ _ _ _ c.loop-x.invariant c.fetch.ensures.inside c.requires.sound _ _ c.fetch.ensures.executes
    c.in-Leave.is)) _ c.ahead_at-at-in-Goes-leave.ensures

pub add_rest-requires-in-Switches-leave-clause-one : goal.add_rest-requires-in-Switches-leave-clause-one
add_rest-requires-in-Switches-leave-clause-one c = stops-left _ _ _ _ _ _ _ c.loop-x.invariant c.fetch.ensures.inside c.requires.sound
    c.leave.new.cells c.leave.new.callers c.leave.new.at (omega arith) (world_at c.args.around c.loop-x.state c.loop-x.memory) stop.Switches
    (record {
      from = (c.in-Switches-leave.ensures 1
          (leaves-ahead _ _ _ _ _ _ _ c.loop-x.invariant c.fetch.ensures.inside c.requires.sound _ _ c.fetch.ensures.executes c.in-Leave.is)).0;
      falls = (c.in-Switches-leave.ensures 1
          (leaves-ahead _ _ _ _ _ _ _ c.loop-x.invariant c.fetch.ensures.inside c.requires.sound _ _ c.fetch.ensures.executes c.in-Leave.is)).1;
    })

pub returns-in-Switches-leave : goal.returns-in-Switches-leave
returns-in-Switches-leave c = record {
  stops = stops-ahead _ _ _ _ _ _ _ c.loop-x.invariant c.fetch.ensures.inside c.requires.sound c.leave.new.cells
      c.leave.new.callers c.leave.new.at _ stop.Switches
      (record {
        from = (c.in-Switches-leave.ensures 1
            (leaves-ahead _ _ _ _ _ _ _ c.loop-x.invariant c.fetch.ensures.inside c.requires.sound _ _ c.fetch.ensures.executes c.in-Leave.is)).0;
        falls = (c.in-Switches-leave.ensures 1
            (leaves-ahead _ _ _ _ _ _ _ c.loop-x.invariant c.fetch.ensures.inside c.requires.sound _ _ c.fetch.ensures.executes c.in-Leave.is)).1;
      }) _
      c.add_rest-in-Switches-leave.ensures _ refl;
}

pub add_rest-requires-in-Stops-leave-clause-one : goal.add_rest-requires-in-Stops-leave-clause-one
add_rest-requires-in-Stops-leave-clause-one c = stops-left _ _ _ _ _ _ _ c.loop-x.invariant c.fetch.ensures.inside c.requires.sound c.leave.new.cells
    c.leave.new.callers c.leave.new.at (omega arith) _ _
    (c.in-Stops-leave.ensures 1 (leaves-ahead _ _ _ _ _ _ _ c.loop-x.invariant c.fetch.ensures.inside c.requires.sound _ _ c.fetch.ensures.executes c.in-Leave.is))

pub returns-in-Stops-leave : goal.returns-in-Stops-leave
returns-in-Stops-leave c = record {
  stops = stops-ahead _ _ _ _ _ _ _ c.loop-x.invariant c.fetch.ensures.inside c.requires.sound c.leave.new.cells
      c.leave.new.callers c.leave.new.at _ _
      (c.in-Stops-leave.ensures 1 (leaves-ahead _ _ _ _ _ _ _ c.loop-x.invariant c.fetch.ensures.inside c.requires.sound _ _ c.fetch.ensures.executes
      c.in-Leave.is)) _ c.add_rest-in-Stops-leave.ensures _ c.with_more-in-Stops-leave.ensures;
}

pub loop-x-preserved-in-I32Load : goal.loop-x-preserved-in-I32Load
loop-x-preserved-in-I32Load c = pays-ahead _ _ _ _ _ _ _ c.loop-x.invariant c.fetch.ensures.inside _ _ c.fetch.ensures.executes c.in-I32Load.is _ _ _ _ _
    (λ g leads. rw c.in-Ok.is at (leads.0 c.load_i32.result (rw c.from-in-I32Load.ensures at c.load_i32.ensures)))

pub loop-x-preserved-in-Binary : goal.loop-x-preserved-in-Binary
loop-x-preserved-in-Binary c = pays-ahead _ _ _ _ _ _ _ c.loop-x.invariant c.fetch.ensures.inside _ _ c.fetch.ensures.executes c.in-Binary.is _ _ _ _ _
    (λ g leads. rw c.in-Ok-compute_binary.is at (leads.0 c.compute_binary.result c.compute_binary.ensures))

pub loop-x-preserved-in-Load : goal.loop-x-preserved-in-Load
loop-x-preserved-in-Load c = pays-ahead _ _ _ _ _ _ _ c.loop-x.invariant c.fetch.ensures.inside _ _ c.fetch.ensures.executes c.in-Load.is _ _ _ _ _
    (λ g leads. rw c.in-Ok-load_cell.is at (leads.0 c.load_cell.result (rw c.from-in-Load.ensures at c.load_cell.ensures)))

pub loop-x-preserved-in-Store : goal.loop-x-preserved-in-Store
loop-x-preserved-in-Store c = pays-ahead _ _ _ _ _ _ _ c.loop-x.invariant c.fetch.ensures.inside _ _ c.fetch.ensures.executes c.in-Store.is _ _ _ _ _
    (λ g leads. leads.0 (Ok c.store_cell.new.bytes) (rw (c.from-in-Store.ensures, c.in-Ok-store_cell.is) at c.store_cell.ensures))

pub returns-in-Err : goal.returns-in-Err
returns-in-Err c = record {
  stops = fails-ahead _ _ _ _ _ _ _ c.loop-x.invariant c.fetch.ensures.inside _ _ c.fetch.ensures.executes c.in-I32Load.is
      c.in-Err.trap (λ g leads. rw c.in-Err.is at (leads.0 c.load_i32.result (rw c.from-in-I32Load.ensures at c.load_i32.ensures))) _
      (rw c.paid.ensures at c.add_rest-in-Err.ensures);
}

pub returns-in-Err-compute_binary : goal.returns-in-Err-compute_binary
returns-in-Err-compute_binary c =
    record {
      stops = fails-ahead _ _ _ _ _ _ _ c.loop-x.invariant c.fetch.ensures.inside _ _ c.fetch.ensures.executes c.in-Binary.is
          c.in-Err-compute_binary.trap (λ g leads. rw c.in-Err-compute_binary.is at (leads.0 c.compute_binary.result c.compute_binary.ensures)) _
          (rw c.paid-in-Err-compute_binary.ensures at c.add_rest-in-Err-compute_binary.ensures);
    }

pub returns-in-Err-load_cell : goal.returns-in-Err-load_cell
returns-in-Err-load_cell c = record {
  stops = fails-ahead _ _ _ _ _ _ _ c.loop-x.invariant c.fetch.ensures.inside _ _ c.fetch.ensures.executes
      c.in-Load.is c.in-Err-load_cell.trap
      (λ g leads. rw c.in-Err-load_cell.is at (leads.0 c.load_cell.result (rw c.from-in-Load.ensures at c.load_cell.ensures))) _
      (rw c.paid-in-Err-load_cell.ensures at c.add_rest-in-Err-load_cell.ensures);
}

pub returns-in-Err-store_cell : goal.returns-in-Err-store_cell
returns-in-Err-store_cell c =
    let (wanted, kept) = rw c.in-Err-store_cell.is at c.store_cell.ensures in
    record {
      stops = rw kept (fails-ahead _ _ _ _ _ _ _ c.loop-x.invariant c.fetch.ensures.inside _ _ c.fetch.ensures.executes c.in-Store.is
          c.in-Err-store_cell.trap (λ g leads. leads.0 (Err c.in-Err-store_cell.trap) (rw c.from-in-Store.ensures at wanted)) _
          (rw c.paid-in-Err-store_cell.ensures at c.add_rest-in-Err-store_cell.ensures));
    }

pub transfer-requires-clause-sound : goal.transfer-requires-clause-sound
transfer-requires-clause-sound c = lent _ _ _ _ _ _ _ c.loop-x.invariant c.fetch.ensures.inside c.requires.sound

pub returns-then-at-5 : goal.returns-then-at-5
returns-then-at-5 c = record { stops = ran-here _ _ _ _ _ _ _ c.loop-x.invariant c.fetch.ensures.inside _ c.add_rest-then-at-5.ensures }

pub ahead_at-at-requires-in-Goes-transfer-clause-there : goal.ahead_at-at-requires-in-Goes-transfer-clause-there
ahead_at-at-requires-in-Goes-transfer-clause-there c = goes-within _ _ _ _ _ _ _ c.loop-x.invariant c.fetch.ensures.inside c.requires.sound
    c.transfer.new.cells c.transfer.new.callers c.transfer.new.at (c.in-Goes-transfer.ensures) (rw c.as_slice-operations.ensures.value)

pub ahead_at-at-requires-in-Goes-transfer-clause-one : goal.ahead_at-at-requires-in-Goes-transfer-clause-one
ahead_at-at-requires-in-Goes-transfer-clause-one c = goes-left _ _ _ _ _ _ _ c.loop-x.invariant c.fetch.ensures.inside c.requires.sound
    c.transfer.new.cells c.transfer.new.callers c.transfer.new.at (c.in-Goes-transfer.ensures)

pub loop-x-smaller-in-Goes-transfer : goal.loop-x-smaller-in-Goes-transfer
loop-x-smaller-in-Goes-transfer c = goes-smaller _ _ _ _ _ _ _ c.loop-x.invariant c.fetch.ensures.inside c.requires.sound c.transfer.new.cells
    c.transfer.new.callers c.transfer.new.at (c.in-Goes-transfer.ensures) _ c.ahead_at-at-in-Goes-transfer.ensures

pub loop-x-preserved-in-Goes-transfer : goal.loop-x-preserved-in-Goes-transfer
loop-x-preserved-in-Goes-transfer c = goes-ahead _ _ _ _ _ _ _ c.loop-x.invariant c.fetch.ensures.inside c.requires.sound c.transfer.new.cells
    c.transfer.new.callers c.transfer.new.at (c.in-Goes-transfer.ensures) _ c.ahead_at-at-in-Goes-transfer.ensures

pub add_rest-requires-in-Switches-transfer-clause-one : goal.add_rest-requires-in-Switches-transfer-clause-one
add_rest-requires-in-Switches-transfer-clause-one c = stops-left _ _ _ _ _ _ _ c.loop-x.invariant c.fetch.ensures.inside c.requires.sound
    c.transfer.new.cells c.transfer.new.callers c.transfer.new.at (omega arith) (world_at c.args.around c.loop-x.state c.loop-x.memory) stop.Switches
    (record { from = (c.in-Switches-transfer.ensures).0; falls = (c.in-Switches-transfer.ensures).1 })

pub returns-in-Switches-transfer : goal.returns-in-Switches-transfer
returns-in-Switches-transfer c =
    record {
      stops = stops-ahead _ _ _ _ _ _ _ c.loop-x.invariant c.fetch.ensures.inside c.requires.sound c.transfer.new.cells c.transfer.new.callers
          c.transfer.new.at _ stop.Switches (record { from = (c.in-Switches-transfer.ensures).0; falls = (c.in-Switches-transfer.ensures).1 }) _
          c.add_rest-in-Switches-transfer.ensures _ refl;
    }

pub add_rest-requires-in-Stops-transfer-clause-one : goal.add_rest-requires-in-Stops-transfer-clause-one
add_rest-requires-in-Stops-transfer-clause-one c = stops-left _ _ _ _ _ _ _ c.loop-x.invariant c.fetch.ensures.inside c.requires.sound
    c.transfer.new.cells c.transfer.new.callers c.transfer.new.at (omega arith) _ _ (c.in-Stops-transfer.ensures)

pub returns-in-Stops-transfer : goal.returns-in-Stops-transfer
returns-in-Stops-transfer c = record {
  stops = stops-ahead _ _ _ _ _ _ _ c.loop-x.invariant c.fetch.ensures.inside c.requires.sound
      c.transfer.new.cells c.transfer.new.callers c.transfer.new.at _ _ (c.in-Stops-transfer.ensures) _ c.add_rest-in-Stops-transfer.ensures _
      c.with_more-in-Stops-transfer.ensures;
}

pub loop-x-preserved : goal.loop-x-preserved
loop-x-preserved c = steps-ahead _ _ _ _ _ _ _ c.loop-x.invariant c.fetch.ensures.inside c.requires.sound c.step_other.new.state c.loop-x.memory _
    c.in-Some-step_other.to (c.in-Some-step_other.ensures c.loop-x.memory (rw c.in-Other.is at c.fetch.ensures.fits)
    (rw c.in-Other.is at c.fetch.ensures.executes))

pub returns-in-None : goal.returns-in-None
returns-in-None c = record {
  stops = stops-before-ahead _ _ _ _ _ _ _ c.loop-x.invariant c.fetch.ensures.inside c.requires.sound _ _ _
      (c.in-None.ensures c.loop-x.memory (rw c.in-Other.is at c.fetch.ensures.fits) (rw c.in-Other.is at c.fetch.ensures.executes)) _
      c.add_rest-in-None.ensures _ c.with_more-in-None.ensures;
}
