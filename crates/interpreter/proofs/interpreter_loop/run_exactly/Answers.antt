use Rattle.std.proofs.Common.{◌≡◌, ◌+◌, ◌-◌, ◌%◌, ◌^◌, ℕ, get_or, subst, ◌∙◌, arith}
use Rattle.std.proofs.Math.Nat.{add-mod-mod, mod-add-mod}
use Rattle.std.specs.Prelude.{Ok, Err}
use Rattle.interpreter.specs.Looping.{loop_at, world_at}
use Rattle.interpreter.specs.Whole.{Ran}
use Rattle.interpreter.specs.declared.machine.Stop.TheVariants as stop
use Rattle.interpreter.proofs.Lifting.{ran-first, ran-then}
use Rattle.interpreter.proofs.Looping.{branches-op, fails-op, lacks-op, leaves-op, pays-op, ran-at, runs-there, some-there, steps-on, stops-before, stops-across}
use Rattle.interpreter.proofs.interpreter_loop.run_exactly.Goals as goal

pub loop-x-init : goal.loop-x-init
loop-x-init c =
    let at = λ (n : ℕ). loop_at (world_at c.args.around c.args.state.now c.args.memory.now) c.args.cells.now c.args.callers.now (record c.args.position.now { instance = n }) in
    subst (λ (n : ℕ). Ran c.args.around.bound (at c.args.position.now.instance) (at n)) c.requires.sound.1.number (ran-first _ _)

pub fetch-requires : goal.fetch-requires
fetch-requires c = record { code = c.as_slice-operations.ensures.value; sound = runs-there _ _ _ c.loop-x.invariant c.requires.sound }

pub loop-x-preserved-in-LocalGet : goal.loop-x-preserved-in-LocalGet
loop-x-preserved-in-LocalGet c = pays-op _ _ _ c.loop-x.invariant _ _ c.fetch.ensures.executes c.in-LocalGet.is _ _ _ _ _ _ (omega arith) (λ g leads. leads.0)

pub loop-x-preserved-in-LocalSet : goal.loop-x-preserved-in-LocalSet
loop-x-preserved-in-LocalSet c = pays-op _ _ _ c.loop-x.invariant _ _ c.fetch.ensures.executes c.in-LocalSet.is _ _ _ _ _ _ (omega arith) (λ g leads. leads.0)

pub loop-x-preserved-in-LocalTee : goal.loop-x-preserved-in-LocalTee
loop-x-preserved-in-LocalTee c = pays-op _ _ _ c.loop-x.invariant _ _ c.fetch.ensures.executes c.in-LocalTee.is _ _ _ _ _ _ (omega arith) (λ g leads. leads.0)

pub loop-x-preserved-in-I32Const : goal.loop-x-preserved-in-I32Const
loop-x-preserved-in-I32Const c = pays-op _ _ _ c.loop-x.invariant _ _ c.fetch.ensures.executes c.in-I32Const.is _ _ _ _ _ _ (omega arith) (λ g leads. rw c.from.ensures leads.0)

pub loop-x-preserved-in-I32Add : goal.loop-x-preserved-in-I32Add
loop-x-preserved-in-I32Add c =
    let below = get_or c.loop-x.cells (c.loop-x.at.top - 1) 0 in
    let sum : (c.low.result + c.low-in-I32Add.result) % 2 ^ 32 ≡ (below + c.loop-x.at.operand) % 2 ^ 32 =
    rw (c.low.ensures, c.low-in-I32Add.ensures) (mod-add-mod below (2 ^ 32) (c.loop-x.at.operand % 2 ^ 32) ∙ add-mod-mod below c.loop-x.at.operand (2 ^ 32)) in
    pays-op _ _ _ c.loop-x.invariant _ _ c.fetch.ensures.executes c.in-I32Add.is _ _ _ _ _ _ (omega arith) (λ g leads. rw (c.from-in-I32Add.ensures, sum) leads.0)

pub loop-x-preserved-in-Enter : goal.loop-x-preserved-in-Enter
loop-x-preserved-in-Enter c = pays-op _ _ _ c.loop-x.invariant _ _ c.fetch.ensures.executes c.in-Enter.is _ _ _ _ _ _ (omega arith) (λ g leads. leads.0)

pub loop-x-preserved-then-condition-eq0 : goal.loop-x-preserved-then-condition-eq0
loop-x-preserved-then-condition-eq0 c = pays-op _ _ _ c.loop-x.invariant _ _ c.fetch.ensures.executes c.in-If.is _ _ _ _ _ _ (omega arith)
    (λ g leads. rw c.entry.ensures (leads.0 c.if-condition-eq0.true))

pub loop-x-preserved-else-condition-eq0 : goal.loop-x-preserved-else-condition-eq0
loop-x-preserved-else-condition-eq0 c = pays-op _ _ _ c.loop-x.invariant _ _ c.fetch.ensures.executes c.in-If.is _ _ _ _ _ _ (omega arith) (λ g leads. leads.1 c.if-condition-eq0.false)

pub loop-x-preserved-then-condition-eq0-2 : goal.loop-x-preserved-then-condition-eq0-2
loop-x-preserved-then-condition-eq0-2 c = pays-op _ _ _ c.loop-x.invariant _ _ c.fetch.ensures.executes c.in-BrIf.is _ _ _ _ _ _ (omega arith) (λ g leads. leads.0 c.if-condition-eq0-2.true)

pub loop-x-preserved-else-condition-eq0-2 : goal.loop-x-preserved-else-condition-eq0-2
loop-x-preserved-else-condition-eq0-2 c =
    ran-at _ _ _ _ _ _ _ c.branch-cells.ensures.landed
    (branches-op _ _ _ c.loop-x.invariant _ _ c.fetch.ensures.executes c.in-BrIf.is c.entry-e.result c.entry-e.ensures _ _ c.branch-cells.ensures.moved (omega arith) c.if-condition-eq0-2.false)

pub loop-x-preserved-in-I32Load : goal.loop-x-preserved-in-I32Load
loop-x-preserved-in-I32Load c = pays-op _ _ _ c.loop-x.invariant _ _ c.fetch.ensures.executes c.in-I32Load.is _ _ _ _ _ _ (omega arith)
    (λ g leads. rw c.in-Ok.is at (leads.0 c.load_i32.result (rw c.from-in-I32Load.ensures at c.load_i32.ensures)))

pub loop-x-preserved-in-Binary : goal.loop-x-preserved-in-Binary
loop-x-preserved-in-Binary c = pays-op _ _ _ c.loop-x.invariant _ _ c.fetch.ensures.executes c.in-Binary.is _ _ _ _ _ _ (omega arith)
    (λ g leads. rw c.in-Ok-compute_binary.is at (leads.0 c.compute_binary.result c.compute_binary.ensures))

pub loop-x-preserved-in-Load : goal.loop-x-preserved-in-Load
loop-x-preserved-in-Load c = pays-op _ _ _ c.loop-x.invariant _ _ c.fetch.ensures.executes c.in-Load.is _ _ _ _ _ _ (omega arith)
    (λ g leads. rw c.in-Ok-load_cell.is at (leads.0 c.load_cell.result (rw c.from-in-Load.ensures at c.load_cell.ensures)))

pub loop-x-preserved-in-Store : goal.loop-x-preserved-in-Store
loop-x-preserved-in-Store c = pays-op _ _ _ c.loop-x.invariant _ _ c.fetch.ensures.executes c.in-Store.is _ _ _ _ _ _ (omega arith)
    (λ g leads. leads.0 (Ok c.store_cell.new.bytes) (rw (c.from-in-Store.ensures, c.in-Ok-store_cell.is) at c.store_cell.ensures))

pub transfer-requires-clause-sound : goal.transfer-requires-clause-sound
transfer-requires-clause-sound c = some-there _ _ _ c.loop-x.invariant c.requires.sound

pub loop-x-preserved : goal.loop-x-preserved
loop-x-preserved c =
    let stepped = c.in-Some.ensures c.loop-x.memory (rw c.in-Other.is at c.fetch.ensures.fits) (rw c.in-Other.is at c.fetch.ensures.executes) in
    steps-on _ _ (world_at c.args.around c.loop-x.state c.loop-x.memory) c.loop-x.cells c.loop-x.callers c.loop-x.at c.loop-x.invariant c.step_other.new.state c.loop-x.memory _ c.in-Some.to stepped

pub returns-then-at-eq0 : goal.returns-then-at-eq0
returns-then-at-eq0 c = record { stops = lacks-op _ _ _ c.loop-x.invariant _ _ c.fetch.ensures.executes c.in-LocalGet.is (omega arith) (λ g leads. leads.1) }

pub returns-then-at-eq0-2 : goal.returns-then-at-eq0-2
returns-then-at-eq0-2 c = record { stops = lacks-op _ _ _ c.loop-x.invariant _ _ c.fetch.ensures.executes c.in-LocalSet.is (omega arith) (λ g leads. leads.1) }

pub returns-then-at-eq0-3 : goal.returns-then-at-eq0-3
returns-then-at-eq0-3 c = record { stops = lacks-op _ _ _ c.loop-x.invariant _ _ c.fetch.ensures.executes c.in-LocalTee.is (omega arith) (λ g leads. leads.1) }

pub returns-then-at-eq0-4 : goal.returns-then-at-eq0-4
returns-then-at-eq0-4 c = record { stops = lacks-op _ _ _ c.loop-x.invariant _ _ c.fetch.ensures.executes c.in-I32Const.is (omega arith) (λ g leads. leads.1) }

pub returns-then-at-eq0-5 : goal.returns-then-at-eq0-5
returns-then-at-eq0-5 c = record { stops = lacks-op _ _ _ c.loop-x.invariant _ _ c.fetch.ensures.executes c.in-I32Add.is (omega arith) (λ g leads. leads.1) }

pub returns-then-at-eq0-6 : goal.returns-then-at-eq0-6
returns-then-at-eq0-6 c = record { stops = lacks-op _ _ _ c.loop-x.invariant _ _ c.fetch.ensures.executes c.in-Enter.is (omega arith) (λ g leads. leads.1) }

pub returns-then-at-eq0-7 : goal.returns-then-at-eq0-7
returns-then-at-eq0-7 c = record { stops = lacks-op _ _ _ c.loop-x.invariant _ _ c.fetch.ensures.executes c.in-If.is (omega arith) (λ g leads. leads.2) }

pub returns-then-at-eq0-8 : goal.returns-then-at-eq0-8
returns-then-at-eq0-8 c = record { stops = lacks-op _ _ _ c.loop-x.invariant _ _ c.fetch.ensures.executes c.in-BrIf.is (omega arith) (λ g leads. leads.2) }

pub returns-then-at-eq0-9 : goal.returns-then-at-eq0-9
returns-then-at-eq0-9 c = record { stops = lacks-op _ _ _ c.loop-x.invariant _ _ c.fetch.ensures.executes c.in-I32Load.is (omega arith) (λ g leads. leads.1) }

pub returns-then-at-eq0-10 : goal.returns-then-at-eq0-10
returns-then-at-eq0-10 c = record { stops = lacks-op _ _ _ c.loop-x.invariant _ _ c.fetch.ensures.executes c.in-Binary.is (omega arith) (λ g leads. leads.1) }

pub returns-then-at-eq0-11 : goal.returns-then-at-eq0-11
returns-then-at-eq0-11 c = record { stops = lacks-op _ _ _ c.loop-x.invariant _ _ c.fetch.ensures.executes c.in-Load.is (omega arith) (λ g leads. leads.1) }

pub returns-then-at-eq0-12 : goal.returns-then-at-eq0-12
returns-then-at-eq0-12 c = record { stops = lacks-op _ _ _ c.loop-x.invariant _ _ c.fetch.ensures.executes c.in-Store.is (omega arith) (λ g leads. leads.1) }

pub returns-in-Err : goal.returns-in-Err
returns-in-Err c = record {
  stops = fails-op _ _ _ c.loop-x.invariant _ _ c.fetch.ensures.executes c.in-I32Load.is c.in-Err.trap (omega arith)
      (λ g leads. rw c.in-Err.is at (leads.0 c.load_i32.result (rw c.from-in-I32Load.ensures at c.load_i32.ensures)));
}

pub returns-in-Err-compute_binary : goal.returns-in-Err-compute_binary
returns-in-Err-compute_binary c =
    record {
      stops = fails-op _ _ _ c.loop-x.invariant _ _ c.fetch.ensures.executes c.in-Binary.is c.in-Err-compute_binary.trap (omega arith)
          (λ g leads. rw c.in-Err-compute_binary.is at (leads.0 c.compute_binary.result c.compute_binary.ensures));
    }

pub returns-in-Err-load_cell : goal.returns-in-Err-load_cell
returns-in-Err-load_cell c = record {
  stops = fails-op _ _ _ c.loop-x.invariant _ _ c.fetch.ensures.executes c.in-Load.is c.in-Err-load_cell.trap
      (omega arith) (λ g leads. rw c.in-Err-load_cell.is at (leads.0 c.load_cell.result (rw c.from-in-Load.ensures at c.load_cell.ensures)));
}

pub returns-in-Err-store_cell : goal.returns-in-Err-store_cell
returns-in-Err-store_cell c =
    let (wanted, kept) = rw c.in-Err-store_cell.is at c.store_cell.ensures in
    record {
      stops = rw kept (fails-op _ _ _ c.loop-x.invariant _ _ c.fetch.ensures.executes c.in-Store.is c.in-Err-store_cell.trap (omega arith)
          (λ g leads. leads.0 (Err c.in-Err-store_cell.trap) (rw c.from-in-Store.ensures at wanted)));
    }

pub returns-in-None : goal.returns-in-None
returns-in-None c = record {
  stops = stops-before _ _ (world_at c.args.around c.loop-x.state c.loop-x.memory) c.loop-x.cells c.loop-x.callers c.loop-x.at c.loop-x.invariant c.requires.sound _ _ _
      (c.in-None.ensures c.loop-x.memory (rw c.in-Other.is at c.fetch.ensures.fits) (rw c.in-Other.is at c.fetch.ensures.executes));
}

pub call-requires-clause-sound : goal.call-requires-clause-sound
call-requires-clause-sound c = some-there _ _ _ c.loop-x.invariant c.requires.sound

pub call-requires-clause-executes : goal.call-requires-clause-executes
call-requires-clause-executes c = rw c.in-Call.is at c.fetch.ensures.executes

pub leave-requires-clause-leaves : goal.leave-requires-clause-leaves
leave-requires-clause-leaves c = (c.loop-x.at.fuel, leaves-op _ _ _ _ _ _ c.loop-x.invariant c.requires.sound _ _ c.fetch.ensures.executes c.in-Leave.is)

pub loop-x-preserved-in-Goes : goal.loop-x-preserved-in-Goes
loop-x-preserved-in-Goes c = ran-then _ _ _ _ c.loop-x.invariant c.in-Goes.ensures.0

pub returns-in-Switches : goal.returns-in-Switches
returns-in-Switches c = record { stops = stops-across _ _ _ c.loop-x.invariant stop.Switches c.call.new.at _ _ (record { from = c.in-Switches.ensures.0; falls = c.in-Switches.ensures.1 }) }

pub returns-in-Stops : goal.returns-in-Stops
returns-in-Stops c = record { stops = stops-across _ _ _ c.loop-x.invariant _ c.call.new.at _ _ c.in-Stops.ensures }

pub loop-x-smaller-in-Goes-leave : goal.loop-x-smaller-in-Goes-leave
loop-x-smaller-in-Goes-leave c = (c.in-Goes-leave.ensures c.loop-x.at.fuel (leaves-op _ _ _ _ _ _ c.loop-x.invariant c.requires.sound _ _ c.fetch.ensures.executes c.in-Leave.is)).2

pub loop-x-preserved-in-Goes-leave : goal.loop-x-preserved-in-Goes-leave
loop-x-preserved-in-Goes-leave c = ran-then _ _ _ _ c.loop-x.invariant
    (c.in-Goes-leave.ensures c.loop-x.at.fuel (leaves-op _ _ _ _ _ _ c.loop-x.invariant c.requires.sound _ _ c.fetch.ensures.executes c.in-Leave.is)).0

pub loop-x-preserved-in-Goes-transfer : goal.loop-x-preserved-in-Goes-transfer
loop-x-preserved-in-Goes-transfer c = ran-then _ _ _ _ c.loop-x.invariant c.in-Goes-transfer.ensures.0

pub returns-in-Switches-leave : goal.returns-in-Switches-leave
returns-in-Switches-leave c =
    let (from, falls) = c.in-Switches-leave.ensures c.loop-x.at.fuel (leaves-op _ _ _ _ _ _ c.loop-x.invariant c.requires.sound _ _ c.fetch.ensures.executes c.in-Leave.is) in
    record { stops = stops-across _ _ _ c.loop-x.invariant stop.Switches c.leave.new.at _ _ (record { from = from; falls = falls }) }

pub returns-in-Stops-leave : goal.returns-in-Stops-leave
returns-in-Stops-leave c = record {
  stops = stops-across _ _ _ c.loop-x.invariant _ c.leave.new.at _ _
      (c.in-Stops-leave.ensures c.loop-x.at.fuel (leaves-op _ _ _ _ _ _ c.loop-x.invariant c.requires.sound _ _ c.fetch.ensures.executes c.in-Leave.is));
}

pub returns-in-Switches-transfer : goal.returns-in-Switches-transfer
returns-in-Switches-transfer c =
    record {
      stops = stops-across _ _ _ c.loop-x.invariant stop.Switches c.transfer.new.at _ _
          (record { from = c.in-Switches-transfer.ensures.0; falls = c.in-Switches-transfer.ensures.1 });
    }

pub returns-in-Stops-transfer : goal.returns-in-Stops-transfer
returns-in-Stops-transfer c = record { stops = stops-across _ _ _ c.loop-x.invariant _ c.transfer.new.at _ _ c.in-Stops-transfer.ensures }
