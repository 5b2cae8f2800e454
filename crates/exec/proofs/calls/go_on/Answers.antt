use Rattle.std.proofs.Common.{arith}
use Rattle.exec.specs.Resting.{at_rest}
use Rattle.exec.proofs.Going.{came-done, came-first, came-grown, came-switched, concludes-before, concludes-so, concludes-unable, concludes-valid, falls-done}
use Rattle.exec.proofs.Going.{left-before, left-there, measure-grows, rests-there, some-before, some-cells, unable-valid, valid-before}
use Rattle.exec.proofs.calls.go_on.Goals as goal

pub loop-state-init : goal.loop-state-init
loop-state-init c = came-first _ _

pub run_code-requires : goal.run_code-requires
run_code-requires c = record { rests = rests-there _ _ _ c.requires.rests c.loop-state.invariant }

pub loop-state-preserved-in-Switches : goal.loop-state-preserved-in-Switches
loop-state-preserved-in-Switches c = came-switched _ _ _ _ c.loop-state.invariant c.in-Switches.ensures.runs

pub loop-state-preserved-in-Ok-1 : goal.loop-state-preserved-in-Ok-1
loop-state-preserved-in-Ok-1 c = rw c.grow.ensures.state
    (came-grown _ _ _ (at_rest c.args.code.now c.run_code.new.state c.run_code.new.call) c.loop-state.invariant c.in-NoRoom.ensures.runs
    c.grow.new.cells _ c.in-Ok.ensures.grown)

pub loop-state-smaller-in-Ok-1 : goal.loop-state-smaller-in-Ok-1
loop-state-smaller-in-Ok-1 c =
    let some = some-cells _ (at_rest c.args.code.now c.loop-state.state c.loop-state.call) (rests-there _ _ _ c.requires.rests c.loop-state.invariant) in
    let v = c.grow.new.cells in
    measure-grows _ _ c.loop-state.call.cells.items c.run_code.new.call.cells.items c.grow.new.cells.items c.in-NoRoom.ensures.runs.falls
    c.run_code.ensures.size some c.in-Ok.ensures.grown (omega (arith, v.ok.0, v.ok.1, v.small))

pub returns-in_default-grow : goal.returns-in_default-grow
returns-in_default-grow c = record {
  concludes = rw c.grow.ensures.state
      (concludes-unable _ _ _ (at_rest c.args.code.now c.run_code.new.state c.run_code.new.call) c.loop-state.invariant c.in-NoRoom.ensures.runs
      c.grow.new.cells c.in_default-grow.ensures.unchanged);
  valid = rw c.grow.ensures.state (unable-valid _ _ _ (at_rest c.args.code.now c.run_code.new.state c.run_code.new.call) c.loop-state.invariant c.in-NoRoom.ensures.runs c.requires.rests);
}

pub tables_of-requires : goal.tables_of-requires
tables_of-requires c = left-there _ _ _ (at_rest c.args.code.now c.run_code.new.state c.run_code.new.call) c.loop-state.invariant
    c.in-LeavesOther.kind c.in-LeavesOther.n c.in-LeavesOther.ensures.runs c.requires.rests

pub step-requires : goal.step-requires
step-requires c = record {
  left = left-before _ _ _ _ (at_rest c.args.code.now c.run_code.new.state c.run_code.new.call) c.loop-state.invariant c.in-LeavesOther.kind
      c.in-LeavesOther.n c.in-LeavesOther.ensures.runs c.tables_of.result.now c.tables_of.ensures c.requires.rests;
  rests = some-before _ _ _ _ (at_rest c.args.code.now c.run_code.new.state c.run_code.new.call) c.loop-state.invariant c.in-LeavesOther.kind
      c.in-LeavesOther.n c.in-LeavesOther.ensures.runs c.tables_of.result.now c.tables_of.ensures c.requires.rests;
}

pub loop-state-preserved : goal.loop-state-preserved
loop-state-preserved c = came-done _ _ _ _ (at_rest c.args.code.now c.step.new.state c.step.new.call) c.loop-state.invariant c.in-LeavesOther.kind
    c.in-LeavesOther.n c.in-LeavesOther.ensures.runs c.tables_of.result.now c.tables_of.ensures c.in-Ok-step.ensures

pub loop-state-smaller : goal.loop-state-smaller
loop-state-smaller c = falls-done _ _ _ _ (at_rest c.args.code.now c.step.new.state c.step.new.call) c.loop-state.invariant c.in-LeavesOther.kind
    c.in-LeavesOther.n c.in-LeavesOther.ensures.runs c.tables_of.result.now c.tables_of.ensures c.requires.rests c.ranges.bound.fits
    c.in-Ok-step.ensures c.run_code.ensures.size

pub returns-in-Err : goal.returns-in-Err
returns-in-Err c = record {
  concludes = concludes-before _ _ _ _ (at_rest c.args.code.now c.step.new.state c.step.new.call) c.loop-state.invariant c.in-LeavesOther.kind
      c.in-LeavesOther.n c.in-LeavesOther.ensures.runs c.tables_of.result.now c.tables_of.ensures c.in-Err.stop c.in-Err.ensures;
  valid = valid-before _ _ _ _ (at_rest c.args.code.now c.step.new.state c.step.new.call) c.loop-state.invariant c.in-LeavesOther.kind
      c.in-LeavesOther.n c.in-LeavesOther.ensures.runs c.tables_of.result.now c.tables_of.ensures c.in-Err.stop c.in-Err.ensures c.requires.rests;
}

pub returns-in_default : goal.returns-in_default
returns-in_default c = record {
  concludes = concludes-so _ _ _ _ c.loop-state.invariant c.run_code.result c.in_default.not-Switches c.in_default.not-NoRoom c.in_default.not-LeavesOther c.run_code.ensures.runs;
  valid = concludes-valid _ _ _ _ c.loop-state.invariant c.run_code.result c.in_default.not-Switches c.in_default.not-NoRoom c.in_default.not-LeavesOther c.run_code.ensures.runs c.requires.rests;
}
