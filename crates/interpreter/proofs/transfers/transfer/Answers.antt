use Rattle.std.proofs.Common.{◌-◌, get_or}
use Rattle.interpreter.proofs.Transferring.{back-lacks, back-leaves, br-lacks, br-lands, br-table-lacks, br-table-lands, jumps, unreachable-lacks, unreachable-traps}
use Rattle.interpreter.proofs.transfers.transfer.Goals as goal

pub leave-requires-clause-leaves : goal.leave-requires-clause-leaves
leave-requires-clause-leaves c = (
  c.args.at.now.fuel,
  back-leaves _ _ _ _ c.args.at.now _ _ c.requires.executes c.in-Some-pay-3.fuel c.in-Some-pay-3.ensures.some c.in-Return.is
      c.requires.sound c.entry-results.result c.entry-results.ensures,
)

pub returns-in-Some : goal.returns-in-Some
returns-in-Some c = unreachable-traps _ _ _ _ c.args.at.now _ _ c.requires.executes c.in-Some.fuel c.in-Some.ensures.some c.in-Unreachable.is

pub returns-in_default : goal.returns-in_default
returns-in_default c = unreachable-lacks _ _ _ _ c.args.at.now _ _ c.requires.executes c.in-Unreachable.is _ c.in_default.ensures.none

pub returns-in-Jump : goal.returns-in-Jump
returns-in-Jump c = jumps _ _ _ _ c.args.at.now _ _ c.requires.executes c.in-Jump.is c.requires.next c.requires.fits c.entry.result c.entry.ensures

pub returns-in-Some-pay : goal.returns-in-Some-pay
returns-in-Some-pay c =
    br-lands _ _ _ _ c.args.at.now _ _ c.requires.executes c.in-Some-pay.fuel c.in-Some-pay.ensures.some c.in-Br.is _ c.entry-in-Br.ensures _
    c.branch-cells.new.at c.branch-cells.ensures.moved c.branch-cells.ensures.landed

pub returns-in_default-pay : goal.returns-in_default-pay
returns-in_default-pay c = br-lacks _ _ _ _ c.args.at.now _ _ c.requires.executes c.in-Br.is _ c.in_default-pay.ensures.none

pub returns-in-Some-pay-2 : goal.returns-in-Some-pay-2
returns-in-Some-pay-2 c =
    br-table-lands _ _ _ _ c.args.at.now _ _ c.requires.executes c.in-Some-pay-2.fuel c.in-Some-pay-2.ensures.some c.in-BrTable.is c.chosen-e.result
    c.chosen-e.ensures _ c.branch-cells-in-BrTable.new.at (get_or c.args.cells.now (c.args.at.now.top - 1) 0)
    c.branch-cells-in-BrTable.ensures.moved c.branch-cells-in-BrTable.ensures.landed

pub returns-in_default-pay-2 : goal.returns-in_default-pay-2
returns-in_default-pay-2 c = br-table-lacks _ _ _ _ c.args.at.now _ _ c.requires.executes c.in-BrTable.is _ c.in_default-pay-2.ensures.none

pub returns-in-Some-pay-3 : goal.returns-in-Some-pay-3
returns-in-Some-pay-3 c =
    c.leave.ensures c.args.at.now.fuel
    (back-leaves _ _ _ _ c.args.at.now _ _ c.requires.executes c.in-Some-pay-3.fuel c.in-Some-pay-3.ensures.some c.in-Return.is c.requires.sound
    c.entry-results.result c.entry-results.ensures)

pub returns-in_default-pay-3 : goal.returns-in_default-pay-3
returns-in_default-pay-3 c = back-lacks _ _ _ _ c.args.at.now _ _ c.requires.executes c.in-Return.is _ c.in_default-pay-3.ensures.none

pub call_indirect-requires-clause-executes : goal.call_indirect-requires-clause-executes
call_indirect-requires-clause-executes c = rw c.in-CallIndirect.is at c.requires.executes

pub call-requires-clause-executes : goal.call-requires-clause-executes
call-requires-clause-executes c = rw c.in-ReturnCall.is at c.requires.executes

pub call_indirect-requires-in-ReturnCallIndirect-clause-executes : goal.call_indirect-requires-in-ReturnCallIndirect-clause-executes
call_indirect-requires-in-ReturnCallIndirect-clause-executes c = rw c.in-ReturnCallIndirect.is at c.requires.executes
