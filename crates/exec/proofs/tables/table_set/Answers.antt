use Rattle.std.proofs.Common.{◌≡◌, arith}
use Rattle.exec.specs.Resting.{at_rest, machine_of}
use Rattle.exec.proofs.Acting.{sets, room-taken}
use Rattle.exec.proofs.tables.table_set.Goals as goal

pub table_at-address-requires : goal.table_at-address-requires
table_at-address-requires c = let (bound, u, b) = c.requires in let k = sets _ u bound c.args.x b in (k.address, k.named)

pub integer-offset-requires : goal.integer-offset-requires
integer-offset-requires c = let (bound, u, b) = c.requires in let k = sets _ u bound c.args.x b in
    record { low = omega (arith, k.has_operands.low); inside = k.has_operands.inside; cell = k.has_operands.cells 1 (omega arith) }

pub operand-cell-requires : goal.operand-cell-requires
operand-cell-requires c = let (bound, u, b) = c.requires in let k = sets _ u bound c.args.x b in record { low = omega (arith, k.has_operands.low); inside = k.has_operands.inside }

pub set_entry-requires : goal.set_entry-requires
set_entry-requires c = let (bound, u, b) = c.requires in let k = sets _ u bound c.args.x b in let at : c.table_at-address.result ≡ k.address = cc in
    record { there = omega (arith, at, k.inside); cell = rw (at, c.operand-cell.ensures) (k.has_operands.cells 0 (omega arith)) }

pub returns : goal.returns
returns c bound u b =
    let k = sets _ u bound c.args.x b in
    let at : c.table_at-address.result ≡ k.address = cc in record {
      outcome = _;
      has = rw (at, c.integer-offset.ensures, c.operand-cell.ensures) k.has;
      low = k.low;
      room = room-taken (machine_of (at_rest c.args.code.now c.args.state.now c.args.call.now)) 2 (omega arith) _ k.low k.has_operands.inside _;
      gives = c.set_entry.ensures c.args.code.now;
    }
