use Rattle.std.proofs.Common.{◌≡◌, arith}
use Rattle.exec.specs.Resting.{at_rest, machine_of}
use Rattle.exec.proofs.Acting.{gets, room-taken}
use Rattle.exec.proofs.tables.table_get.Goals as goal

pub table_at-address-requires : goal.table_at-address-requires
table_at-address-requires c = let (bound, u, b) = c.requires in let k = gets _ u bound c.args.x b in (k.address, k.named)

pub integer-offset-requires : goal.integer-offset-requires
integer-offset-requires c = let (bound, u, b) = c.requires in let k = gets _ u bound c.args.x b in
    record { low = omega (arith, k.has_operands.low); inside = k.has_operands.inside; cell = k.has_operands.cells 0 (omega arith) }

pub get_entry-requires : goal.get_entry-requires
get_entry-requires c = let (bound, u, b) = c.requires in let k = gets _ u bound c.args.x b in let at : c.table_at-address.result ≡ k.address = cc in omega (arith, at, k.inside)

pub returns : goal.returns
returns c bound u b =
    let k = gets _ u bound c.args.x b in
    let at : c.table_at-address.result ≡ k.address = cc in record {
      outcome = _;
      has = rw (at, c.integer-offset.ensures) k.has;
      low = k.low;
      room = room-taken (machine_of (at_rest c.args.code.now c.args.state.now c.args.call.now)) 1 (omega arith) _ k.low k.has_operands.inside _;
      gives = c.get_entry.ensures c.args.code.now;
    }
