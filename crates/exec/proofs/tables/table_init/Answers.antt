use Rattle.std.proofs.Common.{◌≡◌, arith}
use Rattle.exec.specs.Resting.{at_rest, machine_of}
use Rattle.exec.proofs.Acting.{initializes, room-taken}
use Rattle.exec.proofs.tables.table_init.Goals as goal

pub table_at-address-requires : goal.table_at-address-requires
table_at-address-requires c = let (bound, u, b) = c.requires in let (other, named, inside, k) = initializes _ u bound c.args.segment c.args.x b in (k.address, k.named)

pub elements_at-source-requires : goal.elements_at-source-requires
elements_at-source-requires c = let (bound, u, b) = c.requires in let (other, named, inside, k) = initializes _ u bound c.args.segment c.args.x b in (other, named)

pub integer-target-requires : goal.integer-target-requires
integer-target-requires c = let (bound, u, b) = c.requires in let (other, named, inside, k) = initializes _ u bound c.args.segment c.args.x b in
    record { low = omega (arith, k.has_operands.low); inside = k.has_operands.inside; cell = k.has_operands.cells 2 (omega arith) }

pub integer-from-requires : goal.integer-from-requires
integer-from-requires c = let (bound, u, b) = c.requires in let (other, named, inside, k) = initializes _ u bound c.args.segment c.args.x b in
    record { low = omega (arith, k.has_operands.low); inside = k.has_operands.inside; cell = k.has_operands.cells 1 (omega arith) }

pub integer-count-requires : goal.integer-count-requires
integer-count-requires c = let (bound, u, b) = c.requires in let (other, named, inside, k) = initializes _ u bound c.args.segment c.args.x b in
    record { low = omega (arith, k.has_operands.low); inside = k.has_operands.inside; cell = k.has_operands.cells 0 (omega arith) }

pub init_table-requires : goal.init_table-requires
init_table-requires c = let (bound, u, b) = c.requires in let (other, named, inside, k) = initializes _ u bound c.args.segment c.args.x b in
    let at : c.table_at-address.result ≡ k.address = cc in let from_is : c.elements_at-source.result ≡ other = cc in
    record { there = omega (arith, at, k.inside); source = omega (arith, from_is, inside) }

pub returns : goal.returns
returns c bound u b =
    let (other, named, inside, k) = initializes _ u bound c.args.segment c.args.x b in
    let at : c.table_at-address.result ≡ k.address = cc in let from_is : c.elements_at-source.result ≡ other = cc in record {
      outcome = _;
      has = rw (at, from_is, c.integer-target.ensures, c.integer-from.ensures, c.integer-count.ensures) k.has;
      low = k.low;
      room = room-taken (machine_of (at_rest c.args.code.now c.args.state.now c.args.call.now)) 3 (omega arith) _ k.low k.has_operands.inside _;
      gives = c.init_table.ensures c.args.code.now;
    }
