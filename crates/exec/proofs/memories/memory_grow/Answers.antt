use Rattle.std.proofs.Common.{◌≡◌, arith}
use Rattle.exec.specs.Resting.{at_rest, machine_of}
use Rattle.exec.proofs.Acting.{grows-bytes, room-taken}
use Rattle.exec.proofs.memories.memory_grow.Goals as goal

pub memory_at-address-requires : goal.memory_at-address-requires
memory_at-address-requires c = let (bound, u, b) = c.requires in let k = grows-bytes _ u bound b in (k.address, k.named)

pub integer-pages-requires : goal.integer-pages-requires
integer-pages-requires c = let (bound, u, b) = c.requires in let k = grows-bytes _ u bound b in
    record { low = omega (arith, k.has_operands.low); inside = k.has_operands.inside; cell = k.has_operands.cells 0 (omega arith) }

pub grow_memory-requires : goal.grow_memory-requires
grow_memory-requires c = let (bound, u, b) = c.requires in let k = grows-bytes _ u bound b in let at : c.memory_at-address.result ≡ k.address = cc in omega (arith, at, k.inside)

pub returns : goal.returns
returns c bound u b =
    let k = grows-bytes _ u bound b in
    let at : c.memory_at-address.result ≡ k.address = cc in record {
      outcome = _;
      has = rw (at, c.integer-pages.ensures) k.has;
      low = k.low;
      room = room-taken (machine_of (at_rest c.args.code.now c.args.state.now c.args.call.now)) 1 (omega arith) _ k.low k.has_operands.inside _;
      gives = c.grow_memory.ensures c.args.code.now;
    }
