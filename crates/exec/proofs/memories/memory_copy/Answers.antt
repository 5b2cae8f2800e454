use Rattle.std.proofs.Common.{◌≡◌, arith}
use Rattle.exec.specs.Resting.{at_rest, machine_of}
use Rattle.exec.proofs.Acting.{copies-bytes, room-taken}
use Rattle.exec.proofs.memories.memory_copy.Goals as goal

pub memory_at-address-requires : goal.memory_at-address-requires
memory_at-address-requires c = let (bound, u, b) = c.requires in let k = copies-bytes _ u bound b in (k.address, k.named)

pub integer-target-requires : goal.integer-target-requires
integer-target-requires c = let (bound, u, b) = c.requires in let k = copies-bytes _ u bound b in
    record { low = omega (arith, k.has_operands.low); inside = k.has_operands.inside; cell = k.has_operands.cells 2 (omega arith) }

pub integer-from-requires : goal.integer-from-requires
integer-from-requires c = let (bound, u, b) = c.requires in let k = copies-bytes _ u bound b in
    record { low = omega (arith, k.has_operands.low); inside = k.has_operands.inside; cell = k.has_operands.cells 1 (omega arith) }

pub integer-count-requires : goal.integer-count-requires
integer-count-requires c = let (bound, u, b) = c.requires in let k = copies-bytes _ u bound b in
    record { low = omega (arith, k.has_operands.low); inside = k.has_operands.inside; cell = k.has_operands.cells 0 (omega arith) }

pub copy_memory-requires : goal.copy_memory-requires
copy_memory-requires c = let (bound, u, b) = c.requires in let k = copies-bytes _ u bound b in let at : c.memory_at-address.result ≡ k.address = cc in omega (arith, at, k.inside)

pub returns : goal.returns
returns c bound u b =
    let k = copies-bytes _ u bound b in
    let at : c.memory_at-address.result ≡ k.address = cc in record {
      outcome = _;
      has = rw (at, c.integer-target.ensures, c.integer-from.ensures, c.integer-count.ensures) k.has;
      low = k.low;
      room = room-taken (machine_of (at_rest c.args.code.now c.args.state.now c.args.call.now)) 3 (omega arith) _ k.low k.has_operands.inside _;
      gives = c.copy_memory.ensures c.args.code.now;
    }
