use Rattle.std.proofs.Common.{◌≡◌, [], ◌∷◌, arith}
use Rattle.core_types.specs.declared.outcome.Val.TheVariants as value
use Rattle.simulation.specs.Outcomes.{made}
use Rattle.store.specs.Contents.{store_with}
use Rattle.store.specs.State.{table_of}
use Rattle.exec.specs.Resting.{at_rest, machine_of}
use Rattle.exec.proofs.Acting.{measures, room-one}
use Rattle.exec.proofs.tables.table_size.Goals as goal

pub table_at-address-requires : goal.table_at-address-requires
table_at-address-requires c = let (bound, u, b) = c.requires in let (k, room) = measures _ u bound c.args.x b in (k.address, k.named)

pub measure_table-requires : goal.measure_table-requires
measure_table-requires c = let (bound, u, b) = c.requires in let (k, room) = measures _ u bound c.args.x b in let at : c.table_at-address.result ≡ k.address = cc in omega (arith, at, k.inside)

pub returns : goal.returns
returns c bound u b =
    let (k, room) = measures _ u bound c.args.x b in
    let at : c.table_at-address.result ≡ k.address = cc in record {
      outcome = made 1 (store_with c.args.code.now c.args.state.now) (value.I32 (table_of c.args.state.now c.table_at-address.result).ty.limits.min ∷ []);
      has = rw (at) k.has;
      low = k.low;
      room = room-one (machine_of (at_rest c.args.code.now c.args.state.now c.args.call.now)) 0 room _;
      gives = c.measure_table.ensures c.args.code.now;
    }
