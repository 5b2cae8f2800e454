use Rattle.std.proofs.Common.{◌≡◌, [], arith}
use Rattle.meaning.specs.execution.Store.{with_data}
use Rattle.simulation.specs.Outcomes.{made}
use Rattle.store.specs.Contents.{store_with}
use Rattle.exec.specs.Resting.{at_rest, machine_of}
use Rattle.exec.proofs.Acting.{drops-bytes, room-none}
use Rattle.exec.proofs.memories.data_drop.Goals as goal

pub data_at-address-requires : goal.data_at-address-requires
data_at-address-requires c = let (bound, u, b) = c.requires in let k = drops-bytes _ u bound c.args.segment b in (k.address, k.named)

pub drop_data-requires : goal.drop_data-requires
drop_data-requires c = let (bound, u, b) = c.requires in let k = drops-bytes _ u bound c.args.segment b in let at : c.data_at-address.result ≡ k.address = cc in omega (arith, at, k.inside)

pub returns : goal.returns
returns c bound u b =
    let k = drops-bytes _ u bound c.args.segment b in
    let at : c.data_at-address.result ≡ k.address = cc in record {
      outcome = made 1 (with_data (store_with c.args.code.now c.args.state.now) c.data_at-address.result (record { bytes = [] })) [];
      has = rw (at) k.has;
      low = k.low;
      room = room-none (machine_of (at_rest c.args.code.now c.args.state.now c.args.call.now)) 0 _ _ _ _ _ _ (c.drop_data.ensures c.args.code.now);
      gives = c.drop_data.ensures c.args.code.now;
    }
