use Rattle.std.proofs.Common.{◌≡◌, [], arith}
use Rattle.meaning.specs.execution.Store.{with_elements}
use Rattle.simulation.specs.Outcomes.{made}
use Rattle.store.specs.Contents.{store_with}
use Rattle.store.specs.State.{elements_of}
use Rattle.exec.specs.Resting.{at_rest, machine_of}
use Rattle.exec.proofs.Acting.{drops, room-none}
use Rattle.exec.proofs.tables.elem_drop.Goals as goal

pub elements_at-address-requires : goal.elements_at-address-requires
elements_at-address-requires c = let (bound, u, b) = c.requires in let k = drops _ u bound c.args.segment b in (k.address, k.named)

pub drop_elements-requires : goal.drop_elements-requires
drop_elements-requires c = let (bound, u, b) = c.requires in let k = drops _ u bound c.args.segment b in let at : c.elements_at-address.result ≡ k.address = cc in omega (arith, at, k.inside)

pub returns : goal.returns
returns c bound u b =
    let k = drops _ u bound c.args.segment b in
    let at : c.elements_at-address.result ≡ k.address = cc in record {
      outcome = made 1 (with_elements (store_with c.args.code.now c.args.state.now) c.elements_at-address.result
          (record { ty = (elements_of c.args.state.now c.elements_at-address.result).ty; references = [] })) [];
      has = rw (at) k.has;
      low = k.low;
      room = room-none (machine_of (at_rest c.args.code.now c.args.state.now c.args.call.now)) 0 _ _ _ _ _ _ (c.drop_elements.ensures c.args.code.now);
      gives = c.drop_elements.ensures c.args.code.now;
    }
