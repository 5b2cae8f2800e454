use Rattle.exec.specs.Endings.{run_state}
use Rattle.store.specs.Contents.{store_of}
use Rattle.instantiate.proofs.lemmas.Validity.{link-leaves, links-own}
use Rattle.hostfunc.specs.Tables.{hosts_in}
use Rattle.instantiate.proofs.instantiation.instantiate.Goals as goal

pub returns : goal.returns
returns g c =
    let left = link-leaves c.writing_is_read.ensures.whole (λ vtable. (g.dyn-1.0.entry vtable).1) c.link.result c.args.meter.now.bound
    c.args.loaded.now.value.source c.args.externs.now (run_state (store_of c.args.store.now) (hosts_in c.args.hosts.now) c.args.meter.now.left)
    (run_state (store_of c.link.new.store) (hosts_in c.link.new.hosts) c.link.new.meter.left) c.state.ensures.valid c.requires.hosts
    (rw c.as_ref.ensures at c.module.ensures.sound) c.link.ensures.linked in
    record {
      linked = c.link.ensures.linked;
      own = links-own (λ vtable. (g.dyn-1.0.entry vtable).1) c.link.result c.args.meter.now.bound c.args.loaded.now.value.source c.args.externs.now
          (run_state (store_of c.args.store.now) (hosts_in c.args.hosts.now) c.args.meter.now.left)
          (run_state (store_of c.link.new.store) (hosts_in c.link.new.hosts) c.link.new.meter.left) c.link.ensures.linked;
      extends = left.extends;
      instance_stays = left.instance_stays;
      hosts = c.link.ensures.hosts;
      charges = record { spends = left.spends; bound = c.link.ensures.bound; closed = c.link.ensures.closed };
    }
