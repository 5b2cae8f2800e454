use Rattle.std.proofs.Common.{◌≡◌, length}
use Rattle.hostfunc.specs.Boxes.{HaveHosts, HostStep}
use Rattle.hostfunc.specs.Tables.{hosts_in}
use Rattle.store.specs.Contents.{store_with}
use Rattle.exec.specs.Resting.{at_rest}
use Rattle.exec.proofs.Finishing.{CameOver}
use Rattle.exec.proofs.outside.run_to_end.Given as goal

abbrev pub invariant-loop-call : goal.invariant-loop-call
invariant-loop-call g l = record {
  came : CameOver (HostStep (λ vtable. (g.dyn-1.0.entry vtable).1)) l.bound (at_rest l.code l.initial.state l.initial.call) (hosts_in l.initial.hosts)
      l.types (at_rest l.code l.state l.call) (hosts_in l.hosts);
  hosts : HaveHosts (store_with l.code l.state) (hosts_in l.hosts);
  room : length l.values.items ≡ length l.types;
}

abbrev pub decreases-loop-call : goal.decreases-loop-call
decreases-loop-call g l = l.call.position.fuel
