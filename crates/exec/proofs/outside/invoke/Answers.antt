use Rattle.std.proofs.Common.{◌∙◌}
use Rattle.meaning.specs.execution.Configurations.{no_frame}
use Rattle.soundness.proofs.Fuel.{run-spends}
use Rattle.hostfunc.proofs.Own.{own-call}
use Rattle.hostfunc.specs.Boxes.{HostStep}
use Rattle.exec.proofs.Typing.{call-ends}
use Rattle.exec.proofs.outside.invoke.Goals as goal

pub call_from_outside-requires : goal.call_from_outside-requires
call_from_outside-requires g c = record {
  arguments = rw (← c.store.view_is) at c.requires.arguments;
  valid = c.store.invariant;
  hosts = rw (← c.store.view_is) at c.requires.hosts;
}

pub invariant_of-store : goal.invariant_of-store
invariant_of-store g c =
    (call-ends (λ vtable. (g.dyn-1.0.entry vtable).1) _ _ _ _ _ _ _ c.args.address c.args.args.now _ c.store.invariant
    (rw (← c.store.view_is) at c.requires.hosts) (rw (← c.store.view_is) at c.requires.arguments) c.call_from_outside.ensures.run).valid

pub returns : goal.returns
returns g c =
    let run = c.call_from_outside.ensures.run in
    let ended = call-ends (λ vtable. (g.dyn-1.0.entry vtable).1) _ _ _ _ _ _ _ c.args.address c.args.args.now _ c.store.invariant
    (rw (← c.store.view_is) at c.requires.hosts) (rw (← c.store.view_is) at c.requires.arguments) run in
    rw (← c.store.view_is) (record {
      run = run;
      own = own-call (λ vtable. (g.dyn-1.0.entry vtable).1) c.args.meter.now.bound no_frame run;
      ends = ended.ends;
      extends = ended.extends;
      hosts = ended.there;
      charges = record {
        spends = run-spends (HostStep (λ vtable. (g.dyn-1.0.entry vtable).1)) c.args.meter.now.bound no_frame run;
        bound = c.call_from_outside.ensures.bound;
        closed = c.call_from_outside.ensures.frames ∙ c.requires.closed;
      };
    })
