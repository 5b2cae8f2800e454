use Rattle.std.proofs.Common.{ap, inl, inr, ◌∙◌, arith}
use Rattle.hostfunc.specs.Tables.{hosts_in}
use Rattle.interpreter.specs.declared.machine.Position.{Position}
use Rattle.exec.specs.Resting.{at_rest}
use Rattle.exec.proofs.Finishing.{called-fuel, came-answered, came-over-first, dear-so, deep-so, ended-so, ends-taken, lacks-so, some-results, traps-so, waiting, waits-so}
use Rattle.exec.proofs.outside.run_to_end.Goals as goal

pub loop-call-init : goal.loop-call-init
loop-call-init g c = record { came = came-over-first; hosts = c.requires.hosts; room = c.requires.room }

pub go_on-requires : goal.go_on-requires
go_on-requires g c = let (w, is) = c.requires.rests in let f = c.loop-call.invariant.came.from w is in record { rests = (f.new, f.rests) }

pub returns-in-Traps : goal.returns-in-Traps
returns-in-Traps g c = record { run = λ w is. traps-so c.loop-call.invariant.came is c.in-Traps.trap (rw c.in-Traps.is at c.go_on.ensures.concludes) }

pub returns-in-NoFuel : goal.returns-in-NoFuel
returns-in-NoFuel g c = record { run = λ w is. dear-so c.loop-call.invariant.came is (rw c.in-NoFuel.is at c.go_on.ensures.concludes) }

pub returns-in-NoDepth : goal.returns-in-NoDepth
returns-in-NoDepth g c = record { run = λ w is. deep-so c.loop-call.invariant.came is (rw c.in-NoDepth.is at c.go_on.ensures.concludes) }

pub returns-in-NoMemory : goal.returns-in-NoMemory
returns-in-NoMemory g c = record { run = λ w is. lacks-so c.loop-call.invariant.came is (rw c.in-NoMemory.is at c.go_on.ensures.concludes) }

pub results-requires-clause-over : goal.results-requires-clause-over
results-requires-clause-over g c = let (w, is) = c.requires.rests in some-results c.loop-call.invariant.came is (rw c.in-Over.is at c.go_on.ensures.concludes)

pub returns-in-Over : goal.returns-in-Over
returns-in-Over g c = record {
  run = λ w is.
      ends-taken c.loop-call.invariant.came is (rw c.in-Over.is at c.go_on.ensures.concludes)
      c.results.new.values c.loop-call.values.items c.loop-call.values.len c.from_vec.result c.results.new.call.position.fuel
      (c.results.ensures.size ∙ c.deref_mut.ensures.len) c.results.ensures.read c.from_vec.ensures (ap (λ (p : Position). p.fuel) c.results.ensures.position);
}

pub call_host-requires-clause-waits : goal.call_host-requires-clause-waits
call_host-requires-clause-waits g c =
    let (w, is) = c.requires.rests in
    let calls = rw c.in-CallsHost.is at c.go_on.ensures.concludes in
    (waiting c.loop-call.invariant.came is calls, waits-so c.loop-call.invariant.came is calls)

pub returns-in-Err : goal.returns-in-Err
returns-in-Err g c = record {
  run = λ w is.
      ended-so c.loop-call.invariant.came is (rw c.in-CallsHost.is at c.go_on.ensures.concludes)
      (at_rest c.args.code.now c.call_host.new.state c.call_host.new.call) (hosts_in c.call_host.new.hosts) _ c.in-Err.ensures.came;
}

pub loop-call-smaller : goal.loop-call-smaller
loop-call-smaller g c =
    let (w, is) = c.requires.rests in
    let less = called-fuel c.loop-call.invariant.came is (rw c.in-CallsHost.is at c.go_on.ensures.concludes) in
    let one = c.in_default.ensures.left in
    omega (arith, less, one)

pub loop-call-preserved : goal.loop-call-preserved
loop-call-preserved g c = record {
  came = came-answered c.loop-call.invariant.came (rw c.in-CallsHost.is at c.go_on.ensures.concludes) c.in_default.ensures.came;
  hosts = c.in_default.ensures.hosts;
  room = c.loop-call.invariant.room;
}

pub unreachable-requires : goal.unreachable-requires
unreachable-requires g c =
    let (w, is) = c.requires.rests in
    let f = c.loop-call.invariant.came.from w is in
    elim c.in-NoRoom.is [
      | inl e ↦ (rw e at c.go_on.ensures.concludes) f.new f.rests
      | inr others ↦ elim others [
        | inl e ↦ (rw e at c.go_on.ensures.concludes) f.new f.rests
        | inr e ↦ (rw e.2 at c.go_on.ensures.concludes) f.new f.rests
      ]
    ]
