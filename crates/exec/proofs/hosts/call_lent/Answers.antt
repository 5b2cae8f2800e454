use Rattle.exec.specs.Endings.{first_memory}
use Rattle.exec.proofs.Lending.{step-lent, step-unlent}
use Rattle.hostfunc.specs.Tables.{hosts_in}
use Rattle.hostfunc.proofs.Faults.{IfAnswered-weaker}
use Rattle.store.specs.Contents.{code_store}
use Rattle.exec.proofs.hosts.call_lent.Goals as goal

pub returns-in-Some-clause-answered : goal.returns-in-Some-clause-answered
returns-in-Some-clause-answered g c =
    let lent = first_memory (code_store c.args.code.now) c.args.instance in
    let (is, within) = c.in-Some.ensures in
    IfAnswered-weaker c.call.result _ _
    (λ answer done. step-lent _ _ c.args.code.now c.args.state.now (hosts_in c.args.hosts.now) (hosts_in c.call.new.self) c.args.number lent
    c.args.args.now answer c.call.new.memory c.in-Some.address is within (rw c.memory_mut.ensures.same at done)) c.call.ensures.answered

pub returns-in-None-clause-answered : goal.returns-in-None-clause-answered
returns-in-None-clause-answered g c =
    let lent = first_memory (code_store c.args.code.now) c.args.instance in
    IfAnswered-weaker c.call-in-None.result _ _
    (λ answer done. step-unlent _ _ c.args.code.now c.args.state.now (hosts_in c.args.hosts.now) (hosts_in c.call-in-None.new.self) c.args.number
    lent c.args.args.now answer c.call-in-None.new.memory c.in-None.ensures done) c.call-in-None.ensures.answered
