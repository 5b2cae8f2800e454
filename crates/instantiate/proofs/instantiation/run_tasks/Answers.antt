use Rattle.std.proofs.Common.{refl, ◌++◌, List, append_assoc, subst}
use Rattle.std.proofs.lemmas.Result.{err_from_is_err_and}
use Rattle.std.specs.Prelude.{Some}
use Rattle.meaning.specs.execution.Modules.{Task, data_tasks, start_task}
use Rattle.meaning.specs.execution.Store.{instance_of}
use Rattle.hostfunc.specs.Boxes.{HostStep}
use Rattle.exec.specs.Endings.{run_state}
use Rattle.store.specs.Contents.{code_store, store_of}
use Rattle.instantiate.specs.Tasks.{RanTasks, link_state}
use Rattle.instantiate.proofs.lemmas.Hosts.{ended-over, ran-over}
use Rattle.instantiate.proofs.lemmas.Tasks.{ran-then}
use Rattle.soundness.proofs.Hosts.{ready-still}
use Rattle.hostfunc.specs.Boxes.{type_of_host}
use Rattle.hostfunc.specs.Tables.{hosts_in}
use Rattle.meaning.specs.execution.Modules.{element_tasks}
use Rattle.instantiate.proofs.lemmas.Validity.{good-part}
use Rattle.instantiate.proofs.instantiation.run_tasks.Goals as goal

pub returns-in_err-run_segments-clause-ran : goal.returns-in_err-run_segments-clause-ran
returns-in_err-run_segments-clause-ran g c =
    let m = c.args.wanted.now in
    let old = link_state c.args.store.now.code c.args.store.now.state c.args.meter.now.left in
    let new = link_state c.run_segments.new.store.code c.run_segments.new.store.state c.run_segments.new.meter.left in
    let passed = err_from_is_err_and c.from_residual.result c.from_residual.ensures.1 in
    rw (passed.1, passed.2)
    (ended-over (HostStep (λ vtable. (g.dyn-1.0.entry vtable).1)) (hosts_in c.args.hosts.now) c.args.meter.now.bound c.args.instance
    (instance_of (code_store c.args.store.now.code) (Some c.args.instance)) old new (element_tasks m.elements) (data_tasks m.datas)
    (start_task m.start) c.in_err-run_segments.ensures.ran)

pub run_start-requires-clause-hosts : goal.run_start-requires-clause-hosts
run_start-requires-clause-hosts g c = ready-still type_of_host (store_of c.args.store.now) (store_of c.run_segments.new.store)
    (hosts_in c.args.hosts.now) (rw c.in_ok-run_segments.ensures.code refl) c.requires.hosts

pub run_segments-requires-clause-good : goal.run_segments-requires-clause-good
run_segments-requires-clause-good g c =
    let m = c.args.wanted.now in
    good-part (store_of c.args.store.now) c.args.instance (instance_of (code_store c.args.store.now.code) (Some c.args.instance))
    (element_tasks m.elements) (data_tasks m.datas) (start_task m.start) c.requires.good

pub returns-clause-ran : goal.returns-clause-ran
returns-clause-ran g c =
    let m = c.args.wanted.now in
    let i = instance_of (code_store c.args.store.now.code) (Some c.args.instance) in
    let hosts = hosts_in c.args.hosts.now in
    let old = link_state c.args.store.now.code c.args.store.now.state c.args.meter.now.left in
    let mid = link_state c.run_segments.new.store.code c.run_segments.new.store.state c.run_segments.new.meter.left in
    let first = element_tasks m.elements ++ data_tasks m.datas in
    let before = rw (c.in_ok-run_segments.was, c.in_ok-run_segments.ensures.code) at
    (ran-over (HostStep (λ vtable. (g.dyn-1.0.entry vtable).1)) hosts c.args.meter.now.bound c.args.instance i c.run_segments.result old mid first
    c.run_segments.ensures.ran) in
    let after = rw (c.in_ok-run_segments.ensures.bound, c.in_ok-run_segments.ensures.code) at c.run_start.ensures.ran in
    subst (λ (ts : List Task). RanTasks (HostStep (λ vtable. (g.dyn-1.0.entry vtable).1)) c.run_start.result c.args.meter.now.bound c.args.instance i
    (run_state (store_of c.args.store.now) hosts c.args.meter.now.left) ts
    (run_state (store_of c.run_start.new.store) (hosts_in c.run_start.new.hosts) c.run_start.new.meter.left))
    (append_assoc (element_tasks m.elements) (data_tasks m.datas) (start_task m.start))
    (ran-then (HostStep (λ vtable. (g.dyn-1.0.entry vtable).1)) c.args.meter.now.bound c.args.instance i c.run_start.result _ _ _ first (start_task m.start) before after)
