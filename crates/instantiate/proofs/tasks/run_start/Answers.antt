use Rattle.std.proofs.Common.{sym}
use Rattle.std.specs.Prelude.{Some}
use Rattle.exec.specs.Endings.{run_state}
use Rattle.meaning.specs.execution.Store.{instance_of}
use Rattle.store.specs.Contents.{code_store, store_of}
use Rattle.instantiate.proofs.lemmas.Tasks.{not-started, started}
use Rattle.hostfunc.specs.Tables.{hosts_in}
use Rattle.instantiate.proofs.tasks.run_start.Goals as goal

pub returns-in-Some-function_address-clause-ran : goal.returns-in-Some-function_address-clause-ran
returns-in-Some-function_address-clause-ran g c =
    let i = instance_of (code_store c.args.store.now.code) (Some c.args.instance) in
    let has = rw c.code.ensures at (sym c.in-Some-function_address.ensures) in
    rw c.in-Some.is (started _ c.args.meter.now.bound c.args.instance i c.call_start.result
    (run_state (store_of c.args.store.now) (hosts_in c.args.hosts.now) c.args.meter.now.left)
    (run_state (store_of c.call_start.new.store) (hosts_in c.call_start.new.hosts) c.call_start.new.meter.left) c.in-Some.x
    c.in-Some-function_address.address has c.call_start.ensures.run)

pub returns-in-None-function_address-clause-ran : goal.returns-in-None-function_address-clause-ran
returns-in-None-function_address-clause-ran g c =
    let i = instance_of (code_store c.args.store.now.code) (Some c.args.instance) in
    let none = rw c.code.ensures at (sym c.in-None-function_address.ensures) in
    rw c.in-Some.is (not-started _ c.args.meter.now.bound c.args.instance i (run_state (store_of c.args.store.now) (hosts_in c.args.hosts.now) c.args.meter.now.left) c.in-Some.x none)
