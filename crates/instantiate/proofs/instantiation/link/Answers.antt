use Rattle.std.proofs.Common.{length, refl, rules, sym, take, ap, ◌∙◌}
use Rattle.std.proofs.lemmas.List.{length-take-le}
use Rattle.meaning.specs.execution.Modules.{tasks_of}
use Rattle.exec.specs.Endings.{run_state}
use Rattle.store.specs.Contents.{store_of}
use Rattle.store.specs.Loaded.{LoadedContents}
use Rattle.hostfunc.specs.Boxes.{type_of_host}
use Rattle.hostfunc.specs.Tables.{hosts_in}
use Rattle.instantiate.specs.declared.link_end.TaskEnd.TheVariants as end
use Rattle.instantiate.proofs.lemmas.Validity.{is-linkable, never-stuck-tasks}
use Rattle.instantiate.proofs.lemmas.Links.{allocated-good, allocated-instance, allocated-ready, done-links, ended-links, given-enough}
use Rattle.instantiate.proofs.instantiation.link.Goals as goal

pub slice_bounds-given-end : goal.slice_bounds-given-end
slice_bounds-given-end g c =
    let m = c.module-wanted.result.now in
    let enough = given-enough (store_of c.args.store.now) m m.imports c.args.externs.now c.in_default.ensures.given in
    rw c.len.ensures (sym (length-take-le (length m.imports) c.args.externs.now enough))

pub run_tasks-requires-clause-ready : goal.run_tasks-requires-clause-ready
run_tasks-requires-clause-ready g c =
    let m = c.args.loaded.now.value.source in
    record {
      instance_is = rw (c.module-wanted.ensures.same, c.as_ref.ensures)
          (allocated-instance c.in_ok-instance.instance m (take c.len.result c.args.externs.now) (store_of c.args.store.now) c.allocate.new.store.code
          c.allocate.new.store.state c.in_ok-instance.ensures);
      elements = search rules;
      datas = search rules;
      offsets = search rules;
    }

pub returns-in-Ok-clause-linked : goal.returns-in-Ok-clause-linked
returns-in-Ok-clause-linked g c =
    let m = c.args.loaded.now.value.source in
    let module_is = c.module-wanted.ensures.same ∙ ap (λ (l : LoadedContents). l.source) c.as_ref.ensures in
    let count_is = rw module_is at c.len.ensures in
    let allocated = rw count_is at c.in_ok-instance.ensures in
    record {
      allowed = rw module_is at c.in_default.ensures;
      number_is = allocated.number_is;
      run = done-links c.in_ok-instance.instance m (take (length m.imports) c.args.externs.now) (store_of c.args.store.now) c.allocate.new.store.code
          c.allocate.new.store.state allocated _ (hosts_in c.args.hosts.now) c.args.meter.now.bound c.args.meter.now.left _
          (rw module_is at c.in-Ok.ensures.ran);
    }

pub returns-in-Err-Ended-clause-linked : goal.returns-in-Err-Ended-clause-linked
returns-in-Err-Ended-clause-linked g c =
    let m = c.args.loaded.now.value.source in
    let module_is = c.module-wanted.ensures.same ∙ ap (λ (l : LoadedContents). l.source) c.as_ref.ensures in
    let count_is = rw module_is at c.len.ensures in
    let allocated = rw count_is at c.in_ok-instance.ensures in
    let ran = rw (module_is, c.in-Err-Ended.field-0-is) at c.in-Err-Ended.ensures.ran in
    record {
      allowed = rw module_is at c.in_default.ensures;
      no_values = ran.no_values;
      run = ended-links c.in_ok-instance.instance m (take (length m.imports) c.args.externs.now) (store_of c.args.store.now) c.allocate.new.store.code
          c.allocate.new.store.state allocated _ (hosts_in c.args.hosts.now) c.args.meter.now.bound c.args.meter.now.left
          (end.Ended c.in-Err-Ended.outcome) _ _ refl ran;
    }

pub allocate-requires-clause-linkable : goal.allocate-requires-clause-linkable
allocate-requires-clause-linkable g c =
    let m = c.args.loaded.now.value.source in
    let module_is = c.module-wanted.ensures.same ∙ ap (λ (l : LoadedContents). l.source) c.as_ref.ensures in
    let allowed = rw module_is at c.in_default.ensures in
    is-linkable (store_of c.args.store.now) m c.args.externs.now c.len.result (rw module_is at c.len.ensures) (rw c.as_ref.ensures at c.module-wanted.ensures.sound) allowed

pub run_tasks-requires-clause-good : goal.run_tasks-requires-clause-good
run_tasks-requires-clause-good g c =
    let m = c.args.loaded.now.value.source in
    let module_is = c.module-wanted.ensures.same ∙ ap (λ (l : LoadedContents). l.source) c.as_ref.ensures in
    let allowed = rw module_is at c.in_default.ensures in
    let linkable = is-linkable (store_of c.args.store.now) m c.args.externs.now c.len.result (rw module_is at c.len.ensures) (rw c.as_ref.ensures at c.module-wanted.ensures.sound) allowed in
    rw module_is (allocated-good c.in_ok-instance.instance m (take c.len.result c.args.externs.now) (store_of c.args.store.now)
    c.allocate.new.store.code c.allocate.new.store.state c.in_ok-instance.ensures c.writing_is_read.ensures.whole c.state.ensures.valid linkable)

pub run_tasks-requires-clause-hosts : goal.run_tasks-requires-clause-hosts
run_tasks-requires-clause-hosts g c =
    allocated-ready c.in_ok-instance.instance c.args.loaded.now.value.source (take c.len.result c.args.externs.now) (store_of c.args.store.now)
    c.allocate.new.store.code c.allocate.new.store.state c.in_ok-instance.ensures type_of_host (hosts_in c.args.hosts.now) c.requires.hosts

pub unreachable-requires : goal.unreachable-requires
unreachable-requires g c =
    let m = c.args.loaded.now.value.source in
    let module_is = c.module-wanted.ensures.same ∙ ap (λ (l : LoadedContents). l.source) c.as_ref.ensures in
    let allowed = rw module_is at c.in_default.ensures in
    let linkable = is-linkable (store_of c.args.store.now) m c.args.externs.now c.len.result (rw module_is at c.len.ensures) (rw c.as_ref.ensures at c.module-wanted.ensures.sound) allowed in
    let good = allocated-good c.in_ok-instance.instance m (take c.len.result c.args.externs.now) (store_of c.args.store.now) c.allocate.new.store.code
    c.allocate.new.store.state c.in_ok-instance.ensures c.writing_is_read.ensures.whole c.state.ensures.valid linkable in
    let ready = allocated-ready c.in_ok-instance.instance m (take c.len.result c.args.externs.now) (store_of c.args.store.now)
    c.allocate.new.store.code c.allocate.new.store.state c.in_ok-instance.ensures type_of_host (hosts_in c.args.hosts.now) c.requires.hosts in
    let ran = rw (module_is, c.in-Err-Stuck.field-0-is) at c.in-Err-Stuck.ensures.ran in
    never-stuck-tasks (λ vtable. (g.dyn-1.0.entry vtable).1) c.args.meter.now.bound c.in_ok-instance.instance _
    (run_state (store_of c.allocate.new.store) (hosts_in c.args.hosts.now) c.args.meter.now.left) _ (tasks_of m) c.state-2.ensures.valid ready good ran
