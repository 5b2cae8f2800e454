use Rattle.std.proofs.Common.{◌++◌}
use Rattle.std.specs.Prelude.{Some}
use Rattle.meaning.specs.execution.Modules.{data_tasks, element_tasks}
use Rattle.meaning.specs.execution.Store.{instance_of}
use Rattle.store.specs.Contents.{code_store}
use Rattle.instantiate.specs.Tasks.{link_state}
use Rattle.instantiate.proofs.lemmas.Validity.{ran-valid}
use Rattle.instantiate.proofs.instantiation.run_segments.Goals as goal

pub invariant_of-store : goal.invariant_of-store
invariant_of-store c =
    let m = c.args.wanted.now in
    let code = c.store.inside.code in
    ran-valid c.copy_segments.result c.args.meter.now.bound c.args.instance (instance_of (code_store code) (Some c.args.instance))
    (link_state code c.store.inside.state c.args.meter.now.left) (link_state code c.copy_segments.new.state c.copy_segments.new.meter.left)
    (element_tasks m.elements ++ data_tasks m.datas) c.store.invariant (rw (← c.store.view_is) at c.requires.good) c.copy_segments.ensures.ran
