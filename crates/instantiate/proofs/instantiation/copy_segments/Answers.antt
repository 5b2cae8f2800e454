use Rattle.std.proofs.Common.{sym}
use Rattle.std.proofs.lemmas.Result.{err_from_is_err_and}
use Rattle.meaning.specs.execution.Modules.{data_tasks, element_tasks}
use Rattle.instantiate.specs.Tasks.{link_state}
use Rattle.instantiate.proofs.lemmas.Instances.{found-instance}
use Rattle.meaning.specs.execution.Runs.{NoHosts}
use Rattle.instantiate.proofs.lemmas.Tasks.{ended-then, ran-then}
use Rattle.instantiate.proofs.instantiation.copy_segments.Goals as goal

pub returns-in_err-run_element_segments-clause-ran : goal.returns-in_err-run_element_segments-clause-ran
returns-in_err-run_element_segments-clause-ran c =
    let code = c.args.code.now in
    let m = c.args.wanted.now in
    let passed = err_from_is_err_and c.from_residual.result c.from_residual.ensures.1 in
    let same = found-instance code c.args.instance m c.in-Some.found.now c.requires.ready.instance_is (sym c.in-Some.ensures) in
    rw (passed.1, passed.2, ← same)
    (ended-then NoHosts c.args.meter.now.bound c.args.instance _ (link_state code c.args.state.now c.args.meter.now.left)
    (link_state code c.run_element_segments.new.state c.run_element_segments.new.meter.left) (element_tasks m.elements) (data_tasks m.datas) _
    c.in_err-run_element_segments.ensures.ran)

pub returns-clause-ran : goal.returns-clause-ran
returns-clause-ran c =
    let code = c.args.code.now in
    let m = c.args.wanted.now in
    let same = found-instance code c.args.instance m c.in-Some.found.now c.requires.ready.instance_is (sym c.in-Some.ensures) in
    rw (← same) (ran-then NoHosts c.args.meter.now.bound c.args.instance _ c.run_data_segments.result
    (link_state code c.args.state.now c.args.meter.now.left)
    (link_state code c.run_element_segments.new.state c.run_element_segments.new.meter.left)
    (link_state code c.run_data_segments.new.state c.run_data_segments.new.meter.left) (element_tasks m.elements) (data_tasks m.datas)
    c.in_ok-run_element_segments.ensures.ran (rw c.in_ok-run_element_segments.ensures.bound at c.run_data_segments.ensures.ran))
