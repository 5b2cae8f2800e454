use Rattle.std.proofs.Common.{[]}
use Rattle.std.proofs.lemmas.Result.{on_ok_weaker}
use Rattle.sidetable.proofs.flat_module.FlattenerVisitor.control.Goals as goal

pub returns-clause-ready : goal.returns-clause-ready
returns-clause-ready c =
    let (before, is, begun) = c.requires in
    on_ok_weaker c.pass_control.result (λ passes. (before, is, (passes []).begun before begun)) c.pass_control.ensures
