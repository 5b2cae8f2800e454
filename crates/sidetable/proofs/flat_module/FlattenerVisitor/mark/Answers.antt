use Rattle.std.proofs.Common.{[]}
use Rattle.std.proofs.lemmas.Result.{on_ok_weaker}
use Rattle.sidetable.proofs.flat_module.FlattenerVisitor.mark.Goals as goal

pub returns-clause-ready : goal.returns-clause-ready
returns-clause-ready c =
    let (before, is, begun) = c.requires in
    on_ok_weaker c.pass_mark.result (λ passes. (before, is, (passes []).begun before begun)) c.pass_mark.ensures
