use Rattle.std.proofs.Common.{arith}
use Rattle.simulation.proofs.Steps.{within}
use Rattle.interpreter.proofs.laws.operands_fit.Goals as goal

pub returns : goal.returns
returns c w m g r =
    let s = r.runs.stands in
    let few = within g.code s.entries _ _ _ _ _ s.here in
    let top = r.runs.holds.top_is in
    omega (arith, few, top, r.runs.holds.count)
