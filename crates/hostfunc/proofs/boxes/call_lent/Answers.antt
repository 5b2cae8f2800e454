use Rattle.std.proofs.Common.{ap}
use Rattle.hostfunc.proofs.boxes.call_lent.Goals as goal

pub returns-clause-unchanged : goal.returns-clause-unchanged
returns-clause-unchanged g c = λ e. let same = c.call.ensures.1.1.1.1 e in (ap (λ w. (c.args.object.now.0, w)) same.0, same.1)
