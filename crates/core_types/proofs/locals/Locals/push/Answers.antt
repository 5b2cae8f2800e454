use Rattle.std.proofs.Common.{◌∷◌}
use Rattle.core_types.proofs.Runs.{IsAscending-added, expanded-added}
use Rattle.core_types.proofs.locals.Locals.push.Goals as goal

pub invariant_of-self-2 : goal.invariant_of-self-2
invariant_of-self-2 c =
    let all = c.self.inside.first ∷ c.self.inside.others.items in
    rw c.in_ok-push.ensures.items (IsAscending-added all c.args.self.now c.self.invariant c.self.view_is c.len.result c.args.count c.args.ty c.len.ensures c.requires)

pub returns-clause-ok : goal.returns-clause-ok
returns-clause-ok c =
    let all = c.self.inside.first ∷ c.self.inside.others.items in
    rw c.in_ok-push.ensures.items (expanded-added all c.args.self.now c.self.invariant c.self.view_is c.len.result c.args.count c.args.ty c.len.ensures)
