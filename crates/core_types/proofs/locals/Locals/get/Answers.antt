use Rattle.std.proofs.Common.{arith, suc, ◌∷◌}
use Rattle.core_types.proofs.Runs.{type_within, none_past}
use Rattle.core_types.proofs.locals.Locals.get.Goals as goal

pub returns-then-found-len : goal.returns-then-found-len
returns-then-found-len c =
    let all = c.self.inside.first ∷ c.self.inside.others.items in
    type_within all c.args.self.now c.self.invariant c.self.view_is (suc c.run_at-found.result) c.args.index c.index.result.now (omega arith) c.index.ensures
    (rw c.deref.ensures.value at c.run_at-found.ensures.begins)
    (rw c.deref.ensures.value at c.run_at-found.ensures.ends)

pub returns-else-found-len : goal.returns-else-found-len
returns-else-found-len c =
    let all = c.self.inside.first ∷ c.self.inside.others.items in
    none_past all c.args.self.now c.self.invariant c.self.view_is (suc c.run_at-found.result) c.args.index (omega arith) (rw c.deref.ensures.value at c.run_at-found.ensures.begins)
