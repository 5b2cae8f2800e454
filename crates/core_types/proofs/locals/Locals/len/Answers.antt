use Rattle.std.proofs.Common.{arith}
use Rattle.std.proofs.lemmas.List.{nil_from_length}
use Rattle.core_types.proofs.Runs.{ends_behind, ends_first}
use Rattle.core_types.proofs.locals.Locals.len.Goals as goal

pub returns-in-Some : goal.returns-in-Some
returns-in-Some c =
    ends_behind c.self.inside.first c.self.inside.others.items c.args.self.now c.self.invariant c.self.view_is c.in-Some.run'.now (rw c.deref.ensures.value at c.in-Some.ensures.value)

pub returns-in-None : goal.returns-in-None
returns-in-None c =
    ends_first c.self.inside.first c.self.inside.others.items c.args.self.now c.self.invariant c.self.view_is (nil_from_length c.self.inside.others.items (omega (arith, rw c.deref.ensures.value at c.in-None.ensures.item)))
