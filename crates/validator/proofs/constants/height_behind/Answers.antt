use Rattle.std.proofs.Common.{ℕ}
use Rattle.validator.proofs.Expressions.{constant-leads}
use Rattle.validator.proofs.constants.height_behind.Goals as goal

pub returns-then-is_constant_of : goal.returns-then-is_constant_of
returns-then-is_constant_of c = λ plain is (after : ℕ).
    constant-leads c.args.context.now plain c.args.wanted c.args.height after ((c.is_constant_of.ensures plain is).0 c.if-is_constant_of.true)
