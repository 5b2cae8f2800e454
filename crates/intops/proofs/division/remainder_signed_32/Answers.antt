use Rattle.std.proofs.Common.{rules, w32}
use Rattle.intops.proofs.Quotients.{remainder_from}
use Rattle.intops.proofs.division.remainder_signed_32.Goals as goal

pub returns-else-b-eq0 : goal.returns-else-b-eq0
returns-else-b-eq0 c =
    remainder_from w32 32 c.args.a c.args.b c.integer_32.result c.signed_32.result c.signed_32-else-b-eq0.result c.wrapping_rem.result
    c.if-b-eq0.false c.signed_32.ensures c.signed_32-else-b-eq0.ensures (search rules) (search rules) (search rules) c.wrapping_rem.ensures c.integer_32.ensures
