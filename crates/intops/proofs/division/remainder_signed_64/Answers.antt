use Rattle.std.proofs.Common.{rules, w64}
use Rattle.intops.proofs.Quotients.{remainder_from}
use Rattle.intops.proofs.division.remainder_signed_64.Goals as goal

pub returns-else-b-eq0 : goal.returns-else-b-eq0
returns-else-b-eq0 c =
    remainder_from w64 64 c.args.a c.args.b c.integer_64.result c.signed_64.result c.signed_64-else-b-eq0.result c.wrapping_rem.result
    c.if-b-eq0.false c.signed_64.ensures c.signed_64-else-b-eq0.ensures (search rules) (search rules) (search rules) c.wrapping_rem.ensures c.integer_64.ensures
