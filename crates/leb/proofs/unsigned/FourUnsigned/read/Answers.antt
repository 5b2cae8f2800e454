use Rattle.std.proofs.Common.{arith}
use Rattle.leb.proofs.UnsignedLaws.{last_reads_at, none_last, none_missing}
use Rattle.leb.proofs.unsigned.FourUnsigned.read.Goals as goal

pub returns-then-at-bytes-clause-none : goal.returns-then-at-bytes-clause-none
returns-then-at-bytes-clause-none c = none_missing 4 c.args.at c.args.bytes.now c.if-at-bytes.true

pub returns-then-bytes-at-ge16-clause-none : goal.returns-then-bytes-at-ge16-clause-none
returns-then-bytes-at-ge16-clause-none c =
    none_last 4 c.args.at c.args.bytes.now c.if-at-bytes.false (omega arith) (λ low within. absurd (omega (arith, c.if-bytes-at-ge16.true)))

pub returns-clause-found : goal.returns-clause-found
returns-clause-found c =
    let low = c.if-bytes-at-ge16.false in
    last_reads_at 4 c.args.at c.from.result c.args.bytes.now c.if-at-bytes.false c.from.ensures (omega (arith, c.from.ensures, low)) (omega (arith, c.from.ensures, low))
