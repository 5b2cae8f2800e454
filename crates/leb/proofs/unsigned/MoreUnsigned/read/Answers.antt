use Rattle.std.proofs.Common.{◌+◌, ◌^◌, ◌<◌, arith}
use Rattle.leb.proofs.UnsignedLaws.{last_reads_at, none_missing}
use Rattle.leb.proofs.Widths.{seven_or_more}
use Rattle.leb.proofs.unsigned.MoreUnsigned.read.Goals as goal

pub returns-then-at-bytes-clause-none : goal.returns-then-at-bytes-clause-none
returns-then-at-bytes-clause-none g c = none_missing (g.R.Unsigned.bits + 7) c.args.at c.args.bytes.now c.if-at-bytes.true

pub returns-then-bytes-at-lt128-clause-range : goal.returns-then-bytes-at-lt128-clause-range
returns-then-bytes-at-lt128-clause-range g c = seven_or_more (g.R.Unsigned.bits + 7) c.from.result (omega arith) (omega (arith, c.from.ensures, c.if-bytes-at-lt128.true))

pub returns-then-bytes-at-lt128-clause-found : goal.returns-then-bytes-at-lt128-clause-found
returns-then-bytes-at-lt128-clause-found g c =
    let low : c.from.result < 2 ^ 7 = omega (arith, c.from.ensures, c.if-bytes-at-lt128.true) in
    last_reads_at (g.R.Unsigned.bits + 7) c.args.at c.from.result c.args.bytes.now c.if-at-bytes.false c.from.ensures low (seven_or_more (g.R.Unsigned.bits + 7) c.from.result (omega arith) low)
