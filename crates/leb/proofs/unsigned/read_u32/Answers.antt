use Rattle.std.proofs.Common.{◌^◌, ◌<◌, arith}
use Rattle.leb.proofs.UnsignedLaws.{last_reads_at}
use Rattle.leb.proofs.unsigned.read_u32.Goals as goal

pub returns-then-bytes-at-lt128-clause-found : goal.returns-then-bytes-at-lt128-clause-found
returns-then-bytes-at-lt128-clause-found c =
    let low : c.from.result < 2 ^ 7 = omega (arith, c.from.ensures, c.if-bytes-at-lt128.true) in
    last_reads_at 32 c.args.at c.from.result c.args.bytes.now c.if-at-bytes.true c.from.ensures low (omega (arith, low))
