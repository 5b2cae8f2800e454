use Rattle.std.proofs.Common.{arith, w32, FitsSigned}
use Rattle.std.proofs.lemmas.Int.{ints, to_z-of_z}
use Rattle.leb.proofs.SignedLaws.{ends_wider, last_reads_at}
use Rattle.leb.proofs.signed.read_s32.Goals as goal

pub returns-then-bytes-at-lt128-clause-found : goal.returns-then-bytes-at-lt128-clause-found
returns-then-bytes-at-lt128-clause-found c =
    let fits : FitsSigned w32 c.value_of_last.result = omega (arith, ints, c.value_of_last.ensures.range) in
    rw (to_z-of_z w32 c.value_of_last.result fits) (last_reads_at 32 c.args.at c.value_of_last.result c.args.bytes.now c.if-at-bytes.true (ends_wider 32 _ c.value_of_last.result (omega arith) c.value_of_last.ensures.found))
