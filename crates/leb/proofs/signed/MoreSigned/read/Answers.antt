use Rattle.std.proofs.Common.{◌≡◌, ◌+◌, arith, w32, w64, FitsSigned}
use Rattle.std.proofs.lemmas.Int.{ints, to_z-of_z}
use Rattle.leb.proofs.SignedLaws.{ends_wider, last_reads_at, none_missing, range_wider}
use Rattle.leb.proofs.signed.MoreSigned.read.Goals as goal

pub returns-then-at-bytes-clause-none : goal.returns-then-at-bytes-clause-none
returns-then-at-bytes-clause-none g c = none_missing (g.R.Signed.bits + 7) c.args.at c.args.bytes.now c.if-at-bytes.true

pub returns-then-bytes-at-lt128-clause-range : goal.returns-then-bytes-at-lt128-clause-range
returns-then-bytes-at-lt128-clause-range g c =
    let range = c.value_of_last.ensures.range in
    let small : FitsSigned w32 c.value_of_last.result = omega (arith, ints, range) in
    let same : c.from.result ≡ c.value_of_last.result = rw (to_z-of_z w32 c.value_of_last.result small) at c.from.ensures in
    let fits : FitsSigned w64 c.from.result = omega (arith, ints, same, range) in
    rw (to_z-of_z w64 c.from.result fits, same) (range_wider 7 (g.R.Signed.bits + 7) c.value_of_last.result (omega arith) range)

pub returns-then-bytes-at-lt128-clause-found : goal.returns-then-bytes-at-lt128-clause-found
returns-then-bytes-at-lt128-clause-found g c =
    let range = c.value_of_last.ensures.range in
    let small : FitsSigned w32 c.value_of_last.result = omega (arith, ints, range) in
    let same : c.from.result ≡ c.value_of_last.result = rw (to_z-of_z w32 c.value_of_last.result small) at c.from.ensures in
    let fits : FitsSigned w64 c.from.result = omega (arith, ints, same, range) in
    rw (to_z-of_z w64 c.from.result fits, same)
    (last_reads_at (g.R.Signed.bits + 7) c.args.at c.value_of_last.result c.args.bytes.now c.if-at-bytes.false (ends_wider (g.R.Signed.bits + 7) _ c.value_of_last.result (omega arith) c.value_of_last.ensures.found))
