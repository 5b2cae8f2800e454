use Rattle.std.proofs.Common.{◌+◌, arith, w64, FitsSigned}
use Rattle.std.proofs.lemmas.Int.{ints, to_z-of_z}
use Rattle.leb.proofs.SignedLaws.{IsInRange-fits, more_reads_at, none_behind_more, range_more, range_wider}
use Rattle.leb.proofs.signed.read_more.Goals as goal

pub returns-in_err-high-clause-none : goal.returns-in_err-high-clause-none
returns-in_err-high-clause-none g c =
    rw c.from_residual.ensures (none_behind_more g.R.Signed.bits c.args.at c.args.bytes.now c.requires.within c.requires.more c.in_err-high.ensures.none)

pub joined_value-requires-clause-rest : goal.joined_value-requires-clause-rest
joined_value-requires-clause-rest g c =
    let range = c.in_ok-high.ensures.range in
    let fits = IsInRange-fits g.R.Signed.bits c.in_ok-high.high (omega (arith, c.requires.at_most)) range in
    rw (to_z-of_z w64 c.in_ok-high.high fits) (range_wider g.R.Signed.bits 57 c.in_ok-high.high (omega (arith, c.requires.at_most)) range)

pub returns-clause-range : goal.returns-clause-range
returns-clause-range g c =
    let range = c.in_ok-high.ensures.range in
    let high_fits = IsInRange-fits g.R.Signed.bits c.in_ok-high.high (omega (arith, c.requires.at_most)) range in
    let wider = range_more g.R.Signed.bits _ c.in_ok-high.high c.joined_value.result g.met.R.Signed.some_bits c.requires.more (omega (arith, c.type_inv.bytes c.args.at)) range (rw (to_z-of_z w64 c.in_ok-high.high high_fits) at c.joined_value.ensures) in
    let fits = IsInRange-fits (g.R.Signed.bits + 7) c.joined_value.result c.requires.at_most wider in
    rw (to_z-of_z w64 c.joined_value.result fits) wider

pub returns-clause-found : goal.returns-clause-found
returns-clause-found g c =
    let range = c.in_ok-high.ensures.range in
    let high_fits = IsInRange-fits g.R.Signed.bits c.in_ok-high.high (omega (arith, c.requires.at_most)) range in
    let value = rw (to_z-of_z w64 c.in_ok-high.high high_fits) at c.joined_value.ensures in
    let fits : FitsSigned w64 c.joined_value.result = omega (arith, ints, value, range_wider g.R.Signed.bits 57 c.in_ok-high.high (omega (arith, c.requires.at_most)) range) in
    rw (to_z-of_z w64 c.joined_value.result fits)
    (more_reads_at g.R.Signed.bits c.args.at c.in_ok-high.end c.in_ok-high.high c.joined_value.result c.args.bytes.now c.requires.within c.requires.more g.met.R.Signed.some_bits c.in_ok-high.ensures.found value)
