use Rattle.std.proofs.Common.{◌+◌, ◌*◌, ◌^◌, arith}
use Rattle.leb.proofs.UnsignedLaws.{more_reads_at, none_behind_more}
use Rattle.leb.proofs.Widths.{pow-seven_more, pow_at_most}
use Rattle.leb.proofs.unsigned.read_more.Goals as goal

pub returns-in_err-high-clause-none : goal.returns-in_err-high-clause-none
returns-in_err-high-clause-none g c =
    rw c.from_residual.ensures (none_behind_more g.R.Unsigned.bits c.args.at c.args.bytes.now c.requires.within c.requires.more c.in_err-high.ensures.none)

pub overflow_mul-result : goal.overflow_mul-result
overflow_mul-result g c = omega (arith, c.in_ok-high.ensures.range, pow-seven_more g.R.Unsigned.bits, pow_at_most (g.R.Unsigned.bits + 7) 32 c.requires.at_most)

pub overflow_add-result : goal.overflow_add-result
overflow_add-result g c =
    omega (arith, c.in_ok-high.ensures.range, c.from.ensures, c.type_inv.bytes c.args.at, pow-seven_more g.R.Unsigned.bits, pow_at_most (g.R.Unsigned.bits + 7) 32 c.requires.at_most)

pub returns-clause-range : goal.returns-clause-range
returns-clause-range g c = omega (arith, c.in_ok-high.ensures.range, c.from.ensures, c.type_inv.bytes c.args.at, pow-seven_more g.R.Unsigned.bits)

pub returns-clause-found : goal.returns-clause-found
returns-clause-found g c =
    let high = c.in_ok-high.high in
    more_reads_at g.R.Unsigned.bits c.args.at c.in_ok-high.end high (high * 2 ^ 7 + c.from.result) c.args.bytes.now c.requires.within c.requires.more g.met.R.Unsigned.some_bits
    c.in_ok-high.ensures.found (omega (arith, c.from.ensures, c.requires.more))
