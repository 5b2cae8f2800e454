use Rattle.std.proofs.Common.{arith, w64}
use Rattle.std.proofs.lemmas.Int.{to_z-of_z}
use Rattle.leb.proofs.SignedLaws.{IsInRange-fits, ends_low, last_reads_at, none_last, none_missing}
use Rattle.leb.proofs.signed.read_last.Goals as goal

pub returns-then-at-bytes-clause-none : goal.returns-then-at-bytes-clause-none
returns-then-at-bytes-clause-none c = none_missing c.args.bits c.args.at c.args.bytes.now c.if-at-bytes.true

pub returns-then-bytes-at-ge128-clause-none : goal.returns-then-bytes-at-ge128-clause-none
returns-then-bytes-at-ge128-clause-none c =
    none_last c.args.bits c.args.at c.args.bytes.now c.if-at-bytes.false c.requires.at_most (λ z ends. absurd (omega (arith, c.if-bytes-at-ge128.true, ends_low c.args.bits _ z ends)))

pub returns-in_err-value-clause-none : goal.returns-in_err-value-clause-none
returns-in_err-value-clause-none c =
    rw c.from_residual.ensures (none_last c.args.bits c.args.at c.args.bytes.now c.if-at-bytes.false c.requires.at_most c.in_err-value.ensures.none)

pub returns-clause-found : goal.returns-clause-found
returns-clause-found c =
    let fits = IsInRange-fits c.args.bits c.in_ok-value.value (omega (arith, c.requires.at_most)) c.in_ok-value.ensures.range in
    rw (to_z-of_z w64 c.in_ok-value.value fits) (last_reads_at c.args.bits c.args.at c.in_ok-value.value c.args.bytes.now c.if-at-bytes.false c.in_ok-value.ensures.found)
