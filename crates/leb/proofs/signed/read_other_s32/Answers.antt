use Rattle.leb.proofs.SignedLaws.{none_missing}
use Rattle.leb.proofs.signed.read_other_s32.Goals as goal

pub returns-then-at-bytes-clause-none : goal.returns-then-at-bytes-clause-none
returns-then-at-bytes-clause-none c = none_missing 32 c.args.at c.args.bytes.now c.if-at-bytes.true
