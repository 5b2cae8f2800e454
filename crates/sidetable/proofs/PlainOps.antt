-- Instructions without a body, as flat operations.
use Rattle.std.proofs.Common.{◌≡◌, refl}
use Rattle.std.specs.Prelude.{Option}
use Rattle.core_types.specs.declared.op.Op.{Op}
use Rattle.core_types.specs.declared.op.Op.TheVariants.{Block, Else, End, If, Loop, Plain}
use Rattle.core_types.specs.declared.op.PlainOp.{PlainOp}
use Rattle.sidetable.specs.Counts.{HasCounts, Signatures}
use Rattle.sidetable.specs.declared.counts.Counts.{Counts}

-- What has counts is an instruction without a body.
pub counted_is_plain : (s : Signatures) (o : Op) (found : Option Counts) → HasCounts s o found → (plain : PlainOp) × (o ≡ Plain plain)
counted_is_plain s (Plain op) found has = (op, refl)
counted_is_plain s (Block type) found has = absurd has
counted_is_plain s (Loop type) found has = absurd has
counted_is_plain s (If type) found has = absurd has
counted_is_plain s Else found has = absurd has
counted_is_plain s End found has = absurd has
