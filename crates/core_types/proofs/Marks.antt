-- Operations that are not marks.
use Rattle.std.proofs.Common.{refl, ◌≡◌}
use Rattle.std.specs.Prelude.{Option}
use Rattle.core_types.specs.declared.lent_op.OpWith.{OpWith}
use Rattle.core_types.specs.declared.lent_op.OpWith.TheVariants as short
use Rattle.core_types.specs.declared.op.Op.{Op}
use Rattle.core_types.specs.declared.op.Op.TheVariants as op
use Rattle.core_types.specs.declared.op.PlainOp.{PlainOp}
use Rattle.core_types.specs.declared.types.ValType.{ValType}
use Rattle.core_types.specs.Expressions.{op_with}

module _ {T : Type 0} (other_op : T → Op) where
  -- An operation that is not a mark is an instruction without a body.
  pub plain_unless_mark : (o : OpWith T) → ((t : Option ValType) → o ≡ short.Block t → ⊥) → ((t : Option ValType) → o ≡ short.Loop t → ⊥) → ((t : Option ValType) → o ≡ short.If t → ⊥)
      → (o ≡ short.Else → ⊥) → (o ≡ short.End → ⊥) → ((t : T) → o ≡ short.Other t → ⊥) → (p : PlainOp) × (op_with other_op o ≡ op.Plain p)
  plain_unless_mark short.Unreachable block loop if_ else_ end other = (_, refl)
  plain_unless_mark short.Nop block loop if_ else_ end other = (_, refl)
  plain_unless_mark (short.Br l) block loop if_ else_ end other = (_, refl)
  plain_unless_mark (short.BrIf l) block loop if_ else_ end other = (_, refl)
  plain_unless_mark short.Return block loop if_ else_ end other = (_, refl)
  plain_unless_mark (short.Call l) block loop if_ else_ end other = (_, refl)
  plain_unless_mark (short.RefNull t) block loop if_ else_ end other = (_, refl)
  plain_unless_mark short.RefIsNull block loop if_ else_ end other = (_, refl)
  plain_unless_mark (short.RefFunc f) block loop if_ else_ end other = (_, refl)
  plain_unless_mark (short.Parametric o) block loop if_ else_ end other = (_, refl)
  plain_unless_mark (short.LocalGet l) block loop if_ else_ end other = (_, refl)
  plain_unless_mark (short.LocalSet l) block loop if_ else_ end other = (_, refl)
  plain_unless_mark (short.LocalTee l) block loop if_ else_ end other = (_, refl)
  plain_unless_mark (short.GlobalGet l) block loop if_ else_ end other = (_, refl)
  plain_unless_mark (short.GlobalSet l) block loop if_ else_ end other = (_, refl)
  plain_unless_mark (short.Load w a n) block loop if_ else_ end other = (_, refl)
  plain_unless_mark (short.Load8 w s a n) block loop if_ else_ end other = (_, refl)
  plain_unless_mark (short.Load16 w s a n) block loop if_ else_ end other = (_, refl)
  plain_unless_mark (short.Load32 s a n) block loop if_ else_ end other = (_, refl)
  plain_unless_mark (short.Store w a n) block loop if_ else_ end other = (_, refl)
  plain_unless_mark (short.Store8 w a n) block loop if_ else_ end other = (_, refl)
  plain_unless_mark (short.Store16 w a n) block loop if_ else_ end other = (_, refl)
  plain_unless_mark (short.Store32 a n) block loop if_ else_ end other = (_, refl)
  plain_unless_mark short.MemorySize block loop if_ else_ end other = (_, refl)
  plain_unless_mark short.MemoryGrow block loop if_ else_ end other = (_, refl)
  plain_unless_mark short.MemoryFill block loop if_ else_ end other = (_, refl)
  plain_unless_mark short.MemoryCopy block loop if_ else_ end other = (_, refl)
  plain_unless_mark (short.Numeric o) block loop if_ else_ end other = (_, refl)
  plain_unless_mark (short.I32Const n) block loop if_ else_ end other = (_, refl)
  plain_unless_mark (short.I64Const n) block loop if_ else_ end other = (_, refl)
  plain_unless_mark (short.Block t) block loop if_ else_ end other = absurd (block t refl)
  plain_unless_mark (short.Loop t) block loop if_ else_ end other = absurd (loop t refl)
  plain_unless_mark (short.If t) block loop if_ else_ end other = absurd (if_ t refl)
  plain_unless_mark short.Else block loop if_ else_ end other = absurd (else_ refl)
  plain_unless_mark short.End block loop if_ else_ end other = absurd (end refl)
  plain_unless_mark (short.Other t) block loop if_ else_ end other = absurd (other t refl)
