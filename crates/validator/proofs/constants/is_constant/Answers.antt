use Rattle.std.proofs.Common.{◌≡◌, ℕ, Some, None, sym, ◌∙◌, arith}
use Rattle.std.proofs.lemmas.Option.{get_or_from_slice_get}
use Rattle.core_types.specs.Expressions.{lent_op}
use Rattle.validator.proofs.Expressions.{judged-at-end, leads-nowhere, leads-on, not-plain}
use Rattle.validator.proofs.constants.is_constant.Goals as goal

pub loop-k-init : goal.loop-k-init
loop-k-init c = (omega (arith), ((λ constant. constant), (λ constant. constant)))

pub returns-then-is_mark : goal.returns-then-is_mark
returns-then-is_mark c = (
  λ yes. absurd cc,
  λ constant. absurd (not-plain c.args.context.now c.args.wanted c.args.ops.now c.loop-k.height c.loop-k.k c.loop-k.invariant
      (lent_op c.get-op.result) (omega (arith, c.loop-k-test.true, c.len-k-end.ensures))
      (sym (get_or_from_slice_get c.args.ops.now c.loop-k.k (lent_op c.get-op.result) (lent_op c.get-op.result) c.get-op.ensures))
      (c.is_mark.ensures.mark c.if-is_mark.true) constant),
)

pub height_behind-requires : goal.height_behind-requires
height_behind-requires c = omega (arith, c.loop-k.invariant.0, c.loop-k-test.true, c.len-k-end.ensures)

pub returns-in-None : goal.returns-in-None
returns-in-None c =
    let (plain, is) = c.is_mark.ensures.plain c.if-is_mark.false in (
      λ yes. absurd cc,
      λ constant. absurd (leads-nowhere c.args.context.now c.args.wanted c.args.ops.now c.loop-k.height c.loop-k.k c.loop-k.invariant
          (lent_op c.get-op.result) plain (omega (arith, c.loop-k-test.true, c.len-k-end.ensures))
          (sym (get_or_from_slice_get c.args.ops.now c.loop-k.k (lent_op c.get-op.result) (lent_op c.get-op.result) c.get-op.ensures)) is
          (λ (after : ℕ) leads. let found : None ≡ Some after = sym c.in-None.is ∙ (c.height_behind.ensures plain is after).1 leads in cc) constant),
    )

pub loop-k-preserved : goal.loop-k-preserved
loop-k-preserved c =
    let (plain, is) = c.is_mark.ensures.plain c.if-is_mark.false in
    leads-on c.args.context.now c.args.wanted c.args.ops.now c.loop-k.height c.loop-k.k c.loop-k.invariant (lent_op c.get-op.result) plain
    c.in-Some.after (omega (arith, c.loop-k-test.true, c.len-k-end.ensures))
    (sym (get_or_from_slice_get c.args.ops.now c.loop-k.k (lent_op c.get-op.result) (lent_op c.get-op.result) c.get-op.ensures)) is
    ((c.height_behind.ensures plain is c.in-Some.after).0 c.in-Some.is)
    (λ (other : ℕ) leads. let same : Some c.in-Some.after ≡ Some other = sym c.in-Some.is ∙ (c.height_behind.ensures plain is other).1 leads in cc)

pub returns : goal.returns
returns c = judged-at-end c.args.context.now c.args.wanted c.args.ops.now c.loop-k.height c.loop-k.k c.loop-k.invariant (omega (arith, c.loop-k-test.false, c.len-k-end.ensures))
