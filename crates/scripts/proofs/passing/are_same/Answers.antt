use Rattle.std.proofs.Common.{◌∙◌, ◌<◌, ◌≤◌, ◌+◌, drop, length, sym, ap, ◌&&◌, arith}
use Rattle.meaning.specs.scripts.Runner.{same_values}
use Rattle.scripts.proofs.lemmas.Lists.{same_values-drop, same_values-end, same_values-lengths}
use Rattle.scripts.proofs.passing.are_same.Goals as goal

pub returns-then-values-others : goal.returns-then-values-others
returns-then-values-others c = sym (same_values-lengths _ _ c.if-values-others.true)

pub returns-then-not-is_same : goal.returns-then-not-is_same
returns-then-not-is_same c =
    let inside : c.loop-k.k < length c.args.others.now = omega arith in
    ap (λ b. b && same_values (drop (c.loop-k.k + 1) c.args.values.now) (drop (c.loop-k.k + 1) c.args.others.now)) c.if-not-is_same.ensures
    ∙ sym (same_values-drop c.args.values.now c.args.others.now c.loop-k.k _ _ c.loop-k-test.true inside) ∙ c.loop-k.invariant.so_far

pub returns : goal.returns
returns c =
    let past : length c.args.others.now ≤ c.loop-k.k = omega arith in
    sym (same_values-end c.args.values.now c.args.others.now c.loop-k.k c.loop-k-test.false past) ∙ c.loop-k.invariant.so_far

pub loop-k-preserved : goal.loop-k-preserved
loop-k-preserved c =
    let inside : c.loop-k.k < length c.args.others.now = omega arith in
    record {
      same_length = c.loop-k.invariant.same_length;
      so_far = ap (λ b. b && same_values (drop (c.loop-k.k + 1) c.args.values.now) (drop (c.loop-k.k + 1) c.args.others.now)) c.if-not-is_same.ensures
          ∙ sym (same_values-drop c.args.values.now c.args.others.now c.loop-k.k _ _ c.loop-k-test.true inside) ∙ c.loop-k.invariant.so_far;
    }
