use Rattle.std.proofs.Common.{◌≡◌, ◌∙◌, ◌-◌, [], false, true, ap, arith, get_or, refl, sym, length}
use Rattle.std.proofs.lemmas.Bool.{true≢false}
use Rattle.export_names.specs.Order.{names_at}
use Rattle.export_names.proofs.Sorting.{alike, differ_from_neighbours, names_apart, one_more_apart, told_apart}
use Rattle.export_names.proofs.name_order.NameOrder.names_differ.Goals as goal

pub returns-then-eq : goal.returns-then-eq
returns-then-eq c =
    let place = c.loop-place.place in
    let long : c.len-place-end.result ≡ length c.args.self.now = c.len-place-end.ensures ∙ ap length c.self.view_is in
    let same : alike (get_or (names_at c.args.exports.now c.args.self.now) (place - 1) []) (get_or (names_at c.args.exports.now c.args.self.now) place []) ≡ true =
    told_apart c.as_str.result.now c.as_str-in-loop-place.result.now _ _ c.eq.result c.eq.ensures (c.as_str.ensures ∙ c.export_at-before.ensures.named)
    (c.as_str-in-loop-place.ensures ∙ c.export_at-here.ensures.named) ∙ c.if-eq.true in (
      λ differ. absurd cc,
      λ differ. absurd (true≢false (sym same ∙ names_apart c.args.exports.now c.args.self.now c.requires (place - 1) place
          (omega (arith, c.loop-place.auto.place)) (omega (arith, long, c.loop-place-test.true)) differ)),
    )

pub loop-place-preserved : goal.loop-place-preserved
loop-place-preserved c =
    let place = c.loop-place.place in
    let apart : alike (get_or (names_at c.args.exports.now c.args.self.now) (place - 1) []) (get_or (names_at c.args.exports.now c.args.self.now) place []) ≡ false =
    told_apart c.as_str.result.now c.as_str-in-loop-place.result.now _ _ c.eq.result c.eq.ensures (c.as_str.ensures ∙ c.export_at-before.ensures.named)
    (c.as_str-in-loop-place.ensures ∙ c.export_at-here.ensures.named) ∙ c.if-eq.false in
    one_more_apart (names_at c.args.exports.now c.args.self.now) place c.loop-place.auto.place c.loop-place.invariant apart

pub returns : goal.returns
returns c =
    let long : c.len-place-end.result ≡ length c.args.self.now = c.len-place-end.ensures ∙ ap length c.self.view_is in (
      λ held. differ_from_neighbours c.args.exports.now c.args.self.now c.requires (λ k lt. c.loop-place.invariant k (omega (arith, long, lt, c.loop-place-test.false))),
      λ differ. refl,
    )
