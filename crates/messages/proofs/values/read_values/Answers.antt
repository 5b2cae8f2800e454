use Rattle.std.proofs.Common.{◌<◌, [], length, refl, sym, ap, ◌∙◌, arith, append-nil, length-append}
use Rattle.std.proofs.lemmas.Bool.Decides.{nat_tests}
use Rattle.messages.specs.Values.{HasItsWidth, value_bytes, values_bytes}
use Rattle.messages.proofs.Fitting.{length-value_bytes}
use Rattle.messages.proofs.Spellings.{items_are_left, next_item}
use Rattle.messages.proofs.values.read_values.Goals as goal

pub returns-in_default-clause-not_spelt : goal.returns-in_default-clause-not_spelt
returns-in_default-clause-not_spelt c _ vs all e =
    let read = c.loop-rest.values.items in
    let some : 0 < length c.loop-rest.rest.now = grind (arith, nat_tests) in
    let same = c.loop-rest.invariant ∙ sym e in
    let fewer = items_are_left HasItsWidth value_bytes 15 length-value_bytes read vs _ some same in
    let next = next_item HasItsWidth value_bytes 15 length-value_bytes read vs _ [] all fewer (same ∙ sym (append-nil (values_bytes vs))) in
    c.in_default.ensures.none refl next.0 next.1 next.2 next.3

pub loop-rest-smaller : goal.loop-rest-smaller
loop-rest-smaller c =
    omega (arith, ap length c.in-Some.ensures.found, length-append (value_bytes c.in-Some.value) c.in-Some.behind.now, length-value_bytes c.in-Some.value)
