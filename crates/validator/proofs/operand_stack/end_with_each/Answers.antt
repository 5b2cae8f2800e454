use Rattle.std.proofs.Common.{◌++◌, ◌-◌, ap, arith, drop, length, refl, sym, take, ◌∙◌}
use Rattle.std.proofs.lemmas.List.{length-drop, take-append-drop, take_all}
use Rattle.validator.proofs.operand_stack.end_with_each.Goals as goal

pub returns : goal.returns
returns c =
    let entries = c.args.entries.now in
    let k = length entries - length c.args.types.now in
    let last = sym (take_all (length entries - k) (drop k entries) (omega (arith, length-drop k entries))) ∙ c.if-not-are_each.ensures.0 refl in
    (take k entries, sym (take-append-drop k entries) ∙ ap (λ z. take k entries ++ z) last)
