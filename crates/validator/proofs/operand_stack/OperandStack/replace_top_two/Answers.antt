use Rattle.std.proofs.Common.{◌≡◌, ◌++◌, ◌∷◌, ◌+◌, ◌-◌, [], List, ap, append_assoc, arith, get_or, length, refl, sym, take, ◌∙◌}
use Rattle.std.proofs.lemmas.List.{get_or-take, length-take-le}
use Rattle.core_types.specs.declared.types.OperandType.{OperandType}
use Rattle.core_types.specs.declared.types.OperandType.TheVariants.{Known}
use Rattle.validator.specs.OperandStack.{AreEntries, operands_in, types_of}
use Rattle.validator.specs.declared.entries.Entry.TheVariants as entry
use Rattle.validator.proofs.OperandEntries.{count_of, entries_with_one, entries_without_one, one_more}
use Rattle.validator.proofs.OperandStack.{set_last, split_last}
use Rattle.validator.proofs.operand_stack.OperandStack.replace_top_two.Goals as goal

pub invariant_of-self : goal.invariant_of-self
invariant_of-self c =
    let entries = c.self.inside.entries.items in
    let wanted = entry.Known c.args.takes in
    let n = c.len-count.result - 1 in
    let below = c.len-count.result - 2 in
    let last : n + 1 ≡ length entries = omega (arith, c.if-count-lt2.false, c.len-count.ensures) in
    let mid = take n entries in
    let last_of_mid : below + 1 ≡ length mid = rw (length-take-le n entries (omega (arith, last))) (omega (arith, c.if-count-lt2.false)) in
    let top : c.index.result.now ≡ wanted = c.if-not-is_known.ensures.0 refl in
    let second : c.index-else-not-is_known.result.now ≡ wanted = c.if-not-is_known-2.ensures.0 refl in
    let second_of_mid : wanted ≡ get_or mid below wanted = rw (get_or-take n entries below wanted (omega (arith, c.if-count-lt2.false))) (rw second at c.index-else-not-is_known.ensures) in
    let parts = split_last entries wanted n last (rw top at c.index.ensures) in
    let kept : AreEntries (mid ++ wanted ∷ []) (types_of c.self.inside.runs.items) c.self.inside.more = rw (← parts) c.self.invariant in
    let both : AreEntries (take below mid ++ wanted ∷ []) (types_of c.self.inside.runs.items) c.self.inside.more =
    rw (← split_last mid wanted below last_of_mid second_of_mid) (entries_without_one (Known c.args.takes) kept) in
    rw (c.known.ensures, c.truncate.ensures.items, set_last mid (entry.Known c.args.gives) below last_of_mid) (entries_with_one (Known c.args.gives) (entries_without_one (Known c.args.takes) both))

pub returns-clause-replaced : goal.returns-clause-replaced
returns-clause-replaced c =
    let entries = c.self.inside.entries.items in
    let runs = types_of c.self.inside.runs.items in
    let wanted = entry.Known c.args.takes in
    let n = c.len-count.result - 1 in
    let below = c.len-count.result - 2 in
    let last : n + 1 ≡ length entries = omega (arith, c.if-count-lt2.false, c.len-count.ensures) in
    let mid = take n entries in
    let last_of_mid : below + 1 ≡ length mid = rw (length-take-le n entries (omega (arith, last))) (omega (arith, c.if-count-lt2.false)) in
    let top : c.index.result.now ≡ wanted = c.if-not-is_known.ensures.0 refl in
    let second : c.index-else-not-is_known.result.now ≡ wanted = c.if-not-is_known-2.ensures.0 refl in
    let second_of_mid : wanted ≡ get_or mid below wanted = rw (get_or-take n entries below wanted (omega (arith, c.if-count-lt2.false))) (rw second at c.index-else-not-is_known.ensures) in
    let parts = split_last entries wanted n last (rw top at c.index.ensures) in
    let kept : AreEntries (mid ++ wanted ∷ []) runs c.self.inside.more = rw (← parts) c.self.invariant in
    let mid_parts = split_last mid wanted below last_of_mid second_of_mid in
    let both : AreEntries (take below mid ++ wanted ∷ []) runs c.self.inside.more = rw (← mid_parts) (entries_without_one (Known c.args.takes) kept) in
    let rest = operands_in (take below mid) runs in
    let under : operands_in mid runs ≡ rest ++ Known c.args.takes ∷ [] = ap (λ es. operands_in es runs) mid_parts ∙ one_more (take below mid) runs (Known c.args.takes) in (
      rest,
      sym c.self.view_is ∙ ap (λ es. operands_in es runs) parts ∙ one_more mid runs (Known c.args.takes) ∙ ap (λ (z : List OperandType). z ++ Known c.args.takes ∷ []) under
          ∙ append_assoc rest (Known c.args.takes ∷ []) (Known c.args.takes ∷ []),
      omega (arith, count_of (entries_without_one (Known c.args.takes) both), length-take-le below mid (omega (arith, last_of_mid)), c.if-count-height.false),
      rw (c.known.ensures, c.truncate.ensures.items) (ap (λ es. operands_in es runs) (set_last mid (entry.Known c.args.gives) below last_of_mid) ∙ one_more (take below mid) runs (Known c.args.gives)),
    )
