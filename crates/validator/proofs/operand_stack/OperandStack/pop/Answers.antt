use Rattle.std.proofs.Common.{◌≡◌, ◌++◌, ◌∷◌, ◌+◌, ◌-◌, [], ap, arith, length, sym, take, ◌∙◌}
use Rattle.core_types.specs.declared.types.OperandType.TheVariants.{Known, Unknown}
use Rattle.validator.specs.OperandStack.{AreEntries, operands_in, types_of}
use Rattle.validator.specs.declared.entries.Entry.TheVariants as entry
use Rattle.validator.proofs.OperandEntries.{entries_without_one, one_more}
use Rattle.validator.proofs.OperandStack.{split_last}
use Rattle.validator.proofs.operand_stack.OperandStack.pop.Goals as goal

pub invariant_of-self : goal.invariant_of-self
invariant_of-self c =
    let entries = c.self.inside.entries.items in
    let n = c.len-count.result - 1 in
    let last : n + 1 ≡ length entries = omega (arith, c.if-count-eq0.false, c.len-count.ensures) in
    let parts = split_last entries (entry.Known c.in-Known.ty) n last (rw (sym c.get.ensures ∙ c.in-Known.is) at c.index.ensures) in
    let kept : AreEntries (take n entries ++ entry.Known c.in-Known.ty ∷ []) (types_of c.self.inside.runs.items) c.self.inside.more = rw (← parts) c.self.invariant in
    rw c.truncate.ensures.items (entries_without_one (Known c.in-Known.ty) kept)

pub returns-in-Known-clause-popped : goal.returns-in-Known-clause-popped
returns-in-Known-clause-popped c =
    let entries = c.self.inside.entries.items in
    let runs = types_of c.self.inside.runs.items in
    let n = c.len-count.result - 1 in
    let last : n + 1 ≡ length entries = omega (arith, c.if-count-eq0.false, c.len-count.ensures) in
    let parts = split_last entries (entry.Known c.in-Known.ty) n last (rw (sym c.get.ensures ∙ c.in-Known.is) at c.index.ensures) in
    rw c.truncate.ensures.items (sym c.self.view_is ∙ ap (λ es. operands_in es runs) parts ∙ one_more (take n entries) runs (Known c.in-Known.ty))

pub invariant_of-self-in-Unknown : goal.invariant_of-self-in-Unknown
invariant_of-self-in-Unknown c =
    let entries = c.self.inside.entries.items in
    let n = c.len-count.result - 1 in
    let last : n + 1 ≡ length entries = omega (arith, c.if-count-eq0.false, c.len-count.ensures) in
    let parts = split_last entries entry.Unknown n last (rw (sym c.get.ensures ∙ c.in-Unknown.is) at c.index.ensures) in
    let kept : AreEntries (take n entries ++ entry.Unknown ∷ []) (types_of c.self.inside.runs.items) c.self.inside.more = rw (← parts) c.self.invariant in
    rw c.truncate-in-Unknown.ensures.items (entries_without_one Unknown kept)

pub returns-in-Unknown-clause-popped : goal.returns-in-Unknown-clause-popped
returns-in-Unknown-clause-popped c =
    let entries = c.self.inside.entries.items in
    let runs = types_of c.self.inside.runs.items in
    let n = c.len-count.result - 1 in
    let last : n + 1 ≡ length entries = omega (arith, c.if-count-eq0.false, c.len-count.ensures) in
    let parts = split_last entries entry.Unknown n last (rw (sym c.get.ensures ∙ c.in-Unknown.is) at c.index.ensures) in
    rw c.truncate-in-Unknown.ensures.items (sym c.self.view_is ∙ ap (λ es. operands_in es runs) parts ∙ one_more (take n entries) runs Unknown)
