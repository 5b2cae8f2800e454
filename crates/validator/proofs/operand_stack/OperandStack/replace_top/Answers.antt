use Rattle.std.proofs.Common.{◌≡◌, ◌∙◌, ◌+◌, ◌-◌, ap, arith, get_or, length, refl, sym, take}
use Rattle.core_types.specs.declared.types.OperandType.TheVariants.{Known}
use Rattle.validator.specs.OperandStack.{operands_in, types_of}
use Rattle.validator.specs.declared.entries.Entry.TheVariants as entry
use Rattle.validator.proofs.OperandEntries.{entries_dropped, entries_with_one, height_dropped, one_more, operands_dropped}
use Rattle.validator.proofs.OperandStack.{set_last}
use Rattle.validator.proofs.operand_stack.OperandStack.replace_top.Goals as goal

pub invariant_of-self : goal.invariant_of-self
invariant_of-self c =
    let entries = c.self.inside.entries.items in
    let n = c.len-count.result - 1 in
    let last : n + 1 ≡ length entries = omega (arith, c.if-count-height.false, c.len-count.ensures) in
    let top : entry.Known c.args.takes ≡ get_or entries n (entry.Known c.args.takes) = rw (c.if-not-is_known.ensures.0 refl) at c.index.ensures in
    rw (c.known.ensures, set_last entries (entry.Known c.args.gives) n last)
    (entries_with_one (Known c.args.gives) (entries_dropped entries (types_of c.self.inside.runs.items) c.args.takes n last top c.self.invariant))

pub returns-clause-replaced : goal.returns-clause-replaced
returns-clause-replaced c =
    let entries = c.self.inside.entries.items in
    let runs = types_of c.self.inside.runs.items in
    let n = c.len-count.result - 1 in
    let last : n + 1 ≡ length entries = omega (arith, c.if-count-height.false, c.len-count.ensures) in
    let top : entry.Known c.args.takes ≡ get_or entries n (entry.Known c.args.takes) = rw (c.if-not-is_known.ensures.0 refl) at c.index.ensures in (
      operands_in (take n entries) runs,
      sym c.self.view_is ∙ operands_dropped entries runs c.args.takes n last top c.self.invariant,
      height_dropped entries runs c.args.takes n last top c.self.invariant c.args.height (omega (arith, c.if-count-height.false, c.len-count.ensures)),
      rw c.known.ensures (ap (λ es. operands_in es runs) (set_last entries (entry.Known c.args.gives) n last) ∙ one_more (take n entries) runs (Known c.args.gives)),
    )
