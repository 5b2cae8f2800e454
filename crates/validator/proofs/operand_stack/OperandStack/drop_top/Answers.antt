use Rattle.std.proofs.Common.{◌≡◌, ◌∙◌, ◌+◌, ◌-◌, arith, get_or, length, refl, sym}
use Rattle.validator.specs.OperandStack.{types_of}
use Rattle.validator.specs.declared.entries.Entry.TheVariants as entry
use Rattle.validator.proofs.OperandEntries.{entries_dropped, height_dropped, operands_dropped}
use Rattle.validator.proofs.operand_stack.OperandStack.drop_top.Goals as goal

pub invariant_of-self : goal.invariant_of-self
invariant_of-self c =
    let entries = c.self.inside.entries.items in
    let n = c.len-count.result - 1 in
    let last : n + 1 ≡ length entries = omega (arith, c.if-count-height.false, c.len-count.ensures) in
    let top : entry.Known c.args.takes ≡ get_or entries n (entry.Known c.args.takes) = rw (c.if-not-is_known.ensures.0 refl) at c.index.ensures in
    rw c.truncate.ensures.items (entries_dropped entries (types_of c.self.inside.runs.items) c.args.takes n last top c.self.invariant)

pub returns-clause-dropped : goal.returns-clause-dropped
returns-clause-dropped c =
    let entries = c.self.inside.entries.items in
    let runs = types_of c.self.inside.runs.items in
    let n = c.len-count.result - 1 in
    let last : n + 1 ≡ length entries = omega (arith, c.if-count-height.false, c.len-count.ensures) in
    let top : entry.Known c.args.takes ≡ get_or entries n (entry.Known c.args.takes) = rw (c.if-not-is_known.ensures.0 refl) at c.index.ensures in
    rw c.truncate.ensures.items (
      sym c.self.view_is ∙ operands_dropped entries runs c.args.takes n last top c.self.invariant,
      height_dropped entries runs c.args.takes n last top c.self.invariant c.args.height (omega (arith, c.if-count-height.false, c.len-count.ensures)),
    )
