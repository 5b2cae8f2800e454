use Rattle.std.proofs.Common.{◌≡◌, ◌∙◌, ◌+◌, ◌-◌, arith, get_or, length, refl, sym}
use Rattle.validator.specs.OperandStack.{types_of}
use Rattle.validator.specs.declared.entries.Entry.TheVariants as entry
use Rattle.validator.proofs.OperandEntries.{entries_dropped_two, height_dropped_two, operands_dropped_two}
use Rattle.validator.proofs.operand_stack.OperandStack.drop_top_two.Goals as goal

pub invariant_of-self : goal.invariant_of-self
invariant_of-self c =
    let entries = c.self.inside.entries.items in
    let n = c.len-count.result - 2 in
    let last : n + 2 ≡ length entries = omega (arith, c.if-count-lt2.false, c.len-count.ensures) in
    let place : c.len-count.result - 1 ≡ n + 1 = omega (arith, c.if-count-lt2.false) in
    let first : entry.Known c.args.top ≡ get_or entries (n + 1) (entry.Known c.args.top) = rw (c.if-not-is_known.ensures.0 refl, place) at c.index.ensures in
    let second : entry.Known c.args.under ≡ get_or entries n (entry.Known c.args.under) = rw (c.if-not-is_known-2.ensures.0 refl) at c.index-else-not-is_known.ensures in
    rw c.truncate.ensures.items (entries_dropped_two entries (types_of c.self.inside.runs.items) c.args.under c.args.top n last first second c.self.invariant)

pub returns-clause-dropped : goal.returns-clause-dropped
returns-clause-dropped c =
    let entries = c.self.inside.entries.items in
    let runs = types_of c.self.inside.runs.items in
    let n = c.len-count.result - 2 in
    let last : n + 2 ≡ length entries = omega (arith, c.if-count-lt2.false, c.len-count.ensures) in
    let place : c.len-count.result - 1 ≡ n + 1 = omega (arith, c.if-count-lt2.false) in
    let first : entry.Known c.args.top ≡ get_or entries (n + 1) (entry.Known c.args.top) = rw (c.if-not-is_known.ensures.0 refl, place) at c.index.ensures in
    let second : entry.Known c.args.under ≡ get_or entries n (entry.Known c.args.under) = rw (c.if-not-is_known-2.ensures.0 refl) at c.index-else-not-is_known.ensures in
    rw c.truncate.ensures.items (
      sym c.self.view_is ∙ operands_dropped_two entries runs c.args.under c.args.top n last first second c.self.invariant,
      height_dropped_two entries runs c.args.under c.args.top n last first second c.self.invariant c.args.height (omega (arith, c.if-count-height.false)),
    )
