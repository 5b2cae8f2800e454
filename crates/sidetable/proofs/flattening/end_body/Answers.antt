use Rattle.std.proofs.Common.{◌≡◌, arith, drop, length, subst, sym, ℕ}
use Rattle.sidetable.specs.Completion.{AreCopies, ChangesEntries, all_copied}
use Rattle.sidetable.proofs.Wholes.{ends-last, last-copies, last-ranges}
use Rattle.sidetable.proofs.flattening.end_body.Goals as goal

pub set_target-requires : goal.set_target-requires
set_target-requires c =
    let (before, from, begun) = c.requires in
    begun.outer.within

pub copy_all_labels-requires-clause-within : goal.copy_all_labels-requires-clause-within
copy_all_labels-requires-clause-within c =
    let (before, from, begun) = c.requires in
    let end : c.in_ok-number.field-0 ≡ length c.args.f.now.operations.items = omega (arith, c.in_ok-number.ensures, c.len.ensures) in
    let more = last-ranges before c.args.outermost c.args.f.now begun c.set_target.new.self c.in_ok-number.field-0 end c.set_target.ensures in
    omega (arith, more, from)

pub copy_all_labels-requires-clause-copies : goal.copy_all_labels-requires-clause-copies
copy_all_labels-requires-clause-copies c =
    let (before, from, begun) = c.requires in
    let end : c.in_ok-number.field-0 ≡ length c.args.f.now.operations.items = omega (arith, c.in_ok-number.ensures, c.len.ensures) in
    subst (λ (n : ℕ). AreCopies 0 c.set_target.new.self.entries.items (drop n c.set_target.new.self.branch_ranges.items)) from
    (last-copies before c.args.outermost c.args.f.now begun c.set_target.new.self c.in_ok-number.field-0 end c.set_target.ensures)

pub returns-clause-ends : goal.returns-clause-ends
returns-clause-ends c before from opened =
    let end : c.in_ok-number.field-0 ≡ length c.args.f.now.operations.items = omega (arith, c.in_ok-number.ensures, c.len.ensures) in
    let aimed = c.set_target.new.self in
    let final = c.copy_all_labels.new.tables in
    let copied = subst (λ (n : ℕ). ChangesEntries aimed final (all_copied final.entries.items (drop n aimed.branch_ranges.items) aimed.entries.items)) (sym from) c.copy_all_labels.ensures in
    ends-last before c.args.outermost c.args.f.now opened.begun aimed c.in_ok-number.field-0 end c.set_target.ensures opened.shape final copied
