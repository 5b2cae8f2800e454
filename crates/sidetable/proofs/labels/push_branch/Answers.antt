use Rattle.std.proofs.Common.{◌∙◌, ◌≡◌, ◌++◌, ap, arith, length, map, List, ℕ}
use Rattle.sidetable.specs.Completion.{copy_of}
use Rattle.sidetable.specs.Labels.{number_at}
use Rattle.sidetable.specs.declared.side_tables.BranchRange.{BranchRange}
use Rattle.sidetable.proofs.Branches.{branch-adds, branch-packs}
use Rattle.sidetable.proofs.labels.push_branch.Goals as goal

pub returns-clause-adds : goal.returns-clause-adds
returns-clause-adds c =
    let copied = c.in_ok-push_copies.ensures in
    let place = c.in_ok-place.ensures in
    let r : BranchRange = record { first = c.in_ok-first.first; count = c.in_ok-count.count; default = c.label_at.result } in
    branch-adds c.args.tables.now c.push_branch_range.new.self c.args.outermost c.args.levels.now c.args.branch.now.labels 0 r c.requires
    ((rw place.entries copied.entries)
    ∙ ap (λ (is : List ℕ). c.args.tables.now.entries.items ++ map (λ (index : ℕ). copy_of (number_at c.args.outermost c.args.levels.now index)) is) c.as_slice.ensures)
    (rw copied.branch_ranges at place.ranges) (place.constants ∙ copied.constants) (place.pairs
    ∙ copied.pairs) (omega (arith, c.in_ok-first.ensures, c.len.ensures)) (omega (arith, c.in_ok-count.ensures, c.len-2.ensures))

pub returns-clause-packs : goal.returns-clause-packs
returns-clause-packs c =
    let copied = c.in_ok-push_copies.ensures in
    let place = c.in_ok-place.ensures in
    let r : BranchRange = record { first = c.in_ok-first.first; count = c.in_ok-count.count; default = c.label_at.result } in
    let n : c.in_ok-place.place ≡ length c.args.tables.now.branch_ranges.items = rw copied.branch_ranges at place.number in
    λ final has. branch-packs c.args.tables.now c.push_branch_range.new.self c.args.outermost c.args.levels.now c.args.branch.now.labels c.args.branch.now.default r c.requires
    ((rw place.entries copied.entries)
    ∙ ap (λ (is : List ℕ). c.args.tables.now.entries.items ++ map (λ (index : ℕ). copy_of (number_at c.args.outermost c.args.levels.now index)) is) c.as_slice.ensures)
    (rw copied.branch_ranges at place.ranges) (place.constants ∙ copied.constants) (place.pairs
    ∙ copied.pairs) (omega (arith, c.in_ok-first.ensures, c.len.ensures)) (omega (arith, c.in_ok-count.ensures, c.len-2.ensures))
    c.label_at.ensures c.in_ok-place.place n final has
