use Rattle.std.proofs.Common.{◌≡◌, ◌∷◌, ◌+◌, ◌<◌, ◌∙◌, List, [], ap, arith, drop, get_or, length, refl, sym, ℕ}
use Rattle.std.proofs.lemmas.List.{drop_all, drop_more}
use Rattle.std.proofs.lemmas.List.Elements.{All-head, All-tail}
use Rattle.std.specs.List.{All}
use Rattle.sidetable.specs.Completion.{AreInOrder, IsCopying, all_copied}
use Rattle.sidetable.specs.declared.operations.Entry.{Entry}
use Rattle.sidetable.specs.declared.side_tables.BranchRange.{BranchRange}
use Rattle.sidetable.specs.declared.side_tables.SideTables.{SideTables}
use Rattle.sidetable.proofs.CopiedEntries.{copied_in_turn, copying-behind, in-turn-is}
use Rattle.sidetable.proofs.copies.copy_all_labels.Goals as goal

-- The range at an index is the first of those from there on.
first-range : (before now : SideTables) (index : ℕ) (r : BranchRange) → now.branch_ranges ≡ before.branch_ranges → index < length before.branch_ranges.items
    → r ≡ get_or now.branch_ranges.items index r
    → drop index before.branch_ranges.items ≡ r ∷ drop (index + 1) before.branch_ranges.items
first-range before now index r same inside read =
    drop_more before.branch_ranges.items index r inside ∙ ap (λ (x : BranchRange). x ∷ drop (index + 1) before.branch_ranges.items) (sym (rw same at read))

pub copy_labels-requires : goal.copy_labels-requires
copy_labels-requires c =
    let rs = c.args.tables.now.branch_ranges.items in
    let index = c.loop-index.index in
    let r = c.index-range.result.now in
    let here = first-range c.args.tables.now c.loop-index.tables index r c.loop-index.invariant.changes.branch_ranges (omega (arith, c.loop-index-test.true, c.len-index-end.ensures))
    c.index-range.ensures in
    All-head (IsCopying c.loop-index.tables.entries.items) r (drop (index + 1) rs) (rw here at c.loop-index.invariant.copying)

pub loop-index-preserved : goal.loop-index-preserved
loop-index-preserved c =
    let i = c.loop-index.invariant in
    let rs = c.args.tables.now.branch_ranges.items in
    let index = c.loop-index.index in
    let r = c.index-range.result.now in
    let es = c.loop-index.tables.entries.items in
    let later = drop (index + 1) rs in
    let here = first-range c.args.tables.now c.loop-index.tables index r i.changes.branch_ranges (omega (arith, c.loop-index-test.true, c.len-index-end.ensures)) c.index-range.ensures in
    let (from, in_order) = i.in_order in
    let order : AreInOrder from (r ∷ later) = rw here at in_order in
    let copying : All (IsCopying es) (r ∷ later) = rw here at i.copying in
    let changed = c.copy_labels.ensures in
    record {
      in_order = (r.first + r.count, order.1);
      copying = rw changed.entries (copying-behind es r later (All-head (IsCopying es) r later copying).within order.1 (All-tail (IsCopying es) r later copying));
      changes = record {
        entries = refl;
        branch_ranges = changed.branch_ranges ∙ i.changes.branch_ranges;
        constants = changed.constants ∙ i.changes.constants;
        pairs = changed.pairs
            ∙ i.changes.pairs;
      };
      same = ap (copied_in_turn later) changed.entries ∙ (rw here at i.same);
    }

pub returns : goal.returns
returns c =
    let i = c.loop-index.invariant in
    let rs = drop c.args.first_range c.args.tables.now.branch_ranges.items in
    let before = c.args.tables.now.entries.items in
    let none : drop c.loop-index.index c.args.tables.now.branch_ranges.items ≡ [] = drop_all c.loop-index.index c.args.tables.now.branch_ranges.items
    (omega (arith, c.loop-index-test.false, c.len-index-end.ensures)) in
    let done : c.loop-index.tables.entries.items ≡ copied_in_turn rs before = rw none at i.same in
    record {
      entries = done ∙ in-turn-is 0 rs before c.requires.copies.in_order c.requires.copies.copying ∙ ap (λ (es : List Entry). all_copied es rs before) (sym done);
      branch_ranges = i.changes.branch_ranges;
      constants = i.changes.constants;
      pairs = i.changes.pairs;
    }
