use Rattle.std.proofs.Common.{◌≡◌, ℕ, drop}
use Rattle.std.specs.List.{All}
use Rattle.sidetable.specs.Completion.{AreInOrder, ChangesEntries, IsCopying}
use Rattle.sidetable.proofs.CopiedEntries.{copied_in_turn}
use Rattle.sidetable.proofs.copies.copy_all_labels.Given as goal

abbrev pub invariant-loop-index : goal.invariant-loop-index
invariant-loop-index l = record {
  in_order : (from : ℕ) × AreInOrder from (drop l.index l.fn.tables.branch_ranges.items);
  copying : All (IsCopying l.tables.entries.items) (drop l.index l.fn.tables.branch_ranges.items);
  changes : ChangesEntries l.fn.tables l.tables l.tables.entries.items;
  same : copied_in_turn (drop l.index l.fn.tables.branch_ranges.items) l.tables.entries.items ≡ copied_in_turn (drop l.first_range l.fn.tables.branch_ranges.items) l.fn.tables.entries.items;
}
