-- A branch by number: what is added for it, and what it stands for in the end.
use Rattle.std.proofs.Common.{◌≡◌, ℕ, List, [], ◌∷◌, ◌++◌, length, map, take, drop, get_or, refl, ap, ap₂, sym, subst, ◌∙◌, arith, append_assoc, length-append}
use Rattle.std.proofs.lemmas.List.{drop_at, get_or_at, length-map, take_all}
use Rattle.std.proofs.lemmas.List.Elements.{All-cons, All-nil}
use Rattle.sidetable.specs.Completion.{Adds, IsCopying, HasAdded, all_copied, copy_of, ranges_since}
use Rattle.sidetable.specs.Flat.{BrTable, entry_at}
use Rattle.sidetable.specs.Labels.{HaveEntries, label_entries, number_at}
use Rattle.sidetable.specs.Packing.{Packs, branch_entries}
use Rattle.sidetable.specs.SideTables.{Continues, SideTables, branch_range_of, entry_of_number}
use Rattle.sidetable.specs.declared.labels.Level.{Level}
use Rattle.sidetable.specs.declared.operations.Entry.{Entry}
use Rattle.sidetable.specs.declared.operations.PackedOp.TheVariants as packed
use Rattle.sidetable.specs.declared.operations.TransferInstruction.TheVariants as transfer
use Rattle.sidetable.specs.declared.side_tables.BranchRange.{BranchRange}
use Rattle.sidetable.proofs.Completing.{since-is}
use Rattle.sidetable.proofs.Growth.{continues-same}
use Rattle.sidetable.proofs.LabelNumbers.{copies-before, entries-at-numbers, entry-at-number, label-there, range-in-the-end}

module _ (old new : SideTables) (outermost : ℕ) (levels : List Level) (labels : List ℕ) (default : ℕ) (r : BranchRange) (have : HaveEntries old outermost levels)
    (entries : new.entries.items ≡ old.entries.items ++ map (λ (index : ℕ). copy_of (number_at outermost levels index)) labels) (ranges : new.branch_ranges.items ≡ old.branch_ranges.items ++ (r ∷ []))
    (constants : new.constants ≡ old.constants) (pairs : new.pairs ≡ old.pairs) (first : r.first ≡ length old.entries.items) (count : r.count ≡ length labels) where
  abbrev copies : List Entry
  copies = map (λ (index : ℕ). copy_of (number_at outermost levels index)) labels

  copies-size : length copies ≡ r.count
  copies-size = length-map labels (λ (index : ℕ). copy_of (number_at outermost levels index)) ∙ sym count

  there : take r.count (drop r.first new.entries.items) ≡ copies
  there =
      ap (λ (es : List Entry). take r.count (drop r.first es)) entries ∙ ap (take r.count) (drop_at old.entries.items copies r.first (sym first))
      ∙ take_all r.count copies (omega (arith, copies-size))

  is-copying : IsCopying new.entries.items r
  is-copying = record {
    within = omega (arith, first, copies-size, ap length entries, length-append old.entries.items copies);
    before = rw (there, first) (copies-before old outermost levels labels have);
  }

  pub branch-adds : Adds old new
  branch-adds = record {
    grows = record {
      entries = (copies, entries);
      branch_ranges = (r ∷ [], ranges);
      constants = rw constants (continues-same old.constants.items);
      pairs = rw pairs (continues-same old.pairs.items);
    };
    copies = record {
      in_order = (omega (arith, first), tt {0});
      copying = All-cons (IsCopying new.entries.items) r [] is-copying (All-nil (IsCopying new.entries.items));
    };
  }

  module _ (default_is : r.default ≡ number_at outermost levels default) (n : ℕ) (n_is : n ≡ length old.branch_ranges.items) (final : SideTables) (has : HasAdded old new final) where
    range-is : branch_range_of final n ≡ r
    range-is =
        let (more, continues) = has.others.branch_ranges in
        let d : BranchRange = record { first = 0; count = 0; default = 0 } in
        ap (λ (rs : List BranchRange). get_or rs n d) (continues ∙ ap (λ (rs : List BranchRange). rs ++ more) ranges ∙ append_assoc old.branch_ranges.items (r ∷ []) more)
        ∙ get_or_at old.branch_ranges.items r more d n (sym n_is)

    in-the-end : branch_entries final r ≡ map (entry_at (entry_of_number final outermost) (label_entries final outermost levels)) labels
    in-the-end =
        let (front, size, continues) = has.entries in
        let added : drop (length old.entries.items) new.entries.items ≡ copies = ap (drop (length old.entries.items)) entries
        ∙ drop_at old.entries.items copies (length old.entries.items) refl in
        let same : all_copied final.entries.items (ranges_since old new) (front ++ drop (length old.entries.items) new.entries.items) ≡ all_copied final.entries.items (r ∷ []) (front ++ copies) =
        ap₂ (λ (rs : List BranchRange) (es : List Entry). all_copied final.entries.items rs (front ++ es)) (since-is old new (r ∷ []) ranges) added in
        range-in-the-end final.entries.items front copies r (size ∙ sym first) copies-size (subst (λ (es : List Entry). Continues es final.entries.items) same continues)
        ∙ entries-at-numbers final outermost levels labels

    pub branch-packs : Packs final (packed.Transfer transfer.BrTable n)
        (BrTable (map (entry_at (entry_of_number final outermost) (label_entries final outermost levels)) labels)
        (entry_at (entry_of_number final outermost) (label_entries final outermost levels) default))
    branch-packs = record {
      same = ap (λ (x : BranchRange). BrTable (branch_entries final x) (entry_of_number final x.default)) range-is
          ∙ ap₂ BrTable in-the-end (ap (entry_of_number final) default_is ∙ entry-at-number final outermost levels default);
      within = rw range-is (
        omega (
          arith,
          n_is,
          ap length has.others.branch_ranges.1,
          length-append new.branch_ranges.items has.others.branch_ranges.0,
          ap length ranges,
          length-append
              old.branch_ranges.items (r ∷ []),
        ),
        omega (arith, is-copying.within, has.within),
        label-there old final outermost levels default r.default (omega (arith, has.within, ap length entries, length-append old.entries.items copies)) have default_is,
      );
    }
