-- The final side tables, an operation before.
use Rattle.std.proofs.Common.{◌≡◌, ℕ, ◌+◌, ◌-◌, ◌<◌, ◌≤◌, List, [], ◌∷◌, ◌++◌, length, take, drop, set, get_or, inl, inr, refl, ap, ap₂, sym, ◌∙◌, subst, arith, length-append, length-drop}
use Rattle.std.proofs.lemmas.List.{drop-append-le, drop_at, length-set, set-append_right, take-append-drop, take-append-le, take-set-le, take_at, drop-set-add, drop-set-lt}
use Rattle.std.proofs.lemmas.List.Elements.{All-append, All-head, All-tail, All-weaker}
use Rattle.std.specs.List.{All}
use Rattle.sidetable.specs.Completion.{Adds, AreCopies, ChangesEntries, Completes, EndsBehind, IsCopying, IsLabel, IsLabelSince, IsOutside, HasAdded, aimed_at}
use Rattle.sidetable.specs.Completion.{all_copied, entry_in, ranges_since, with_target, with_targets}
use Rattle.sidetable.specs.SideTables.{Continues, Grows, SideTables}
use Rattle.sidetable.specs.declared.operations.Entry.{Entry}
use Rattle.sidetable.specs.declared.side_tables.BranchRange.{BranchRange}
use Rattle.sidetable.proofs.CopiedEntries.{BeginsAt, EndsWithin, all-end-within, all_copied-append, all_copied-more, begin-in-order, below-all_copied, in-order-more, length-all_copied}
use Rattle.sidetable.proofs.Growth.{continues-more}
use Rattle.sidetable.proofs.Targets.{IsBelow, length-with_targets, with_targets-append}

-- ---- ranges and entries that were added

since-more : (before old new : SideTables) (more : List BranchRange) → Grows before old → new.branch_ranges.items ≡ old.branch_ranges.items ++ more
    → ranges_since before new ≡ ranges_since before old ++ more
since-more before old new more grows pushed =
    ap (drop (length before.branch_ranges.items)) pushed
    ∙ drop-append-le (length before.branch_ranges.items) old.branch_ranges.items more (omega (arith, ap length grows.branch_ranges.1, length-append before.branch_ranges.items grows.branch_ranges.0))

pub since-same : (before old new : SideTables) → new.branch_ranges ≡ old.branch_ranges → ranges_since before new ≡ ranges_since before old
since-same before old new same = rw same refl

pub since-is : (old new : SideTables) (more : List BranchRange) → new.branch_ranges.items ≡ old.branch_ranges.items ++ more → ranges_since old new ≡ more
since-is old new more pushed = ap (drop (length old.branch_ranges.items)) pushed ∙ drop_at old.branch_ranges.items more (length old.branch_ranges.items) refl

-- A range of copies stays one where entries are pushed.
copying-kept : (es more : List Entry) (rs : List BranchRange) → All (IsCopying es) rs → All (IsCopying (es ++ more)) rs
copying-kept es more rs copying = All-weaker (IsCopying es) (IsCopying (es ++ more)) (λ r c. record {
  within = omega (arith, c.within, length-append es more);
  before = subst (All (λ (e : Entry). e.target < r.first)) (sym (ap (take r.count) (drop-append-le r.first es more (omega (arith, c.within)))
      ∙ take-append-le r.count (drop r.first es) more (omega (arith, c.within, length-drop r.first es)))) c.before;
}) rs copying

pub copies-more : (before old new : SideTables) → Grows before old → AreCopies (length before.entries.items) old.entries.items (ranges_since before old) → Adds old new
    → AreCopies (length before.entries.items) new.entries.items (ranges_since before new)
copies-more before old new grows copies adds =
    let (more, pushed) = adds.grows.entries in
    let ranges = since-more before old new adds.grows.branch_ranges.0 grows adds.grows.branch_ranges.1 in
    let from : length before.entries.items ≤ length old.entries.items = omega (arith, ap length grows.entries.1, length-append before.entries.items grows.entries.0) in
    subst (AreCopies (length before.entries.items) new.entries.items) (sym ranges) (record {
      in_order = in-order-more (length before.entries.items) (length old.entries.items) (ranges_since before old) adds.grows.branch_ranges.0 from copies.in_order
          (all-end-within old.entries.items (ranges_since before old) copies.copying) adds.copies.in_order;
      copying = All-append (IsCopying new.entries.items) (ranges_since before old) adds.grows.branch_ranges.0
          (subst (λ (es : List Entry). All (IsCopying es) (ranges_since before old)) (sym pushed) (copying-kept old.entries.items more (ranges_since before old) copies.copying)) adds.copies.copying;
    })

-- A label stays one.
pub label-more : (before old new : SideTables) (n : ℕ) → Grows before old → IsLabelSince before old n → Adds old new → IsLabelSince before new n
label-more before old new n grows label adds =
    let ranges = since-more before old new adds.grows.branch_ranges.0 grows adds.grows.branch_ranges.1 in
    let behind = begin-in-order (length old.entries.items) (length old.entries.items) adds.grows.branch_ranges.0 (omega arith) adds.copies.in_order in
    record {
      since = label.since;
      within = omega (arith, label.within, ap length adds.grows.entries.1, length-append old.entries.items adds.grows.entries.0);
      outside = subst (All (IsOutside n)) (sym ranges) (All-append (IsOutside n) (ranges_since before old) adds.grows.branch_ranges.0 label.outside
          (All-weaker (BeginsAt (length old.entries.items)) (IsOutside n) (λ r b. inl (omega (arith, b, label.within))) adds.grows.branch_ranges.0 behind));
    }

-- An entry that was pushed behind all copies is one.
pub label-pushed : (before now : SideTables) (n : ℕ) (size : ℕ) → length before.entries.items ≤ n → n < length now.entries.items → size ≤ n → All (EndsWithin size) (ranges_since before now)
    → IsLabelSince before now n
label-pushed before now n size since within behind ends = record {
  since = since;
  within = within;
  outside = All-weaker (EndsWithin size) (IsOutside n) (λ r e. inr (omega (arith, e, behind))) (ranges_since before now) ends;
}

-- ---- the final side tables

-- What is in the final side tables in the end is there before, whatever is pushed and whatever targets are set in between.
module _ (before old new final : SideTables) (ts us : List (ℕ × ℕ)) (added : List Entry) (more : List BranchRange) (grows : Grows before old)
    (copies : AreCopies (length before.entries.items) old.entries.items (ranges_since before old))
    (pushed : new.branch_ranges.items ≡ old.branch_ranges.items ++ more) (begin : All (BeginsAt (length old.entries.items)) more)
    (ends : All (EndsWithin (length old.entries.items + length added)) more) where
  abbrev F : List Entry
  F = final.entries.items

  abbrev ranges : List BranchRange
  ranges = ranges_since before old

  abbrev front : List Entry
  front = all_copied F ranges (with_targets old.entries.items ts)

  abbrev last : List Entry
  last = all_copied F more (front ++ added)

  within : All (EndsWithin (length (with_targets old.entries.items ts))) ranges
  within = subst (λ (n : ℕ). All (EndsWithin n) ranges) (sym (length-with_targets old.entries.items ts)) (all-end-within old.entries.items ranges copies.copying)

  front-size : length front ≡ length old.entries.items
  front-size = length-all_copied F ranges (with_targets old.entries.items ts) within ∙ length-with_targets old.entries.items ts

  begins : take (length old.entries.items) last ≡ front
  begins =
      below-all_copied F more (front ++ added) (length old.entries.items) begin (subst (λ (n : ℕ). All (EndsWithin n) more) (sym (length-append front added
      ∙ ap (λ (n : ℕ). n + length added) front-size)) ends)
      ∙ take_at front added (length old.entries.items) front-size

  last-is : last ≡ front ++ drop (length old.entries.items) last
  last-is = sym (take-append-drop (length old.entries.items) last) ∙ ap (λ (xs : List Entry). xs ++ drop (length old.entries.items) last) begins

  pub completes-before : Continues old.constants.items new.constants.items → Continues old.pairs.items new.pairs.items
      → with_targets new.entries.items us ≡ with_targets old.entries.items ts ++ added → Completes before new us final
      → Completes before old ts final × EndsBehind (length old.entries.items) more added final.entries.items
  completes-before constants pairs entries_are completes =
      let whole : all_copied F (ranges_since before new) (with_targets new.entries.items us) ≡ last =
      ap (λ (rs : List BranchRange). all_copied F rs (with_targets new.entries.items us)) (since-more before old new more grows pushed) ∙ ap (all_copied F (ranges ++ more)) entries_are
      ∙ all_copied-more F ranges more (with_targets old.entries.items ts ++ added) ∙ ap (all_copied F more) (all_copied-append F ranges (with_targets old.entries.items ts) added within) in
      let there : Continues last F = rw whole at completes.entries in (
        record {
          entries = continues-more front last F (drop (length old.entries.items) last, last-is) there;
          others = record {
            branch_ranges = continues-more old.branch_ranges.items new.branch_ranges.items final.branch_ranges.items (more, pushed) completes.others.branch_ranges;
            constants = continues-more old.constants.items new.constants.items final.constants.items constants completes.others.constants;
            pairs = continues-more old.pairs.items new.pairs.items final.pairs.items pairs completes.others.pairs;
          };
        },
        (front, front-size, there),
      )

-- The same where what was added is as it will be.
pub completes-added : (before old new final : SideTables) (ts : List (ℕ × ℕ)) → Grows before old → AreCopies (length before.entries.items) old.entries.items (ranges_since before old)
    → All (IsBelow (length old.entries.items)) ts → Adds old new → Completes before new ts final → Completes before old ts final × HasAdded old new final
completes-added before old new final ts grows copies below adds completes =
    let (added, pushed) = adds.grows.entries in
    let ranges = adds.grows.branch_ranges.0 in
    let size : length new.entries.items ≡ length old.entries.items + length added = ap length pushed ∙ length-append old.entries.items added in
    let ends : All (EndsWithin (length old.entries.items + length added)) ranges = subst (λ (n : ℕ). All (EndsWithin n) ranges) size (all-end-within new.entries.items ranges adds.copies.copying) in
    let entries_are : with_targets new.entries.items ts ≡ with_targets old.entries.items ts ++ added = ap (λ (es : List Entry). with_targets es ts) pushed
    ∙ with_targets-append old.entries.items added ts below in
    let both = completes-before before old new final ts ts added ranges grows copies adds.grows.branch_ranges.1
    (begin-in-order (length old.entries.items) (length old.entries.items) ranges (omega arith) adds.copies.in_order) ends adds.grows.constants adds.grows.pairs entries_are completes in (
      both.0,
      record {
        entries = subst (λ (es : List Entry). EndsBehind (length old.entries.items) (ranges_since old new) es final.entries.items) (sym (ap (drop (length old.entries.items)) pushed
            ∙ drop_at old.entries.items added (length old.entries.items) refl))
            (subst (λ (rs : List BranchRange). EndsBehind (length old.entries.items) rs added final.entries.items) (sym (since-is old new ranges adds.grows.branch_ranges.1)) both.1);
        within = added-within both.1.0 both.1.1 ends both.1.2 size;
        others = completes.others;
      },
    )
  where
    added-within : (front : List Entry) → length front ≡ length old.entries.items → All (EndsWithin (length old.entries.items + length adds.grows.entries.0)) adds.grows.branch_ranges.0
        → Continues (all_copied final.entries.items adds.grows.branch_ranges.0 (front ++ adds.grows.entries.0)) final.entries.items
        → length new.entries.items ≡ length old.entries.items + length adds.grows.entries.0 → length new.entries.items ≤ length final.entries.items
    added-within front front_size ends there size =
        let whole : length (front ++ adds.grows.entries.0) ≡ length old.entries.items + length adds.grows.entries.0 = length-append front adds.grows.entries.0
        ∙ ap (λ (n : ℕ). n + length adds.grows.entries.0) front_size in
        let copied_size = length-all_copied final.entries.items adds.grows.branch_ranges.0 (front ++ adds.grows.entries.0)
        (subst (λ (n : ℕ). All (EndsWithin n) adds.grows.branch_ranges.0) (sym whole) ends) in
        omega (arith, size, whole, copied_size, ap length there.1, length-append (all_copied final.entries.items adds.grows.branch_ranges.0 (front ++ adds.grows.entries.0)) there.0)

-- ---- targets that are set

-- The targets of labels.
abbrev pub AreLabels : (from to : ℕ) → List BranchRange → List (ℕ × ℕ) → Type 0
AreLabels from to rs ts = All (λ (t : ℕ × ℕ). IsLabel from to rs t.0) ts

copying-set : (es : List Entry) (n : ℕ) (e : Entry) (rs : List BranchRange) → All (IsOutside n) rs → All (IsCopying es) rs → All (IsCopying (set es n e)) rs
copying-set es n e rs outside copying = λ k d lt.
    let c = copying k d lt in
    let r = get_or rs k d in
    record {
      within = omega (arith, c.within, length-set es n e);
      before = subst (All (λ (x : Entry). x.target < r.first)) (sym (untouched r (outside k d lt))) c.before;
    }
  where
    untouched : (r : BranchRange) → IsOutside n r → take r.count (drop r.first (set es n e)) ≡ take r.count (drop r.first es)
    untouched r (inl before) = ap (take r.count) (drop-set-lt r.first es n e before)
    untouched r (inr behind) =
        let there : r.first + (n - r.first) ≡ n = omega (arith, behind) in
        ap (λ (m : ℕ). take r.count (drop r.first (set es m e))) (sym there) ∙ ap (take r.count) (drop-set-add r.first es (n - r.first) e)
        ∙ take-set-le r.count (drop r.first es) (n - r.first) e (omega (arith, behind))

pub copying-aimed : (from : ℕ) (es : List Entry) (rs : List BranchRange) (ts : List (ℕ × ℕ)) → AreLabels from (length es) rs ts → All (IsCopying es) rs
    → All (IsCopying (with_targets es ts)) rs
copying-aimed from es rs [] labels copying = copying
copying-aimed from es rs (t ∷ ts) labels copying =
    let label = All-head (λ (u : ℕ × ℕ). IsLabel from (length es) rs u.0) t ts labels in
    copying-aimed from (with_target es t.0 t.1) rs ts
    (subst (λ (n : ℕ). AreLabels from n rs ts) (sym (length-set es t.0 (aimed_at t.1 (entry_in es t.0)))) (All-tail (λ (u : ℕ × ℕ). IsLabel from (length es) rs u.0) t ts labels))
    (copying-set es t.0 (aimed_at t.1 (entry_in es t.0)) rs label.outside copying)

pub continues-aimed : (begin : List Entry) (es : List Entry) (rs : List BranchRange) (ts : List (ℕ × ℕ)) → AreLabels (length begin) (length es) rs ts → Continues begin es
    → Continues begin (with_targets es ts)
continues-aimed begin es rs [] labels there = there
continues-aimed begin es rs (t ∷ ts) labels (more, is) =
    let label = All-head (λ (u : ℕ × ℕ). IsLabel (length begin) (length es) rs u.0) t ts labels in
    let e : Entry = aimed_at t.1 (entry_in es t.0) in
    continues-aimed begin (with_target es t.0 t.1) rs ts
    (subst (λ (n : ℕ). AreLabels (length begin) n rs ts) (sym (length-set es t.0 e)) (All-tail (λ (u : ℕ × ℕ). IsLabel (length begin) (length es) rs u.0) t ts labels))
    (set more (t.0 - length begin) e, ap (λ (xs : List Entry). set xs t.0 e) is ∙ set-append_right begin more (length begin) t.0 e refl label.since)

-- The ranges and entries of a function that is open, with targets of its labels.
pub copies-aimed : (before old new : SideTables) (ts : List (ℕ × ℕ)) → ChangesEntries old new (with_targets old.entries.items ts)
    → AreLabels (length before.entries.items) (length old.entries.items) (ranges_since before old) ts
    → AreCopies (length before.entries.items) old.entries.items (ranges_since before old) → AreCopies (length before.entries.items) new.entries.items (ranges_since before new)
copies-aimed before old new ts changed labels copies = rw (changed.entries, since-same before old new changed.branch_ranges) (record {
  in_order = copies.in_order;
  copying = copying-aimed (length before.entries.items) old.entries.items (ranges_since before old) ts labels copies.copying;
})

pub grows-aimed : (before old new : SideTables) (ts : List (ℕ × ℕ)) → ChangesEntries old new (with_targets old.entries.items ts)
    → AreLabels (length before.entries.items) (length old.entries.items) (ranges_since before old) ts → Grows before old → Grows before new
grows-aimed before old new ts changed labels grows = record {
  entries = rw changed.entries (continues-aimed before.entries.items old.entries.items (ranges_since before old) ts labels grows.entries);
  branch_ranges = rw changed.branch_ranges grows.branch_ranges;
  constants = rw changed.constants grows.constants;
  pairs = rw changed.pairs grows.pairs;
}

pub label-aimed : (before old new : SideTables) (ts : List (ℕ × ℕ)) → ChangesEntries old new (with_targets old.entries.items ts) → (n : ℕ) → IsLabelSince before old n
    → IsLabelSince before new n
label-aimed before old new ts changed n label = record {
  since = label.since;
  within = omega (arith, label.within, ap length changed.entries, length-with_targets old.entries.items ts);
  outside = subst (All (IsOutside n)) (sym (since-same before old new changed.branch_ranges)) label.outside;
}

aimed-then : (es : List Entry) (ts us : List (ℕ × ℕ)) → with_targets es (ts ++ us) ≡ with_targets (with_targets es ts) us
aimed-then es [] us = refl
aimed-then es (t ∷ ts) us = aimed-then (with_target es t.0 t.1) ts us

-- Targets that are set are left no more.
pub completes-aimed : (before old new final : SideTables) (ts us : List (ℕ × ℕ)) → ChangesEntries old new (with_targets old.entries.items ts) → Completes before new us final
    → Completes before old (ts ++ us) final
completes-aimed before old new final ts us changed completes = record {
  entries = subst (λ (es : List Entry). Continues es final.entries.items)
      (ap₂ (λ (rs : List BranchRange) (es : List Entry). all_copied final.entries.items rs (with_targets es us)) (since-same before old new changed.branch_ranges) changed.entries
      ∙ ap (all_copied final.entries.items (ranges_since before old)) (sym (aimed-then old.entries.items ts us))) completes.entries;
  others = record {
    branch_ranges = rw changed.branch_ranges at completes.others.branch_ranges;
    constants = rw changed.constants at completes.others.constants;
    pairs = rw changed.pairs at completes.others.pairs;
  };
}

-- An entry that there is has a place in the final side tables.
pub final-within : (before now final : SideTables) (ts : List (ℕ × ℕ)) (n : ℕ) → AreCopies (length before.entries.items) now.entries.items (ranges_since before now)
    → Completes before now ts final → n < length now.entries.items → n < length final.entries.items
final-within before now final ts n copies completes within =
    let (more, is) = completes.entries in
    let aimed = length-with_targets now.entries.items ts in
    let ranges = ranges_since before now in
    let size = length-all_copied final.entries.items ranges (with_targets now.entries.items ts)
    (subst (λ (k : ℕ). All (EndsWithin k) ranges) (sym aimed) (all-end-within now.entries.items ranges copies.copying)) in
    omega (arith, within, aimed, size, ap length is, length-append (all_copied final.entries.items ranges (with_targets now.entries.items ts)) more)
