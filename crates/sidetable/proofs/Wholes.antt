-- What the operations of a function make as a whole.
use Rattle.std.proofs.Common.{◌≡◌, ℕ, ◌+◌, ◌≤◌, max, List, [], ◌∷◌, ◌++◌, length, map, refl, ap, ap₂, sym, subst, ◌∙◌, add-zero, arith, length-append}
use Rattle.std.proofs.lemmas.List.{append-nil, drop_all}
use Rattle.std.proofs.lemmas.List.Elements.{All-cons, All-nil}
use Rattle.std.specs.List.{All}
use Rattle.std.specs.Prelude.{Some}
use Rattle.core_types.specs.declared.op.Op.{Op}
use Rattle.meaning.specs.structure.Bodies.{Body, rests, writing}
use Rattle.sidetable.specs.Completion.{AreCopies, ChangesEntries, Completes, EndsBehind, IsCopying, IsLabelSince, IsOutside, all_copied, ranges_since, with_target, with_targets}
use Rattle.sidetable.specs.Counts.{Signatures, height_or_zero}
use Rattle.sidetable.specs.Flat.{FlatOp, entry_of, flat, function_entry, greatest, size}
use Rattle.sidetable.specs.Flattening.{EndsAs, IsBegun, IsMade, IsOpen, Makes, PassesTo, Starts, targets_left}
use Rattle.sidetable.specs.Labels.{IsOpenLevel, allows_else}
use Rattle.sidetable.specs.Packing.{IsWithin, made}
use Rattle.sidetable.specs.Shapes.{Closes}
use Rattle.sidetable.specs.SideTables.{Grows, SideTables, entry_of_number}
use Rattle.sidetable.specs.declared.flattening.Flattening.{Flattening}
use Rattle.sidetable.specs.declared.labels.Level.{Level}
use Rattle.sidetable.specs.declared.operations.Entry.{Entry}
use Rattle.sidetable.proofs.Adding.{adds-no-range}
use Rattle.sidetable.proofs.Completing.{AreLabels, completes-aimed, completes-before, copies-aimed, grows-aimed, since-same}
use Rattle.sidetable.proofs.CopiedEntries.{BeginsAt, EndsWithin, in-order-later}
use Rattle.sidetable.proofs.Growth.{all-within-kept, continues-same, grows-same, made-kept}
use Rattle.sidetable.proofs.Marks.{first-in-the-end}
use Rattle.sidetable.proofs.Passing.{opens-on, with-tables}
use Rattle.sidetable.proofs.Shapes.{closes-writing}
use Rattle.sidetable.proofs.Targets.{IsBelow, one-aimed}

-- ---- the start of a function

module _ (before : SideTables) (outermost : ℕ) (f : Flattening) (locals results : ℕ) (starts : Starts before outermost f locals results) where
  none-in : (tables : SideTables) → ranges_since tables tables ≡ []
  none-in tables = drop_all (length tables.branch_ranges.items) tables.branch_ranges.items (omega arith)

  none-since : ranges_since before f.tables ≡ []
  none-since = since-same before before f.tables starts.tables.branch_ranges ∙ none-in before

  pub begun-first : IsBegun before outermost f
  begun-first = record {
    grows = (adds-no-range before f.tables (_, starts.tables.entries) (rw starts.tables.constants (continues-same before.constants.items))
        (rw starts.tables.pairs (continues-same before.pairs.items)) (rw starts.tables.branch_ranges refl)).grows;
    copies = rw none-since (record { in_order = tt {0}; copying = All-nil (IsCopying f.tables.entries.items) });
    outer = rw none-since (record {
      since = omega (arith, starts.outer);
      within = omega (arith, starts.outer, ap length starts.tables.entries, length-append before.entries.items (entry_of 0 results locals ∷ []));
      outside = All-nil (IsOutside outermost);
    });
    levels = rw starts.levels (All-nil (IsOpenLevel before f.tables));
  }

  pub opens-first : (ops : List Op) (body : Body) → ops ≡ writing body → IsOpen before outermost f ops
  opens-first ops body written = record { begun = begun-first; shape = rw (starts.levels, written) (closes-writing body) }

  module _ (ops : List Op) (body : Body) (whole : (rests ops).here.body ≡ body) (final : SideTables) (ends : EndsAs before outermost f ops final) where
    both : Completes before before [] final × EndsBehind (length before.entries.items) [] (function_entry locals results (length f.operations.items) body ∷ []) final.entries.items
    both =
        let at = length f.operations.items in
        let e = entry_of 0 results locals in
        let us : List (ℕ × ℕ) = (length before.entries.items, at + size body) ∷ [] in
        let same : targets_left outermost f.levels at (rests ops) ≡ us =
        ap (λ (ls : List Level). targets_left outermost ls at (rests ops)) starts.levels ∙ ap₂ (λ (n : ℕ) (b : Body). (n, at + size b) ∷ []) starts.outer whole in
        completes-before before before f.tables final [] us (function_entry locals results at body ∷ []) [] (grows-same before)
        (rw (none-in before) (record { in_order = tt {0}; copying = All-nil (IsCopying before.entries.items) }))
        (rw starts.tables.branch_ranges (sym (append-nil before.branch_ranges.items))) (All-nil (BeginsAt (length before.entries.items))) (All-nil (EndsWithin (length before.entries.items + 1)))
        (rw starts.tables.constants (continues-same before.constants.items)) (rw starts.tables.pairs (continues-same before.pairs.items))
        (ap (λ (es : List Entry). with_targets es us) starts.tables.entries ∙ one-aimed before.entries.items e (at + size body) [] (All-nil (IsBelow (length before.entries.items))))
        (subst (λ (ts : List (ℕ × ℕ)). Completes before f.tables ts final) same ends)

    pub grows-to-the-end : Grows before final
    grows-to-the-end = record {
      entries = rw (none-in before) at both.0.entries;
      branch_ranges = both.0.others.branch_ranges;
      constants = both.0.others.constants;
      pairs = both.0.others.pairs;
    }

    pub outermost-is : entry_of_number final outermost ≡ function_entry locals results (length f.operations.items) body
    outermost-is = ap (entry_of_number final) starts.outer
        ∙ (first-in-the-end (length before.entries.items) (function_entry locals results (length f.operations.items) body) [] final.entries.items both.1).0

    pub makes-first : (s : Signatures) → All (IsWithin before) f.operations.items
        → Makes s final outermost f ops (made final f.operations.items ++ flat s (entry_of_number final outermost) (entry_of_number final outermost ∷ []) (Some locals)
        (length f.operations.items) body) (max (locals + results) (greatest s (Some locals) body))
    makes-first s within = record {
      operations = rw (starts.levels, starts.height, whole) (ap (λ (os : List FlatOp). made final f.operations.items ++ os)
          (append-nil (flat s (entry_of_number final outermost) (entry_of_number final outermost ∷ []) (Some locals) (length f.operations.items) body)));
      heights = rw (starts.levels, starts.height, starts.greatest, whole) (omega arith);
      within = all-within-kept before final grows-to-the-end f.operations.items within;
    }

-- ---- the end of a function

no-levels : (levels : List Level) → Closes [] (map allows_else levels) → levels ≡ []
no-levels [] closes = refl
no-levels (l ∷ levels) closes = absurd closes

module _ (before : SideTables) (outermost : ℕ) (f : Flattening) (begun : IsBegun before outermost f) (aimed : SideTables) (end : ℕ) (end_is : end ≡ length f.operations.items)
    (changed : ChangesEntries f.tables aimed (with_target f.tables.entries.items outermost end)) where
  last-labels : AreLabels (length before.entries.items) (length f.tables.entries.items) (ranges_since before f.tables) ((outermost, end) ∷ [])
  last-labels = All-cons (λ (t : ℕ × ℕ). IsLabelSince before f.tables t.0) (outermost, end) [] begun.outer (All-nil (λ (t : ℕ × ℕ). IsLabelSince before f.tables t.0))

  pub last-copies : AreCopies 0 aimed.entries.items (ranges_since before aimed)
  last-copies =
      let copies = copies-aimed before f.tables aimed ((outermost, end) ∷ []) changed last-labels begun.copies in
      record { in_order = in-order-later (length before.entries.items) 0 (ranges_since before aimed) (omega arith) copies.in_order; copying = copies.copying }

  pub last-ranges : length before.branch_ranges.items ≤ length aimed.branch_ranges.items
  last-ranges = let grows = grows-aimed before f.tables aimed ((outermost, end) ∷ []) changed last-labels begun.grows in omega
      (arith, ap length grows.branch_ranges.1, length-append before.branch_ranges.items grows.branch_ranges.0)

  pub ends-last : Closes [] (map allows_else f.levels) → (final : SideTables) → ChangesEntries aimed final (all_copied final.entries.items (ranges_since before aimed) aimed.entries.items) → EndsAs before outermost f [] final
  ends-last shape final copied =
      let same : (outermost, end) ∷ [] ≡ targets_left outermost f.levels (length f.operations.items) (rests []) =
      ap (λ (n : ℕ). (outermost, n) ∷ []) (end_is ∙ sym (add-zero (length f.operations.items)))
      ∙ ap (λ (ls : List Level). targets_left outermost ls (length f.operations.items) (rests [])) (sym (no-levels f.levels shape)) in
      subst (λ (ts : List (ℕ × ℕ)). Completes before f.tables ts final) same (completes-aimed before f.tables aimed final ((outermost, end) ∷ []) [] changed (record {
        entries = ([], copied.entries ∙ sym (append-nil (all_copied final.entries.items (ranges_since before aimed) aimed.entries.items)));
        others = record {
          branch_ranges = rw copied.branch_ranges (continues-same aimed.branch_ranges.items);
          constants = rw copied.constants (continues-same aimed.constants.items);
          pairs = rw copied.pairs (continues-same aimed.pairs.items);
        };
      }))

makes-last : (s : Signatures) (final : SideTables) (before : SideTables) (outermost : ℕ) (f : Flattening) (whole : List FlatOp) (most : ℕ) → IsOpen before outermost f []
    → Makes s final outermost f [] whole most
    → (made final f.operations.items ≡ whole) × (max f.heights.greatest (height_or_zero f.heights.here) ≡ most)
makes-last s final before outermost f whole most opened m =
    let none = no-levels f.levels opened.shape in
    let first : made final f.operations.items ++ [] ≡ whole = rw none at m.operations in
    let second : max f.heights.greatest (max (height_or_zero f.heights.here) 0) ≡ most = rw none at m.heights in
    (sym (append-nil (made final f.operations.items)) ∙ first, omega arith)

-- What was made is the operations before, which are as they were, and the body's flat code.
pub is-made : (s : Signatures) (before : SideTables) (outermost : ℕ) (f g : Flattening) (locals results : ℕ) (ops : List Op) (body : Body) (final : SideTables) (most : ℕ)
    → Starts before outermost f locals results → ops ≡ writing body → (rests ops).here.body ≡ body → All (IsWithin before) f.operations.items
    → PassesTo s outermost f ops [] g → EndsAs before outermost g [] final → most ≡ max g.heights.greatest (height_or_zero g.heights.here)
    → IsMade s f.operations.items before locals results body (with-tables g final) most
is-made s before outermost f g locals results ops body final most starts written whole within passes ends most_is =
    let opened = opens-first before outermost f locals results starts ops body written in
    let ends_first = passes.ends before final opened ends in
    let grows = grows-to-the-end before outermost f locals results starts ops body whole final ends_first in
    let m = passes.makes before final _ _ opened ends (makes-first before outermost f locals results starts ops body whole final ends_first s within) in
    let (made_is, height) = makes-last s final before outermost g _ _ (opens-on s outermost f g ops [] passes before opened) m in
    record {
      operations = made_is ∙ ap₂ (λ (os : List FlatOp) (e : Entry). os ++ flat s e (e ∷ []) (Some locals) (length f.operations.items) body)
          (made-kept before final grows f.operations.items within) (outermost-is before outermost f locals results starts ops body whole final ends_first);
      height = most_is ∙ height;
      within = m.within;
    }
