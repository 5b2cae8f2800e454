-- A mark that begins a body is passed.
use Rattle.std.proofs.Common.{◌≡◌, ℕ, suc, ◌+◌, ◌<◌, ◌≤◌, List, [], ◌∷◌, ◌++◌, length, map, refl, ap, ap₂, sym, subst, ◌∙◌, arith, length-append}
use Rattle.std.proofs.lemmas.List.{append-nil, append_assoc, get_or_at}
use Rattle.std.proofs.lemmas.List.Elements.{All-cons, All-nil}
use Rattle.std.specs.List.{All}
use Rattle.std.specs.Prelude.{Option}
use Rattle.core_types.specs.declared.op.Op.{Op}
use Rattle.meaning.specs.structure.Bodies.{rests}
use Rattle.sidetable.specs.Completion.{Adds, ChangesEntries, Completes, EndsBehind, IsLabelSince, entry_in, ranges_since, with_targets}
use Rattle.sidetable.specs.Counts.{GoesOnAt, Signatures}
use Rattle.sidetable.specs.Flat.{FlatOp}
use Rattle.sidetable.specs.Flattening.{EndsAs, IsBegun, IsOpen, PassesTo, Pushes, targets_left}
use Rattle.sidetable.specs.Labels.{IfSecond, IsOpenLevel, allows_else, open_bodies, open_body, targets_of}
use Rattle.sidetable.specs.Packing.{Packs, made}
use Rattle.sidetable.specs.Shapes.{Closes}
use Rattle.sidetable.specs.SideTables.{SideTables, entry_of_number}
use Rattle.sidetable.specs.declared.flattening.Flattening.{Flattening}
use Rattle.sidetable.specs.declared.labels.Level.{Level}
use Rattle.sidetable.specs.declared.labels.Pending.{Pending}
use Rattle.sidetable.specs.declared.operations.Entry.{Entry}
use Rattle.sidetable.specs.declared.operations.PackedOp.{PackedOp}
use Rattle.sidetable.proofs.Adding.{adds-no-range}
use Rattle.sidetable.proofs.Completing.{completes-before, copies-more, label-more, label-pushed, since-same}
use Rattle.sidetable.proofs.CopiedEntries.{BeginsAt, EndsWithin, all-end-within}
use Rattle.sidetable.proofs.Growth.{continues-same, grows-more}
use Rattle.sidetable.proofs.Making.{GoesOn, makes-on}
use Rattle.sidetable.proofs.Passing.{levels-more, targets-below, with-tables}
use Rattle.sidetable.proofs.Targets.{IsBelow}
use Rattle.sidetable.proofs.TargetsLeft.{second-weaker}

-- A body begins, by an operation, at a level for which these entries were pushed.
pub record Begins (old : Flattening) (p : PackedOp) (level : Level) (added : List Entry) (new : Flattening) : Type 0 where
  pub tables : ChangesEntries old.tables new.tables (old.tables.entries.items ++ added)
  pub levels : new.levels ≡ level ∷ old.levels
  pub operations : new.operations.items ≡ old.operations.items ++ (p ∷ [])
  pub heights : GoesOnAt old.heights level.inside new.heights

same-level : (l m : Level) → l.label ≡ m.label → l.pending ≡ m.pending → l.inside ≡ m.inside → l.after ≡ m.after → l ≡ m
same-level l m labels pendings insides afters = ap₂ (λ (n : ℕ) (p : Pending). of n p l.inside l.after) labels pendings ∙ ap₂ (of m.label m.pending) insides afters
  where
    of : ℕ → Pending → Option ℕ → Option ℕ → Level
    of n p inside after = record { label = n; pending = p; inside = inside; after = after }

-- What the code does at a mark that begins a body: entries are pushed, then an operation, and then a level.
pub begins-so : (old pushed : Flattening) (tables : SideTables) (levels : List Level) (p : PackedOp) (l level : Level) (es added : List Entry)
    → ChangesEntries old.tables tables (old.tables.entries.items ++ es) → es ≡ added
    → Pushes (with-tables old tables) p l.inside pushed → levels ≡ l ∷ pushed.levels → l.label ≡ level.label → l.pending ≡ level.pending → l.inside ≡ level.inside → l.after ≡ level.after
    → Begins old p level added (record { tables = pushed.tables; operations = pushed.operations; levels = levels; heights = pushed.heights })
begins-so old pushed tables levels p l level es added changed same pushes levels_are labels pendings insides afters = record {
  tables = rw pushes.tables (subst (λ (xs : List Entry). ChangesEntries old.tables tables (old.tables.entries.items ++ xs)) same changed);
  levels = levels_are ∙ ap₂ (λ (m : Level) (ls : List Level). m ∷ ls) (same-level l level labels pendings insides afters) pushes.levels;
  operations = pushes.operations;
  heights = subst (λ (h : Option ℕ). GoesOnAt old.heights h pushed.heights) insides pushes.heights;
}

-- The number is that of an entry that was pushed.
abbrev pub IsPushed : (old new : SideTables) → ℕ → Type 0
IsPushed old new n = (length old.entries.items ≤ n) × (n < length new.entries.items)

module _ (s : Signatures) (outermost : ℕ) (old new : Flattening) (p : PackedOp) (level : Level) (added : List Entry) (begins : Begins old p level added new)
    (label_pushed : IsPushed old.tables new.tables level.label) (second_pushed : IfSecond (IsPushed old.tables new.tables) level.pending) where
  adds : Adds old.tables new.tables
  adds =
      adds-no-range old.tables new.tables (added, begins.tables.entries) (rw begins.tables.constants (continues-same old.tables.constants.items))
      (rw begins.tables.pairs (continues-same old.tables.pairs.items))
      (rw begins.tables.branch_ranges refl)

  pushed-label : (before : SideTables) → IsBegun before outermost old → (n : ℕ) → IsPushed old.tables new.tables n → IsLabelSince before new.tables n
  pushed-label before begun n (behind, within) =
      label-pushed before new.tables n (length old.tables.entries.items) (omega (arith, behind, ap length begun.grows.entries.1, length-append before.entries.items begun.grows.entries.0))
      within behind
      (subst (All (EndsWithin (length old.tables.entries.items))) (sym (since-same before old.tables new.tables begins.tables.branch_ranges))
      (all-end-within old.tables.entries.items (ranges_since before old.tables) begun.copies.copying))

  -- where it comes before these operations, and its bodies end so
  module _ (op : Op) (ops : List Op) (second end : ℕ) (aimed : List Entry)
      (entries_are : (ts : List (ℕ × ℕ)) → All (IsBelow (length old.tables.entries.items)) ts
      → with_targets new.tables.entries.items (targets_of level.pending level.label second end ++ ts) ≡ with_targets old.tables.entries.items ts ++ aimed)
      (shape : Closes (op ∷ ops) (map allows_else old.levels) → Closes ops (allows_else level ∷ map allows_else old.levels))
      (targets_are : Closes (op ∷ ops) (map allows_else old.levels)
      → targets_left outermost (level ∷ old.levels) (suc (length old.operations.items)) (rests ops) ≡ targets_of level.pending level.label second end ++ targets_left outermost old.levels
      (length old.operations.items) (rests (op ∷ ops)))
      (goes : Closes (op ∷ ops) (map allows_else old.levels) → (final : SideTables) → EndsBehind (length old.tables.entries.items) [] aimed final.entries.items
      → (o : FlatOp) × Packs final p o × GoesOn s (entry_of_number final outermost) (made final old.operations.items) old.heights.greatest (open_bodies final old.levels) old.heights.here op ops o
      (open_body final level ∷ open_bodies final old.levels) level.inside) where
    both : (before final : SideTables) → IsOpen before outermost old (op ∷ ops) → EndsAs before outermost new ops final
        → EndsAs before outermost old (op ∷ ops) final × EndsBehind (length old.tables.entries.items) [] aimed final.entries.items
    both before final opened ends =
        let ts : List (ℕ × ℕ) = targets_left outermost old.levels (length old.operations.items) (rests (op ∷ ops)) in
        let us : List (ℕ × ℕ) = targets_of level.pending level.label second end ++ ts in
        let size : length new.operations.items ≡ suc (length old.operations.items) = ap length begins.operations ∙ length-append old.operations.items (p ∷ []) ∙ omega arith in
        let same : targets_left outermost new.levels (length new.operations.items) (rests ops) ≡ us = ap₂ (λ (ls : List Level) (n : ℕ). targets_left outermost ls n (rests ops)) begins.levels
        size ∙ targets_are opened.shape in
        completes-before before old.tables new.tables final ts us aimed [] opened.begun.grows opened.begun.copies (rw begins.tables.branch_ranges (sym (append-nil old.tables.branch_ranges.items)))
        (All-nil (BeginsAt (length old.tables.entries.items))) (All-nil (EndsWithin (length old.tables.entries.items + length aimed)))
        adds.grows.constants adds.grows.pairs (entries_are ts (targets-below before outermost old (op ∷ ops) opened.begun (length old.operations.items)))
        (subst (λ (xs : List (ℕ × ℕ)). Completes before new.tables xs final) same ends)

    pub mark-passes : PassesTo s outermost old (op ∷ ops) ops new
    mark-passes = record {
      begun = λ before begun. record {
        grows = grows-more before old.tables new.tables begun.grows adds.grows;
        copies = copies-more before old.tables new.tables begun.grows begun.copies adds;
        outer = label-more before old.tables new.tables outermost begun.grows begun.outer adds;
        levels = rw begins.levels (All-cons (IsOpenLevel before new.tables) level old.levels (
          pushed-label before begun level.label label_pushed,
          second-weaker (IsPushed old.tables new.tables) (IsLabelSince before new.tables)
              (pushed-label before begun) level.pending second_pushed,
        )
            (levels-more before old.tables new.tables old.levels begun.grows adds begun.levels));
      };
      shape = λ closes. rw begins.levels (shape closes);
      ends = λ before final opened ends. (both before final opened ends).0;
      makes = λ before final whole most opened ends m.
          let (o, packs, on) = goes opened.shape final (both before final opened ends).1 in
          makes-on s final outermost old new p o level.inside packs begins.operations begins.heights op ops whole most
          (subst (λ (ls : List Level). GoesOn s (entry_of_number final outermost) (made final old.operations.items) old.heights.greatest (open_bodies final old.levels) old.heights.here op ops o
          (open_bodies final ls) level.inside) (sym begins.levels) on) m;
    }

-- ---- entries in the end

pub first-in-the-end : (n : ℕ) (e : Entry) (more final : List Entry) → EndsBehind n [] (e ∷ more) final → (entry_in final n ≡ e) × (n < length final)
first-in-the-end n e more final (front, size, (last, is)) = (
  ap (λ (es : List Entry). entry_in es n) (is ∙ append_assoc front (e ∷ more) last) ∙ get_or_at front e (more ++ last) (record { target = 0; kept = 0; height = 0 }) n size,
  omega (arith, size, ap length is, length-append (front ++ (e ∷ more)) last, length-append front (e ∷ more)),
)

pub second-in-the-end : (n : ℕ) (e f : Entry) (more final : List Entry) → EndsBehind n [] (e ∷ (f ∷ more)) final → (entry_in final (suc n) ≡ f) × (suc n < length final)
second-in-the-end n e f more final (front, size, (last, is)) =
    first-in-the-end (suc n) f more final (
      front ++ (e ∷ []),
      length-append front (e ∷ [])
          ∙ omega (arith, size),
      (last, is ∙ ap (λ (es : List Entry). es ++ last) (sym (append_assoc front (e ∷ []) (f ∷ more)))),
    )
