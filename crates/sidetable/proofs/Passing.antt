-- Each operation is passed.
use Rattle.std.proofs.Common.{◌≡◌, ℕ, suc, ◌<◌, List, [], ◌∷◌, length, map, refl, ap, ap₂, subst, ◌∙◌, arith, length-append}
use Rattle.std.proofs.lemmas.List.Elements.{All-weaker}
use Rattle.std.specs.List.{All}
use Rattle.std.specs.Prelude.{Option}
use Rattle.core_types.specs.declared.op.Op.{Op}
use Rattle.core_types.specs.declared.op.Op.TheVariants.{Plain}
use Rattle.core_types.specs.declared.op.PlainOp.{PlainOp}
use Rattle.meaning.specs.structure.Bodies.{rests}
use Rattle.sidetable.specs.Completion.{Adds, Completes, IsLabelSince, HasAdded}
use Rattle.sidetable.specs.Counts.{GoesOnAt, Signatures, behind, counts_of}
use Rattle.sidetable.specs.Flat.{flat_op}
use Rattle.sidetable.specs.Flattening.{EndsAs, IsBegun, IsOpen, Passes, PassesTo, Pushes, targets_left}
use Rattle.sidetable.specs.Labels.{HaveEntries, IsOpenLevel, allows_else, label_entries, open_bodies}
use Rattle.sidetable.specs.Packing.{Packs, PacksAnywhere, made}
use Rattle.sidetable.specs.Shapes.{Closes}
use Rattle.sidetable.specs.SideTables.{Grows, SideTables, entry_of_number}
use Rattle.sidetable.specs.declared.flattening.Flattening.{Flattening}
use Rattle.sidetable.specs.declared.labels.Level.{Level}
use Rattle.sidetable.specs.declared.operations.PackedOp.{PackedOp}
use Rattle.sidetable.specs.declared.counts.Counts.{Counts}
use Rattle.sidetable.proofs.Adding.{adds_nothing}
use Rattle.sidetable.proofs.Completing.{completes-added, copies-more, label-more}
use Rattle.sidetable.proofs.Growth.{grows-more}
use Rattle.sidetable.proofs.Left.{greatest-plain, left-plain}
use Rattle.sidetable.proofs.Making.{makes-on}
use Rattle.sidetable.proofs.Targets.{IsBelow}
use Rattle.sidetable.proofs.TargetsLeft.{HoldsOfLevel, holds-around, second-weaker, targets-plain}

-- With other side tables.
abbrev pub with-tables : Flattening → SideTables → Flattening
with-tables f tables = record { tables = tables; operations = f.operations; levels = f.levels; heights = f.heights }

-- ---- some operations, and then others

-- A function that is open stays open.
pub opens-on : (s : Signatures) (outermost : ℕ) (old new : Flattening) (all ops : List Op) → PassesTo s outermost old all ops new → (before : SideTables) → IsOpen before outermost old all
    → IsOpen before outermost new ops
opens-on s outermost old new all ops passes before opened = record { begun = passes.begun before opened.begun; shape = passes.shape opened.shape }

pub passes-none : (s : Signatures) (outermost : ℕ) (f : Flattening) (ops : List Op) → PassesTo s outermost f ops ops f
passes-none s outermost f ops =
    record { begun = λ before begun. begun; shape = λ shape. shape; ends = λ before final opened ends. ends; makes = λ before final whole most opened ends m. m }

-- What no function can come to is passed by doing nothing.
pub never-passed : (s : Signatures) (outermost : ℕ) (f : Flattening) (all ops : List Op) → (Closes all (map allows_else f.levels) → ⊥) → PassesTo s outermost f all ops f
never-passed s outermost f all ops never = record {
  begun = λ before begun. begun;
  shape = λ shape. absurd (never shape);
  ends = λ before final opened ends. absurd (never opened.shape);
  makes = λ before final whole most opened ends m. absurd (never opened.shape);
}

pub passes-then : (s : Signatures) (outermost : ℕ) (old between new : Flattening) (all some ops : List Op) → PassesTo s outermost old all some between
    → PassesTo s outermost between some ops new → PassesTo s outermost old all ops new
passes-then s outermost old between new all some ops first second = record {
  begun = λ before begun. second.begun before (first.begun before begun);
  shape = λ shape. second.shape (first.shape shape);
  ends = λ before final opened ends. first.ends before final opened (second.ends before final (opens-on s outermost old between all some first before opened) ends);
  makes = λ before final whole most opened ends m.
      let between_open = opens-on s outermost old between all some first before opened in
      second.makes before final whole most between_open ends (first.makes before final whole most opened (second.ends before final between_open ends) m);
}

-- ---- a function that is opened

-- Each label has an entry.
pub have-entries : (before : SideTables) (outermost : ℕ) (f : Flattening) → IsBegun before outermost f → HaveEntries f.tables outermost f.levels
have-entries before outermost f begun = record {
  outer = begun.outer.within;
  inner = All-weaker (IsOpenLevel before f.tables) (λ (l : Level). l.label < length f.tables.entries.items) (λ l is. is.0.within) f.levels begun.levels;
}

-- The targets that are left are those of entries that there are.
pub targets-below : (before : SideTables) (outermost : ℕ) (f : Flattening) (ops : List Op) → IsBegun before outermost f → (at : ℕ)
    → All (IsBelow (length f.tables.entries.items)) (targets_left outermost f.levels at (rests ops))
targets-below before outermost f ops begun at =
    holds-around (λ (n : ℕ). n < length f.tables.entries.items) outermost begun.outer.within f.levels (rests ops).here.other _ (rests ops).around
    (All-weaker (IsOpenLevel before f.tables) (HoldsOfLevel (λ (n : ℕ). n < length f.tables.entries.items))
    (λ l is. (is.0.within, second-weaker (IsLabelSince before f.tables) (λ (n : ℕ). n < length f.tables.entries.items) (λ n label. label.within) l.pending is.1)) f.levels begun.levels)

pub levels-more : (before old new : SideTables) (levels : List Level) → Grows before old → Adds old new → All (IsOpenLevel before old) levels → All (IsOpenLevel before new) levels
levels-more before old new levels grows adds are =
    All-weaker (IsOpenLevel before old) (IsOpenLevel before new)
    (λ l is. (
      label-more before old new l.label grows is.0 adds,
      second-weaker (IsLabelSince before old) (IsLabelSince before new)
          (λ n label. label-more before old new n grows label adds) l.pending is.1,
    )) levels are

-- ---- an instruction without a body

module _ (s : Signatures) (outermost : ℕ) (old new : Flattening) (p : PackedOp) (op : PlainOp) (after : Option ℕ) (adds : Adds old.tables new.tables)
    (packs : (final : SideTables) → HasAdded old.tables new.tables final → Packs final p (flat_op (entry_of_number final outermost) (label_entries final outermost old.levels) op))
    (after_is : after ≡ behind (counts_of s op) old.heights.here) (pushes : Pushes (with-tables old new.tables) p after new) (ops : List Op) where
  targets : List (ℕ × ℕ)
  targets = targets_left outermost old.levels (length old.operations.items) (rests (Plain op ∷ ops))

  both : (before final : SideTables) → IsOpen before outermost old (Plain op ∷ ops) → EndsAs before outermost new ops final
      → EndsAs before outermost old (Plain op ∷ ops) final × HasAdded old.tables new.tables final
  both before final opened ends =
      let size : length new.operations.items ≡ suc (length old.operations.items) = ap length pushes.operations ∙ length-append old.operations.items (p ∷ []) ∙ omega arith in
      let same : targets_left outermost new.levels (length new.operations.items) (rests ops) ≡ targets_left outermost old.levels (length old.operations.items) (rests (Plain op ∷ ops)) =
      ap₂ (λ (ls : List Level) (n : ℕ). targets_left outermost ls n (rests ops)) pushes.levels size ∙ targets-plain outermost old.levels (length old.operations.items) op ops in
      completes-added before old.tables new.tables final (targets_left outermost old.levels (length old.operations.items) (rests (Plain op ∷ ops))) opened.begun.grows opened.begun.copies
      (targets-below before outermost old (Plain op ∷ ops) opened.begun (length old.operations.items)) adds (subst (λ (ts : List (ℕ × ℕ)). Completes before new.tables ts final) same ends)

  pub plain-passes : PassesTo s outermost old (Plain op ∷ ops) ops new
  plain-passes = record {
    begun = λ before begun. record {
      grows = grows-more before old.tables new.tables begun.grows adds.grows;
      copies = copies-more before old.tables new.tables begun.grows begun.copies adds;
      outer = label-more before old.tables new.tables outermost begun.grows begun.outer adds;
      levels = rw pushes.levels (levels-more before old.tables new.tables old.levels begun.grows adds begun.levels);
    };
    shape = λ shape. rw pushes.levels shape;
    ends = λ before final opened ends. (both before final opened ends).0;
    makes = λ before final whole most opened ends m.
        makes-on s final outermost old new p (flat_op (entry_of_number final outermost) (label_entries final outermost old.levels) op) (behind (counts_of s op) old.heights.here)
        (packs final (both before final opened ends).1)
        pushes.operations (subst (λ (h : Option ℕ). GoesOnAt old.heights h new.heights) after_is pushes.heights) (Plain op) ops whole most
        (rw pushes.levels (record {
          operations = left-plain s (entry_of_number final outermost) (made final old.operations.items) (open_bodies final old.levels) old.heights.here op (rests ops);
          heights = greatest-plain s old.heights.greatest (open_bodies final old.levels) old.heights.here op (rests ops);
        })) m;
  }

-- The same for one that names nothing by number.
pub alone-passes : (s : Signatures) (outermost : ℕ) (old new : Flattening) (p : PackedOp) (op : PlainOp) (counts : Option Counts) → PacksAnywhere p op → counts ≡ counts_of s op
    → Pushes old p (behind counts old.heights.here) new → Passes s outermost old (Plain op) new
alone-passes s outermost old new p op counts packs counted pushes ops =
    plain-passes s outermost old new p op (behind counts old.heights.here) (rw pushes.tables (adds_nothing old.tables)) (λ final added. packs final (entry_of_number final outermost) (label_entries final outermost old.levels))
    (ap (λ (c : Option Counts). behind c old.heights.here) counted)
    (record { operations = pushes.operations; heights = pushes.heights; tables = refl; levels = pushes.levels }) ops
