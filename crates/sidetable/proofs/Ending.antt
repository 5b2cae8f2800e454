-- An else and an end are passed.
use Rattle.std.proofs.Common.{◌≡◌, ℕ, suc, max, Bool, false, List, [], ◌∷◌, ◌++◌, length, map, refl, ap, ap₂, sym, subst, ◌∙◌, arith, length-append}
use Rattle.std.proofs.lemmas.List.{length-map}
use Rattle.std.proofs.lemmas.List.Elements.{All-cons, All-head, All-tail, All-weaker}
use Rattle.std.specs.List.{All}
use Rattle.std.specs.Prelude.{Option}
use Rattle.core_types.specs.declared.op.Op.{Op}
use Rattle.core_types.specs.declared.op.Op.TheVariants as op
use Rattle.meaning.specs.structure.Bodies.{Body, rests}
use Rattle.sidetable.specs.Completion.{ChangesEntries, Completes, IsLabelSince, ranges_since, with_targets}
use Rattle.sidetable.specs.Counts.{GoesOnAt, Signatures, height_or_zero}
use Rattle.sidetable.specs.Flat.{FlatOp, Jump}
use Rattle.sidetable.specs.Flattening.{EndsAs, IsBegun, IsOpen, PassesTo, greatest_left, left, targets_left}
use Rattle.sidetable.specs.Labels.{IsOpenLevel, OpenBody, allows_else, has_second, open_bodies, open_body, second_targets, targets_of}
use Rattle.sidetable.specs.Packing.{made, unpacked}
use Rattle.sidetable.specs.Shapes.{BehindElse, Closes}
use Rattle.sidetable.specs.SideTables.{SideTables, entry_of_number}
use Rattle.sidetable.specs.declared.flattening.Flattening.{Flattening}
use Rattle.sidetable.specs.declared.labels.Level.{Level}
use Rattle.sidetable.specs.declared.labels.Pending.{Pending}
use Rattle.sidetable.specs.declared.labels.Pending.TheVariants.{Nothing, End, SecondAndEnd}
use Rattle.sidetable.specs.declared.operations.PackedOp.TheVariants as packed
use Rattle.sidetable.specs.declared.operations.TransferInstruction.TheVariants as transfer
use Rattle.sidetable.proofs.Completing.{AreLabels, completes-aimed, copies-aimed, final-within, grows-aimed, label-aimed}
use Rattle.sidetable.proofs.Left.{heights-on, greatest-else, greatest-end, left-else, left-end}
use Rattle.sidetable.proofs.Making.{makes-on}
use Rattle.sidetable.proofs.Passing.{never-passed}
use Rattle.sidetable.proofs.Shapes.{no-else}
use Rattle.sidetable.proofs.TargetsLeft.{holds-of-second, holds-of-targets, second-weaker, targets-else, targets-end}

-- Where an else may follow, its place is to come.
pub second-to-come : (p : Pending) (others : List Bool) (ops : List Op) → BehindElse (Closes ops) (has_second p ∷ others)
    → (number : ℕ) × (p ≡ SecondAndEnd number) × Closes ops (false ∷ others)
second-to-come Nothing others ops behind = absurd behind
second-to-come End others ops behind = absurd behind
second-to-come (SecondAndEnd number) others ops behind = (number, refl, behind)

-- A level whose second part has begun.
abbrev pub in_second : Level → Level
in_second l = record { label = l.label; pending = End; inside = l.inside; after = l.after }

-- The labels of a function that is open stay, with these targets.
levels-aimed : (before old new : SideTables) (ts : List (ℕ × ℕ)) (levels : List Level) → ChangesEntries old new (with_targets old.entries.items ts) → All (IsOpenLevel before old) levels
    → All (IsOpenLevel before new) levels
levels-aimed before old new ts levels changed are =
    All-weaker (IsOpenLevel before old) (IsOpenLevel before new)
    (λ l is. (
      label-aimed before old new ts changed l.label is.0,
      second-weaker (IsLabelSince before old) (IsLabelSince before new) (label-aimed before old new ts changed) l.pending
          is.1,
    )) levels are

-- ---- an else

module _ (s : Signatures) (outermost : ℕ) (old new : Flattening) (level : Level) (levels : List Level) (place : ℕ) (levels_are : old.levels ≡ level ∷ levels)
    (new_levels : new.levels ≡ in_second level ∷ levels)
    (items : new.operations.items ≡ old.operations.items ++ (packed.Transfer transfer.Jump level.label ∷ [])) (goes : GoesOnAt old.heights level.inside new.heights)
    (place_is : place ≡ suc (length old.operations.items)) (tables : ChangesEntries old.tables new.tables (with_targets old.tables.entries.items (second_targets level.pending place)))
    (ops : List Op) where
  to-come : Closes (op.Else ∷ ops) (map allows_else old.levels) → (number : ℕ) × (level.pending ≡ SecondAndEnd number) × Closes ops (false ∷ map allows_else levels)
  to-come shape = second-to-come level.pending (map allows_else levels) ops (rw levels_are at shape)

  level-is : (before : SideTables) → IsBegun before outermost old → All (IsOpenLevel before old.tables) (level ∷ levels)
  level-is before begun = rw levels_are at begun.levels

  changed : (number : ℕ) → level.pending ≡ SecondAndEnd number → ChangesEntries old.tables new.tables (with_targets old.tables.entries.items ((number, place) ∷ []))
  changed number pending = rw pending at tables

  abbrev seconds : List (ℕ × ℕ)
  seconds = second_targets level.pending place

  size : length new.operations.items ≡ suc (length old.operations.items)
  size = ap length items ∙ length-append old.operations.items (packed.Transfer transfer.Jump level.label ∷ []) ∙ omega arith

  ends-before : (before final : SideTables) → IsOpen before outermost old (op.Else ∷ ops) → EndsAs before outermost new ops final → EndsAs before outermost old (op.Else ∷ ops) final
  ends-before before final opened ends =
      let (number, pending, closes) = to-come opened.shape in
      let none = no-else ops (map allows_else levels) closes in
      let us : List (ℕ × ℕ) = targets_left outermost new.levels (length new.operations.items) (rests ops) in
      let same : (number, place) ∷ us ≡ targets_left outermost old.levels (length old.operations.items) (rests (op.Else ∷ ops)) =
      ap₂ (λ (n : ℕ) (ls : List Level). (number, n) ∷ targets_left outermost ls (length new.operations.items) (rests ops)) place_is new_levels
      ∙ ap (λ (n : ℕ). (number, suc (length old.operations.items)) ∷ targets_left outermost (in_second level ∷ levels) n (rests ops)) size
      ∙ sym (targets-else outermost level levels (length old.operations.items) number ops pending none)
      ∙ ap (λ (ls : List Level). targets_left outermost ls (length old.operations.items) (rests (op.Else ∷ ops))) (sym levels_are) in
      subst (λ (ts : List (ℕ × ℕ)). Completes before old.tables ts final) same (completes-aimed before old.tables new.tables final ((number, place) ∷ []) us (changed number pending) ends)

  abbrev bodies : SideTables → List OpenBody
  bodies final = open_body final level ∷ open_bodies final levels

  pub else-passes : PassesTo s outermost old (op.Else ∷ ops) ops new
  else-passes = record {
    begun = λ before begun.
        let (label, second) = All-head (IsOpenLevel before old.tables) level levels (level-is before begun) in
        let is = holds-of-second (IsLabelSince before old.tables) level.pending place second in
        record {
          grows = grows-aimed before old.tables new.tables seconds tables is begun.grows;
          copies = copies-aimed before old.tables new.tables seconds tables is begun.copies;
          outer = label-aimed before old.tables new.tables seconds tables outermost begun.outer;
          levels = rw new_levels (All-cons (IsOpenLevel before new.tables) (in_second level) levels (label-aimed before old.tables new.tables seconds tables level.label label, tt {0})
              (levels-aimed before old.tables new.tables seconds levels tables (All-tail (IsOpenLevel before old.tables) level levels (level-is before begun))));
        };
    shape = λ shape. let (number, pending, closes) = to-come shape in rw new_levels closes;
    ends = ends-before;
    makes = λ before final whole most opened ends m.
        let (number, pending, closes) = to-come opened.shape in
        let none = no-else ops (map allows_else levels) closes in
        let first = All-head (IsOpenLevel before old.tables) level levels (level-is before opened.begun) in
        let within = final-within before old.tables final (targets_left outermost old.levels (length old.operations.items) (rests (op.Else ∷ ops))) level.label opened.begun.copies
        (ends-before before final opened ends) first.0.within in
        let before_ops = made final old.operations.items in
        let e = entry_of_number final outermost in
        let jump : FlatOp = Jump (entry_of_number final level.label) in
        makes-on s final outermost old new (packed.Transfer transfer.Jump level.label) jump level.inside (record { same = refl; within = within }) items goes op.Else ops whole most
        (rw (levels_are, new_levels) (record {
          operations = left-else s e before_ops (open_body final level) (open_bodies final levels) old.heights.here (rests ops).around (rests ops).here.body
              ∙ ap (λ (x : Option Body). (before_ops ++ (jump ∷ [])) ++ left s e (bodies final) level.inside (length (before_ops ++ (jump ∷ [])))
              (record { here = record { body = (rests ops).here.body; other = x }; around = (rests ops).around })) (sym none);
          heights = greatest-else s old.heights.greatest (open_body final level) (open_bodies final levels) old.heights.here (rests ops).around (rests ops).here.body
              ∙ ap (λ (x : Option Body). max (max old.heights.greatest (height_or_zero old.heights.here))
              (greatest_left s (bodies final) level.inside (record { here = record { body = (rests ops).here.body; other = x }; around = (rests ops).around }))) (sym none);
        })) m;
  }

-- ---- an end

module _ (s : Signatures) (outermost : ℕ) (old new : Flattening) (level : Level) (end : ℕ) (levels_are : old.levels ≡ level ∷ new.levels) (items : new.operations.items ≡ old.operations.items)
    (goes : GoesOnAt old.heights level.after new.heights) (end_is : end ≡ length old.operations.items)
    (tables : ChangesEntries old.tables new.tables (with_targets old.tables.entries.items (targets_of level.pending level.label end end))) (ops : List Op) where
  abbrev ended : List (ℕ × ℕ)
  ended = targets_of level.pending level.label end end

  open-level : (before : SideTables) → IsBegun before outermost old → All (IsOpenLevel before old.tables) (level ∷ new.levels)
  open-level before begun = rw levels_are at begun.levels

  ended-labels : (before : SideTables) → IsBegun before outermost old
      → AreLabels (length before.entries.items) (length old.tables.entries.items) (ranges_since before old.tables) ended
  ended-labels before begun =
      let (label, second) = All-head (IsOpenLevel before old.tables) level new.levels (open-level before begun) in
      holds-of-targets (IsLabelSince before old.tables) level.pending level.label end end label second

  pub end-passes : PassesTo s outermost old (op.End ∷ ops) ops new
  end-passes = record {
    begun = λ before begun.
        let is = ended-labels before begun in
        record {
          grows = grows-aimed before old.tables new.tables ended tables is begun.grows;
          copies = copies-aimed before old.tables new.tables ended tables is begun.copies;
          outer = label-aimed before old.tables new.tables ended tables outermost begun.outer;
          levels = levels-aimed before old.tables new.tables ended new.levels tables (All-tail (IsOpenLevel before old.tables) level new.levels (open-level before begun));
        };
    shape = λ shape. let behind : Closes (op.End ∷ ops) (map allows_else (level ∷ new.levels)) = rw levels_are at shape in behind;
    ends = λ before final opened ends.
        let us : List (ℕ × ℕ) = targets_left outermost new.levels (length new.operations.items) (rests ops) in
        let same : ended ++ us ≡ targets_left outermost old.levels (length old.operations.items) (rests (op.End ∷ ops)) =
        ap₂ (λ (n m : ℕ). targets_of level.pending level.label n n ++ targets_left outermost new.levels m (rests ops)) end_is (ap length items)
        ∙ sym (targets-end outermost level new.levels (length old.operations.items) ops)
        ∙ ap (λ (ls : List Level). targets_left outermost ls (length old.operations.items) (rests (op.End ∷ ops))) (sym levels_are) in
        subst (λ (ts : List (ℕ × ℕ)). Completes before old.tables ts final) same (completes-aimed before old.tables new.tables final ended us tables ends);
    makes = λ before final whole most opened ends m.
        let before_ops = made final old.operations.items in
        let size : length old.operations.items ≡ length before_ops = sym (length-map old.operations.items (unpacked final)) in
        record {
          operations = rw (items, goes.here, size) (sym
              (left-end s (entry_of_number final outermost) before_ops (open_body final level) (open_bodies final new.levels) old.heights.here (rests ops).around (rests ops).here) ∙
              (rw (levels_are, size) at m.operations));
          heights = heights-on s (open_bodies final new.levels) old.heights new.heights level.after (rests ops) most goes
              (sym (greatest-end s old.heights.greatest (open_body final level) (open_bodies final new.levels) old.heights.here (rests ops).around (rests ops).here) ∙ (rw levels_are at m.heights));
          within = rw items m.within;
        };
  }

-- ---- where no body is open

pub no-body-passes : (s : Signatures) (outermost : ℕ) (f : Flattening) (ops : List Op) → f.levels ≡ [] → PassesTo s outermost f (op.End ∷ ops) ops f × PassesTo s outermost f (op.Else ∷ ops) ops f
no-body-passes s outermost f ops none = (
  never-passed s outermost f (op.End ∷ ops) ops (λ shape. let never : Closes (op.End ∷ ops) [] = rw none at shape in never),
  never-passed s outermost f (op.Else ∷ ops) ops (λ shape. let never : Closes (op.Else ∷ ops) [] = rw none at shape in never),
)
