-- What is made, an operation on.
use Rattle.std.proofs.Common.{◌≡◌, ℕ, suc, ◌+◌, max, List, [], ◌∷◌, ◌++◌, length, ap, sym, ◌∙◌}
use Rattle.std.proofs.lemmas.List.{length-map, map-append}
use Rattle.std.proofs.lemmas.List.Elements.{All-push}
use Rattle.std.specs.Prelude.{Option, Some, None}
use Rattle.core_types.specs.declared.op.BlockType.{BlockType}
use Rattle.core_types.specs.declared.op.Op.{Op}
use Rattle.meaning.specs.structure.Bodies.{Body, Rests, Kind, IfKind, Nested, first_part, if_with, other_parts, rests}
use Rattle.sidetable.specs.Counts.{GoesOnAt, Signatures, block_counts, height_or_zero}
use Rattle.sidetable.specs.Flat.{FlatOp, base_height, entry_of, inside_height, label_entry, size, start_op}
use Rattle.sidetable.specs.Flat.{If as IfOp}
use Rattle.sidetable.specs.Flattening.{Makes, greatest_left, left}
use Rattle.sidetable.specs.Labels.{OpenBody, open_bodies}
use Rattle.sidetable.specs.Packing.{IsWithin, Packs, made, unpacked}
use Rattle.sidetable.specs.SideTables.{SideTables, entry_of_number}
use Rattle.sidetable.specs.declared.flattening.Flattening.{Flattening}
use Rattle.sidetable.specs.declared.operations.Entry.{Entry}
use Rattle.sidetable.specs.declared.operations.PackedOp.{PackedOp}
use Rattle.sidetable.proofs.Left.{body_for, greatest-both, greatest-nested, heights-on, left-both, left-nested}

-- ---- one more operation

-- What is left goes on as before behind one operation more, with other bodies open and at another height.
pub record GoesOn (s : Signatures) (outermost : Entry) (before : List FlatOp) (g : ℕ) (bodies : List OpenBody) (h : Option ℕ) (op : Op) (ops : List Op) (o : FlatOp) (later : List OpenBody)
    (height : Option ℕ) : Type 0 where
  pub operations : before ++ left s outermost bodies h (length before) (rests (op ∷ ops)) ≡ (before ++ (o ∷ [])) ++ left s outermost later height (length (before ++ (o ∷ []))) (rests ops)
  pub heights : max g (greatest_left s bodies h (rests (op ∷ ops))) ≡ max (max g (height_or_zero h)) (greatest_left s later height (rests ops))

module _ (s : Signatures) (final : SideTables) (outermost : ℕ) (old new : Flattening) (p : PackedOp) (o : FlatOp) (height : Option ℕ) (packs : Packs final p o)
    (items : new.operations.items ≡ old.operations.items ++ (p ∷ [])) (goes : GoesOnAt old.heights height new.heights) where
  abbrev before : List FlatOp
  before = made final old.operations.items

  made-is : made final new.operations.items ≡ before ++ (o ∷ [])
  made-is = ap (made final) items ∙ map-append (unpacked final) old.operations.items (p ∷ []) ∙ ap (λ (x : FlatOp). before ++ (x ∷ [])) packs.same

  old-size : length old.operations.items ≡ length before
  old-size = sym (length-map old.operations.items (unpacked final))

  new-size : length new.operations.items ≡ length (before ++ (o ∷ []))
  new-size = sym (length-map new.operations.items (unpacked final)) ∙ ap length made-is

  pub makes-on : (op : Op) (ops : List Op) (whole : List FlatOp) (most : ℕ)
      → GoesOn s (entry_of_number final outermost) before old.heights.greatest (open_bodies final old.levels) old.heights.here op ops o (open_bodies final new.levels) height
      → Makes s final outermost old (op ∷ ops) whole most → Makes s final outermost new ops whole most
  makes-on op ops whole most on m = record {
    operations = rw (made-is, new-size, goes.here) (sym on.operations ∙ (rw old-size at m.operations));
    heights = heights-on s (open_bodies final new.levels) old.heights new.heights height (rests ops) most goes (sym on.heights ∙ m.heights);
    within = rw items (All-push (IsWithin final) old.operations.items p m.within packs.within);
  }

-- ---- a body that begins

module _ (s : Signatures) (outermost : Entry) (before : List FlatOp) (g : ℕ) (levels : List OpenBody) (h : Option ℕ) (type : BlockType) (r : Rests) (l : OpenBody) where
  abbrev around-mark : Body → Rests
  around-mark body = record { here = record { body = body; other = (first_part r.around).other }; around = other_parts r.around }

  abbrev nested : Kind → Rests
  nested kind = around-mark (Nested kind type r.here.body (first_part r.around).body)

  abbrev with-other : Option Body → Rests
  with-other other = record { here = record { body = r.here.body; other = other }; around = r.around }

  abbrev single-end : ℕ
  single-end = suc (length before) + size r.here.body

  module _ (kind : Kind) (none : r.here.other ≡ None) (is : l ≡ body_for s outermost before levels h type r.here.body r.around kind single-end) where
    abbrev single-start : FlatOp
    single-start = start_op kind (entry_of single-end (block_counts s type).takes (base_height kind (block_counts s type) h))

    pub nested-left : before ++ left s outermost levels h (length before) (nested kind)
        ≡ (before ++ (single-start ∷ [])) ++ left s outermost (l ∷ levels) (inside_height kind h) (length (before ++ (single-start ∷ []))) r
    nested-left =
        left-nested s outermost before levels h type r.here.body r.around kind
        ∙ ap (λ (other : Option Body). (before ++ (single-start ∷ [])) ++ left s outermost (body_for s outermost before levels h type r.here.body r.around kind single-end ∷ levels)
        (inside_height kind h) (length (before ++ (single-start ∷ []))) (with-other other)) (sym none)
        ∙ ap (λ (x : OpenBody). (before ++ (single-start ∷ [])) ++ left s outermost (x ∷ levels) (inside_height kind h) (length (before ++ (single-start ∷ []))) r) (sym is)

    pub nested-heights : max g (greatest_left s levels h (nested kind)) ≡ max (max g (height_or_zero h)) (greatest_left s (l ∷ levels) (inside_height kind h) r)
    nested-heights =
        greatest-nested s g levels h type r.here.body r.around (label_entry kind (block_counts s type) (length before) single-end (base_height kind (block_counts s type) h)) kind
        ∙ ap (λ (other : Option Body). max (max g (height_or_zero h))
        (greatest_left s (body_for s outermost before levels h type r.here.body r.around kind single-end ∷ levels) (inside_height kind h) (with-other other))) (sym none)
        ∙ ap (λ (x : OpenBody). max (max g (height_or_zero h)) (greatest_left s (x ∷ levels) (inside_height kind h) r)) (sym is)

  -- an if without else
  module _ (none : r.here.other ≡ None) where
    abbrev if-with : Option Body → Rests
    if-with other = around-mark (if_with type r.here.body other (first_part r.around).body)

    pub single-if-left : before ++ left s outermost levels h (length before) (if-with r.here.other) ≡ before ++ left s outermost levels h (length before) (nested IfKind)
    single-if-left = ap (λ (other : Option Body). before ++ left s outermost levels h (length before) (if-with other)) none

    pub single-if-heights : max g (greatest_left s levels h (if-with r.here.other)) ≡ max g (greatest_left s levels h (nested IfKind))
    single-if-heights = ap (λ (other : Option Body). max g (greatest_left s levels h (if-with other))) none

  -- an if with two bodies
  module _ (other : Body) (some : r.here.other ≡ Some other) where
    abbrev second : ℕ
    second = suc single-end

    abbrev both-end : ℕ
    both-end = second + size other

    abbrev both-start : FlatOp
    both-start = IfOp (entry_of second (block_counts s type).takes (base_height IfKind (block_counts s type) h))

    module _ (is : l ≡ body_for s outermost before levels h type r.here.body r.around IfKind both-end) where
      pub both-left : before ++ left s outermost levels h (length before) (around-mark (if_with type r.here.body r.here.other (first_part r.around).body))
          ≡ (before ++ (both-start ∷ [])) ++ left s outermost (l ∷ levels) (inside_height IfKind h) (length (before ++ (both-start ∷ []))) r
      both-left =
          ap (λ (x : Option Body). before ++ left s outermost levels h (length before) (around-mark (if_with type r.here.body x (first_part r.around).body))) some
          ∙ left-both s outermost before levels h type r.here.body r.around other
          ∙ ap (λ (x : Option Body). (before ++ (both-start ∷ [])) ++ left s outermost (body_for s outermost before levels h type r.here.body r.around IfKind both-end ∷ levels)
          (inside_height IfKind h) (length (before ++ (both-start ∷ []))) (with-other x)) (sym some)
          ∙ ap (λ (x : OpenBody). (before ++ (both-start ∷ [])) ++ left s outermost (x ∷ levels) (inside_height IfKind h) (length (before ++ (both-start ∷ []))) r) (sym is)

      pub both-heights : max g (greatest_left s levels h (around-mark (if_with type r.here.body r.here.other (first_part r.around).body)))
          ≡ max (max g (height_or_zero h)) (greatest_left s (l ∷ levels) (inside_height IfKind h) r)
      both-heights =
          ap (λ (x : Option Body). max g (greatest_left s levels h (around-mark (if_with type r.here.body x (first_part r.around).body)))) some
          ∙ greatest-both s g levels h type r.here.body r.around (label_entry IfKind (block_counts s type) (length before) both-end (base_height IfKind (block_counts s type) h)) other
          ∙ ap (λ (x : Option Body). max (max g (height_or_zero h))
          (greatest_left s (body_for s outermost before levels h type r.here.body r.around IfKind both-end ∷ levels) (inside_height IfKind h) (with-other x))) (sym some)
          ∙ ap (λ (x : OpenBody). max (max g (height_or_zero h)) (greatest_left s (x ∷ levels) (inside_height IfKind h) r)) (sym is)
