-- Blocks, loops and ifs are passed.
use Rattle.std.proofs.Common.{◌≡◌, ℕ, suc, ◌+◌, ◌<◌, List, [], ◌∷◌, ◌++◌, length, map, refl, ap, ap₂, sym, ◌∙◌, arith, length-append}
use Rattle.std.proofs.lemmas.List.{length-map}
use Rattle.std.specs.Prelude.{Option, Some, None}
use Rattle.core_types.specs.declared.op.BlockType.{BlockType}
use Rattle.core_types.specs.declared.op.Op.{Op}
use Rattle.core_types.specs.declared.op.Op.TheVariants.{Block, If, Loop}
use Rattle.meaning.specs.structure.Bodies.{BlockKind, Body, IfKind, Kind, LoopKind, Rests, first_part, if_with, other_parts, rests}
use Rattle.sidetable.specs.Completion.{EndsBehind, aimed_at, entry_in, with_targets}
use Rattle.sidetable.specs.Counts.{Signatures, block_counts}
use Rattle.sidetable.specs.Flat.{Enter, FlatOp, base_height, behind_height, entry_of, inside_height, label_entry, size}
use Rattle.sidetable.specs.Flat.{If as IfOp}
use Rattle.sidetable.specs.Flattening.{Passes, PassesTo, targets_left}
use Rattle.sidetable.specs.Labels.{OpenBody, allows_else, open_bodies, open_body, targets_of}
use Rattle.sidetable.specs.Packing.{Packs, made, unpacked}
use Rattle.sidetable.specs.Shapes.{Closes}
use Rattle.sidetable.specs.SideTables.{SideTables, entry_of_number}
use Rattle.sidetable.specs.declared.counts.Counts.{Counts}
use Rattle.sidetable.specs.declared.flattening.Flattening.{Flattening}
use Rattle.sidetable.specs.declared.labels.Level.{Level}
use Rattle.sidetable.specs.declared.labels.Pending.{Pending}
use Rattle.sidetable.specs.declared.labels.Pending.TheVariants as pending
use Rattle.sidetable.specs.declared.operations.Entry.{Entry}
use Rattle.sidetable.specs.declared.operations.PackedOp.TheVariants as packed
use Rattle.sidetable.proofs.Making.{GoesOn, both-heights, both-left, nested-heights, nested-left, single-if-heights, single-if-left}
use Rattle.sidetable.proofs.Marks.{Begins, first-in-the-end, mark-passes, second-in-the-end}
use Rattle.sidetable.proofs.Shapes.{no-else}
use Rattle.sidetable.proofs.Targets.{one-aimed, two-aimed, with_targets-append}
use Rattle.sidetable.proofs.TargetsLeft.{targets-both, targets-nested}

pub entry-same : (t u k l h i : ℕ) → t ≡ u → k ≡ l → h ≡ i → entry_of t k h ≡ entry_of u l i
entry-same t u k l h i targets kepts heights = ap (λ (x : ℕ). entry_of x k h) targets ∙ ap₂ (entry_of u) kepts heights

-- The level of a body: the number of its label's entry, and which entries have no target yet.
abbrev pub level_of : (kind : Kind) → Counts → (height : Option ℕ) → (label : ℕ) → Pending → Level
level_of kind c h label p = record { label = label; pending = p; inside = inside_height kind h; after = behind_height kind c h }

module _ (s : Signatures) (outermost : ℕ) (old new : Flattening) (type : BlockType) where
  abbrev c : Counts
  c = block_counts s type

  abbrev h : Option ℕ
  h = old.heights.here

  abbrev at : ℕ
  at = length old.operations.items

  abbrev count : ℕ
  count = length old.tables.entries.items

  made-size : (final : SideTables) → length (made final old.operations.items) ≡ at
  made-size final = length-map old.operations.items (unpacked final)

  -- the level as an open body
  body-is : (final : SideTables) (kind : Kind) (label : ℕ) (p : Pending) (end place : ℕ) → entry_of_number final label ≡ label_entry kind c at end (base_height kind c h) → end ≡ place
      → open_body final (level_of kind c h label p) ≡
      (let b : OpenBody = record {
        entry = label_entry kind c (length (made final old.operations.items)) place (base_height kind c h);
        inside = inside_height kind h;
        after = behind_height kind c h;
      } in b)
  body-is final kind label p end place e place_is =
      ap (λ (x : Entry). let b : OpenBody = record { entry = x; inside = inside_height kind h; after = behind_height kind c h } in b)
      (e ∙ ap₂ (λ (n m : ℕ). label_entry kind c n m (base_height kind c h)) (sym (made-size final)) place_is)

  abbrev first-end : List Op → ℕ
  first-end ops = suc at + size (rests ops).here.body

  -- the same, as what was made has it
  made-end : (final : SideTables) (ops : List Op) → first-end ops ≡ suc (length (made final old.operations.items)) + size (rests ops).here.body
  made-end final ops = ap (λ (n : ℕ). suc n + size (rests ops).here.body) (sym (made-size final))

  -- what is left, with this body in place of the innermost one
  abbrev around : List Op → Body → Rests
  around ops body = record { here = record { body = body; other = (first_part (rests ops).around).other }; around = other_parts (rests ops).around }

  pub block-passes : Begins old packed.Enter (level_of BlockKind c h count pending.End) (entry_of 0 c.gives (base_height BlockKind c h) ∷ []) new → Passes s outermost old (Block type) new
  block-passes begins ops =
      let level = level_of BlockKind c h count pending.End in
      let e = entry_of 0 c.gives (base_height BlockKind c h) in
      let end = first-end ops in
      mark-passes s outermost old new packed.Enter level (e ∷ []) begins (omega arith, omega (arith, ap length begins.tables.entries, length-append old.tables.entries.items (e ∷ [])))
      (tt {0}) (Block type) ops end end (aimed_at end e ∷ [])
      (λ ts below. ap (λ (es : List Entry). with_targets es ((count, end) ∷ ts)) begins.tables.entries ∙ one-aimed old.tables.entries.items e end ts below) (λ closes. closes)
      (λ closes. targets-nested outermost old.levels at level type (rests ops) BlockKind (no-else ops (map allows_else old.levels) closes))
      (λ closes final behind.
      let none = no-else ops (map allows_else old.levels) closes in
      let there = first-in-the-end count (aimed_at end e) [] final.entries.items behind in
      let is = body-is final BlockKind count pending.End end _ there.0 (made-end final ops) in (
        Enter,
        record { same = refl; within = tt {0} },
        record {
          operations = nested-left s (entry_of_number final outermost) (made final old.operations.items) old.heights.greatest (open_bodies final old.levels) h type (rests ops)
              (open_body final level) BlockKind none is;
          heights = nested-heights s (entry_of_number final outermost) (made final old.operations.items) old.heights.greatest (open_bodies final old.levels) h type (rests ops)
              (open_body final level) BlockKind none is;
        },
      ))

  pub loop-passes : Begins old packed.Enter (level_of LoopKind c h count pending.Nothing) (entry_of at c.takes (base_height LoopKind c h) ∷ []) new → Passes s outermost old (Loop type) new
  loop-passes begins ops =
      let level = level_of LoopKind c h count pending.Nothing in
      let e = entry_of at c.takes (base_height LoopKind c h) in
      let end = first-end ops in
      mark-passes s outermost old new packed.Enter level (e ∷ []) begins (omega arith, omega (arith, ap length begins.tables.entries, length-append old.tables.entries.items (e ∷ [])))
      (tt {0}) (Loop type) ops end end (e ∷ [])
      (λ ts below. ap (λ (es : List Entry). with_targets es ts) begins.tables.entries ∙ with_targets-append old.tables.entries.items (e ∷ []) ts below) (λ closes. closes)
      (λ closes. targets-nested outermost old.levels at level type (rests ops) LoopKind (no-else ops (map allows_else old.levels) closes))
      (λ closes final behind.
      let none = no-else ops (map allows_else old.levels) closes in
      let there = first-in-the-end count e [] final.entries.items behind in
      let is = body-is final LoopKind count pending.Nothing end _ there.0 (made-end final ops) in (
        Enter,
        record { same = refl; within = tt {0} },
        record {
          operations = nested-left s (entry_of_number final outermost) (made final old.operations.items) old.heights.greatest (open_bodies final old.levels) h type (rests ops)
              (open_body final level) LoopKind none is;
          heights = nested-heights s (entry_of_number final outermost) (made final old.operations.items) old.heights.greatest (open_bodies final old.levels) h type (rests ops)
              (open_body final level) LoopKind none is;
        },
      ))

  module _ (begins : Begins old (packed.If (suc count)) (level_of IfKind c h count (pending.SecondAndEnd (suc count)))
      (entry_of 0 c.gives (base_height IfKind c h) ∷ (entry_of 0 c.takes (base_height IfKind c h) ∷ [])) new) (ops : List Op) where
    abbrev level : Level
    level = level_of IfKind c h count (pending.SecondAndEnd (suc count))

    abbrev first : Entry
    first = entry_of 0 c.gives (base_height IfKind c h)

    abbrev second : Entry
    second = entry_of 0 c.takes (base_height IfKind c h)

    size-is : length new.tables.entries.items ≡ suc (suc count)
    size-is = ap length begins.tables.entries ∙ length-append old.tables.entries.items (first ∷ (second ∷ [])) ∙ omega arith

    start : (final : SideTables) (place n : ℕ) → place ≡ n → entry_in final.entries.items (suc count) ≡ aimed_at place second → suc count < length final.entries.items
        → Packs final (packed.If (suc count)) (IfOp (entry_of n c.takes (base_height IfKind c h)))
    start final place n same is within = record { same = ap IfOp (is ∙ ap (λ (t : ℕ). entry_of t c.takes (base_height IfKind c h)) same); within = within }

    passes-at : (place end : ℕ)
        → (Closes (If type ∷ ops) (map allows_else old.levels)
        → targets_left outermost (level ∷ old.levels) (suc at) (rests ops) ≡ targets_of level.pending level.label place end ++ targets_left outermost old.levels at (rests (If type ∷ ops)))
        → (Closes (If type ∷ ops) (map allows_else old.levels) → (final : SideTables) → EndsBehind count [] (aimed_at end first ∷ (aimed_at place second ∷ [])) final.entries.items
        → (o : FlatOp) × Packs final (packed.If (suc count)) o × GoesOn s (entry_of_number final outermost) (made final old.operations.items) old.heights.greatest (open_bodies final old.levels) h
        (If type) ops o (open_body final level ∷ open_bodies final old.levels) level.inside)
        → PassesTo s outermost old (If type ∷ ops) ops new
    passes-at place end targets goes =
        mark-passes s outermost old new (packed.If (suc count)) level (first ∷ (second ∷ [])) begins (omega arith, omega (arith, size-is)) (omega arith, omega (arith, size-is)) (If type) ops
        place end (aimed_at end first ∷ (aimed_at place second ∷ []))
        (λ ts below. ap (λ (es : List Entry). with_targets es ((suc count, place) ∷ ((count, end) ∷ ts))) begins.tables.entries
        ∙ two-aimed old.tables.entries.items first second end place ts below) (λ closes. closes) targets goes

    by-other : (other : Option Body) → (rests ops).here.other ≡ other → PassesTo s outermost old (If type ∷ ops) ops new
    by-other None none =
        passes-at (first-end ops) (first-end ops)
        (λ closes. targets-nested outermost old.levels at level type (rests ops) IfKind none
        ∙ ap (λ (o : Option Body). targets_of level.pending level.label (first-end ops) (first-end ops) ++ targets_left outermost old.levels at
        (around ops (if_with type (rests ops).here.body o (first_part (rests ops).around).body))) (sym none))
        (λ closes final behind.
        let there = first-in-the-end count (aimed_at (first-end ops) first) (aimed_at (first-end ops) second ∷ []) final.entries.items behind in
        let other = second-in-the-end count (aimed_at (first-end ops) first) (aimed_at (first-end ops) second) [] final.entries.items behind in
        let is = body-is final IfKind count (pending.SecondAndEnd (suc count)) (first-end ops) _ there.0 (made-end final ops) in (
          IfOp (entry_of (suc (length (made final old.operations.items)) + size (rests ops).here.body) c.takes (base_height IfKind c h)),
          start final (first-end ops) _ (made-end final ops) other.0 other.1,
          record {
            operations = single-if-left s (entry_of_number final outermost) (made final old.operations.items) old.heights.greatest (open_bodies final old.levels) h type (rests ops)
                (open_body final level) none ∙ nested-left s (entry_of_number final outermost) (made final old.operations.items) old.heights.greatest (open_bodies final old.levels) h type
                (rests ops) (open_body final level) IfKind none is;
            heights = single-if-heights s (entry_of_number final outermost) (made final old.operations.items) old.heights.greatest (open_bodies final old.levels) h type (rests ops)
                (open_body final level) none ∙ nested-heights s (entry_of_number final outermost) (made final old.operations.items) old.heights.greatest (open_bodies final old.levels) h type
                (rests ops) (open_body final level) IfKind none is;
          },
        ))
    by-other (Some other) some =
        passes-at (suc (first-end ops)) (suc (first-end ops) + size other)
        (λ closes. targets-both outermost old.levels at level type (rests ops) other some
        ∙ ap (λ (o : Option Body). targets_of level.pending level.label (suc (first-end ops)) (suc (first-end ops) + size other) ++ targets_left outermost old.levels at
        (around ops (if_with type (rests ops).here.body o (first_part (rests ops).around).body))) (sym some))
        (λ closes final behind.
        let second_place = suc (first-end ops) in
        let end = suc (first-end ops) + size other in
        let there = first-in-the-end count (aimed_at end first) (aimed_at second_place second ∷ []) final.entries.items behind in
        let later = second-in-the-end count (aimed_at end first) (aimed_at second_place second) [] final.entries.items behind in
        let is = body-is final IfKind count (pending.SecondAndEnd (suc count)) end _ there.0 (ap (λ (n : ℕ). suc n + size other) (made-end final ops)) in (
          IfOp (entry_of (suc (suc (length (made final old.operations.items)) + size (rests ops).here.body)) c.takes (base_height IfKind c h)),
          start final second_place _ (ap suc (made-end final ops)) later.0 later.1,
          record {
            operations = both-left s (entry_of_number final outermost) (made final old.operations.items) old.heights.greatest (open_bodies final old.levels) h type (rests ops)
                (open_body final level) other some is;
            heights = both-heights s (entry_of_number final outermost) (made final old.operations.items) old.heights.greatest (open_bodies final old.levels) h type (rests ops)
                (open_body final level) other some is;
          },
        ))

  pub if-passes : Begins old (packed.If (suc count)) (level_of IfKind c h count (pending.SecondAndEnd (suc count)))
      (entry_of 0 c.gives (base_height IfKind c h) ∷ (entry_of 0 c.takes (base_height IfKind c h) ∷ [])) new → Passes s outermost old (If type) new
  if-passes begins ops = by-other begins ops (rests ops).here.other refl
