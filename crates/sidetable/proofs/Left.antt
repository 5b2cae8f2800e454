-- The rest, after one operation.
use Rattle.std.proofs.Common.{◌≡◌, ℕ, suc, ◌+◌, ◌≤◌, max, List, [], ◌∷◌, ◌++◌, length, refl, ap, sym, ◌∙◌, add-zero, arith, append_assoc, length-append}
use Rattle.std.specs.Prelude.{Option, Some, None}
use Rattle.core_types.specs.declared.op.BlockType.{BlockType}
use Rattle.core_types.specs.declared.op.PlainOp.{PlainOp}
use Rattle.meaning.specs.structure.Bodies.{Body, Part, Rests, Kind, IfKind, Empty, Then, Nested, IfElse, first_part, other_parts, nothing_left}
use Rattle.sidetable.specs.declared.counts.Counts.{Counts}
use Rattle.sidetable.specs.declared.operations.Entry.{Entry}
use Rattle.sidetable.specs.Labels.{OpenBody, all_entries}
use Rattle.sidetable.specs.Counts.{GoesOnAt, HeightsSoFar, Signatures, behind, block_counts, counts_of, height_or_zero}
use Rattle.sidetable.specs.Flat.{FlatOp, Jump, If, base_height, behind_height, entry_of, flat, flat_op, greatest, inside_height, label_entry, size, start_op}
use Rattle.sidetable.specs.Flattening.{greatest_around, greatest_left, left, left_around}

snoc-length : {X : Type 0} (xs : List X) (x : X) → length (xs ++ (x ∷ [])) ≡ suc (length xs)
snoc-length xs x = length-append xs (x ∷ []) ∙ omega arith

module _ (s : Signatures) (outermost : Entry) (made : List FlatOp) where
  -- the same, behind one operation more
  on : (o : FlatOp) (levels : List OpenBody) (h : Option ℕ) (r : Rests)
      → made ++ (o ∷ left s outermost levels h (suc (length made)) r) ≡ (made ++ (o ∷ [])) ++ left s outermost levels h (length (made ++ (o ∷ []))) r
  on o levels h r = sym (append_assoc made (o ∷ []) _) ∙ ap (λ (n : ℕ). (made ++ (o ∷ [])) ++ left s outermost levels h n r) (sym (snoc-length made o))

  pub left-plain : (levels : List OpenBody) (h : Option ℕ) (op : PlainOp) (r : Rests)
      → made ++ left s outermost levels h (length made) (record { here = record { body = Then op r.here.body; other = r.here.other }; around = r.around })
      ≡ (made ++ (flat_op outermost (all_entries outermost levels) op ∷ [])) ++ left s outermost levels (behind (counts_of s op) h)
      (length (made ++ (flat_op outermost (all_entries outermost levels) op ∷ []))) r
  left-plain levels h op r =
      let same : length made + suc (size r.here.body) ≡ suc (length made) + size r.here.body = omega arith in
      ap (λ (n : ℕ). made ++ (flat_op outermost (all_entries outermost levels) op ∷
      (flat s outermost (all_entries outermost levels) (behind (counts_of s op) h) (suc (length made)) r.here.body ++ left_around s outermost levels r.here.other n r.around))) same
      ∙ on (flat_op outermost (all_entries outermost levels) op) levels (behind (counts_of s op) h) r

  module _ (levels : List OpenBody) (h : Option ℕ) (type : BlockType) (inner : Body) (around : List Part) where
    abbrev at : ℕ
    at = length made

    abbrev c : Counts
    c = block_counts s type

    abbrev labels : List Entry
    labels = all_entries outermost levels

    abbrev rest : Body
    rest = (first_part around).body

    -- The body that a mark begins.
    abbrev pub body_for : Kind → (end : ℕ) → OpenBody
    body_for kind end = record { entry = label_entry kind c at end (base_height kind c h); inside = inside_height kind h; after = behind_height kind c h }

    pub left-nested : (kind : Kind)
        → made ++ left s outermost levels h at (record { here = record { body = Nested kind type inner rest; other = (first_part around).other }; around = other_parts around })
        ≡ (made ++ (start_op kind (entry_of (suc at + size inner) c.takes (base_height kind c h)) ∷ []))
        ++ left s outermost (body_for kind (suc at + size inner) ∷ levels) (inside_height kind h)
        (length (made ++ (start_op kind (entry_of (suc at + size inner) c.takes (base_height kind c h)) ∷ []))) (record { here = record { body = inner; other = None }; around = around })
    left-nested kind =
        let same : at + suc (size inner + size rest) ≡ suc at + size inner + size rest = omega arith in
        ap (λ (n : ℕ). made ++ (start_op kind (entry_of (suc at + size inner) c.takes (base_height kind c h)) ∷
        ((flat s outermost (label_entry kind c at (suc at + size inner) (base_height kind c h) ∷ labels) (inside_height kind h) (suc at) inner ++ flat s outermost labels
        (behind_height kind c h) (suc at + size inner) rest)
        ++ left_around s outermost levels (first_part around).other n (other_parts around)))) same
        ∙ ap (λ (z : List FlatOp). made ++ (start_op kind (entry_of (suc at + size inner) c.takes (base_height kind c h)) ∷ z))
        (append_assoc (flat s outermost (label_entry kind c at (suc at + size inner) (base_height kind c h) ∷ labels) (inside_height kind h) (suc at) inner)
        (flat s outermost labels (behind_height kind c h) (suc at + size inner) rest)
        (left_around s outermost levels (first_part around).other (suc at + size inner + size rest) (other_parts around)))
        ∙ on (start_op kind (entry_of (suc at + size inner) c.takes (base_height kind c h))) (body_for kind (suc at + size inner) ∷ levels) (inside_height kind h)
        (record { here = record { body = inner; other = None }; around = around })

    module _ (other : Body) where
      abbrev second : ℕ
      second = suc (suc at + size inner)

      abbrev past : ℕ
      past = second + size other

      pub left-both : made ++ left s outermost levels h at (record { here = record { body = IfElse type inner other rest; other = (first_part around).other }; around = other_parts around })
          ≡ (made ++ (If (entry_of second c.takes (base_height IfKind c h)) ∷ []))
          ++ left s outermost (body_for IfKind past ∷ levels) (inside_height IfKind h) (length (made ++ (If (entry_of second c.takes (base_height IfKind c h)) ∷ [])))
          (record { here = record { body = inner; other = Some other }; around = around })
      left-both =
          let same : at + suc (size inner + suc (size other + size rest)) ≡ past + size rest = omega arith in
          ap (λ (n : ℕ). made ++ (If (entry_of second c.takes (base_height IfKind c h)) ∷
          ((flat s outermost (label_entry IfKind c at past (base_height IfKind c h) ∷ labels) (inside_height IfKind h) (suc at) inner
          ++ (Jump (entry_of past c.gives (base_height IfKind c h)) ∷
          (flat s outermost (label_entry IfKind c at past (base_height IfKind c h) ∷ labels) (inside_height IfKind h) second other ++ flat s outermost labels (behind_height IfKind c h)
          past rest)))
          ++ left_around s outermost levels (first_part around).other n (other_parts around)))) same
          ∙ ap (λ (z : List FlatOp). made ++ (If (entry_of second c.takes (base_height IfKind c h)) ∷ z))
          (append_assoc (flat s outermost (label_entry IfKind c at past (base_height IfKind c h) ∷ labels) (inside_height IfKind h) (suc at) inner)
          (Jump (entry_of past c.gives (base_height IfKind c h)) ∷
          (flat s outermost (label_entry IfKind c at past (base_height IfKind c h) ∷ labels) (inside_height IfKind h) second other ++ flat s outermost labels (behind_height IfKind c h)
          past rest)) (left_around s outermost levels (first_part around).other (past + size rest) (other_parts around)) ∙ ap
          (λ (z : List FlatOp). flat s outermost (label_entry IfKind c at past (base_height IfKind c h) ∷ labels) (inside_height IfKind h) (suc at) inner ++
          (Jump (entry_of past c.gives (base_height IfKind c h)) ∷ z))
          (append_assoc (flat s outermost (label_entry IfKind c at past (base_height IfKind c h) ∷ labels) (inside_height IfKind h) second other)
          (flat s outermost labels (behind_height IfKind c h) past rest) (left_around s outermost levels (first_part around).other (past + size rest) (other_parts around))))
          ∙ on (If (entry_of second c.takes (base_height IfKind c h))) (body_for IfKind past ∷ levels) (inside_height IfKind h)
          (record { here = record { body = inner; other = Some other }; around = around })

  module _ (l : OpenBody) (levels : List OpenBody) (h : Option ℕ) (around : List Part) where
    pub left-else : (other : Body) → made ++ left s outermost (l ∷ levels) h (length made) (record { here = record { body = Empty; other = Some other }; around = around })
        ≡ (made ++ (Jump l.entry ∷ [])) ++ left s outermost (l ∷ levels) l.inside (length (made ++ (Jump l.entry ∷ []))) (record { here = record { body = other; other = None }; around = around })
    left-else other = ap (λ (n : ℕ). made ++ left_around s outermost (l ∷ levels) (Some other) n around) (add-zero (length made))
        ∙ on (Jump l.entry) (l ∷ levels) l.inside (record { here = record { body = other; other = None }; around = around })

    pub left-end : (part : Part) → made ++ left s outermost (l ∷ levels) h (length made) (record { here = nothing_left; around = part ∷ around })
        ≡ made ++ left s outermost levels l.after (length made) (record { here = part; around = around })
    left-end part = ap (λ (n : ℕ). made ++ left_around s outermost (l ∷ levels) None n (part ∷ around)) (add-zero (length made))

-- At the end nothing is left.
pub left-nothing : (s : Signatures) (outermost : Entry) (levels : List OpenBody) (place : ℕ) → left_around s outermost levels None place [] ≡ []
left-nothing s outermost [] place = refl
left-nothing s outermost (l ∷ levels) place = left-nothing s outermost levels (place + 0)

-- ---- the greatest height

max-assoc : (a b c : ℕ) → max a (max b c) ≡ max (max a b) c
max-assoc a b c = omega arith

max-both : (g h a b c d : ℕ) → max g (max (max h (max (max a b) c)) d) ≡ max (max g h) (max a (max b (max c d)))
max-both g h a b c d =
    ap (max g) (sym (max-assoc h (max (max a b) c) d)) ∙ max-assoc g h (max (max (max a b) c) d)
    ∙ ap (max (max g h)) (sym (max-assoc (max a b) c d) ∙ sym (max-assoc a b (max c d)))

module _ (s : Signatures) (g : ℕ) (levels : List OpenBody) (h : Option ℕ) where
  pub greatest-plain : (op : PlainOp) (r : Rests) → max g (greatest_left s levels h (record { here = record { body = Then op r.here.body; other = r.here.other }; around = r.around }))
      ≡ max (max g (height_or_zero h)) (greatest_left s levels (behind (counts_of s op) h) r)
  greatest-plain op r = omega arith

  module _ (type : BlockType) (inner : Body) (around : List Part) (entry : Entry) where
    abbrev n : Counts
    n = block_counts s type

    pub greatest-nested : (kind : Kind)
        → max g (greatest_left s levels h (record { here = record { body = Nested kind type inner (first_part around).body; other = (first_part around).other }; around = other_parts around }))
        ≡ max (max g (height_or_zero h)) (greatest_left s ((let l : OpenBody = record { entry = entry; inside = inside_height kind h; after = behind_height kind n h } in l) ∷ levels)
        (inside_height kind h) (record { here = record { body = inner; other = None }; around = around }))
    greatest-nested kind = omega arith

    pub greatest-both : (other : Body)
        → max g (greatest_left s levels h (record { here = record { body = IfElse type inner other (first_part around).body; other = (first_part around).other }; around = other_parts around }))
        ≡ max (max g (height_or_zero h)) (greatest_left s ((let l : OpenBody = record { entry = entry; inside = inside_height IfKind h; after = behind_height IfKind n h } in l) ∷ levels)
        (inside_height IfKind h) (record { here = record { body = inner; other = Some other }; around = around }))
    greatest-both other = max-both g (height_or_zero h) (greatest s (inside_height IfKind h) inner) (greatest s (inside_height IfKind h) other)
        (greatest s (behind_height IfKind n h) (first_part around).body) (greatest_around s levels (first_part around).other (other_parts around))

module _ (s : Signatures) (g : ℕ) (l : OpenBody) (levels : List OpenBody) (h : Option ℕ) (around : List Part) where
  pub greatest-else : (other : Body) → max g (greatest_left s (l ∷ levels) h (record { here = record { body = Empty; other = Some other }; around = around }))
      ≡ max (max g (height_or_zero h)) (greatest_left s (l ∷ levels) l.inside (record { here = record { body = other; other = None }; around = around }))
  greatest-else other = omega arith

  pub greatest-end : (part : Part) → max g (greatest_left s (l ∷ levels) h (record { here = nothing_left; around = part ∷ around }))
      ≡ max (max g (height_or_zero h)) (greatest_left s levels l.after (record { here = part; around = around }))
  greatest-end part = omega arith

-- The greatest height of what is left is at least the one here.
first-within : (s : Signatures) (h : Option ℕ) (body : Body) → height_or_zero h ≤ greatest s h body
first-within s h Empty = omega arith
first-within s h (Then op rest) = omega arith
first-within s h (Nested kind type inner rest) = omega arith
first-within s h (IfElse type inner other rest) = omega arith

-- What goes on at a height has the same greatest height as before.
pub heights-on : (s : Signatures) (bodies : List OpenBody) (old new : HeightsSoFar) (h : Option ℕ) (r : Rests) (most : ℕ) → GoesOnAt old h new
    → max (max old.greatest (height_or_zero old.here)) (greatest_left s bodies h r) ≡ most → max new.greatest (greatest_left s bodies new.here r) ≡ most
heights-on s bodies old new h r most goes whole = rw (goes.greatest, goes.here) (omega (arith, goes.within, first-within s h r.here.body, whole))
