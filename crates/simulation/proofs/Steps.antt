-- The effect of a step of a configuration on the place of the code.
use Rattle.std.proofs.Common.{◌≡◌, ℕ, zero, suc, ◌+◌, ◌-◌, ◌≤◌, max, List, [], ◌∷◌, ◌++◌, length, take, drop, refl, ap, subst, ◌∙◌, arith, append_assoc}
use Rattle.std.proofs.Common.{length-append, length-take, length-drop, inl, inr}
use Rattle.std.specs.Prelude.{Option, Some, slice_get}
use Rattle.core_types.specs.declared.op.BlockType.{BlockType}
use Rattle.core_types.specs.declared.op.PlainOp.{PlainOp}
use Rattle.core_types.specs.declared.outcome.Val.{Val}
use Rattle.core_types.specs.declared.types.FuncType.{FuncType}
use Rattle.meaning.specs.structure.Bodies.{Body, Kind, BlockKind, LoopKind, IfKind, Empty, Then, Nested, IfElse}
use Rattle.meaning.specs.execution.Configurations.{Label, continue_with}
use Rattle.meaning.specs.execution.Instructions.{label_of}
use Rattle.meaning.specs.validation.Types.{block_type}
use Rattle.sidetable.specs.Counts.{behind, block_counts, counts, counts_of}
use Rattle.sidetable.specs.declared.counts.Counts.{Counts}
use Rattle.sidetable.specs.Flat.{FlatOp, Jump, base_height, behind_height, entry_of, flat, greatest, inside_height, label_entry, size}
use Rattle.sidetable.specs.declared.operations.Entry.{Entry}
use Rattle.simulation.specs.Standing.{EndsAt, FrameCode, GoesOnAt, LabelsStand, StandsAt, StandsIn, conditions, last_height, under}
use Rattle.simulation.proofs.Heights.{behind-known, inside-known}
use Rattle.simulation.proofs.Places.{drop-next, past-flat}

max-first : (a b c : ℕ) → max a b ≤ c → a ≤ c
max-first a b c le = omega (arith, le)

max-second : (a b c : ℕ) → max a b ≤ c → b ≤ c
max-second a b c le = omega (arith, le)

module _ (f : FrameCode) where
  -- ---- instructions without a body

  pub advanced : (entries : List Entry) (h at : ℕ) (op : PlainOp) (rest : Body) (end last : ℕ) (c : Counts) → counts_of f.signatures op ≡ Some c
      → StandsAt f entries h at (Then op rest) end last → StandsAt f entries (h - c.takes + c.gives) (suc at) rest end last
  advanced entries h at op rest end last c is s = record {
    more = s.more;
    placed = drop-next at f.operations _ _ (rw is at s.placed);
    ends = let e = s.ends in omega arith;
    lasts = rw is at s.lasts;
    room = max-second h _ f.greatest (rw is at s.room);
  }

  -- The height is within the room.
  pub within : (entries : List Entry) (h at : ℕ) (body : Body) (end last : ℕ) → StandsAt f entries h at body end last → h ≤ f.greatest
  within entries h at Empty end last s = s.room
  within entries h at (Then op rest) end last s = max-first h _ f.greatest s.room
  within entries h at (Nested kind type inner rest) end last s = max-first h _ f.greatest s.room
  within entries h at (IfElse type inner other rest) end last s = max-first h _ f.greatest s.room

  -- ---- blocks

  -- The entry of a block's label.
  abbrev entry_for : Kind → BlockType → (h at : ℕ) → (behind : ℕ) → Entry
  entry_for kind type h at behind = label_entry kind (block_counts f.signatures type) at behind (base_height kind (block_counts f.signatures type) (Some h))

  module _ (entries : List Entry) (h at : ℕ) (kind : Kind) (type : BlockType) (inner rest : Body) (end last : ℕ) (s : StandsAt f entries h at (Nested kind type inner rest) end last) where
    abbrev c : Counts
    c = block_counts f.signatures type

    abbrev after : ℕ
    after = suc at + size inner

    placed_inside : drop (suc at) f.operations
        ≡ flat f.signatures f.outermost (entry_for kind type h at after ∷ entries) (Some (h - conditions kind)) (suc at) inner ++
        (flat f.signatures f.outermost entries (behind_height kind c (Some h)) after rest ++ s.more)
    placed_inside =
        subst (λ (x : Option ℕ). drop (suc at) f.operations
        ≡ flat f.signatures f.outermost (entry_for kind type h at after ∷ entries) x (suc at) inner ++
        (flat f.signatures f.outermost entries (behind_height kind c (Some h)) after rest ++ s.more)) (inside-known kind h)
        (drop-next at f.operations _ _ s.placed ∙ append_assoc _ _ s.more)

    -- After it.
    pub block-rest : StandsAt f entries (h - conditions kind - c.takes + c.gives) after rest end last
    block-rest = record {
      more = s.more;
      placed = subst (λ (x : Option ℕ). drop after f.operations ≡ flat f.signatures f.outermost entries x after rest ++ s.more) (behind-known kind c h)
          (past-flat f.signatures f.outermost inner (entry_for kind type h at after ∷ entries) (Some (h - conditions kind)) (suc at) f.operations _ placed_inside);
      ends = let e = s.ends in omega arith;
      lasts = subst (λ (x : Option ℕ). EndsAt (last_height f.signatures x rest) last) (behind-known kind c h) s.lasts;
      room = subst (λ (x : Option ℕ). greatest f.signatures x rest ≤ f.greatest) (behind-known kind c h)
          (max-second (greatest f.signatures (inside_height kind (Some h)) inner) _ f.greatest (max-second h _ f.greatest s.room));
    }

    -- Within it.
    pub block-inside : (inner_last : ℕ) → EndsAt (last_height f.signatures (Some (h - conditions kind)) inner) inner_last
        → StandsAt f (entry_for kind type h at after ∷ entries) (h - conditions kind) (suc at) inner after inner_last
    block-inside inner_last lasts = record {
      more = flat f.signatures f.outermost entries (behind_height kind c (Some h)) after rest ++ s.more;
      placed = placed_inside;
      ends = refl;
      lasts = lasts;
      room = subst (λ (x : Option ℕ). greatest f.signatures x inner ≤ f.greatest) (inside-known kind h)
          (max-first (greatest f.signatures (inside_height kind (Some h)) inner) _ f.greatest (max-second h _ f.greatest s.room));
    }

  -- ---- ifs with a second body

  module _ (entries : List Entry) (h at : ℕ) (type : BlockType) (inner other rest : Body) (end last : ℕ) (s : StandsAt f entries h at (IfElse type inner other rest) end last) where
    abbrev d : Counts
    d = block_counts f.signatures type

    abbrev second : ℕ
    second = suc (suc at + size inner)

    abbrev past : ℕ
    past = second + size other

    -- After the first body.
    abbrev first_more : List FlatOp
    first_more = Jump (entry_of past d.gives (base_height IfKind d (Some h))) ∷
        (flat f.signatures f.outermost (entry_for IfKind type h at past ∷ entries) (Some (h - 1)) second other ++ flat f.signatures f.outermost entries (behind_height IfKind d (Some h)) past rest)

    first_placed : drop (suc at) f.operations ≡ flat f.signatures f.outermost (entry_for IfKind type h at past ∷ entries) (Some (h - 1)) (suc at) inner ++ (first_more ++ s.more)
    first_placed = drop-next at f.operations _ _ s.placed ∙ append_assoc _ first_more s.more

    jump_placed : drop (suc at + size inner) f.operations ≡ first_more ++ s.more
    jump_placed = past-flat f.signatures f.outermost inner (entry_for IfKind type h at past ∷ entries) (Some (h - 1)) (suc at) f.operations _ first_placed

    second_placed : drop second f.operations
        ≡ flat f.signatures f.outermost (entry_for IfKind type h at past ∷ entries) (Some (h - 1)) second other ++
        (flat f.signatures f.outermost entries (behind_height IfKind d (Some h)) past rest ++ s.more)
    second_placed = drop-next (suc at + size inner) f.operations _ _ jump_placed ∙ append_assoc _ _ s.more

    pub if-jumps : GoesOnAt f (suc at + size inner) past
    if-jumps = inr (omega arith, d.gives, base_height IfKind d (Some h), _, jump_placed)

    pub if-rest : StandsAt f entries (h - 1 - d.takes + d.gives) past rest end last
    if-rest = record {
      more = s.more;
      placed = past-flat f.signatures f.outermost other (entry_for IfKind type h at past ∷ entries) (Some (h - 1)) second f.operations _ second_placed;
      ends = let e = s.ends in omega arith;
      lasts = s.lasts;
      room = max-second (max (greatest f.signatures (Some (h - 1)) inner) (greatest f.signatures (Some (h - 1)) other)) _ f.greatest (max-second h _ f.greatest s.room);
    }

    room_inside : max (greatest f.signatures (Some (h - 1)) inner) (greatest f.signatures (Some (h - 1)) other) ≤ f.greatest
    room_inside = max-first _ (greatest f.signatures (behind_height IfKind d (Some h)) rest) f.greatest (max-second h _ f.greatest s.room)

    pub if-first : (inner_last : ℕ) → EndsAt (last_height f.signatures (Some (h - 1)) inner) inner_last
        → StandsAt f (entry_for IfKind type h at past ∷ entries) (h - 1) (suc at) inner (suc at + size inner) inner_last
    if-first inner_last lasts = record {
      more = first_more ++ s.more;
      placed = first_placed;
      ends = refl;
      lasts = lasts;
      room = max-first _ (greatest f.signatures (Some (h - 1)) other) f.greatest room_inside;
    }

    pub if-second : (other_last : ℕ) → EndsAt (last_height f.signatures (Some (h - 1)) other) other_last
        → StandsAt f (entry_for IfKind type h at past ∷ entries) (h - 1) second other past other_last
    if-second other_last lasts = record {
      more = flat f.signatures f.outermost entries (behind_height IfKind d (Some h)) past rest ++ s.more;
      placed = second_placed;
      ends = refl;
      lasts = lasts;
      room = max-second (greatest f.signatures (Some (h - 1)) inner) _ f.greatest room_inside;
    }

  -- ---- labels

  at-height : (entries : List Entry) (h h' at : ℕ) (body : Body) (end last : ℕ) → h ≡ h' → StandsAt f entries h at body end last → StandsAt f entries h' at body end last
  at-height entries h h' at body end last e s = subst (λ (n : ℕ). StandsAt f entries n at body end last) e s

  -- The label, its values and its body at the entry.
  pub entered : (entry : Entry) (label : Label) (labels : List Label) (entries : List Entry) (at inside_end onward until end last : ℕ) (values : List Val) (body : Body)
      → entry.kept ≡ label.arity → entry.height ≡ f.locals + (length label.values + under labels) → GoesOnAt f inside_end onward
      → StandsAt f entries until onward label.rest end last
      → StandsAt f entries (entry.height + entry.kept) entry.target (continue_with label.continuation label.rest) end last
      → LabelsStand f labels entries end last
      → StandsAt f (entry ∷ entries) (f.locals + (length values + (length label.values + under labels))) at body inside_end until
      → StandsIn f at values (label ∷ labels) body
  entered entry label labels entries at inside_end onward until end last values body kept height on leaving branching further here = record {
    entries = entry ∷ entries;
    end = inside_end;
    last = until;
    here = here;
    around = record {
      entry = entry;
      others = entries;
      onward = onward;
      end = end;
      outer_last = last;
      entries_are = refl;
      kept = kept;
      height = height;
      goes_on = on;
      leaving = leaving;
      branching = branching;
      further = further;
    };
  }

  split-length : (n : ℕ) (values : List Val) → n ≤ length values → (length (take n values) ≡ n) × (length (drop n values) ≡ length values - n)
  split-length n values le = (length-take n values ∙ omega (arith, le), length-drop n values)

  module _ (at : ℕ) (values : List Val) (labels : List Label) (type : BlockType) (t : FuncType) (is : block_type f.signatures.types type ≡ Some t) (enough : length t.params ≤ length values) where
    -- The height within the block, without the conditions.
    abbrev high : ℕ
    high = f.locals + (length values + under labels)

    counted : block_counts f.signatures type ≡ counts (length t.params) (length t.results)
    counted = rw is refl

    module _ (inner rest : Body) where
      -- A block.
      pub block-entered : (typed : EndsAt (last_height f.signatures (Some high) inner) (high - length t.params + length t.results))
          → StandsIn f at values labels (Nested BlockKind type inner rest)
          → StandsIn f (suc at) (take (length t.params) values) (label_of BlockKind type t inner values rest ∷ labels) inner
      block-entered typed s =
          let zero_off : high - 0 ≡ high = omega arith in
          let (top, low) = split-length (length t.params) values enough in
          let from : StandsAt f s.entries (high - 0 - length t.params + length t.results) (suc at + size inner) rest s.end s.last =
          rw counted at (block-rest s.entries high at BlockKind type inner rest s.end s.last s.here) in
          let inside : StandsAt f (entry_of (suc at + size inner) (length t.results) (high - length t.params) ∷ s.entries) (high - 0) (suc at) inner
          (suc at + size inner) (high - length t.params + length t.results) =
          rw counted at (block-inside s.entries high at BlockKind type inner rest s.end s.last s.here (high - length t.params + length t.results) (rw zero_off typed)) in
          entered (entry_of (suc at + size inner) (length t.results) (high - length t.params)) (label_of BlockKind type t inner values rest) labels
          s.entries (suc at) (suc at + size inner) (suc at + size inner)
          (high - length t.params + length t.results) s.end s.last (take (length t.params) values) inner refl (omega arith) (inl refl)
          (at-height s.entries _ _ _ rest s.end s.last (omega arith) from)
          (at-height s.entries _ _ _ rest s.end s.last (omega arith) from)
          s.around
          (at-height _ _ _ _ inner _ _ (omega arith) inside)

      -- A loop. A branch goes to its start.
      pub loop-entered : (typed : EndsAt (last_height f.signatures (Some high) inner) (high - length t.params + length t.results))
          → StandsIn f at values labels (Nested LoopKind type inner rest)
          → StandsIn f (suc at) (take (length t.params) values) (label_of LoopKind type t inner values rest ∷ labels) inner
      loop-entered typed s =
          let zero_off : high - 0 ≡ high = omega arith in
          let (top, low) = split-length (length t.params) values enough in
          let from : StandsAt f s.entries (high - 0 - length t.params + length t.results) (suc at + size inner) rest s.end s.last =
          rw counted at (block-rest s.entries high at LoopKind type inner rest s.end s.last s.here) in
          let inside : StandsAt f (entry_of at (length t.params) (high - length t.params) ∷ s.entries) (high - 0) (suc at) inner (suc at + size inner) (high - length t.params + length t.results) =
          rw counted at (block-inside s.entries high at LoopKind type inner rest s.end s.last s.here (high - length t.params + length t.results) (rw zero_off typed)) in
          entered (entry_of at (length t.params) (high - length t.params)) (label_of LoopKind type t inner values rest) labels s.entries (suc at) (suc at + size inner) (suc at + size inner)
          (high - length t.params + length t.results) s.end s.last (take (length t.params) values) inner refl (omega arith) (inl refl)
          (at-height s.entries _ _ _ rest s.end s.last (omega arith) from)
          (at-height s.entries _ _ _ _ s.end s.last (omega arith) s.here)
          s.around
          (at-height _ _ _ _ inner _ _ (omega arith) inside)

      module _ (v : Val) where
        -- The first body of an if without a second one.
        pub if-entered : (typed : EndsAt (last_height f.signatures (Some high) inner) (high - length t.params + length t.results))
            → StandsIn f at (v ∷ values) labels (Nested IfKind type inner rest)
            → StandsIn f (suc at) (take (length t.params) values) (label_of IfKind type t inner values rest ∷ labels) inner
        if-entered typed s =
            let one_off : f.locals + (suc (length values) + under labels) - 1 ≡ high = omega arith in
            let (top, low) = split-length (length t.params) values enough in
            let from : StandsAt f s.entries (f.locals + (suc (length values) + under labels) - 1 - length t.params + length t.results) (suc at + size inner) rest s.end s.last =
            rw counted at (block-rest s.entries (f.locals + (suc (length values) + under labels)) at IfKind type inner rest s.end s.last s.here) in
            let inside : StandsAt f (entry_of (suc at + size inner) (length t.results)
            (f.locals + (suc (length values) + under labels) - 1 - length t.params) ∷ s.entries)
            (f.locals + (suc (length values) + under labels) - 1) (suc at) inner (suc at + size inner) (high - length t.params + length t.results) =
            rw counted at (block-inside s.entries (f.locals + (suc (length values) + under labels)) at IfKind type inner rest s.end s.last s.here
            (high - length t.params + length t.results) (rw one_off typed)) in
            entered (entry_of (suc at + size inner) (length t.results) (f.locals + (suc (length values) + under labels) - 1 - length t.params))
            (label_of IfKind type t inner values rest) labels s.entries (suc at) (suc at + size inner) (suc at + size inner)
            (high - length t.params + length t.results) s.end s.last (take (length t.params) values) inner refl (omega arith) (inl refl)
            (at-height s.entries _ _ _ rest s.end s.last (omega arith) from)
            (at-height s.entries _ _ _ rest s.end s.last (omega arith) from)
            s.around
            (at-height _ _ _ _ inner _ _ (omega arith) inside)

        -- Past it: the empty second body follows the first.
        pub if-passed : (same : length t.params ≡ length t.results)
            → StandsIn f at (v ∷ values) labels (Nested IfKind type inner rest)
            → StandsIn f (suc at + size inner) (take (length t.params) values) (label_of IfKind type t Empty values rest ∷ labels) Empty
        if-passed same s =
            let (top, low) = split-length (length t.params) values enough in
            let from : StandsAt f s.entries (f.locals + (suc (length values) + under labels) - 1 - length t.params + length t.results) (suc at + size inner) rest s.end s.last =
            rw counted at (block-rest s.entries (f.locals + (suc (length values) + under labels)) at IfKind type inner rest s.end s.last s.here) in
            let room = within s.entries (f.locals + (suc (length values) + under labels)) at _ s.end s.last s.here in
            entered (entry_of (suc at + size inner) (length t.results) (f.locals + (suc (length values) + under labels) - 1 - length t.params))
            (label_of IfKind type t Empty values rest) labels s.entries (suc at + size inner) (suc at + size inner) (suc at + size inner)
            (high - length t.params + length t.results) s.end s.last (take (length t.params) values) Empty refl (omega arith) (inl refl)
            (at-height s.entries _ _ _ rest s.end s.last (omega arith) from)
            (at-height s.entries _ _ _ rest s.end s.last (omega arith) from)
            s.around
            (record { more = _; placed = from.placed; ends = omega arith; lasts = omega arith; room = omega arith })

        module _ (other : Body) (s : StandsIn f at (v ∷ values) labels (IfElse type inner other rest)) where
          abbrev base' : ℕ
          base' = f.locals + (suc (length values) + under labels) - 1 - length t.params

          abbrev past' : ℕ
          past' = suc (suc at + size inner) + size other

          from' : StandsAt f s.entries (base' + length t.results) past' rest s.end s.last
          from' = rw counted at (if-rest s.entries (f.locals + (suc (length values) + under labels)) at type inner other rest s.end s.last s.here)

          -- The first body of an if with a second one, followed by a jump.
          pub first-entered : (typed : EndsAt (last_height f.signatures (Some high) inner) (high - length t.params + length t.results))
              → StandsIn f (suc at) (take (length t.params) values) (label_of IfKind type t inner values rest ∷ labels) inner
          first-entered typed =
              let one_off : f.locals + (suc (length values) + under labels) - 1 ≡ high = omega arith in
              let (top, low) = split-length (length t.params) values enough in
              let inside : StandsAt f (entry_of past' (length t.results) base' ∷ s.entries) (f.locals + (suc (length values) + under labels) - 1)
              (suc at) inner (suc at + size inner) (high - length t.params + length t.results) =
              rw counted at (if-first s.entries (f.locals + (suc (length values) + under labels)) at type inner other rest s.end s.last s.here
              (high - length t.params + length t.results) (rw one_off typed)) in
              entered (entry_of past' (length t.results) base') (label_of IfKind type t inner values rest) labels s.entries (suc at) (suc at + size inner) past'
              (high - length t.params + length t.results) s.end s.last (take (length t.params) values) inner refl (omega arith)
              (if-jumps s.entries (f.locals + (suc (length values) + under labels)) at type inner other rest s.end s.last s.here)
              (at-height s.entries _ _ _ rest s.end s.last (omega arith) from')
              (at-height s.entries _ _ _ rest s.end s.last (omega arith) from')
              s.around
              (at-height _ _ _ _ inner _ _ (omega arith) inside)

          pub second-entered : (typed : EndsAt (last_height f.signatures (Some high) other) (high - length t.params + length t.results))
              → StandsIn f (suc (suc at + size inner)) (take (length t.params) values) (label_of IfKind type t other values rest ∷ labels) other
          second-entered typed =
              let one_off : f.locals + (suc (length values) + under labels) - 1 ≡ high = omega arith in
              let (top, low) = split-length (length t.params) values enough in
              let inside : StandsAt f (entry_of past' (length t.results) base' ∷ s.entries) (f.locals + (suc (length values) + under labels) - 1)
              (suc (suc at + size inner)) other past' (high - length t.params + length t.results) =
              rw counted at (if-second s.entries (f.locals + (suc (length values) + under labels)) at type inner other rest s.end s.last s.here
              (high - length t.params + length t.results) (rw one_off typed)) in
              entered (entry_of past' (length t.results) base') (label_of IfKind type t other values rest) labels s.entries (suc (suc at + size inner)) past' past'
              (high - length t.params + length t.results) s.end s.last (take (length t.params) values) other refl (omega arith) (inl refl)
              (at-height s.entries _ _ _ rest s.end s.last (omega arith) from')
              (at-height s.entries _ _ _ rest s.end s.last (omega arith) from')
              s.around
              (at-height _ _ _ _ other _ _ (omega arith) inside)

  -- ---- labels that are left, and branches to them

  -- The inside of a label is over.
  pub left : (at : ℕ) (values : List Val) (label : Label) (labels : List Label) → StandsIn f at values (label ∷ labels) Empty
      → (onward : ℕ) × GoesOnAt f at onward × StandsIn f onward (values ++ label.values) labels label.rest
  left at values label labels s =
      let same : s.end ≡ at = let e = s.here.ends in omega arith in
      let here : StandsAt f s.around.others s.last s.around.onward label.rest s.around.end s.around.outer_last = s.around.leaving in
      let reached = s.here.lasts in (
        s.around.onward,
        rw same at s.around.goes_on,
        record {
          entries = s.around.others;
          end = s.around.end;
          last = s.around.outer_last;
          here = at-height _ _ _ _ label.rest _ _ (omega (arith, length-append values label.values, reached)) here;
          around = s.around.further;
        },
      )

  -- A label that is that many labels outward.
  pub record Reaches (l : ℕ) (labels : List Label) (entries : List Entry) : Type 0 where
    pub inner : List Label
    pub label : Label
    pub outer : List Label
    pub entry : Entry
    pub others : List Entry
    pub end : ℕ
    pub last : ℕ
    pub labels_are : labels ≡ inner ++ (label ∷ outer)
    pub count : length inner ≡ l
    pub entry_is : slice_get entries l ≡ Some entry
    pub kept : entry.kept ≡ label.arity
    pub height : entry.height ≡ f.locals + (length label.values + under outer)
    pub branching : StandsAt f others (entry.height + entry.kept) entry.target (continue_with label.continuation label.rest) end last
    pub around : LabelsStand f outer others end last

  pub reaches : (l : ℕ) (labels : List Label) (entries : List Entry) (at last : ℕ) → LabelsStand f labels entries at last → suc l ≤ length labels → Reaches l labels entries
  reaches l [] entries at last stand le = absurd (omega (arith, le))
  reaches zero (label ∷ labels) entries at last stand le = record {
    inner = [];
    label = label;
    outer = labels;
    entry = stand.entry;
    others = stand.others;
    end = stand.end;
    last = stand.outer_last;
    labels_are = refl;
    count = refl;
    entry_is = rw stand.entries_are refl;
    kept = stand.kept;
    height = stand.height;
    branching = stand.branching;
    around = stand.further;
  }
  reaches (suc l) (label ∷ labels) entries at last stand le =
      let further : Reaches l labels stand.others = reaches l labels stand.others stand.end stand.outer_last stand.further (omega (arith, le)) in record {
        inner = label ∷ further.inner;
        label = further.label;
        outer = further.outer;
        entry = further.entry;
        others = further.others;
        end = further.end;
        last = further.last;
        labels_are = ap (λ (z : List Label). label ∷ z) further.labels_are;
        count = ap suc further.count;
        entry_is = rw stand.entries_are further.entry_is;
        kept = further.kept;
        height = further.height;
        branching = further.branching;
        around = further.around;
      }

  -- A branch to the label lands.
  pub landed : (l : ℕ) (labels : List Label) (entries : List Entry) (to : Reaches l labels entries) (values : List Val) → to.entry.kept ≤ length values
      → StandsIn f to.entry.target (take to.label.arity values ++ to.label.values) to.outer (continue_with to.label.continuation to.label.rest)
  landed l labels entries to values le =
      let height = to.height in
      let kept = to.kept in
      let taken : length (take to.label.arity values) ≡ to.label.arity = length-take to.label.arity values ∙ omega (arith, le, kept) in record {
        entries = to.others;
        end = to.end;
        last = to.last;
        here = at-height _ _ _ _ _ _ _ (omega (arith, length-append (take to.label.arity values) to.label.values, taken, height, kept)) to.branching;
        around = to.around;
      }
