-- Blocks, ifs, jumps and branches, on values and on their cells.
use Rattle.std.proofs.Common.{◌≡◌, ◌⊎◌, ℕ, suc, ◌+◌, ◌-◌, ◌<◌, ◌≤◌, List, ◌∷◌, ◌++◌, length, map, take, drop, refl, ap, sym, ◌∙◌, arith, append_assoc, length-append, take-append-drop, inl, inr}
use Rattle.std.proofs.lemmas.List.{append-nil, length-drop, length-map, length-reverse, length-take-le}
use Rattle.std.specs.Prelude.{Option, Some}
use Rattle.core_types.specs.declared.op.BlockType.{BlockType}
use Rattle.core_types.specs.declared.outcome.Val.{Val}
use Rattle.core_types.specs.declared.types.FuncType.{FuncType}
use Rattle.core_types.specs.declared.types.ValType.{ValType}
use Rattle.meaning.specs.structure.Bodies.{Body, Kind, BlockKind, LoopKind, IfKind, Nested}
use Rattle.meaning.specs.execution.Configurations.{Configuration, Frame, InLabel, Label, Running}
use Rattle.meaning.specs.execution.Instructions.{Goes, NotReady, enter_label, label_of, next}
use Rattle.meaning.specs.execution.Store.{Store}
use Rattle.meaning.specs.validation.Context.{Context}
use Rattle.meaning.specs.validation.Instructions.{HasType, known}
use Rattle.meaning.specs.validation.Types.{block_type}
use Rattle.meaning.proofs.lemmas.Layers.{if-at-most}
use Rattle.soundness.proofs.Operands.{operands-on-top}
use Rattle.soundness.proofs.Values.{values-length}
use Rattle.sidetable.specs.Counts.{Signatures}
use Rattle.sidetable.specs.Flat.{Enter, size}
use Rattle.cells.specs.Cells.{cell_of}
use Rattle.simulation.specs.Piles.{cells_of}
use Rattle.simulation.specs.Operations.{IsCharged}
use Rattle.simulation.specs.Runs.{Ghost, IsBefore, Lacks, FrameReaches, Runs, config_of, frame_of}
use Rattle.simulation.specs.Settling.{LeavesTo, in_frame}
use Rattle.simulation.specs.Standing.{EndsAt, StandsIn, last_height, under, values_under}
use Rattle.simulation.proofs.Heights.{last-typed}
use Rattle.simulation.proofs.Plain.{at-body}
use Rattle.simulation.proofs.Settling.{begins, labels-go}
use Rattle.simulation.proofs.Steps.{block-entered, loop-entered}
use Rattle.simulation.proofs.Typed.{Inner, Settled, inner, leads-then, leaves-steps, on, settled, typed-then}

-- ---- a step that leaves the locals

module _ (g : Ghost) (cells : List ℕ) (at top : ℕ) (values : List Val) (labels : List Label) (rest : Body) (r : Runs (on g g.locals values labels rest) cells at top)
    (leaves : LeavesTo g.store (frame_of g) (config_of g) (in_frame values labels rest)) where
  pub moved : (cost : ℕ) (values' : List Val) (labels' : List Label) (rest' : Body) → next g.store (frame_of g) (in_frame values labels rest)
      ≡ Goes cost g.store (frame_of g) (in_frame values' labels' rest')
      → (cells' : List ℕ) (at' top' fuel left : ℕ) → StandsIn g.code at' values' labels' rest' → length cells' ≡ length cells → take top' cells'
      ≡ map cell_of g.locals ++ cells_of (values' ++ values_under labels')
      → top' ≡ length g.locals + (length values' + under labels') → cost ≤ fuel → left ≡ fuel - cost → FrameReaches g fuel g.store cells' at' top' left
  moved cost values' labels' rest' goes cells' at' top' fuel left stands size held top_is enough left_is =
      leads-then g g.store g.locals values' labels' rest' (in_frame values labels rest) (in_frame values' labels' rest') cost fuel left cells' at' top' leaves (inl goes) refl enough left_is
      (record {
        stands = stands;
        holds = record { held = held; top_is = top_is; count = r.holds.count; room = omega (arith, r.holds.room, size) };
        typed = typed-then (on g g.locals values labels rest) r.typed cost g.store g.locals values' labels' rest' refl (inl goes);
      })

  -- Without fuel for the step.
  pub dear : (cost : ℕ) (c : Configuration) (frame : Frame) → next g.store (frame_of g) (in_frame values labels rest) ≡ Goes cost g.store frame c
      → (fuel : ℕ) → fuel < cost → Lacks g fuel cells at top fuel
  dear cost c frame goes fuel few = record {
    leads = record {
      new = on g g.locals values labels rest;
      same = record { code = refl; instance = refl; types = refl; results = refl };
      store = refl;
      steps = leaves-steps g.store (frame_of g) (config_of g) (in_frame values labels rest) fuel leaves;
      runs = r;
    };
    dear = rw goes few;
  }

-- ---- blocks

-- The height at the end of a body of a block.
pub block-lasts : (context : Context) (s : Signatures) → context.types ≡ s.types → context.functions ≡ s.functions → (t : FuncType) (body : Body)
    → HasType context body (known t.params) (known t.results)
    → (h : ℕ) → length t.params ≤ h → EndsAt (last_height s (Some h) body) (h - length t.params + length t.results)
block-lasts context s types functions t body typed h le =
    let params : length (known t.params) ≡ length t.params = simp length-map in
    let results : length (known t.results) ≡ length t.results = simp length-map in
    rw results at (last-typed context s types functions (h - length t.params) body (known t.params) (known t.results) typed h (omega arith))

-- The cells of a label's values and of those under it.
same-pile : (n : ℕ) (values : List Val) (lower : List Val) → take n values ++ (drop n values ++ lower) ≡ values ++ lower
same-pile n values lower = sym (append_assoc (take n values) (drop n values) lower) ∙ ap (λ (vs : List Val). vs ++ lower) (take-append-drop n values)

enter-goes : (store : Store) (frame : Frame) (kind : Kind) (type : BlockType) (t : FuncType) (inside rest : Body) (values : List Val) → length t.params ≤ length values
    → enter_label store frame kind type (Some t) inside values rest ≡ Goes 1 store frame (InLabel (label_of kind type t inside values rest) (Running (take (length t.params) values) inside))
enter-goes store frame kind type t inside rest values le = if-at-most (length t.params) (length values) _ NotReady le

module _ (g : Ghost) (cells : List ℕ) (at top : ℕ) where
  -- Within a new label, which takes its parameters.
  pub label-entered : (values₀ : List Val) (rest₀ : Body) (labels : List Label) (r : Runs (on g g.locals values₀ labels rest₀) cells at top)
      (leaves : LeavesTo g.store (frame_of g) (config_of g) (in_frame values₀ labels rest₀))
      → (kind : Kind) (type : BlockType) (t : FuncType) (inside rest : Body) (values : List Val) → length t.params ≤ length values
      → next g.store (frame_of g) (Running values₀ rest₀) ≡ enter_label g.store (frame_of g) kind type (Some t) inside values rest
      → (at' top' fuel left : ℕ) → StandsIn g.code at' (take (length t.params) values) (label_of kind type t inside values rest ∷ labels) inside
      → take top' cells ≡ map cell_of g.locals ++ cells_of (values ++ values_under labels) → top' ≡ length g.locals + (length values + under labels)
      → 1 ≤ fuel → left ≡ fuel - 1 → FrameReaches g fuel g.store cells at' top' left
  label-entered values₀ rest₀ labels r leaves kind type t inside rest values le is at' top' fuel left stands held top_is enough left_is =
      let goes = labels-go g.store (frame_of g) labels 1 g.store (frame_of g) (Running values₀ rest₀) _ (is ∙ enter-goes g.store (frame_of g) kind type t inside rest values le) in
      let first = length-take-le (length t.params) values le in
      let second = length-drop (length t.params) values in
      moved g cells at top values₀ labels rest₀ r leaves 1 (take (length t.params) values) (label_of kind type t inside values rest ∷ labels) inside goes cells at' top' fuel left stands refl
      (held ∙ ap (λ (vs : List Val). map cell_of g.locals ++ cells_of vs) (sym (same-pile (length t.params) values (values_under labels))))
      (omega arith) enough left_is

  pub label-dear : (values₀ : List Val) (rest₀ : Body) (labels : List Label) (r : Runs (on g g.locals values₀ labels rest₀) cells at top)
      (leaves : LeavesTo g.store (frame_of g) (config_of g) (in_frame values₀ labels rest₀))
      → (kind : Kind) (type : BlockType) (t : FuncType) (inside rest : Body) (values : List Val) → length t.params ≤ length values
      → next g.store (frame_of g) (Running values₀ rest₀) ≡ enter_label g.store (frame_of g) kind type (Some t) inside values rest
      → (fuel : ℕ) → fuel < 1 → Lacks g fuel cells at top fuel
  label-dear values₀ rest₀ labels r leaves kind type t inside rest values le is fuel few =
      dear g cells at top values₀ labels rest₀ r leaves 1 _ _
      (labels-go g.store (frame_of g) labels 1 g.store (frame_of g) (Running values₀ rest₀) _
      (is ∙ enter-goes g.store (frame_of g) kind type t inside rest values le)) fuel few

  -- The step of an operation that costs 1.
  abbrev pub Charged : (at' top' : ℕ) → Type 0
  Charged = IsCharged g cells at top

  pub enters : IsBefore Enter g cells at top → Charged (suc at) top
  enters b =
      let s : Settled g cells at top = settled g cells at top b.runs in
      by s (begins g.code at Enter b.more b.there s.values s.labels s.rest s.runs.stands s.settled)
    where
      by-kind : (s : Settled g cells at top) (kind : Kind) (type : BlockType) (inner_body rest : Body) → s.rest ≡ Nested kind type inner_body rest
          → (kind ≡ BlockKind) ⊎ (kind ≡ LoopKind) → Charged (suc at) top
      by-kind s BlockKind type inside rest is which =
          let (r, leaves) = at-body g cells at top s (Nested BlockKind type inside rest) is in
          let f : Inner (on g g.locals s.values s.labels (Nested BlockKind type inside rest)) = inner _ r.typed in
          let (t, between, found, typed, fits, frames, runs) = f.runs in
          let (below, stack_is, between_is) = operands-on-top f.stack t _ _ between (ap (λ (z : List ValType). known z) (append-nil t.params), refl) frames in
          let many = values-length g.store s.values f.stack f.values in
          let parts : length f.stack ≡ length t.params + length below = ap length stack_is ∙ simp (length-append, length-reverse) in
          let enough : length t.params ≤ length s.values = omega arith in
          let flat_type : block_type g.code.signatures.types type ≡ Some t = rw (r.typed.types) at found in
          let lasts = block-lasts _ g.code.signatures r.typed.types r.typed.functions t inside typed (g.code.locals + (length s.values + under s.labels)) (omega arith) in
          let stands = block-entered g.code at s.values s.labels type t flat_type enough inside rest lasts r.stands in
          let is_next = ap (λ (o : Option FuncType). enter_label g.store (frame_of g) BlockKind type o inside s.values rest) found in (
            λ fuel left enough_fuel left_is.
                label-entered s.values (Nested BlockKind type inside rest) s.labels r leaves BlockKind type t inside rest s.values enough is_next
                (suc at) top fuel left stands r.holds.held r.holds.top_is enough_fuel left_is,
            λ fuel few. label-dear s.values (Nested BlockKind type inside rest) s.labels r leaves BlockKind type t inside rest s.values enough is_next fuel few,
          )
      by-kind s LoopKind type inside rest is which =
          let (r, leaves) = at-body g cells at top s (Nested LoopKind type inside rest) is in
          let f : Inner (on g g.locals s.values s.labels (Nested LoopKind type inside rest)) = inner _ r.typed in
          let (t, between, found, typed, fits, frames, runs) = f.runs in
          let (below, stack_is, between_is) = operands-on-top f.stack t _ _ between (ap (λ (z : List ValType). known z) (append-nil t.params), refl) frames in
          let many = values-length g.store s.values f.stack f.values in
          let parts : length f.stack ≡ length t.params + length below = ap length stack_is ∙ simp (length-append, length-reverse) in
          let enough : length t.params ≤ length s.values = omega arith in
          let flat_type : block_type g.code.signatures.types type ≡ Some t = rw (r.typed.types) at found in
          let lasts = block-lasts _ g.code.signatures r.typed.types r.typed.functions t inside typed (g.code.locals + (length s.values + under s.labels)) (omega arith) in
          let stands = loop-entered g.code at s.values s.labels type t flat_type enough inside rest lasts r.stands in
          let is_next = ap (λ (o : Option FuncType). enter_label g.store (frame_of g) LoopKind type o inside s.values rest) found in (
            λ fuel left enough_fuel left_is.
                label-entered s.values (Nested LoopKind type inside rest) s.labels r leaves LoopKind type t inside rest s.values enough is_next
                (suc at) top fuel left stands r.holds.held r.holds.top_is enough_fuel left_is,
            λ fuel few. label-dear s.values (Nested LoopKind type inside rest) s.labels r leaves LoopKind type t inside rest s.values enough is_next fuel few,
          )
      by-kind s IfKind type inside rest is (inl e) = absurd cc
      by-kind s IfKind type inside rest is (inr e) = absurd cc

      by : (s : Settled g cells at top) → (type : BlockType) × (inside rest : Body)
          × ((s.rest ≡ Nested BlockKind type inside rest) ⊎ (s.rest ≡ Nested LoopKind type inside rest)) → Charged (suc at) top
      by s (type, inside, rest, inl is) = by-kind s BlockKind type inside rest is (inl refl)
      by s (type, inside, rest, inr is) = by-kind s LoopKind type inside rest is (inr refl)
