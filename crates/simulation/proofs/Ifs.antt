-- Ifs and jumps, on values and on their cells.
use Rattle.std.proofs.Common.{◌≡◌, ◌⊎◌, ℕ, zero, suc, ◌+◌, ◌-◌, ◌^◌, ◌<◌, ◌≤◌, List, [], ◌∷◌, ◌++◌, length, map, reverse, take, get_or, refl, ap, sym, subst}
use Rattle.std.proofs.Common.{◌∙◌, arith, append_assoc, length-append, inl, inr}
use Rattle.std.proofs.lemmas.List.{length-reverse, reverse-append}
use Rattle.std.specs.Prelude.{Option, Some}
use Rattle.core_types.specs.declared.op.BlockType.{BlockType}
use Rattle.core_types.specs.declared.outcome.Val.{Val}
use Rattle.core_types.specs.declared.outcome.Val.TheVariants.{I32}
use Rattle.core_types.specs.declared.types.FuncType.{FuncType}
use Rattle.core_types.specs.declared.types.ValType.{ValType}
use Rattle.core_types.specs.declared.types.ValType.TheVariants as ty
use Rattle.meaning.specs.structure.Bodies.{Body, IfKind, Empty, Nested, IfElse}
use Rattle.meaning.specs.execution.Configurations.{InLabel, Label, Running}
use Rattle.meaning.specs.execution.Instructions.{choose_body, enter_label, label_of, next}
use Rattle.meaning.specs.execution.Store.{instance_of}
use Rattle.meaning.specs.soundness.Values.{ValuesHaveTypes}
use Rattle.meaning.specs.validation.Types.{block_type, function_type}
use Rattle.soundness.proofs.Operands.{i32-on-top, operands-on-top}
use Rattle.soundness.proofs.Values.{values-length}
use Rattle.sidetable.specs.Flat.{Jump, If, size}
use Rattle.sidetable.specs.declared.operations.Entry.{Entry}
use Rattle.cells.specs.Cells.{cell_of}
use Rattle.simulation.specs.Piles.{cells_of}
use Rattle.simulation.specs.Operations.{IsCharged, IsChosen}
use Rattle.simulation.specs.Runs.{Ghost, IsBefore, FrameReaches, Runs, config_of, frame_of}
use Rattle.simulation.specs.Settling.{LeavesTo, in_frame}
use Rattle.simulation.specs.Standing.{StandsIn, under, values_under}
use Rattle.simulation.proofs.Cells.{pile-pop, pile-top}
use Rattle.simulation.proofs.Control.{block-lasts, label-dear, label-entered, moved}
use Rattle.simulation.proofs.Plain.{at-body, base-length, top-within}
use Rattle.simulation.proofs.Settling.{begins, jumps, labels-go}
use Rattle.simulation.proofs.Steps.{first-entered, if-entered, if-passed, second-entered}
use Rattle.simulation.proofs.Typed.{Inner, Settled, all-length, inner, on, settled}

pub positive : (n : ℕ) → (n ≡ 0 → ⊥) → (m : ℕ) × (n ≡ suc m)
positive zero never = absurd (never refl)
positive (suc m) never = (m, refl)

module _ (g : Ghost) (cells : List ℕ) (at top : ℕ) where
  -- What the cell of a condition determines.
  pub record Conditioned (values₀ : List Val) (labels : List Label) : Type 0 where
    pub n : ℕ
    pub values : List Val
    pub values_are : values₀ ≡ I32 n ∷ values
    pub fits : n < 2 ^ 32
    pub some : 1 ≤ top
    pub read : get_or cells (top - 1) 0 ≡ n
    pub held : take (top - 1) cells ≡ map cell_of g.locals ++ cells_of (values ++ values_under labels)
    pub top_is : top - 1 ≡ length g.locals + (length values + under labels)

  pub conditioned : (values₀ : List Val) (labels : List Label) (rest₀ : Body) (r : Runs (on g g.locals values₀ labels rest₀) cells at top)
      (below : List ValType) → ValuesHaveTypes g.store values₀ (ty.I32 ∷ below) → Conditioned values₀ labels
  conditioned values₀ labels rest₀ r below typed =
      let (n, values, is, fits, left) = i32-on-top g.store values₀ below typed in
      let held : take top cells ≡ map cell_of g.locals ++ cells_of (I32 n ∷ (values ++ values_under labels)) = rw is at r.holds.held in
      let lengths : length values₀ ≡ suc (length values) = ap length is in
      let top_is = r.holds.top_is in
      let le = top-within _ cells at top r in
      let base = base-length _ cells at top r in
      let all = all-length values labels in record {
        n = n;
        values = values;
        values_are = is;
        fits = fits;
        some = omega arith;
        read = pile-top cells (map cell_of g.locals) top (I32 n) (values ++ values_under labels) held (omega arith) le;
        held = pile-pop cells (map cell_of g.locals) top (I32 n) (values ++ values_under labels) held (omega arith) le;
        top_is = omega arith;
      }

  -- The cell exists, and what zero and another number lead to.
  abbrev pub Chooses : (e : Entry) → Type 0
  Chooses e = IsChosen cells top (IsCharged g cells at top e.target (top - 1)) (IsCharged g cells at top (suc at) (top - 1))

  pub chooses : (e : Entry) → IsBefore (If e) g cells at top → Chooses e
  chooses e b =
      let s : Settled g cells at top = settled g cells at top b.runs in
      by s (begins g.code at (If e) b.more b.there s.values s.labels s.rest s.runs.stands s.settled)
    where
      -- with one body or two
      without : (s : Settled g cells at top) (type : BlockType) (inside rest : Body) → s.rest ≡ Nested IfKind type inside rest → e.target ≡ suc at + size inside → Chooses e
      without s type inside rest is target =
          let (r, leaves) = at-body g cells at top s (Nested IfKind type inside rest) is in
          let f : Inner (on g g.locals s.values s.labels (Nested IfKind type inside rest)) = inner _ r.typed in
          let (t, between, found, typed, fits, frames, runs) = f.runs in
          let (below, stack_is, between_is) = operands-on-top f.stack (function_type (t.params ++ ty.I32 ∷ []) t.results) _ _ between (refl, refl) frames in
          let stack_now : f.stack ≡ ty.I32 ∷ (reverse t.params ++ below) = stack_is ∙ ap (λ (ts : List ValType). ts ++ below) (reverse-append t.params (ty.I32 ∷ [])) in
          let c : Conditioned s.values s.labels = conditioned s.values s.labels _ r (reverse t.params ++ below) (rw stack_now at f.values) in
          let many = values-length g.store s.values f.stack f.values in
          let lengths : length s.values ≡ suc (length c.values) = ap length c.values_are in
          let parts : length f.stack ≡ suc (length t.params + length below) = ap length stack_now ∙ simp (length-append, length-reverse) in
          let enough : length t.params ≤ length c.values = omega arith in
          let flat_type : block_type g.code.signatures.types type ≡ Some t = rw (r.typed.types) at found in
          let lasts = block-lasts _ g.code.signatures r.typed.types r.typed.functions t inside typed (g.code.locals + (length c.values + under s.labels)) (omega arith) in
          let stands₀ : StandsIn g.code at (I32 c.n ∷ c.values) s.labels (Nested IfKind type inside rest) = subst
          (λ (vs : List Val). StandsIn g.code at vs s.labels (Nested IfKind type inside rest)) c.values_are r.stands in
          let chosen : (n : ℕ) → n ≡ c.n → next g.store (frame_of g) (Running s.values (Nested IfKind type inside rest)) ≡ choose_body g.store (frame_of g) type inside Empty (I32 n ∷ c.values) rest =
          λ n same. ap (λ (vs : List Val). choose_body g.store (frame_of g) type inside Empty vs rest) (c.values_are ∙ ap (λ (m : ℕ). I32 m ∷ c.values) (sym same)) in
          let typed_block : (body : Body)
          → enter_label g.store (frame_of g) IfKind type (block_type (instance_of g.store (Some g.instance)).types type) body c.values rest
          ≡ enter_label g.store (frame_of g) IfKind type (Some t) body c.values rest =
          λ body. ap (λ (o : Option FuncType). enter_label g.store (frame_of g) IfKind type o body c.values rest) found in (
            c.some,
            top-within _ cells at top r,
            λ is_zero.
                let is_next = chosen 0 (sym is_zero ∙ c.read) ∙ typed_block Empty in
                let stands = subst (λ (p : ℕ). StandsIn g.code p (take (length t.params) c.values) (label_of IfKind type t Empty c.values rest ∷ s.labels) Empty) (sym target)
                (if-passed g.code at c.values s.labels type t flat_type enough inside rest (I32 c.n) (ap length fits) stands₀) in (
                  λ fuel left enough_fuel left_is.
                      label-entered g cells at top s.values _ s.labels r leaves IfKind type t Empty rest c.values enough is_next e.target (top - 1)
                      fuel left stands c.held c.top_is enough_fuel left_is,
                  λ fuel few. label-dear g cells at top s.values _ s.labels r leaves IfKind type t Empty rest c.values enough is_next fuel few,
                ),
            λ not_zero.
                let (m, more) = positive c.n (λ z. not_zero (c.read ∙ z)) in
                let is_next = chosen (suc m) (sym more) ∙ typed_block inside in
                let stands = if-entered g.code at c.values s.labels type t flat_type enough inside rest (I32 c.n) lasts stands₀ in (
                  λ fuel left enough_fuel left_is.
                      label-entered g cells at top s.values _ s.labels r leaves IfKind type t inside rest c.values enough is_next (suc at) (top - 1)
                      fuel left stands c.held c.top_is enough_fuel left_is,
                  λ fuel few. label-dear g cells at top s.values _ s.labels r leaves IfKind type t inside rest c.values enough is_next fuel few,
                ),
          )

      both : (s : Settled g cells at top) (type : BlockType) (inside other rest : Body) → s.rest ≡ IfElse type inside other rest → e.target ≡ suc (suc at + size inside) → Chooses e
      both s type inside other rest is target =
          let (r, leaves) = at-body g cells at top s (IfElse type inside other rest) is in
          let f : Inner (on g g.locals s.values s.labels (IfElse type inside other rest)) = inner _ r.typed in
          let (t, between, found, typed, other_typed, frames, runs) = f.runs in
          let (below, stack_is, between_is) = operands-on-top f.stack (function_type (t.params ++ ty.I32 ∷ []) t.results) _ _ between (refl, refl) frames in
          let stack_now : f.stack ≡ ty.I32 ∷ (reverse t.params ++ below) = stack_is ∙ ap (λ (ts : List ValType). ts ++ below) (reverse-append t.params (ty.I32 ∷ [])) in
          let c : Conditioned s.values s.labels = conditioned s.values s.labels _ r (reverse t.params ++ below) (rw stack_now at f.values) in
          let many = values-length g.store s.values f.stack f.values in
          let lengths : length s.values ≡ suc (length c.values) = ap length c.values_are in
          let parts : length f.stack ≡ suc (length t.params + length below) = ap length stack_now ∙ simp (length-append, length-reverse) in
          let enough : length t.params ≤ length c.values = omega arith in
          let flat_type : block_type g.code.signatures.types type ≡ Some t = rw (r.typed.types) at found in
          let lasts = block-lasts _ g.code.signatures r.typed.types r.typed.functions t inside typed (g.code.locals + (length c.values + under s.labels)) (omega arith) in
          let other_lasts = block-lasts _ g.code.signatures r.typed.types r.typed.functions t other other_typed (g.code.locals + (length c.values + under s.labels)) (omega arith) in
          let stands₀ : StandsIn g.code at (I32 c.n ∷ c.values) s.labels (IfElse type inside other rest) = subst
          (λ (vs : List Val). StandsIn g.code at vs s.labels (IfElse type inside other rest)) c.values_are r.stands in
          let chosen : (n : ℕ) → n ≡ c.n → next g.store (frame_of g) (Running s.values (IfElse type inside other rest)) ≡ choose_body g.store (frame_of g) type inside other (I32 n ∷ c.values) rest =
          λ n same. ap (λ (vs : List Val). choose_body g.store (frame_of g) type inside other vs rest) (c.values_are ∙ ap (λ (m : ℕ). I32 m ∷ c.values) (sym same)) in
          let typed_block : (body : Body)
          → enter_label g.store (frame_of g) IfKind type (block_type (instance_of g.store (Some g.instance)).types type) body c.values rest
          ≡ enter_label g.store (frame_of g) IfKind type (Some t) body c.values rest =
          λ body. ap (λ (o : Option FuncType). enter_label g.store (frame_of g) IfKind type o body c.values rest) found in (
            c.some,
            top-within _ cells at top r,
            λ is_zero.
                let is_next = chosen 0 (sym is_zero ∙ c.read) ∙ typed_block other in
                let stands = subst (λ (p : ℕ). StandsIn g.code p (take (length t.params) c.values) (label_of IfKind type t other c.values rest ∷ s.labels) other) (sym target)
                (second-entered g.code at c.values s.labels type t flat_type enough inside rest (I32 c.n) other stands₀ other_lasts) in (
                  λ fuel left enough_fuel left_is.
                      label-entered g cells at top s.values _ s.labels r leaves IfKind type t other rest c.values enough is_next e.target (top - 1)
                      fuel left stands c.held c.top_is enough_fuel left_is,
                  λ fuel few. label-dear g cells at top s.values _ s.labels r leaves IfKind type t other rest c.values enough is_next fuel few,
                ),
            λ not_zero.
                let (m, more) = positive c.n (λ z. not_zero (c.read ∙ z)) in
                let is_next = chosen (suc m) (sym more) ∙ typed_block inside in
                let stands = first-entered g.code at c.values s.labels type t flat_type enough inside rest (I32 c.n) other stands₀ lasts in (
                  λ fuel left enough_fuel left_is.
                      label-entered g cells at top s.values _ s.labels r leaves IfKind type t inside rest c.values enough is_next (suc at) (top - 1)
                      fuel left stands c.held c.top_is enough_fuel left_is,
                  λ fuel few. label-dear g cells at top s.values _ s.labels r leaves IfKind type t inside rest c.values enough is_next fuel few,
                ),
          )

      by : (s : Settled g cells at top) → (type : BlockType) × (inside rest : Body)
          × (((s.rest ≡ Nested IfKind type inside rest) × (e.target ≡ suc at + size inside))
          ⊎ ((other : Body) × (s.rest ≡ IfElse type inside other rest) × (e.target ≡ suc (suc at + size inside)))) → Chooses e
      by s (type, inside, rest, inl (is, target)) = without s type inside rest is target
      by s (type, inside, rest, inr (other, is, target)) = both s type inside other rest is target

  -- ---- jumps

  -- A jump leaves the label of an if, at no cost.
  pub jumps-on : (e : Entry) → IsBefore (Jump e) g cells at top → (fuel : ℕ) → FrameReaches g fuel g.store cells e.target top fuel
  jumps-on e b fuel =
      let s : Settled g cells at top = settled g cells at top b.runs in
      let (label, outer, labels_are, empty, stands, later) = jumps g.code at (Jump e) b.more b.there e.kept e.target e.height refl s.values s.labels s.rest s.runs.stands s.settled in
      by s label outer labels_are empty stands
    where
      by : (s : Settled g cells at top) (label : Label) (outer : List Label) → s.labels ≡ label ∷ outer → s.rest ≡ Empty
          → StandsIn g.code e.target (s.values ++ label.values) outer label.rest → FrameReaches g fuel g.store cells e.target top fuel
      by s label outer labels_are empty stands =
          let runs₀ : Runs (on g g.locals s.values (label ∷ outer) Empty) cells at top = rw (labels_are, empty) at s.runs in
          let leaves₀ : LeavesTo g.store (frame_of g) (config_of g) (in_frame s.values (label ∷ outer) Empty) = rw (labels_are, empty) at s.leaves in
          let goes = labels-go g.store (frame_of g) outer 0 g.store (frame_of g) (InLabel label (Running s.values Empty)) (Running (s.values ++ label.values) label.rest) refl in
          let top_is = runs₀.holds.top_is in
          let joined = length-append s.values label.values in
          moved g cells at top s.values (label ∷ outer) Empty runs₀ leaves₀ 0 (s.values ++ label.values) outer label.rest goes cells e.target top fuel fuel stands refl
          (runs₀.holds.held ∙ ap (λ (vs : List Val). map cell_of g.locals ++ cells_of vs) (sym (append_assoc s.values label.values (values_under outer))))
          (omega arith) (omega arith) (omega arith)

  -- A jump moves forward.
  pub jump-later : (e : Entry) → IsBefore (Jump e) g cells at top → at < e.target
  jump-later e b =
      let s : Settled g cells at top = settled g cells at top b.runs in
      let (label, outer, labels_are, empty, stands, later) = jumps g.code at (Jump e) b.more b.there e.kept e.target e.height refl s.values s.labels s.rest s.runs.stands s.settled in later
