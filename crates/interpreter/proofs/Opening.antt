-- Calls: the frame that is opened, and the one that waits around it.
use Rattle.std.proofs.Common.{◌≡◌, ℕ, suc, ◌+◌, ◌-◌, ◌<◌, ◌≤◌, List, ◌++◌, length, map, reverse, take, drop, set, replicate, ap, sym, ◌∙◌, arith}
use Rattle.std.proofs.lemmas.List.{drop_at, drop-append-le, drop-set-add, drop-take, length-set, length-take-le, take-append-le, take-set-le, take-take, take_at}
use Rattle.core_types.specs.declared.op.PlainOp.{PlainOp}
use Rattle.core_types.specs.declared.outcome.Val.{Val}
use Rattle.core_types.specs.declared.types.FuncType.{FuncType}
use Rattle.core_types.specs.declared.types.ValType.{ValType}
use Rattle.meaning.specs.structure.Bodies.{Body, Then}
use Rattle.meaning.specs.execution.Store.{Code, InCode}
use Rattle.meaning.specs.soundness.Values.{ValuesHaveTypes}
use Rattle.soundness.specs.Places.{context_at}
use Rattle.soundness.specs.Stores.{ImplementationIsValid, body_place}
use Rattle.sidetable.specs.Counts.{Signatures}
use Rattle.sidetable.specs.Flat.{FlatOp}
use Rattle.cells.specs.Cells.{cell_of}
use Rattle.simulation.specs.Entries.{callee}
use Rattle.simulation.specs.Laws.{BeginsAt}
use Rattle.simulation.specs.Piles.{cells_of}
use Rattle.simulation.specs.Runs.{Ghost, Holds, Runs}
use Rattle.simulation.specs.Standing.{values_under}
use Rattle.simulation.proofs.Entries.{call-enters}
use Rattle.simulation.proofs.Typed.{all-length}
use Rattle.interpreter.specs.Layout.{put_back, without_scrap}
use Rattle.interpreter.specs.Running.{Machine, RunsAt, height_in}
use Rattle.interpreter.specs.Worlds.{World}
use Rattle.interpreter.proofs.Cells.{frame-length, own-length}
use Rattle.interpreter.proofs.Forms.{inside}
use Rattle.interpreter.proofs.Moves.{drop-frame, frame-taken}
use Rattle.interpreter.proofs.Parting.{below-parted}

-- The locals of a frame with no operands, whatever is in its scrap.
pub own-cells : (locals base : ℕ) (cells : List ℕ) (operand : ℕ) → base + locals < length cells → take locals (put_back locals base cells (base + locals) operand) ≡ take locals (drop base cells)
own-cells locals base cells operand scrap =
    let size = length-set cells (base + locals) operand in
    take_at (take locals (drop base (set cells (base + locals) operand))) (drop (suc (base + locals)) (set cells (base + locals) operand)) locals
    (own-length locals base (set cells (base + locals) operand) (omega (arith, size, scrap)))
    ∙ ap (take locals) (drop-set-add base cells locals operand) ∙ take-set-le locals (drop base cells) locals operand (omega arith)

-- The arguments of a call of a function of a module are on top of the frame's cells. This is the topmost operand, at this place.
pub record ArgumentsLie (op : PlainOp) (m : Machine) (h : Ghost) (top operand : ℕ) (t : FuncType) (instance : ℕ) (code : Code) : Type 0 where
  pub rest : Body
  pub rest_is : h.rest ≡ Then op rest
  -- the values up to the arguments
  pub values : List Val
  pub height : ℕ
  pub over : ℕ
  pub above : height_in m ≡ height + over
  pub top_is : top ≡ m.base + height
  pub holds : Holds (record h { values = values }) (put_back h.code.locals m.base m.cells top operand) height
  pub valid : ImplementationIsValid h.store t (InCode instance code)
  pub below : List ValType
  pub typed : ValuesHaveTypes h.store values (reverse t.params ++ below)
  pub enough : length t.params ≤ length values

module _ (w : World) (m : Machine) (h : Ghost) (r : RunsAt w m h) (op : PlainOp) (top operand : ℕ) (t : FuncType) (instance : ℕ) (code : Code)
    (b : ArgumentsLie op m h top operand t instance code) where
  abbrev n : ℕ
  n = length t.params

  abbrev k : ℕ
  k = length code.locals

  abbrev put : List ℕ
  put = set m.cells top operand

  -- The cells of the frame, up to the arguments.
  abbrev frame_cells : List ℕ
  frame_cells = put_back h.code.locals m.base m.cells top operand

  pub arguments-fit : m.base + h.code.locals + n ≤ top
  arguments-fit = omega (arith, b.holds.top_is, b.top_is, r.runs.holds.count, b.enough)

  pub top-inside : top < length m.cells
  top-inside = omega (arith, b.above, b.top_is, r.low, inside w m h r)

  put-size : length put ≡ length m.cells
  put-size = length-set m.cells top operand

  frame-size : length frame_cells ≡ length m.cells - suc m.base
  frame-size = let whole = frame-length h.code.locals m.base put (omega (arith, put-size, r.scrap)) in omega (arith, put-size, whole)

  -- The arguments, from the cell of the first one on.
  arguments-lie : (from : ℕ) → from + n ≡ top + 1 → take n (drop from put) ≡ take n (drop (b.height - n) frame_cells)
  arguments-lie from from_is =
      let j = b.height - n - h.code.locals in
      let over : b.height - n ≡ h.code.locals + j = omega (arith, arguments-fit, b.top_is) in
      let at : suc (m.base + h.code.locals) + j ≡ from = omega (arith, arguments-fit, from_is, b.top_is) in
      ap (λ (i : ℕ). take n (drop i put)) (sym at)
      ∙ ap (take n) (sym (drop-frame h.code.locals m.base put (omega (arith, put-size, r.scrap)) j))
      ∙ ap (λ (i : ℕ). take n (drop i frame_cells)) (sym over)

  -- The callee runs at its first place, in a frame that begins with the arguments, followed by cleared cells.
  module _ (cells' : List ℕ) (base' : ℕ) (own : take (n + k) (drop base' cells') ≡ take n (drop (b.height - n) frame_cells) ++ replicate k 0) where
    pub callee-runs : (s : Signatures) (ops : List FlatOp) (at : ℕ) → (context_at h.store (body_place t instance code)).types ≡ s.types
        → (context_at h.store (body_place t instance code)).functions ≡ s.functions
        → BeginsAt s ops (n + k) (length t.results) at code.body → base' + (callee h s ops at t instance code b.values).code.greatest < length cells'
        → Runs (callee h s ops at t instance code b.values) (put_back (n + k) base' cells' (base' + (n + k)) 0) at (n + k)
    callee-runs s ops at types functions begins room =
        let set_size = length-set cells' (base' + (n + k)) 0 in
        let whole_size = frame-length (n + k) base' (set cells' (base' + (n + k)) 0) (omega (arith, set_size, room)) in
        call-enters (record h { values = b.values }) frame_cells b.height r.runs.typed.valid b.holds (omega (arith, frame-size, top-inside, b.top_is))
        s ops at t instance code b.valid b.below b.typed b.enough types functions begins (put_back (n + k) base' cells' (base' + (n + k)) 0)
        (own-cells (n + k) base' cells' 0 (omega (arith, room)) ∙ own)
        (omega (arith, whole_size, set_size, room))

  -- In the place of the frame.
  module _ (cells' : List ℕ) (filled : take (m.base + (n + k)) cells' ≡ take m.base m.cells ++ (take n (drop (top + 1 - n) put) ++ replicate k 0)) where
    base-size : length (take m.base m.cells) ≡ m.base
    base-size = length-take-le m.base m.cells (omega (arith, r.scrap))

    pub placed-below : take m.base cells' ≡ take m.base m.cells
    placed-below = sym (take-take m.base (m.base + (n + k)) cells' (omega arith)) ∙ ap (take m.base) filled ∙ take_at (take m.base m.cells) _ m.base base-size

    pub placed-own : take (n + k) (drop m.base cells') ≡ take n (drop (b.height - n) frame_cells) ++ replicate k 0
    placed-own =
        sym (drop-take m.base (n + k) cells') ∙ ap (drop m.base) filled ∙ drop_at (take m.base m.cells) _ m.base base-size
        ∙ ap (λ (z : List ℕ). z ++ replicate k 0) (arguments-lie (top + 1 - n) (omega (arith, arguments-fit)))

  -- With the cells after the arguments cleared.
  module _ (cells' : List ℕ) (filled : take (top + 1 + k) cells' ≡ take (top + 1) put ++ replicate k 0) (size : length cells' ≡ length m.cells) (base' : ℕ) (base_is : base' + n ≡ top + 1) where
    first-size : length (take (top + 1) put) ≡ top + 1
    first-size = length-take-le (top + 1) put (omega (arith, put-size, top-inside))

    -- The cells below are unchanged.
    same-below : (q : ℕ) → q ≤ top + 1 → take q cells' ≡ take q put
    same-below q le =
        sym (take-take q (top + 1 + k) cells' (omega (arith, le))) ∙ ap (take q) filled
        ∙ take-append-le q (take (top + 1) put) (replicate k 0) (omega (arith, first-size, le)) ∙ take-take q (top + 1) put le

    pub outer-below : take m.base (take base' cells') ≡ take m.base m.cells
    outer-below =
        take-take m.base base' cells' (omega (arith, arguments-fit, base_is)) ∙ same-below m.base (omega (arith, arguments-fit)) ∙ take-set-le m.base m.cells top operand (omega (arith, arguments-fit))

    pub callee-own : take (n + k) (drop base' cells') ≡ take n (drop (b.height - n) frame_cells) ++ replicate k 0
    callee-own =
        let all : base' + (n + k) ≡ top + 1 + k = omega (arith, base_is) in
        sym (drop-take base' (n + k) cells')
        ∙ ap (λ (i : ℕ). drop base' (take i cells')) all
        ∙ ap (drop base') filled
        ∙ drop-append-le base' (take (top + 1) put) (replicate k 0) (omega (arith, first-size, base_is))
        ∙ ap (λ (z : List ℕ). z ++ replicate k 0) (ap (λ (i : ℕ). drop base' (take i put)) (sym base_is) ∙ drop-take base' n put ∙ arguments-lie base' base_is)

    -- The caller's frame afterwards.
    pub caller-cells : without_scrap h.code.locals m.base (take base' cells') ≡ map cell_of h.locals ++ cells_of (drop n b.values ++ values_under h.labels)
    caller-cells =
        let j = base' - suc (m.base + h.code.locals) in
        let sum : base' ≡ suc (m.base + h.code.locals) + j = omega (arith, arguments-fit, base_is) in
        let height : h.code.locals + j ≡ b.height - n = omega (arith, arguments-fit, base_is, b.top_is) in
        let all = all-length b.values h.labels in
        ap (without_scrap h.code.locals m.base) (same-below base' (omega (arith, base_is)) ∙ ap (λ (q : ℕ). take q put) sum)
        ∙ sym (frame-taken h.code.locals m.base put (omega (arith, put-size, r.scrap)) j)
        ∙ ap (λ (q : ℕ). take q frame_cells) height
        ∙ below-parted frame_cells b.height h.locals (b.values ++ values_under h.labels) n b.holds.held (omega (arith, b.holds.top_is, all)) (omega (arith, b.enough, all))
        ∙ ap (λ (vs : List Val). map cell_of h.locals ++ cells_of vs) (drop-append-le n b.values (values_under h.labels) b.enough)
