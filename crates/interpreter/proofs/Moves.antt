-- Operands that are moved down, in a frame's cells.
use Rattle.std.proofs.Common.{◌≡◌, ℕ, suc, ◌+◌, ◌-◌, ◌<◌, ◌≤◌, List, ◌++◌, length, take, drop, set, ap, sym, ◌∙◌, arith, append_assoc}
use Rattle.std.proofs.lemmas.List.{drop-append-le, drop-drop, drop-take, length-drop, length-set, length-take-le, take-append-le, take-set-le, take-take}
use Rattle.std.proofs.Math.Seq.{drop-append-add}
use Rattle.interpreter.specs.Layout.{AreMoved, put_back, without_scrap}
use Rattle.interpreter.proofs.Cells.{own-length, take-frame}

module _ (locals base : ℕ) where
  -- A frame's first cells are those of the first cells of all.
  pub frame-taken : (cells : List ℕ) → base + locals < length cells → (n : ℕ) → take (locals + n) (without_scrap locals base cells) ≡ without_scrap locals base (take (suc (base + locals) + n) cells)
  frame-taken cells scrap n =
      let sum : suc (base + locals) + n ≡ base + (suc locals + n) = omega arith in
      take-frame locals base cells scrap n
      ∙ ap (λ (z : List ℕ). z ++ take n (drop (suc (base + locals)) cells))
      (sym (take-take locals (suc locals + n) (drop base cells) (omega arith)) ∙ ap (take locals) (sym (drop-take base (suc locals + n) cells) ∙ ap (λ (k : ℕ). drop base (take k cells)) (sym sum)))
      ∙ ap (λ (z : List ℕ). take locals (drop base (take (suc (base + locals) + n) cells)) ++ z) (sym (drop-take (suc (base + locals)) n cells))

  frame-append : (xs ys : List ℕ) → base + locals < length xs → without_scrap locals base (xs ++ ys) ≡ without_scrap locals base xs ++ ys
  frame-append xs ys inside =
      let size = length-drop base xs in
      ap (λ (z : List ℕ). take locals z ++ drop (suc (base + locals)) (xs ++ ys)) (drop-append-le base xs ys (omega (arith, inside)))
      ∙ ap (λ (z : List ℕ). z ++ drop (suc (base + locals)) (xs ++ ys)) (take-append-le locals (drop base xs) ys (omega (arith, size, inside)))
      ∙ ap (λ (z : List ℕ). take locals (drop base xs) ++ z) (drop-append-le (suc (base + locals)) xs ys (omega (arith, inside)))
      ∙ sym (append_assoc (take locals (drop base xs)) (drop (suc (base + locals)) xs) ys)

  -- What is above its locals.
  pub drop-frame : (cells : List ℕ) → base + locals < length cells → (j : ℕ) → drop (locals + j) (without_scrap locals base cells) ≡ drop (suc (base + locals) + j) cells
  drop-frame cells scrap j =
      ap (λ (n : ℕ). drop (n + j) (without_scrap locals base cells)) (sym (own-length locals base cells scrap))
      ∙ drop-append-add (take locals (drop base cells)) (drop (suc (base + locals)) cells) j
      ∙ drop-drop j (suc (base + locals)) cells

  module _ (cells : List ℕ) (scrap : base + locals < length cells) (top height kept : ℕ) (cells' : List ℕ) (operand : ℕ)
      (low : base + locals + height + kept ≤ top) (inside : top < length cells) (m : AreMoved cells top (base + locals + height) kept cells' operand) where
    abbrev to : ℕ
    to = base + locals + height

    first-length : length (take (to + 1) cells) ≡ to + 1
    first-length = length-take-le (to + 1) cells (omega (arith, low, inside))

    -- The cells below the frame are unchanged.
    pub moved-below : take base cells' ≡ take base cells
    moved-below =
        sym (take-set-le base cells' (to + kept) operand (omega arith))
        ∙ sym (take-take base (to + kept + 1) (set cells' (to + kept) operand) (omega arith))
        ∙ ap (take base) m.moved
        ∙ take-append-le base (take (to + 1) cells) (take kept (drop (top + 1 - kept) cells)) (omega (arith, first-length))
        ∙ take-take base (to + 1) cells (omega arith)

    -- The frame has the first ones of its cells, and those that were kept.
    pub moved-frame : (above : ℕ) → top ≡ base + above
        → take (locals + height + kept) (put_back locals base cells' (to + kept) operand)
        ≡ take (locals + height) (without_scrap locals base cells) ++ take kept (drop (above - kept) (without_scrap locals base cells))
    moved-frame above top_is =
        let size = length-set cells' (to + kept) operand in
        let all : locals + height + kept ≡ locals + (height + kept) = omega arith in
        let more : suc (base + locals) + (height + kept) ≡ to + kept + 1 = omega arith in
        let first : to + 1 ≡ suc (base + locals) + height = omega arith in
        let from : locals + (above - kept - locals) ≡ above - kept = omega (arith, low, top_is) in
        let from_all : suc (base + locals) + (above - kept - locals) ≡ top + 1 - kept = omega (arith, low, top_is) in
        ap (λ (n : ℕ). take n (put_back locals base cells' (to + kept) operand)) all
        ∙ frame-taken (set cells' (to + kept) operand) (omega (arith, size, m.size, scrap)) (height + kept)
        ∙ ap (λ (n : ℕ). without_scrap locals base (take n (set cells' (to + kept) operand))) more
        ∙ ap (without_scrap locals base) m.moved
        ∙ frame-append (take (to + 1) cells) (take kept (drop (top + 1 - kept) cells)) (omega (arith, first-length))
        ∙ ap (λ (n : ℕ). without_scrap locals base (take n cells) ++ take kept (drop (top + 1 - kept) cells)) first
        ∙ ap (λ (z : List ℕ). z ++ take kept (drop (top + 1 - kept) cells)) (sym (frame-taken cells scrap height))
        ∙ ap (λ (z : List ℕ). take (locals + height) (without_scrap locals base cells) ++ take kept z)
        (ap (λ (n : ℕ). drop n cells) (sym from_all) ∙ sym (drop-frame cells scrap (above - kept - locals)) ∙ ap (λ (n : ℕ). drop n (without_scrap locals base cells)) from)
