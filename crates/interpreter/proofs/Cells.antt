-- A frame's cells with the topmost operand written back and the scrap left out.
use Rattle.std.proofs.Common.{◌≡◌, ℕ, suc, ◌+◌, ◌-◌, ◌<◌, ◌≤◌, List, [], ◌∷◌, ◌++◌, length, take, drop, set, get_or, ap, sym, ◌∙◌, arith, length-append}
use Rattle.std.proofs.lemmas.List.{drop-set-add, drop-set-lt, get_or-append_right, get_or-drop, get_or-set_other, get_or-set_same, get_or-take}
use Rattle.std.proofs.lemmas.List.{get_or_append_left, length-drop, length-set, length-take-le, set-append_left, set-append_right, set-get_or, set_comm}
use Rattle.std.proofs.lemmas.List.{take-set-le}
use Rattle.std.proofs.Math.Seq.{take-append-add, take-set-lt, take-suc-set}
use Rattle.interpreter.specs.Layout.{put_back, without_scrap}

module _ (locals base : ℕ) (cells : List ℕ) (scrap : base + locals < length cells) where
  -- ---- without the scrap

  abbrev own : List ℕ
  own = take locals (drop base cells)

  abbrev operands : List ℕ
  operands = drop (suc (base + locals)) cells

  pub own-length : length own ≡ locals
  own-length = let d = length-drop base cells in length-take-le locals (drop base cells) (omega (arith, d, scrap))

  pub frame-length : length (without_scrap locals base cells) ≡ length cells - suc base
  frame-length = omega (arith, length-append own operands, own-length, length-drop (suc (base + locals)) cells, scrap)

  -- The locals, and some operands.
  pub take-frame : (n : ℕ) → take (locals + n) (without_scrap locals base cells) ≡ take locals (drop base cells) ++ take n (drop (suc (base + locals)) cells)
  take-frame n = ap (λ (k : ℕ). take (k + n) (without_scrap locals base cells)) (sym own-length) ∙ take-append-add own operands n

  pub local-cell : (x : ℕ) → x < locals → get_or (without_scrap locals base cells) x 0 ≡ get_or cells (base + x) 0
  local-cell x inside =
      get_or_append_left own operands 0 x (omega (arith, own-length, inside)) ∙ get_or-take locals (drop base cells) x 0 inside ∙ get_or-drop base cells x 0

  pub operand-cell : (k place : ℕ) → locals ≤ k → place ≡ base + suc k → get_or (without_scrap locals base cells) k 0 ≡ get_or cells place 0
  operand-cell k place behind is =
      get_or-append_right own operands locals k 0 own-length behind ∙ get_or-drop (suc (base + locals)) cells (k - locals) 0
      ∙ ap (λ (n : ℕ). get_or cells n 0) (omega (arith, behind, is))

  -- ---- writes

  pub local-set : (x a : ℕ) → x < locals → without_scrap locals base (set cells (base + x) a) ≡ set (without_scrap locals base cells) x a
  local-set x a inside =
      ap (λ (z : List ℕ). z ++ drop (suc (base + locals)) (set cells (base + x) a)) (ap (take locals) (drop-set-add base cells x a) ∙ take-set-lt locals (drop base cells) x a inside)
      ∙ ap (λ (z : List ℕ). set own x a ++ z) (drop-set-lt (suc (base + locals)) cells (base + x) a (omega (arith, inside)))
      ∙ sym (set-append_left own operands x a (omega (arith, own-length, inside)))

  pub operand-set : (k place a : ℕ) → locals ≤ k → place ≡ base + suc k → put_back locals base cells place a ≡ set (without_scrap locals base cells) k a
  operand-set k place a behind is =
      let in_frame : place ≡ base + suc k = is in
      let in_operands : place ≡ suc (base + locals) + (k - locals) = omega (arith, behind, is) in
      ap (λ (z : List ℕ). take locals z ++ drop (suc (base + locals)) (set cells place a)) (ap (λ (n : ℕ). drop base (set cells n a)) in_frame ∙ drop-set-add base cells (suc k) a)
      ∙ ap (λ (z : List ℕ). z ++ drop (suc (base + locals)) (set cells place a)) (take-set-le locals (drop base cells) (suc k) a (omega (arith, behind)))
      ∙ ap (λ (z : List ℕ). own ++ z) (ap (λ (n : ℕ). drop (suc (base + locals)) (set cells n a)) in_operands ∙ drop-set-add (suc (base + locals)) cells (k - locals) a)
      ∙ sym (set-append_right own operands locals k a own-length behind)

-- ---- with a topmost operand

module _ (locals base : ℕ) (cells : List ℕ) (scrap : base + locals < length cells) (k top operand : ℕ) (behind : locals ≤ k) (top_is : top ≡ base + suc k) where
  -- What is below the topmost operand.
  pub below-top : (n : ℕ) → n ≤ k → take n (put_back locals base cells top operand) ≡ take n (without_scrap locals base cells)
  below-top n le = ap (take n) (operand-set locals base cells scrap k top operand behind top_is) ∙ take-set-le n (without_scrap locals base cells) k operand le

  -- What is below another cell.
  pub under-top : (n place : ℕ) → locals ≤ n → n < k → place ≡ base + suc n → get_or (put_back locals base cells top operand) n 0 ≡ get_or cells place 0
  under-top n place low under is =
      ap (λ (z : List ℕ). get_or z n 0) (operand-set locals base cells scrap k top operand behind top_is)
      ∙ get_or-set_other (without_scrap locals base cells) k n operand 0 (λ e. omega (arith, e, under))
      ∙ operand-cell locals base cells scrap n place low is

  module _ (inside : top < length cells) where
    -- The topmost operand is within the frame's cells.
    top-within : k < length (without_scrap locals base cells)
    top-within = omega (arith, frame-length locals base cells scrap, inside, top_is)

    pub at-top : get_or (put_back locals base cells top operand) k 0 ≡ operand
    at-top =
        ap (λ (z : List ℕ). get_or z k 0) (operand-set locals base cells scrap k top operand behind top_is)
        ∙ get_or-set_same (without_scrap locals base cells) k operand 0 top-within

    pub to-top : take (suc k) (put_back locals base cells top operand) ≡ take k (without_scrap locals base cells) ++ (operand ∷ [])
    to-top = ap (take (suc k)) (operand-set locals base cells scrap k top operand behind top_is) ∙ take-suc-set (without_scrap locals base cells) k operand top-within

-- If a topmost operand is taken from the cells, these are all of the frame's cells.
pub popped-frame : (locals base : ℕ) (cells : List ℕ) (top : ℕ) → put_back locals base cells top (get_or cells top 0) ≡ without_scrap locals base cells
popped-frame locals base cells top = ap (without_scrap locals base) (set-get_or cells top 0)

-- A local that is written with a topmost operand above it.
pub local-put_back : (locals base : ℕ) (cells : List ℕ) (scrap : base + locals < length cells) (top operand x a : ℕ) → x < locals → base + locals ≤ top
    → put_back locals base (set cells (base + x) a) top operand ≡ set (put_back locals base cells top operand) x a
local-put_back locals base cells scrap top operand x a inside low =
    ap (without_scrap locals base) (set_comm cells (base + x) top a operand (λ e. omega (arith, e, inside, low)))
    ∙ local-set locals base (set cells top operand) (let size = length-set cells top operand in omega (arith, size, scrap)) x a inside
