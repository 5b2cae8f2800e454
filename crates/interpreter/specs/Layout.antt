-- Where a frame's locals and operands are in the cells. The topmost operand is kept outside of them, and the cell after the locals is
-- scrap.
use Rattle.std.specs.Prelude.{◌≡◌, ℕ, suc, ◌+◌, ◌-◌, List, ◌++◌, length, take, drop, set}

-- A frame's cells from its first local on, without the cell after its locals.
abbrev pub without_scrap : (locals base : ℕ) → List ℕ → List ℕ
without_scrap locals base cells = take locals (drop base cells) ++ drop (suc (base + locals)) cells

-- The same, after the topmost operand is written back.
abbrev pub put_back : (locals base : ℕ) → List ℕ → (top operand : ℕ) → List ℕ
put_back locals base cells top operand = without_scrap locals base (set cells top operand)

-- That many operands were moved down over the cell that is scrap for them. The topmost one was at a place.
pub record AreMoved (cells : List ℕ) (top to kept : ℕ) (cells' : List ℕ) (operand : ℕ)
    : Type 0 where
  pub moved : take (to + kept + 1) (set cells' (to + kept) operand) ≡
      take (to + 1) cells ++ take kept (drop (top + 1 - kept) cells)
  pub size : length cells' ≡ length cells
