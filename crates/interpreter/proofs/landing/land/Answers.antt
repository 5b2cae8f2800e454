use Rattle.std.proofs.Common.{◌≡◌, ℕ, suc, ◌+◌, ◌-◌, ◌<◌, ◌≤◌, List, [], ◌∷◌, ◌++◌, length, take, drop, set, get_or, ap, sym, ◌∙◌, arith, append_assoc}
use Rattle.std.proofs.lemmas.List.{get_or-drop, length-drop}
use Rattle.std.proofs.Math.Seq.{take-suc, take-suc-set}
use Rattle.interpreter.specs.Layout.{AreMoved}
use Rattle.interpreter.proofs.landing.land.Goals as goal

-- All operands except the topmost one were moved.
moved-some : (cells cells' : List ℕ) (top to kept operand : ℕ) → 1 ≤ kept → to + kept ≤ top → top < length cells → get_or cells top 0 ≡ operand
    → take (to + 1 + (kept - 1)) cells' ≡ take (to + 1) cells ++ take (kept - 1) (drop (top + 1 - kept) cells) → length cells' ≡ length cells → AreMoved cells top to kept cells' operand
moved-some cells cells' top to kept operand some low within there moved size =
    let k = kept - 1 in
    let n : to + 1 + k ≡ to + kept = omega arith in
    let m : to + kept + 1 ≡ suc (to + kept) = omega arith in
    let kept_is : kept ≡ suc k = omega arith in
    let from = top + 1 - kept in
    let rest = length-drop from cells in
    let topmost : get_or (drop from cells) k 0 ≡ operand = get_or-drop from cells k 0 ∙ ap (λ (i : ℕ). get_or cells i 0) (omega arith) ∙ there in
    record {
      moved = ap (λ (i : ℕ). take i (set cells' (to + kept) operand)) m
          ∙ take-suc-set cells' (to + kept) operand (omega (arith, size, low, within))
          ∙ ap (λ (z : List ℕ). z ++ (operand ∷ [])) (ap (λ (i : ℕ). take i cells') (sym n) ∙ moved)
          ∙ append_assoc (take (to + 1) cells) (take k (drop from cells)) (operand ∷ [])
          ∙ ap (λ (z : List ℕ). take (to + 1) cells ++ z)
          (ap (λ (c : ℕ). take k (drop from cells) ++ (c ∷ [])) (sym topmost) ∙ sym
          (take-suc (drop from cells) k 0 (omega (arith, rest, within, low, some))) ∙ ap (λ (i : ℕ). take i (drop from cells)) (sym kept_is));
      size = size;
    }

pub returns-then-kept-gt1 : goal.returns-then-kept-gt1
returns-then-kept-gt1 c =
    moved-some c.args.cells.now c.move_down.new.cells c.args.top c.args.to c.args.kept c.args.operand (omega arith) c.requires.low c.requires.within
    c.requires.there c.move_down.ensures.moved c.move_down.ensures.size
