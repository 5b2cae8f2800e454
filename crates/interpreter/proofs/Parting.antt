-- A frame's cells in parts: operands below others, and those of two frames.
use Rattle.std.proofs.Common.{◌≡◌, ℕ, ◌+◌, ◌-◌, ◌≤◌, List, ◌++◌, length, map, take, drop, ap, sym, ◌∙◌, arith, append_assoc, length-append, take-append-drop}
use Rattle.std.proofs.lemmas.List.{drop-take, length-drop, length-map, take-take, take_at}
use Rattle.std.proofs.Math.Seq.{drop-append_seam}
use Rattle.core_types.specs.declared.outcome.Val.{Val}
use Rattle.cells.specs.Cells.{cell_of}
use Rattle.simulation.specs.Piles.{cells_of}
use Rattle.simulation.proofs.Cells.{cells-joined, cells-length}

-- The cells between two places.
pub middle : (n m : ℕ) (xs : List ℕ) → m ≤ n → drop m (take n xs) ≡ take (n - m) (drop m xs)
middle n m xs le = let sum : n ≡ m + (n - m) = omega (arith, le) in ap (λ (k : ℕ). drop m (take k xs)) sum ∙ drop-take m (n - m) xs

-- Locals and operands, with the topmost ones separate.
parted : (own values : List Val) (n : ℕ) → map cell_of own ++ cells_of values ≡ (map cell_of own ++ cells_of (drop n values)) ++ cells_of (take n values)
parted own values n =
    ap (λ (z : List ℕ). map cell_of own ++ z) (ap cells_of (sym (take-append-drop n values)) ∙ cells-joined (take n values) (drop n values))
    ∙ sym (append_assoc (map cell_of own) (cells_of (drop n values)) (cells_of (take n values)))

parted-length : (own values : List Val) (n : ℕ) → length (map cell_of own ++ cells_of (drop n values)) ≡ length own + (length values - n)
parted-length own values n =
    let one = length-append (map cell_of own) (cells_of (drop n values)) in
    let two = length-map own cell_of in
    let three = cells-length (drop n values) in
    let four = length-drop n values in
    omega (arith, one, two, three, four)

module _ (xs : List ℕ) (t : ℕ) (own values : List Val) (n : ℕ) (held : take t xs ≡ map cell_of own ++ cells_of values) (high : t ≡ length own + length values) (few : n ≤ length values) where
  -- Those below.
  pub below-parted : take (t - n) xs ≡ map cell_of own ++ cells_of (drop n values)
  below-parted =
      let size = parted-length own values n in
      sym (take-take (t - n) t xs (omega arith)) ∙ ap (take (t - n)) (held ∙ parted own values n)
      ∙ take_at (map cell_of own ++ cells_of (drop n values)) (cells_of (take n values)) (t - n) (omega (arith, size, high, few))

  -- Those above.
  pub above-parted : take n (drop (t - n) xs) ≡ cells_of (take n values)
  above-parted =
      let size = parted-length own values n in
      let e : t - (t - n) ≡ n = omega (arith, high, few) in
      let f : t - n ≡ length (map cell_of own ++ cells_of (drop n values)) = omega (arith, size, high, few) in
      ap (λ (k : ℕ). take k (drop (t - n) xs)) (sym e) ∙ sym (middle t (t - n) xs (omega arith)) ∙ ap (drop (t - n)) (held ∙ parted own values n)
      ∙ ap (λ (k : ℕ). drop k ((map cell_of own ++ cells_of (drop n values)) ++ cells_of (take n values))) f
      ∙ drop-append_seam (map cell_of own ++ cells_of (drop n values)) (cells_of (take n values))
