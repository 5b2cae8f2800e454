-- Cells of values.
use Rattle.std.proofs.Common.{◌≡◌, ℕ, zero, suc, ◌+◌, ◌-◌, ◌<◌, ◌≤◌, List, [], ◌∷◌, ◌++◌, length, map, reverse, take, drop, get_or, refl, ap, sym, ◌∙◌, arith}
use Rattle.std.proofs.Common.{append_assoc, length-append, take-append-drop}
use Rattle.std.specs.Prelude.{Some}
use Rattle.std.proofs.lemmas.List.{get_or-take, get_or_append_left, length-drop, length-map, length-reverse, length-take-le, map-append, reverse-append, take-take}
use Rattle.std.proofs.Math.Seq.{drop-append_seam, get_or-append_seam, take-append_seam}
use Rattle.core_types.specs.declared.outcome.Val.{Val}
use Rattle.std.specs.Prelude.{Option, None, replicate}
use Rattle.core_types.specs.declared.outcome.Val.TheVariants.{I32, I64, FuncRef, ExternRef}
use Rattle.core_types.specs.declared.types.ValType.{ValType}
use Rattle.core_types.specs.declared.types.ValType.TheVariants as ty
use Rattle.meaning.specs.execution.Instructions.{topmost}
use Rattle.meaning.specs.execution.Store.{Store}
use Rattle.meaning.specs.execution.Values.{default_of}
use Rattle.meaning.specs.soundness.Values.{ValueHasType}
use Rattle.cells.specs.Cells.{cell_of, reference_cell, reference_of, value_of}
use Rattle.simulation.specs.Piles.{cells_of}

pub cells-length : (values : List Val) → length (cells_of values) ≡ length values
cells-length values = length-reverse (map cell_of values) ∙ length-map values cell_of

-- One more value on top.
pub cells-push : (v : Val) (values : List Val) → cells_of (v ∷ values) ≡ cells_of values ++ (cell_of v ∷ [])
cells-push v values = reverse-append (cell_of v ∷ []) (map cell_of values)

pub cells-joined : (first second : List Val) → cells_of (first ++ second) ≡ cells_of second ++ cells_of first
cells-joined first second = ap reverse (map-append cell_of first second) ∙ reverse-append (map cell_of first) (map cell_of second)

-- ---- a pile of cells over others

module _ (cells base : List ℕ) (top : ℕ) where
  -- The cells are these first ones, followed by those of values.
  abbrev pub Piled : List Val → Type 0
  Piled all = take top cells ≡ base ++ cells_of all

  pub pile-push : (v : Val) (all : List Val) → Piled all → (cells' : List ℕ) (top' : ℕ) → take top' cells' ≡ take top cells ++ (cell_of v ∷ []) → take top' cells' ≡ base ++ cells_of (v ∷ all)
  pile-push v all held cells' top' put =
      put ∙ ap (λ (z : List ℕ). z ++ (cell_of v ∷ [])) held ∙ append_assoc base (cells_of all) (cell_of v ∷ []) ∙ ap (λ (z : List ℕ). base ++ z) (sym (cells-push v all))

  module _ (v : Val) (all : List Val) (held : Piled (v ∷ all)) (high : top ≡ length base + suc (length all)) (within : top ≤ length cells) where
    whole : take top cells ≡ (base ++ cells_of all) ++ (cell_of v ∷ [])
    whole = held ∙ ap (λ (z : List ℕ). base ++ z) (cells-push v all) ∙ sym (append_assoc base (cells_of all) (cell_of v ∷ []))

    below : length (base ++ cells_of all) ≡ top - 1
    below = length-append base (cells_of all) ∙ ap (λ (n : ℕ). length base + n) (cells-length all) ∙ omega (arith, high)

    pub pile-top : get_or cells (top - 1) 0 ≡ cell_of v
    pile-top =
        sym (get_or-take top cells (top - 1) 0 (omega (arith, high)))
        ∙ ap (λ (z : List ℕ). get_or z (top - 1) 0) whole
        ∙ ap (λ (n : ℕ). get_or ((base ++ cells_of all) ++ (cell_of v ∷ [])) n 0) (sym below)
        ∙ get_or-append_seam (base ++ cells_of all) (cell_of v) [] 0

    pub pile-pop : take (top - 1) cells ≡ base ++ cells_of all
    pile-pop =
        sym (take-take (top - 1) top cells (omega arith))
        ∙ ap (take (top - 1)) whole
        ∙ ap (λ (n : ℕ). take n ((base ++ cells_of all) ++ (cell_of v ∷ []))) (sym below)
        ∙ take-append_seam (base ++ cells_of all) (cell_of v ∷ [])

  -- Those below.
  pub pile-base : (all : List Val) (x : ℕ) → Piled all → x < length base → x < top → get_or cells x 0 ≡ get_or base x 0
  pile-base all x held inside lower = sym (get_or-take top cells x 0 lower) ∙ ap (λ (z : List ℕ). get_or z x 0) held ∙ get_or_append_left base (cells_of all) 0 x inside

  -- That many values stay on top of those at a height.
  pub pile-land : (kept : ℕ) (own gone lower : List Val) → Piled (own ++ (gone ++ lower)) → kept ≤ length own → top ≡ length base + (length own + (length gone + length lower)) → top ≤ length cells
      → (to : ℕ) → to ≡ length base + length lower → (cells' : List ℕ) → take (to + kept) cells' ≡ take to cells ++ take kept (drop (top - kept) cells)
      → take (to + kept) cells' ≡ base ++ cells_of (take kept own ++ lower)
  pile-land kept own gone lower held few high within to to_is cells' moved =
      moved ∙ ap (λ (z : List ℕ). z ++ take kept (drop (top - kept) cells)) under_is ∙ ap (λ (z : List ℕ). (base ++ cells_of lower) ++ z) over_is
      ∙ append_assoc base (cells_of lower) (cells_of (take kept own)) ∙ ap (λ (z : List ℕ). base ++ z) (sym (cells-joined (take kept own) lower))
    where
      -- in four parts
      parts : take top cells ≡ ((base ++ cells_of lower) ++ (cells_of gone ++ cells_of (drop kept own))) ++ cells_of (take kept own)
      parts =
          held ∙ ap (λ (z : List ℕ). base ++ z)
          (cells-joined own (gone ++ lower) ∙ ap (λ (z : List ℕ). z ++ cells_of own) (cells-joined gone lower)
          ∙ ap (λ (z : List ℕ). (cells_of lower ++ cells_of gone) ++ z) (ap cells_of (sym (take-append-drop kept own)) ∙ cells-joined (take kept own) (drop kept own)))
          ∙ simp append_assoc

      lower_size : length (base ++ cells_of lower) ≡ to
      lower_size = length-append base (cells_of lower) ∙ ap (λ (n : ℕ). length base + n) (cells-length lower) ∙ sym to_is

      top_size : length (cells_of (take kept own)) ≡ kept
      top_size = cells-length (take kept own) ∙ length-take-le kept own few

      all_size : length ((base ++ cells_of lower) ++ (cells_of gone ++ cells_of (drop kept own))) ≡ top - kept
      all_size =
          let one = length-append (base ++ cells_of lower) (cells_of gone ++ cells_of (drop kept own)) in
          let two = length-append (cells_of gone) (cells_of (drop kept own)) in
          let three = cells-length gone in
          let four = cells-length (drop kept own) in
          let five = length-drop kept own in
          omega (arith, one, two, three, four, five, lower_size, few, high, to_is)

      under_is : take to cells ≡ base ++ cells_of lower
      under_is =
          sym (take-take to top cells (omega (arith, to_is, high)))
          ∙ ap (take to) (parts ∙ append_assoc (base ++ cells_of lower) (cells_of gone ++ cells_of (drop kept own)) (cells_of (take kept own)))
          ∙ ap (λ (n : ℕ). take n ((base ++ cells_of lower) ++ ((cells_of gone ++ cells_of (drop kept own)) ++ cells_of (take kept own)))) (sym lower_size)
          ∙ take-append_seam (base ++ cells_of lower) ((cells_of gone ++ cells_of (drop kept own)) ++ cells_of (take kept own))

      split : cells ≡ ((base ++ cells_of lower) ++ (cells_of gone ++ cells_of (drop kept own))) ++ (cells_of (take kept own) ++ drop top cells)
      split = sym (take-append-drop top cells) ∙ ap (λ (z : List ℕ). z ++ drop top cells) parts ∙ append_assoc
          ((base ++ cells_of lower) ++ (cells_of gone ++ cells_of (drop kept own))) (cells_of (take kept own)) (drop top cells)

      over_is : take kept (drop (top - kept) cells) ≡ cells_of (take kept own)
      over_is =
          ap (λ (z : List ℕ). take kept (drop (top - kept) z)) split
          ∙ ap (λ (n : ℕ). take kept (drop n (((base ++ cells_of lower) ++ (cells_of gone ++ cells_of (drop kept own))) ++ (cells_of (take kept own) ++ drop top cells)))) (sym all_size)
          ∙ ap (take kept) (drop-append_seam ((base ++ cells_of lower) ++ (cells_of gone ++ cells_of (drop kept own))) (cells_of (take kept own) ++ drop top cells))
          ∙ ap (λ (n : ℕ). take n (cells_of (take kept own) ++ drop top cells)) (sym top_size)
          ∙ take-append_seam (cells_of (take kept own)) (drop top cells)

-- ---- cells read at a type, first values, arguments

reference-read : (a : Option ℕ) → reference_of (reference_cell a) ≡ a
reference-read None = refl
reference-read (Some n) = refl

pub value-read : (store : Store) (v : Val) (t : ValType) → ValueHasType store v t → value_of t (cell_of v) ≡ v
value-read store (I32 n) t typed = rw typed.0 refl
value-read store (I64 n) t typed = rw typed.0 refl
value-read store (FuncRef a) t typed = rw typed.0 (ap FuncRef (reference-read a))
value-read store (ExternRef x) t typed = rw typed.0 (ap ExternRef (reference-read x))

reference-cell : (n : ℕ) → reference_cell (reference_of n) ≡ n
reference-cell zero = refl
reference-cell (suc n) = refl

pub cell-of-value : (t : ValType) (n : ℕ) → cell_of (value_of t n) ≡ n
cell-of-value ty.I32 n = refl
cell-of-value ty.I64 n = refl
cell-of-value ty.FuncRef n = reference-cell n
cell-of-value ty.ExternRef n = reference-cell n

first-cell : (t : ValType) → cell_of (default_of t) ≡ 0
first-cell ty.I32 = refl
first-cell ty.I64 = refl
first-cell ty.FuncRef = refl
first-cell ty.ExternRef = refl

pub first-cells : (ts : List ValType) → map cell_of (map default_of ts) ≡ replicate (length ts) 0
first-cells [] = refl
first-cells (t ∷ ts) = rw (first-cell t, first-cells ts) refl

pub map-reversed : (vs : List Val) → map cell_of (reverse vs) ≡ reverse (map cell_of vs)
map-reversed [] = refl
map-reversed (v ∷ vs) = ap (map cell_of) (reverse-append (v ∷ []) vs) ∙ map-append cell_of (reverse vs) (v ∷ []) ∙ ap
    (λ (z : List ℕ). z ++ (cell_of v ∷ [])) (map-reversed vs) ∙ sym (reverse-append (cell_of v ∷ []) (map cell_of vs))

pub argument-cells : (cells below : List ℕ) (top : ℕ) (params : List ValType) (values : List Val) → take top cells ≡ below ++ cells_of values → length params ≤ length values
    → top ≡ length below + length values → top ≤ length cells
    → take (length params) (drop (top - length params) cells) ≡ map cell_of (topmost params values)
argument-cells cells below top params values held few high within =
    ap (λ (z : List ℕ). take n (drop (top - n) z)) split
    ∙ ap (λ (k : ℕ). take n (drop k ((below ++ cells_of (drop n values)) ++ (cells_of (take n values) ++ drop top cells)))) (sym low_size)
    ∙ ap (take n) (drop-append_seam (below ++ cells_of (drop n values)) (cells_of (take n values) ++ drop top cells))
    ∙ ap (λ (k : ℕ). take k (cells_of (take n values) ++ drop top cells)) (sym top_size)
    ∙ take-append_seam (cells_of (take n values)) (drop top cells)
    ∙ sym (map-reversed (take n values))
  where
    n : ℕ
    n = length params

    split : cells ≡ (below ++ cells_of (drop n values)) ++ (cells_of (take n values) ++ drop top cells)
    split =
        sym (take-append-drop top cells) ∙ ap (λ (z : List ℕ). z ++ drop top cells)
        (held ∙ ap (λ (z : List ℕ). below ++ z) (ap cells_of (sym (take-append-drop n values)) ∙ cells-joined (take n values) (drop n values)))
        ∙ simp append_assoc

    low_size : length (below ++ cells_of (drop n values)) ≡ top - n
    low_size = let one = length-append below (cells_of (drop n values)) in let two = cells-length (drop n values) in let three = length-drop n values in omega (arith, one, two, three, few, high)

    top_size : length (cells_of (take n values)) ≡ n
    top_size = cells-length (take n values) ∙ length-take-le n values few
