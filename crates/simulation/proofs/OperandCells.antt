-- Operands read one by one from the top are those of the cells in a row, the lowest first.
use Rattle.std.proofs.Common.{◌≡◌, ℕ, zero, suc, ◌+◌, ◌-◌, ◌<◌, ◌≤◌, List, [], ◌∷◌, ◌++◌, length, reverse, take, drop, get_or, refl, ap, sym, subst, ◌∙◌, arith}
use Rattle.std.proofs.lemmas.List.{length-reverse, reverse-append}
use Rattle.std.proofs.Math.Seq.{drop-cons}
use Rattle.core_types.specs.declared.op.PlainOp.{PlainOp}
use Rattle.core_types.specs.declared.outcome.Val.{Val}
use Rattle.core_types.specs.declared.types.ValType.{ValType}
use Rattle.core_types.specs.declared.types.ValType.TheVariants.{I32}
use Rattle.cells.specs.Cells.{AreCellsOf, IsCellOf, value_of, values_of}
use Rattle.simulation.specs.Outcomes.{HasOperands, operand_cells, operands}
use Rattle.simulation.specs.Runs.{Ghost}
use Rattle.simulation.proofs.Operands.{AreOperands, Operands, operands_of}
use Rattle.simulation.proofs.Plain.{AtPlain}

module _ (cells : List ℕ) (top : ℕ) where
  operands-joined : (read : ℕ) (ts us : List ValType) → operands_of cells top read (ts ++ us) ≡ operands_of cells top read ts ++ operands_of cells top (read + length ts) us
  operands-joined read [] us = let same : read ≡ read + 0 = omega arith in ap (λ (n : ℕ). operands_of cells top n us) same
  operands-joined read (t ∷ ts) us =
      let same : suc read + length ts ≡ read + suc (length ts) = omega arith in
      ap (λ (vs : List Val). value_of t (get_or cells (top - suc read) 0) ∷ vs)
      (operands-joined (suc read) ts us ∙ ap (λ (n : ℕ). operands_of cells top (suc read) ts ++ operands_of cells top n us) same)

  fits-parted : (read : ℕ) (ts us : List ValType) → AreOperands cells top read (ts ++ us) → AreOperands cells top read ts × AreOperands cells top (read + length ts) us
  fits-parted read [] us fits = let same : read ≡ read + 0 = omega arith in (tt, subst (λ (n : ℕ). AreOperands cells top n us) same fits)
  fits-parted read (t ∷ ts) us (first, others) =
      let same : suc read + length ts ≡ read + suc (length ts) = omega arith in
      let (own, further) = fits-parted (suc read) ts us others in
      ((first, own), subst (λ (n : ℕ). AreOperands cells top n us) same further)

  each-fits : (read : ℕ) (ts : List ValType) → AreOperands cells top read ts → (k : ℕ) (t : ValType) → k < length ts → IsCellOf (get_or ts k t) (get_or cells (top - suc (read + k)) 0)
  each-fits read [] fits k t less = absurd (omega (arith, less))
  each-fits read (u ∷ ts) fits zero t less = let same : read ≡ read + 0 = omega arith in subst (λ (n : ℕ). IsCellOf u (get_or cells (top - suc n) 0)) same fits.0
  each-fits read (u ∷ ts) fits (suc k) t less =
      let same : suc read + k ≡ read + suc k = omega arith in
      subst (λ (n : ℕ). IsCellOf (get_or ts k t) (get_or cells (top - suc n) 0)) same (each-fits (suc read) ts fits.1 k t (omega (arith, less)))

  -- The number of operands that were read before the lowest one.
  last-read : (t : ValType) (types : List ValType) → suc (0 + length (reverse types)) ≡ suc (length types)
  last-read t types = let same = length-reverse types in omega arith

  module _ (inside : top ≤ length cells) where
    cells-down : (k : ℕ) → suc k ≤ top → operand_cells cells top (suc k) ≡ get_or cells (top - suc k) 0 ∷ operand_cells cells top k
    cells-down k le =
        let next : suc (top - suc k) ≡ top - k = omega arith in
        ap (take (suc k)) (drop-cons cells (top - suc k) 0 (omega arith)) ∙ ap (λ (n : ℕ). get_or cells (top - suc k) 0 ∷ take k (drop n cells)) next

    pub operands-read : (types : List ValType) → length types ≤ top → operands types cells top ≡ operands_of cells top 0 (reverse types)
    operands-read [] le = refl
    operands-read (t ∷ types) le =
        let c = get_or cells (top - suc (length types)) 0 in
        ap (λ (ns : List ℕ). reverse (values_of (t ∷ types) ns)) (cells-down (length types) le)
        ∙ reverse-append (value_of t (get_or cells (top - suc (length types)) 0) ∷ []) (values_of types (operand_cells cells top (length types)))
        ∙ ap (λ (vs : List Val). vs ++ (value_of t c ∷ [])) (operands-read types (omega (arith, le)))
        ∙ ap (λ (n : ℕ). operands_of cells top 0 (reverse types) ++ (value_of t (get_or cells (top - n) 0) ∷ [])) (sym (last-read t types))
        ∙ sym (operands-joined 0 (reverse types) (t ∷ []))
        ∙ ap (λ (us : List ValType). operands_of cells top 0 us) (sym (reverse-append (t ∷ []) types))

    cells-fit : (types : List ValType) → length types ≤ top → AreOperands cells top 0 (reverse types) → AreCellsOf types (operand_cells cells top (length types))
    cells-fit [] le fits = tt
    cells-fit (t ∷ types) le fits =
        let (others, (first, none)) = fits-parted 0 (reverse types) (t ∷ []) (subst (λ (us : List ValType). AreOperands cells top 0 us) (reverse-append (t ∷ []) types) fits) in
        subst (λ (ns : List ℕ). AreCellsOf (t ∷ types) ns) (sym (cells-down (length types) le))
        (rw (last-read t types) at first, cells-fit types (omega (arith, le)) others)

pub operands-fit : (g : Ghost) (cells : List ℕ) (top : ℕ) (types : List ValType) → length g.locals + length types ≤ top → top ≤ length cells
    → AreOperands cells top 0 (reverse types) → HasOperands g cells top types
operands-fit g cells top types above inside fits =
    let size = length-reverse types in record {
      above = above;
      inside = inside;
      fit = cells-fit cells top inside types (omega (arith, above)) fits;
      each = λ k less.
          let same : 0 + k ≡ k = omega arith in
          subst (λ (n : ℕ). IsCellOf (get_or (reverse types) k I32) (get_or cells (top - suc n) 0)) same (each-fits cells top 0 (reverse types) fits k I32 (omega (arith, size, less)));
    }

module _ (op : PlainOp) (g : Ghost) (cells : List ℕ) (at top : ℕ) (p : AtPlain op g cells at top) where
  pub has-operands : (types : List ValType) → Operands op g cells at top p (reverse types) → HasOperands g cells top types
  has-operands types w =
      let size = length-reverse types in
      let count = w.popped.count in
      let top_is = p.runs.holds.top_is in
      operands-fit g cells top types (omega (arith, size, count, top_is)) w.inside w.fits
