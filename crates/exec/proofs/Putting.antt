-- Cells with results in the place of arguments.
use Rattle.std.proofs.Common.{◌≡◌, ℕ, suc, ◌+◌, ◌-◌, ◌≤◌, List, ◌++◌, length, map, take, drop, ap, sym, subst, ◌∙◌, arith, append_assoc, length-append}
use Rattle.std.proofs.lemmas.List.{drop-append-le, drop-drop, drop-take, drop_at, length-drop, length-map, length-take-le, take-append-le, take-take, take_at}
use Rattle.std.proofs.Math.Seq.{take-append-add}
use Rattle.core_types.specs.declared.outcome.Val.{Val}
use Rattle.cells.specs.Cells.{cell_of}
use Rattle.simulation.specs.Outcomes.{operand_cells}
use Rattle.interpreter.specs.Layout.{without_scrap}
use Rattle.interpreter.proofs.Cells.{take-frame}
use Rattle.exec.specs.Hosting.{with_results}

-- After a part of a list.
take-behind : (A B : List ℕ) (j n : ℕ) → length A ≡ j → take (j + n) (A ++ B) ≡ A ++ take n B
take-behind A B j n is = subst (λ (k : ℕ). take (k + n) (A ++ B) ≡ A ++ take n B) is (take-append-add A B n)

module _ (cells : List ℕ) (first : ℕ) (values : List Val) (room : first + length values ≤ length cells) where
  abbrev new : List ℕ
  new = with_results cells first values

  abbrev given : List ℕ
  given = map cell_of values

  abbrev others : List ℕ
  others = drop (first + length values) cells

  first-size : length (take first cells) ≡ first
  first-size = length-take-le first cells (omega (arith, room))

  pub results-size : length new ≡ length cells
  results-size =
      let one = length-append (take first cells) (given ++ others) in
      let two = length-append given others in
      let three = length-map values cell_of in
      let four = length-drop (first + length values) cells in
      omega (arith, one, two, three, four, first-size, room)

  -- The cells below are unchanged.
  pub results-below : (n : ℕ) → n ≤ first → take n new ≡ take n cells
  results-below n le = take-append-le n (take first cells) (given ++ others) (omega (arith, le, first-size)) ∙ take-take n first cells le

  -- In the frame, the results are on what was below the arguments.
  module _ (locals base height : ℕ) (first_is : first ≡ base + suc height) (above : locals ≤ height) where
    abbrev from : ℕ
    from = suc (base + locals)

    abbrev j : ℕ
    j = height - locals

    from-first : first ≡ from + j
    from-first = omega (arith, first_is, above)

    locals-same : take locals (drop base new) ≡ take locals (drop base cells)
    locals-same = sym (drop-take base locals new) ∙ ap (drop base) (results-below (base + locals) (omega (arith, first_is, above))) ∙ drop-take base locals cells

    lower-size : length (take j (drop from cells)) ≡ j
    lower-size = length-take-le j (drop from cells) (let size = length-drop from cells in omega (arith, size, first_is, above, room))

    operands-new : drop from new ≡ take j (drop from cells) ++ (given ++ others)
    operands-new =
        drop-append-le from (take first cells) (given ++ others) (omega (arith, first-size, first_is, above))
        ∙ ap (λ (z : List ℕ). z ++ (given ++ others)) (ap (λ (n : ℕ). drop from (take n cells)) from-first ∙ drop-take from j cells)

    operands-taken : take (j + length values) (drop from new) ≡ take j (drop from cells) ++ given
    operands-taken =
        ap (take (j + length values)) operands-new
        ∙ take-behind (take j (drop from cells)) (given ++ others) j (length values) lower-size
        ∙ ap (λ (z : List ℕ). take j (drop from cells) ++ z) (take_at given others (length values) (length-map values cell_of))

    pub results-on-top : take (height + length values) (without_scrap locals base new) ≡ take height (without_scrap locals base cells) ++ given
    results-on-top =
        let sum : height + length values ≡ locals + (j + length values) = omega (arith, above) in
        let part : locals + j ≡ height = omega (arith, above) in
        let size = results-size in
        ap (λ (n : ℕ). take n (without_scrap locals base new)) sum
        ∙ take-frame locals base new (omega (arith, size, first_is, above, room)) (j + length values)
        ∙ ap (λ (z : List ℕ). z ++ take (j + length values) (drop from new)) locals-same
        ∙ ap (λ (z : List ℕ). take locals (drop base cells) ++ z) operands-taken
        ∙ sym (append_assoc (take locals (drop base cells)) (take j (drop from cells)) given)
        ∙ ap (λ (z : List ℕ). z ++ given) (sym (take-frame locals base cells (omega (arith, first_is, above, room)) j) ∙ ap (λ (n : ℕ). take n (without_scrap locals base cells)) part)

-- The operands of a frame, in their cells.
pub operands-there : (locals base : ℕ) (cells : List ℕ) (height many first : ℕ) → base + locals ≤ length cells → many ≤ height → first ≡ base + suc (height - many) → locals ≤ height - many
    → operand_cells (without_scrap locals base cells) height many ≡ take many (drop first cells)
operands-there locals base cells height many first inside few is above =
    let own = take locals (drop base cells) in
    let from = suc (base + locals) in
    let parts : height - many ≡ locals + (height - many - locals) = omega (arith, above) in
    let own_is : length own ≡ locals = length-take-le locals (drop base cells) (let size = length-drop base cells in omega (arith, size, inside)) in
    ap (take many)
    (ap (λ (n : ℕ). drop n (own ++ drop from cells)) parts
    ∙ sym (drop-drop (height - many - locals) locals (own ++ drop from cells))
    ∙ ap (drop (height - many - locals)) (drop_at own (drop from cells) locals own_is)
    ∙ drop-drop (height - many - locals) from cells
    ∙ ap (λ (n : ℕ). drop n cells) (omega (arith, is, above)))
