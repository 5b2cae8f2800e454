-- Results of a frame that are moved to the cells of the waiting one.
use Rattle.std.proofs.Common.{◌≡◌, ℕ, suc, ◌+◌, ◌-◌, ◌<◌, ◌≤◌, List, ◌++◌, length, map, take, drop, set, ap, sym, subst, ◌∙◌, arith, append_assoc}
use Rattle.std.proofs.lemmas.List.{length-set, length-take-le, take-append-le, take-set-le, take-take}
use Rattle.core_types.specs.declared.outcome.Val.{Val}
use Rattle.cells.specs.Cells.{cell_of}
use Rattle.simulation.specs.Piles.{cells_of}
use Rattle.simulation.specs.Runs.{Ghost}
use Rattle.simulation.specs.Standing.{under, values_under}
use Rattle.simulation.proofs.Cells.{cells-joined}
use Rattle.simulation.proofs.Typed.{all-length}
use Rattle.store.specs.Contents.{Contents}
use Rattle.interpreter.specs.Callers.{Caller, CallerStands}
use Rattle.interpreter.specs.Layout.{AreMoved, put_back, without_scrap}
use Rattle.interpreter.specs.Running.{Machine, RunsAt, cells_in, height_in}
use Rattle.interpreter.specs.Worlds.{World}
use Rattle.interpreter.specs.declared.machine.Frame.{Frame}
use Rattle.interpreter.proofs.Forms.{inside}
use Rattle.interpreter.proofs.Moves.{drop-frame, frame-taken, moved-below, moved-frame}
use Rattle.interpreter.proofs.Parting.{above-parted}

-- The number of operands of a waiting frame.
abbrev pub held_values : Caller → ℕ
held_values c = length c.values + under c.labels

module _ (w : World) (m : Machine) (h : Ghost) (r : RunsAt w m h) (n : ℕ) (enough : n ≤ length h.values) where
  abbrev put : List ℕ
  put = set m.cells m.top m.operand

  put-size : length put ≡ length m.cells
  put-size = length-set m.cells m.top m.operand

  pub results-low : m.base + h.code.locals + n ≤ m.top
  results-low = omega (arith, r.runs.holds.top_is, r.low, r.runs.holds.count, enough)

  -- The topmost values are on top.
  pub results-lie : take n (drop (m.top + 1 - n) put) ≡ cells_of (take n h.values)
  results-lie =
      let j = height_in m - n - h.code.locals in
      let over : height_in m - n ≡ h.code.locals + j = omega (arith, results-low) in
      let at : suc (m.base + h.code.locals) + j ≡ m.top + 1 - n = omega (arith, results-low) in
      let all = all-length h.values h.labels in
      ap (λ (i : ℕ). take n (drop i put)) (sym at)
      ∙ ap (take n) (sym (drop-frame h.code.locals m.base put (omega (arith, put-size, r.scrap)) j))
      ∙ ap (λ (i : ℕ). take n (drop i (cells_in h m))) (sym over)
      ∙ above-parted (cells_in h m) (height_in m) h.locals (h.values ++ values_under h.labels) n r.runs.holds.held (omega (arith, r.runs.holds.top_is, all)) (omega (arith, enough, all))
      ∙ ap cells_of (take-append-le n h.values (values_under h.labels) enough)

  -- In the frame that waits.
  module _ (code : Contents) (frame : Frame) (c : Caller) (arity : ℕ) (stands : CallerStands code (length m.cells) frame c arity (take m.base m.cells)) where
    below-size : length (take m.base m.cells) ≡ m.base
    below-size = length-take-le m.base m.cells (omega (arith, r.low, inside w m h r))

    pub base-is : m.base ≡ suc (frame.base + c.code.locals) + held_values c
    base-is = omega (arith, stands.high, below-size)

    to-is : m.base - 1 ≡ frame.base + c.code.locals + held_values c
    to-is = omega (arith, base-is)

    -- The cells of the waiting frame.
    pub caller-held : take (c.code.locals + held_values c) (without_scrap c.code.locals frame.base put) ≡ map cell_of c.locals ++ cells_of (c.values ++ values_under c.labels)
    caller-held =
        frame-taken c.code.locals frame.base put (omega (arith, base-is, r.low, inside w m h r, put-size)) (held_values c)
        ∙ ap (without_scrap c.code.locals frame.base) (ap (λ (q : ℕ). take q put) (sym base-is) ∙ take-set-le m.base m.cells m.top m.operand (omega (arith, r.low)))
        ∙ stands.held

    module _ (cells' : List ℕ) (operand' : ℕ) (moved : AreMoved put m.top (m.base - 1) n cells' operand') where
      moved-there : AreMoved put m.top (frame.base + c.code.locals + held_values c) n cells' operand'
      moved-there = subst (λ (q : ℕ). AreMoved put m.top q n cells' operand') to-is moved

      pub same-size : length cells' ≡ length m.cells
      same-size = moved.size ∙ put-size

      -- The cells below it are unchanged.
      pub under-kept : take frame.base cells' ≡ take frame.base (take m.base m.cells)
      under-kept =
          moved-below c.code.locals frame.base put (omega (arith, base-is, r.low, inside w m h r, put-size)) m.top (held_values c) n cells' operand'
          (omega (arith, base-is, results-low)) (omega (arith, inside w m h r, put-size)) moved-there
          ∙ take-set-le frame.base m.cells m.top m.operand (omega (arith, base-is, r.low))
          ∙ sym (take-take frame.base m.base m.cells (omega (arith, base-is)))

      -- Its cells before, and the results on top.
      pub results-land : take (c.code.locals + held_values c + n)
          (put_back c.code.locals frame.base cells' (frame.base + c.code.locals + held_values c + n) operand')
          ≡ map cell_of c.locals ++ cells_of ((take n h.values ++ c.values) ++ values_under c.labels)
      results-land =
          let scrap : frame.base + c.code.locals < length put = omega (arith, base-is, r.low, inside w m h r, put-size) in
          let above : m.top ≡ frame.base + (m.top - frame.base) = omega (arith, base-is, r.low) in
          let j = m.top - frame.base - n - c.code.locals in
          let over : m.top - frame.base - n ≡ c.code.locals + j = omega (arith, base-is, results-low) in
          let at : suc (frame.base + c.code.locals) + j ≡ m.top + 1 - n = omega (arith, base-is, results-low) in
          let second : take n (drop (m.top - frame.base - n) (without_scrap c.code.locals frame.base put)) ≡ cells_of (take n h.values) =
          ap (λ (i : ℕ). take n (drop i (without_scrap c.code.locals frame.base put))) over
          ∙ ap (take n) (drop-frame c.code.locals frame.base put scrap j) ∙ ap (λ (i : ℕ). take n (drop i put)) at ∙ results-lie in
          moved-frame c.code.locals frame.base put scrap m.top (held_values c) n cells' operand' (omega (arith, base-is, results-low))
          (omega (arith, inside w m h r, put-size)) moved-there (m.top - frame.base) above
          ∙ ap (λ (z : List ℕ). z ++ take n (drop (m.top - frame.base - n) (without_scrap c.code.locals frame.base put))) caller-held
          ∙ ap (λ (z : List ℕ). (map cell_of c.locals ++ cells_of (c.values ++ values_under c.labels)) ++ z) second
          ∙ append_assoc (map cell_of c.locals) (cells_of (c.values ++ values_under c.labels)) (cells_of (take n h.values))
          ∙ ap (λ (z : List ℕ). map cell_of c.locals ++ z) (sym (cells-joined (take n h.values) (c.values ++ values_under c.labels)))
          ∙ ap (λ (vs : List Val). map cell_of c.locals ++ cells_of vs) (sym (append_assoc (take n h.values) c.values (values_under c.labels)))
