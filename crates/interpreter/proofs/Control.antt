-- Control operations, on the machine.
use Rattle.std.proofs.Common.{◌≡◌, ℕ, suc, ◌+◌, ◌-◌, ◌<◌, ◌≤◌, List, length, set, get_or, refl, sym, subst, ◌∙◌, arith}
use Rattle.std.proofs.lemmas.List.{length-set, take-set-le}
use Rattle.sidetable.specs.Flat.{Br, BrIf, BrTable, Enter, If, Jump}
use Rattle.sidetable.specs.declared.operations.Entry.{Entry}
use Rattle.simulation.specs.Operations.{IsCharged, IsLanded}
use Rattle.simulation.specs.Runs.{Ghost, FrameReaches}
use Rattle.simulation.proofs.BranchTables.{branches-table}
use Rattle.simulation.proofs.Branches.{branches-if, branches-on}
use Rattle.simulation.proofs.Control.{enters}
use Rattle.simulation.proofs.Ifs.{chooses, jump-later, jumps-on}
use Rattle.interpreter.specs.Running.{ReachesForFree, IsDear, Machine, Pays, RunsAt, cells_in, height_in}
use Rattle.interpreter.specs.Operations.{Costs, HasKept, Lands, popped}
use Rattle.interpreter.specs.Worlds.{World}
use Rattle.interpreter.proofs.Forms.{HasOwn, IsAt, charged, has-operands, inside, lands, lower, pops, stays, topmost}
use Rattle.interpreter.proofs.Operands.{charged-low, condition-low, either-way}

module _ (w : World) (m : Machine) (g : Ghost) (r : RunsAt w m g) where
  pub enters-there : IsAt m g Enter → Costs w m g (record m { place = m.place + 1 })
  enters-there b =
      let c = enters g (cells_in g m) m.place (height_in m) b in
      (stays w m g r (m.place + 1) (charged w m g r (m.place + 1) (height_in m) (suc m.place) (omega arith) c), c.1)

  pub jumps-there : (e : Entry) → IsAt m g (Jump e) → (m.place < e.target) × ReachesForFree g m w (record m { place = e.target })
  jumps-there e b = (
    jump-later g (cells_in g m) m.place (height_in m) e b,
    λ fuel. record {
      leads = subst (λ s. FrameReaches g fuel s (cells_in g m) e.target (height_in m) fuel) r.store (jumps-on g (cells_in g m) m.place (height_in m) e b fuel);
      low = r.low;
      size = refl;
      below = refl;
    },
  )

  -- With a condition on top.
  module _ (few : m.base + g.code.locals + 1 ≤ m.top) where
    -- The condition is popped.
    falls : (place next_at : ℕ) → place ≡ next_at → IsCharged g (cells_in g m) m.place (height_in m) next_at (height_in m - 1) → Pays g m w (record (popped m 1) { place = place })
    falls place next_at is c = pops w m g r 1 (omega arith) few w place (charged w m g r place (height_in m - 1) next_at is c)

    -- Operands are moved down from below the condition.
    falls-to : (e : Entry) → IsLanded g (cells_in g m) m.place (height_in m) (height_in m - 1) e → Lands w m g m.cells (m.top - 1) e
    falls-to e l = lands w m g r m.cells (m.top - 1) (height_in m - 1) e l (lower w m g r 1 (omega arith) few) refl refl (omega (arith, few)) (omega (arith, inside w m g r))

    kept-below : (e : Entry) → IsLanded g (cells_in g m) m.place (height_in m) (height_in m - 1) e → HasKept m (m.top - 1) e
    kept-below e l = omega (arith, l.0, r.runs.holds.count, few)

    -- What was shown for its cell is shown for the topmost operand.
    condition : get_or (cells_in g m) (height_in m - 1) 0 ≡ m.operand
    condition = topmost w m g r 1 (omega arith) few

  pub chooses-there : (e : Entry) → IsAt m g (If e)
      → HasOwn g m 1 × ((m.operand ≡ 0 → Pays g m w (record (popped m 1) { place = e.target })) × ((m.operand ≡ 0 → ⊥) → Pays g m w (popped m 1)) × IsDear g m)
  chooses-there e b =
      let c = chooses g (cells_in g m) m.place (height_in m) e b in
      let Zero : Type 0 = IsCharged g (cells_in g m) m.place (height_in m) e.target (height_in m - 1) in
      let Other : Type 0 = IsCharged g (cells_in g m) m.place (height_in m) (suc m.place) (height_in m - 1) in
      let some : HasOwn g m 1 = has-operands w m g r 1
      (condition-low g (cells_in g m) m.place (height_in m) b.runs e.target Other
      (charged-low g (cells_in g m) m.place (height_in m) b.runs (suc m.place) (height_in m - 1)) c) (omega arith) in
      let few = some.0 in (
        some,
        (
          λ z. falls few e.target e.target refl (c.2 (condition few ∙ z)),
          λ n. falls few (m.place + 1) (suc m.place) (omega arith) (c.3 (λ z. n (sym (condition few) ∙ z))),
          either-way g (cells_in g m) m.place (height_in m) Zero Other (IsDear g m) c (λ z. z.1) (λ o. o.1),
        ),
      )

  pub branches-if-there : (e : Entry) → IsAt m g (BrIf e)
      → (HasOwn g m 1 × ((m.operand ≡ 0 → ⊥) → HasKept m (m.top - 1) e))
      × ((m.operand ≡ 0 → Pays g m w (popped m 1)) × ((m.operand ≡ 0 → ⊥) → Lands w m g m.cells (m.top - 1) e) × IsDear g m)
  branches-if-there e b =
      let c = branches-if g (cells_in g m) m.place (height_in m) e b in
      let Zero : Type 0 = IsCharged g (cells_in g m) m.place (height_in m) (suc m.place) (height_in m - 1) in
      let Other : Type 0 = IsLanded g (cells_in g m) m.place (height_in m) (height_in m - 1) e in
      let some : HasOwn g m 1 = has-operands w m g r 1 (condition-low g (cells_in g m) m.place (height_in m) b.runs (suc m.place) Other (λ l. omega (arith, l.0)) c) (omega arith) in
      let few = some.0 in (
        (some, λ n. kept-below few e (c.3 (λ z. n (sym (condition few) ∙ z)))),
        (
          λ z. falls few (m.place + 1) (suc m.place) (omega arith) (c.2 (condition few ∙ z)),
          λ n. falls-to few e (c.3 (λ z. n (sym (condition few) ∙ z))),
          either-way g (cells_in g m) m.place (height_in m) Zero Other (IsDear g m) c (λ z. z.1) (λ l. l.3),
        ),
      )

  pub branches-there : (e : Entry) → IsAt m g (Br e) → ((m.top < length m.cells) × HasKept m m.top e) × (Lands w m g (set m.cells m.top m.operand) m.top e × IsDear g m)
  branches-there e b =
      let l : IsLanded g (cells_in g m) m.place (height_in m) (height_in m) e = branches-on g (cells_in g m) m.place (height_in m) e b in
      let as_many = length-set m.cells m.top m.operand in (
        (inside w m g r, omega (arith, l.0, r.runs.holds.count, r.low)),
        (
          lands w m g r (set m.cells m.top m.operand) m.top (height_in m) e l refl as_many
              (take-set-le m.base m.cells m.top m.operand (omega (arith, r.low))) (omega (arith, r.low)) (omega (arith, as_many, inside w m g r)),
          l.3,
        ),
      )

  pub branches-by-table-there : (es : List Entry) (e : Entry) → IsAt m g (BrTable es e)
      → (HasOwn g m 1 × HasKept m (m.top - 1) (get_or es m.operand e)) × (Lands w m g m.cells (m.top - 1) (get_or es m.operand e) × IsDear g m)
  branches-by-table-there es e b =
      let c = branches-table g (cells_in g m) m.place (height_in m) es e b in
      let some : HasOwn g m 1 = has-operands w m g r 1 (omega (arith, c.0, c.2.0)) (omega arith) in
      let few = some.0 in
      let l : IsLanded g (cells_in g m) m.place (height_in m) (height_in m - 1) (get_or es m.operand e) = subst
      (λ (n : ℕ). IsLanded g (cells_in g m) m.place (height_in m) (height_in m - 1) (get_or es n e)) (condition few) c.2 in
      ((some, kept-below few (get_or es m.operand e) l), (falls-to few (get_or es m.operand e) l, l.3))
