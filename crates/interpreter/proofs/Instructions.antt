-- Instructions on operands and locals, on the machine.
use Rattle.std.proofs.Common.{◌≡◌, ℕ, suc, ◌+◌, ◌-◌, ◌<◌, List, length, take, set, get_or, refl, ap, sym, ◌∙◌, arith}
use Rattle.std.proofs.lemmas.List.{length-set, take-set-le}
use Rattle.std.proofs.Math.Seq.{take-set-lt}
use Rattle.core_types.specs.declared.op.ControlOp.TheVariants as control
use Rattle.core_types.specs.declared.op.ParametricOp.TheVariants.{DropOperand, Select}
use Rattle.core_types.specs.declared.op.PlainOp.TheVariants as plain
use Rattle.core_types.specs.declared.op.ReferenceOp.TheVariants as reference
use Rattle.core_types.specs.declared.op.VariableOp.TheVariants.{LocalGet, LocalSet, LocalTee}
use Rattle.core_types.specs.declared.outcome.Trap.TheVariants.{Unreachable}
use Rattle.core_types.specs.declared.types.RefType.{RefType}
use Rattle.sidetable.specs.Counts.{counts}
use Rattle.sidetable.specs.Flat.{Plain}
use Rattle.simulation.specs.Runs.{Ghost}
use Rattle.simulation.proofs.Instructions.{always-fails, does-nothing, drops, puts-null, selects, tests-null}
use Rattle.simulation.proofs.Numbers.{puts-i32, puts-i64}
use Rattle.simulation.proofs.Variables.{gets-local, sets-local, tees-local}
use Rattle.interpreter.specs.Layout.{put_back, without_scrap}
use Rattle.interpreter.specs.Running.{IsDear, Machine, Pays, RunsAt, Traps, cells_in, height_in}
use Rattle.interpreter.specs.Operations.{Costs, lowered, popped, pushed, replaced, second_of, third_of, with_local}
use Rattle.interpreter.specs.Worlds.{World}
use Rattle.interpreter.proofs.Cells.{local-cell, local-put_back, local-set, popped-frame}
use Rattle.interpreter.proofs.Forms.{HasOwn, IsAt, charged, inside, kept, lower, pays, pops, pushes, puts, stays, takes, topmost, under}

module _ (w : World) (m : Machine) (g : Ghost) (r : RunsAt w m g) where
  -- ---- control and parametric instructions

  pub does-nothing-there : IsAt m g (Plain (plain.Control control.Nop)) → Costs w m g (record m { place = m.place + 1 })
  does-nothing-there b =
      let c = does-nothing g (cells_in g m) m.place (height_in m) b in
      (stays w m g r (m.place + 1) (charged w m g r (m.place + 1) (height_in m) (suc m.place) (omega arith) c), c.1)

  pub fails-there : IsAt m g (Plain (plain.Control control.Unreachable)) → Traps g m Unreachable × IsDear g m
  fails-there b = always-fails g (cells_in g m) m.place (height_in m) b

  pub drops-there : IsAt m g (Plain (plain.Parametric DropOperand)) → HasOwn g m 1 × Costs w m g (popped m 1)
  drops-there b =
      let (one, within, keeps, dear) = drops g (cells_in g m) m.place (height_in m) b in
      let some : HasOwn g m 1 = takes w m g r (plain.Parametric DropOperand) (counts 1 0) refl (omega arith) b in
      (some, (pops w m g r 1 (omega arith) some.0 w (m.place + 1) (kept w m g r g.store w r.store (cells_in g m) (height_in m - 1) refl keeps), dear))

  pub selects-there : IsAt m g (Plain (plain.Parametric Select))
      → HasOwn g m 3 × ((m.operand ≡ 0 → Pays g m w (lowered m 2 (second_of m))) × ((m.operand ≡ 0 → ⊥) → Pays g m w (lowered m 2 (third_of m))) × IsDear g m)
  selects-there b =
      let (three, is_cell, c, dear) = selects g (cells_in g m) m.place (height_in m) b in
      let some : HasOwn g m 3 = takes w m g r (plain.Parametric Select) (counts 3 1) refl (omega arith) b in
      let few = some.0 in
      let condition = topmost w m g r 3 (omega arith) few in (
        some,
        (
          λ z. puts w m g r 3 (omega arith) few (m.top - 2) (omega (arith, few)) (get_or (cells_in g m) (height_in m - 2) 0) (second_of m)
              (sym (under w m g r 2 (omega arith) (omega (arith, few)) (omega arith) (m.top - 1) (omega (arith, few)))) (c.2 (condition ∙ z)),
          λ n. puts w m g r 3 (omega arith) few (m.top - 2) (omega (arith, few)) (get_or (cells_in g m) (height_in m - 3) 0) (third_of m)
              (sym (under w m g r 3 (omega arith) few (omega arith) (m.top - 2) (omega (arith, few)))) (c.3 (λ z. n (sym condition ∙ z))),
          dear,
        ),
      )

  -- ---- constants and references

  pub puts-i32-there : (n : ℕ) → IsAt m g (Plain (plain.I32Const n)) → (m.top < length m.cells) × Costs w m g (pushed m n)
  puts-i32-there n b = let (room, put, dear) = puts-i32 n g (cells_in g m) m.place (height_in m) b in (inside w m g r, (pushes w m g r n n refl room put, dear))

  pub puts-i64-there : (n : ℕ) → IsAt m g (Plain (plain.I64Const n)) → (m.top < length m.cells) × Costs w m g (pushed m n)
  puts-i64-there n b = let (room, put, dear) = puts-i64 n g (cells_in g m) m.place (height_in m) b in (inside w m g r, (pushes w m g r n n refl room put, dear))

  pub puts-null-there : (ty : RefType) → IsAt m g (Plain (plain.Reference (reference.Null ty))) → (m.top < length m.cells) × Costs w m g (pushed m 0)
  puts-null-there ty b = let (room, put, dear) = puts-null ty g (cells_in g m) m.place (height_in m) b in (inside w m g r, (pushes w m g r 0 0 refl room put, dear))

  pub tests-null-there : IsAt m g (Plain (plain.Reference reference.IsNull))
      → (m.operand ≡ 0 → Pays g m w (replaced m 1)) × ((m.operand ≡ 0 → ⊥) → Pays g m w (replaced m 0)) × IsDear g m
  tests-null-there b =
      let (c, dear) = tests-null g (cells_in g m) m.place (height_in m) b in
      let some : HasOwn g m 1 = takes w m g r (plain.Reference reference.IsNull) (counts 1 1) refl (omega arith) b in
      let few = some.0 in
      let condition = topmost w m g r 1 (omega arith) few in (
        λ z. puts w m g r 1 (omega arith) few m.top (omega arith) 1 1 refl (c.2 (condition ∙ z)),
        λ n. puts w m g r 1 (omega arith) few m.top (omega arith) 0 0 refl (c.3 (λ z. n (sym condition ∙ z))),
        dear,
      )

  -- ---- locals

  pub gets-local-there : (x : ℕ) → IsAt m g (Plain (plain.Variable (LocalGet x))) → ((m.top < length m.cells) × (m.base + x < length m.cells))
      × Costs w m g (pushed m (get_or (set m.cells m.top m.operand) (m.base + x) 0))
  gets-local-there x b =
      let (mine, within, room, put, dear) = gets-local g (cells_in g m) m.place (height_in m) x b in
      let as_many = length-set m.cells m.top m.operand in
      let is = local-cell g.code.locals m.base (set m.cells m.top m.operand) (omega (arith, as_many, r.scrap)) x (omega (arith, mine, r.runs.holds.count)) in
      ((inside w m g r, omega (arith, mine, r.runs.holds.count, r.scrap)), (pushes w m g r (get_or (cells_in g m) x 0) _ (sym is) room put, dear))

  pub sets-local-there : (x : ℕ) → IsAt m g (Plain (plain.Variable (LocalSet x))) → (HasOwn g m 1 × (x < g.code.locals)) × Costs w m g (popped (with_local m x) 1)
  sets-local-there x b =
      let (one, within, mine, lower_down, keeps, dear) = sets-local x g (cells_in g m) m.place (height_in m) b in
      let some : HasOwn g m 1 = takes w m g r (plain.Variable (LocalSet x)) (counts 1 0) refl (omega arith) b in
      let few = some.0 in
      let own : x < g.code.locals = omega (arith, mine, r.runs.holds.count) in
      let read = topmost w m g r 1 (omega arith) few in
      let cells = set m.cells (m.base + x) m.operand in
      let same : take (height_in m - 1)
      (put_back g.code.locals m.base (set m.cells (m.base + x) m.operand) (m.top - 1) (get_or (set m.cells (m.base + x) m.operand) (m.top - 1) 0))
      ≡ take (height_in m - 1) (set (cells_in g m) x (get_or (cells_in g m) (height_in m - 1) 0)) =
      ap (take (height_in m - 1)) (popped-frame g.code.locals m.base cells (m.top - 1) ∙ local-set g.code.locals m.base m.cells r.scrap x m.operand own)
      ∙ take-set-lt (height_in m - 1) (without_scrap g.code.locals m.base m.cells) x m.operand lower_down
      ∙ ap (λ (z : List ℕ). set z x m.operand) (sym (lower w m g r 1 (omega arith) few))
      ∙ sym (take-set-lt (height_in m - 1) (cells_in g m) x m.operand lower_down)
      ∙ ap (λ (c : ℕ). take (height_in m - 1) (set (cells_in g m) x c)) (sym read) in (
        (some, own),
        (
          pays w m g r w cells (m.place + 1) (m.top - 1) _ (height_in m - 1) _
              (kept w m g r g.store w r.store _ (height_in m - 1) (length-set (cells_in g m) x _) keeps) (omega (arith, few)) (omega (arith, few)) same
              (length-set m.cells (m.base + x) m.operand) (take-set-le m.base m.cells (m.base + x) m.operand (omega arith)),
          dear,
        ),
      )

  pub tees-local-there : (x : ℕ) → IsAt m g (Plain (plain.Variable (LocalTee x))) → (HasOwn g m 1 × (x < g.code.locals)) × Costs w m g (record (with_local m x) { place = m.place + 1 })
  tees-local-there x b =
      let (one, within, mine, lower_down, keeps, dear) = tees-local x g (cells_in g m) m.place (height_in m) b in
      let some : HasOwn g m 1 = takes w m g r (plain.Variable (LocalTee x)) (counts 1 1) refl (omega arith) b in
      let few = some.0 in
      let own : x < g.code.locals = omega (arith, mine, r.runs.holds.count) in
      let same = local-put_back g.code.locals m.base m.cells r.scrap m.top m.operand x m.operand own r.low ∙ ap (set (cells_in g m) x) (sym (topmost w m g r 1 (omega arith) few)) in (
        (some, own),
        (
          pays w m g r w (set m.cells (m.base + x) m.operand) (m.place + 1) m.top m.operand (height_in m) _
              (kept w m g r g.store w r.store _ (height_in m) (length-set (cells_in g m) x _) keeps) (omega (arith, few)) (omega (arith, few))
              (ap (take (height_in m)) same)
              (length-set m.cells (m.base + x) m.operand) (take-set-le m.base m.cells (m.base + x) m.operand (omega arith)),
          dear,
        ),
      )
