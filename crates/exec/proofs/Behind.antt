-- What an instruction's outcome in its frame means for the machine.
use Rattle.std.proofs.Common.{◌≡◌, ℕ, suc, ◌+◌, ◌-◌, ◌<◌, ◌≤◌, List, ◌++◌, length, map, take, set, ap, sym, subst, ◌∙◌, arith}
use Rattle.std.proofs.lemmas.List.{append-nil, length-map, length-set, take-set-le}
use Rattle.std.specs.Prelude.{Option, Some, None, reverse}
use Rattle.core_types.specs.declared.outcome.Val.{Val}
use Rattle.meaning.specs.execution.Store.{Store}
use Rattle.cells.specs.Cells.{cell_of}
use Rattle.simulation.specs.Outcomes.{IsMade}
use Rattle.simulation.specs.Piles.{cells_of}
use Rattle.simulation.specs.Runs.{Ghost, FrameReaches}
use Rattle.effects.specs.Outcomes.{AreInCell}
use Rattle.interpreter.specs.Running.{MachineReaches, Machine, RunsAt, cells_in, height_in}
use Rattle.interpreter.specs.Worlds.{World, store_in}
use Rattle.interpreter.proofs.Cells.{frame-length, popped-frame, to-top}
use Rattle.exec.specs.Instructions.{HasRoom, operand_behind, top_behind}

module _ (w : World) (m : Machine) (g : Ghost) (r : RunsAt w m g) (taken : ℕ) (low : m.base + g.code.locals + taken ≤ m.top) where
  abbrev spilled : List ℕ
  spilled = set m.cells m.top m.operand

  spilled-size : length spilled ≡ length m.cells
  spilled-size = length-set m.cells m.top m.operand

  -- The machine after the instruction, with its result, if it has one.
  abbrev pub machine_behind : Option ℕ → Machine
  machine_behind result = record m { cells = spilled; place = m.place + 1; top = top_behind m.top taken result; operand = operand_behind spilled m.top taken result }

  abbrev below : ℕ
  below = height_in m - taken

  -- The frame's cells after the instruction: those below its operands, and that of its result.
  behind : (results : List Val) (result : Option ℕ) → AreInCell results result → HasRoom m taken result
      → (take (height_in (machine_behind result)) (cells_in g (machine_behind result)) ≡ take below (cells_in g m) ++ cells_of results)
      × (length (cells_in g (machine_behind result)) ≡ length (cells_in g m))
      × (height_in (machine_behind result) ≡ below + length results)
      × (m.base + g.code.locals ≤ (machine_behind result).top)
  behind results None none room =
      let height : m.top - taken - m.base ≡ below = omega (arith, low) in
      let many : length results ≡ 0 = ap (λ (z : List Val). length z) none in
      let same = popped-frame g.code.locals m.base spilled (m.top - taken) in (
        ap (λ (n : ℕ). take n (cells_in g (machine_behind None))) height
            ∙ ap (take below) same
            ∙ sym (append-nil (take below (cells_in g m)))
            ∙ ap (λ (z : List Val). take below (cells_in g m) ++ cells_of z) (sym none),
        ap (λ (z : List ℕ). length z) same,
        omega (arith, height, many),
        omega (arith, low),
      )
  behind results (Some cell) one room =
      let height : m.top - taken + 1 - m.base ≡ suc below = omega (arith, low) in
      let mapped : length (map cell_of results) ≡ length results = length-map results cell_of in
      let many : length (map cell_of results) ≡ 1 = ap (λ (z : List ℕ). length z) one in
      let scrap : m.base + g.code.locals < length spilled = omega (arith, spilled-size, r.scrap) in
      let written = length-set spilled (m.top - taken + 1) cell in
      let size = frame-length g.code.locals m.base spilled scrap in
      let size' = frame-length g.code.locals m.base (set spilled (m.top - taken + 1) cell) (omega (arith, written, scrap)) in (
        ap (λ (n : ℕ). take n (cells_in g (machine_behind (Some cell)))) height
            ∙ to-top g.code.locals m.base spilled scrap below (m.top - taken + 1) cell (omega (arith, low)) (omega (arith, low)) (omega (arith, spilled-size, room))
            ∙ ap (λ (z : List ℕ). take below (cells_in g m) ++ reverse z) (sym one),
        omega (arith, size, size', written),
        omega (arith, height, many, mapped),
        omega (arith, low),
      )

  -- It continues there, in the store that the outcome has.
  pub goes-on : (cost : ℕ) (store' : Store) (results : List Val) (result : Option ℕ) → AreInCell results result → HasRoom m taken result → IsMade g cost store' (cells_in g m) m.place below results
      → (w' : World) → store' ≡ store_in w' → (fuel left : ℕ) → cost ≤ fuel → left ≡ fuel - cost → MachineReaches g m fuel w' (machine_behind result) left
  goes-on cost store' results result are room made w' store_is fuel left enough left_is =
      let (cells, size, height, low') = behind results result are room in record {
        leads = subst (λ (s : Store). FrameReaches g fuel s (cells_in g (machine_behind result)) (m.place + 1) (height_in (machine_behind result)) left) store_is
            (made (cells_in g (machine_behind result)) (m.place + 1) (height_in (machine_behind result)) fuel left cells size (omega arith) height enough left_is);
        low = low';
        size = spilled-size;
        below = take-set-le m.base m.cells m.top m.operand (omega (arith, low));
      }
