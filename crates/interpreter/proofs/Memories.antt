-- Instructions on the contents of the store, on the machine.
use Rattle.std.proofs.Common.{◌≡◌, ℕ, ◌+◌, ◌-◌, ◌<◌, ◌≤◌, List, length, get_or, refl, ap, sym, subst, ◌∙◌, arith}
use Rattle.std.specs.Prelude.{Result, Ok, Err}
use Rattle.core_types.specs.declared.op.LoadOp.{LoadOp}
use Rattle.core_types.specs.declared.op.MemoryOp.TheVariants as memory
use Rattle.core_types.specs.declared.op.PlainOp.TheVariants.{Memory, Reference, Variable}
use Rattle.core_types.specs.declared.op.ReferenceOp.TheVariants.{Func}
use Rattle.core_types.specs.declared.op.StoreOp.{StoreOp}
use Rattle.core_types.specs.declared.op.VariableOp.TheVariants.{GlobalGet, GlobalSet}
use Rattle.core_types.specs.declared.outcome.Trap.{Trap}
use Rattle.core_types.specs.declared.types.Mutability.TheVariants.{Var}
use Rattle.core_types.specs.declared.types.ValType.TheVariants.{I32}
use Rattle.meaning.specs.execution.Memories.{MemoryInstance, load_from, store_into}
use Rattle.meaning.specs.validation.Instructions.{store_width}
use Rattle.meaning.specs.execution.Store.{GlobalInstance}
use Rattle.cells.specs.Cells.{IsCellOf, cell_of}
use Rattle.sidetable.specs.Counts.{counts}
use Rattle.sidetable.specs.Flat.{Plain, at_offset}
use Rattle.simulation.specs.Memories.{HasMemory, IsStored}
use Rattle.simulation.specs.Runs.{Ghost}
use Rattle.simulation.proofs.Instructions.{refers-to-function}
use Rattle.simulation.proofs.Memories.{loads-number, measures-memory, stores-number}
use Rattle.simulation.proofs.Variables.{gets-global, sets-global}
use Rattle.store.specs.State.{global_of}
use Rattle.interpreter.specs.Running.{IsDear, Machine, Pays, RunsAt, cells_in, height_in}
use Rattle.interpreter.specs.Operations.{Costs, IsWritten, Reads, Writes, function_address, global_address, popped, pushed, second_of, with_global_cell}
use Rattle.interpreter.specs.Worlds.{World, store_in}
use Rattle.interpreter.proofs.Forms.{HasOwn, IsAt, answers, inside, kept, pops, pushes, takes, topmost, under}
use Rattle.interpreter.proofs.Worlds.{GlobalThere, function-there, global-there, memory-there, with-global, with-memory}

module _ (w : World) (m : Machine) (g : Ghost) (r : RunsAt w m g) where
  -- ---- a memory

  pub loads-there : (op : LoadOp) (offset : ℕ) → IsAt m g (Plain (Memory (memory.Load op (at_offset offset)))) → (HasOwn g m 1 × IsCellOf I32 m.operand) × Reads w m g op offset
  loads-there op offset b =
      let (address, found, has_memory, one, within, is_cell, loads, dear) = loads-number g (cells_in g m) m.place (height_in m) op offset b in
      let some : HasOwn g m 1 = takes w m g r (Memory (memory.Load op (at_offset offset))) (counts 1 1) refl (omega arith) b in
      let few = some.0 in
      let read = topmost w m g r 1 (omega arith) few in
      let (at, is) = memory-there w m g r address found has_memory in (
        (some, subst (IsCellOf I32) read is_cell),
        (
          λ result loaded. answers w m g r 1 (omega arith) few m.top (omega arith) result
              (loads result (ap (λ (x : MemoryInstance). load_from op x.bytes (get_or (cells_in g m) (height_in m - 1) 0 + offset)) is ∙ ap
              (λ (n : ℕ). load_from op w.bytes (n + offset)) read ∙ loaded)),
          dear,
        ),
      )

  -- The memory has a result's bytes afterwards.
  stored : (few : m.base + g.code.locals + 2 ≤ m.top) (address : ℕ) (found : MemoryInstance) → HasMemory g address found
      → (result : Result (List ℕ) Trap) → IsStored g address found (cells_in g m) m.place (height_in m) result → IsWritten w m g result
  stored few address found has_memory (Ok bytes) s = pops w m g r 2 (omega arith) few (record w { bytes = bytes }) (m.place + 1)
      (kept w m g r _ (record w { bytes = bytes }) (with-memory w m g r address found has_memory bytes) (cells_in g m) (height_in m - 2) refl s)
  stored few address found has_memory (Err trap) s = s

  pub stores-there : (op : StoreOp) (offset : ℕ) → IsAt m g (Plain (Memory (memory.Store op (at_offset offset)))) → (HasOwn g m 2 × IsCellOf I32 (second_of m)) × Writes w m g op offset
  stores-there op offset b =
      let (address, found, has_memory, two, within, is_cell, value_is_cell, stores, dear) = stores-number g (cells_in g m) m.place (height_in m) op offset b in
      let some : HasOwn g m 2 = takes w m g r (Memory (memory.Store op (at_offset offset))) (counts 2 0) refl (omega arith) b in
      let few = some.0 in
      let first = under w m g r 2 (omega arith) few (omega arith) (m.top - 1) (omega (arith, few)) in
      let second = topmost w m g r 2 (omega arith) few in
      let (at, is) = memory-there w m g r address found has_memory in (
        (some, subst (IsCellOf I32) first is_cell),
        (
          λ result written. stored few address found has_memory result
              (stores result
              (ap (λ (x : MemoryInstance). store_into x.bytes (get_or (cells_in g m) (height_in m - 2) 0 + offset) (store_width op) (get_or (cells_in g m) (height_in m - 1) 0)) is
              ∙ ap (λ (n : ℕ). store_into w.bytes (n + offset) (store_width op) (get_or (cells_in g m) (height_in m - 1) 0)) first
              ∙ ap (λ (n : ℕ). store_into w.bytes (second_of m + offset) (store_width op) n) second ∙ written)),
          dear,
        ),
      )

  pub measures-there : IsAt m g (Plain (Memory memory.Size)) → (m.top < length m.cells) × Costs w m g (pushed m w.limits.min)
  measures-there b =
      let (address, found, has_memory, room, put, dear) = measures-memory g (cells_in g m) m.place (height_in m) b in
      let (at, is) = memory-there w m g r address found has_memory in
      (inside w m g r, (pushes w m g r found.limits.min w.limits.min (ap (λ (x : MemoryInstance). x.limits.min) (sym is)) room put, dear))

  -- ---- globals and functions

  pub gets-global-there : (x : ℕ) → IsAt m g (Plain (Variable (GlobalGet x)))
      → ((m.top < length m.cells) × (x < length w.instance.addresses.globals.items) × (global_address w x < length w.state.contents.globals))
      × Costs w m g (pushed m (cell_of (global_of w.state (global_address w x)).value))
  gets-global-there x b =
      let (address, global, has_global, room, put, dear) = gets-global g (cells_in g m) m.place (height_in m) x b in
      let h : GlobalThere w m g r x address global = global-there w m g r x address global has_global in (
        (inside w m g r, h.named, h.inside),
        (pushes w m g r (cell_of global.value) _ (ap (λ (y : GlobalInstance). cell_of y.value) h.global_is) room put, dear),
      )

  pub sets-global-there : (x : ℕ) → IsAt m g (Plain (Variable (GlobalSet x)))
      → (HasOwn g m 1 × (x < length w.instance.addresses.globals.items) × (global_address w x < length w.state.contents.globals)
      × ((global_of w.state (global_address w x)).ty.mutability ≡ Var) × IsCellOf (global_of w.state (global_address w x)).ty.value m.operand)
      × (Pays g m (with_global_cell w (global_address w x) m.operand) (popped m 1) × IsDear g m)
  sets-global-there x b =
      let (address, global, has_global, mutable, one, within, is_cell, keeps, dear) = sets-global g (cells_in g m) m.place (height_in m) x b in
      let h : GlobalThere w m g r x address global = global-there w m g r x address global has_global in
      let some : HasOwn g m 1 = takes w m g r (Variable (GlobalSet x)) (counts 1 0) refl (omega arith) b in
      let few = some.0 in
      let read = topmost w m g r 1 (omega arith) few in
      let w' : World = with_global_cell w (global_address w x) m.operand in (
        (
          some,
          h.named,
          h.inside,
          ap (λ (y : GlobalInstance). y.ty.mutability) h.global_is ∙ mutable,
          subst (λ (y : GlobalInstance). IsCellOf y.ty.value m.operand) (sym h.global_is) (subst (IsCellOf global.ty.value) read is_cell),
        ),
        (
          pops w m g r 1 (omega arith) few w' (m.place + 1)
              (kept w m g r _ w' (with-global w m g r x address global h (get_or (cells_in g m) (height_in m - 1) 0) ∙ ap
              (λ (c : ℕ). store_in (with_global_cell w (global_address w x) c)) read) (cells_in g m) (height_in m - 1) refl keeps),
          dear,
        ),
      )

  pub refers-there : (x : ℕ) → IsAt m g (Plain (Reference (Func x))) → ((m.top < length m.cells) × (x < length w.instance.addresses.functions.items))
      × Costs w m g (pushed m (function_address w x + 1))
  refers-there x b =
      let (address, at, room, put, dear) = refers-to-function g (cells_in g m) m.place (height_in m) x b in
      let (named, is) = function-there w m g r x address at in
      ((inside w m g r, named), (pushes w m g r (address + 1) _ (ap (λ (a : ℕ). a + 1) is) room put, dear))
