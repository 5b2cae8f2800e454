-- Loads, stores and the size of a memory: on values, and on their cells.
use Rattle.std.proofs.Common.{◌≡◌, ℕ, ◌+◌, ◌-◌, List, [], ◌∷◌, get_or, refl, ap, sym, subst, ◌∙◌}
use Rattle.std.specs.Prelude.{Option, Some, Result, Ok, Err}
use Rattle.core_types.specs.declared.op.LoadOp.{LoadOp}
use Rattle.core_types.specs.declared.op.MemArg.{MemArg}
use Rattle.core_types.specs.declared.op.MemoryOp.TheVariants as memory
use Rattle.core_types.specs.declared.op.PlainOp.{PlainOp}
use Rattle.core_types.specs.declared.op.PlainOp.TheVariants as plain
use Rattle.core_types.specs.declared.op.StoreOp.{StoreOp}
use Rattle.core_types.specs.declared.op.StoreOp.TheVariants as store
use Rattle.core_types.specs.declared.op.Width.TheVariants.{W32, W64}
use Rattle.core_types.specs.declared.outcome.Trap.{Trap}
use Rattle.core_types.specs.declared.outcome.Val.{Val}
use Rattle.core_types.specs.declared.outcome.Val.TheVariants.{I32}
use Rattle.core_types.specs.declared.types.ValType.{ValType}
use Rattle.core_types.specs.declared.types.ValType.TheVariants as ty
use Rattle.meaning.specs.execution.Configurations.{Frame}
use Rattle.meaning.specs.execution.Effects.{Effect, in_memory, push_read, push_result, store_number, write_memory}
use Rattle.meaning.specs.execution.Instructions.{continue_after, step_instruction}
use Rattle.meaning.specs.execution.Memories.{MemoryInstance, load_from, store_into, stored_number}
use Rattle.meaning.specs.validation.Instructions.{store_width, HasMemory as HasMemoryType, load_type, store_type}
use Rattle.meaning.specs.execution.Store.{Store, instance_of, with_memory}
use Rattle.meaning.specs.structure.Bodies.{Body}
use Rattle.meaning.specs.validation.Types.{function_type}
use Rattle.soundness.specs.Places.{context_at}
use Rattle.soundness.specs.Stores.{StoreIsValid}
use Rattle.soundness.proofs.Extension.{instance-valid, types-found}
use Rattle.sidetable.specs.Counts.{counts, counts_of}
use Rattle.sidetable.specs.Flat.{at_offset, without_annotations}
use Rattle.cells.specs.Cells.{value_of, value_of_result}
use Rattle.simulation.specs.Memories.{HasMemory, LoadsNumber, MeasuresMemory, StoresNumber, IsStored}
use Rattle.simulation.specs.Runs.{Ghost, frame_of, place_of}
use Rattle.simulation.proofs.Advances.{answers, goes-on, pushes}
use Rattle.simulation.proofs.Operands.{Operands, Popped, operands-here}
use Rattle.simulation.proofs.Plain.{AtPlain, CostsOne, at-plain, at-written, dear-here, fails-here, found, here}
use Rattle.simulation.proofs.Typed.{Inner, with_labels}

-- ---- how it was written

module _ (offset : ℕ) where
  module _ (op : LoadOp) where
    -- A load may have been written with any alignment.
    abbrev IsLoad : PlainOp → Type 0
    IsLoad written = (argument : MemArg) × (written ≡ plain.Memory (memory.Load op argument)) × (argument.offset ≡ offset)

    written-load : (written : PlainOp) → plain.Memory (memory.Load op (at_offset offset)) ≡ without_annotations written → IsLoad written
    written-load (plain.Memory (memory.Load other argument)) is =
        let same : op ≡ other = cc in
        let arguments : at_offset offset ≡ at_offset argument.offset = cc in
        (argument, ap (λ (o : LoadOp). plain.Memory (memory.Load o argument)) (sym same), sym (ap (λ (a : MemArg). a.offset) arguments))
    written-load other is = absurd cc

  module _ (op : StoreOp) where
    -- So may a store.
    abbrev IsStore : PlainOp → Type 0
    IsStore written = (argument : MemArg) × (written ≡ plain.Memory (memory.Store op argument)) × (argument.offset ≡ offset)

    written-store : (written : PlainOp) → plain.Memory (memory.Store op (at_offset offset)) ≡ without_annotations written → IsStore written
    written-store (plain.Memory (memory.Store other argument)) is =
        let same : op ≡ other = cc in
        let arguments : at_offset offset ≡ at_offset argument.offset = cc in
        (argument, ap (λ (o : StoreOp). plain.Memory (memory.Store o argument)) (sym same), sym (ap (λ (a : MemArg). a.offset) arguments))
    written-store other is = absurd cc

-- ---- the memory

-- The memory of the context exists.
pub memory-there : (g : Ghost) → StoreIsValid g.store → (carried : List (List ValType))
    → HasMemoryType (context_at g.store (with_labels (place_of g) carried)) → (address : ℕ) × (m : MemoryInstance) × HasMemory g address m
memory-there g valid carried (limits, has) =
    let (address, m, is, there, same) = types-found _ _ g.store.memories (instance_of g.store (Some g.instance)).memories 0 limits (instance-valid g.store valid (Some g.instance)).memories has in
    (address, m, rw (is, there) refl)

-- ---- loads

module _ (store : Store) (frame : Frame) (rest : Body) where
  read-costs : (result : Result Val Trap) (values : List Val) → CostsOne (continue_after frame (push_read store frame result values) rest)
  read-costs (Ok v) values = refl
  read-costs (Err trap) values = refl

  -- A number that was read is a result.
  read-number : (t : ValType) (result : Result ℕ Trap) (values : List Val) → push_read store frame (value_of_result t result) values ≡ push_result store frame (value_of t) result values
  read-number t (Ok n) values = refl
  read-number t (Err trap) values = refl

  write-costs : (address : ℕ) (m : MemoryInstance) (result : Result (List ℕ) Trap) (values : List Val) → CostsOne (continue_after frame (write_memory store frame 1 address m result values) rest)
  write-costs address m (Ok bytes) values = refl
  write-costs address m (Err trap) values = refl

pub loads-number : LoadsNumber
loads-number g cells at top op offset b =
    let (written, op_is, p₀) = at-written (plain.Memory (memory.Load op (at_offset offset))) g cells at top b in
    let (argument, written_is, offset_is) = written-load offset op written op_is in
    let o : PlainOp = plain.Memory (memory.Load op argument) in
    let p : AtPlain (plain.Memory (memory.Load op argument)) g cells at top = subst (λ (q : PlainOp). AtPlain q g cells at top) written_is p₀ in
    let f : Inner (here (plain.Memory (memory.Load op argument)) g cells at top p) = found o g cells at top p in
    let (operands, results, between, (has, aligned, type), frames, runs) = f.runs in
    let (address, m, located) = memory-there g p.runs.typed.valid f.carried has in
    let w : Operands (plain.Memory (memory.Load op argument)) g cells at top p (ty.I32 ∷ []) = operands-here o g cells at top p
    (function_type (ty.I32 ∷ []) (load_type op ∷ [])) (ty.I32 ∷ []) refl operands results between type f frames in
    let i : ℕ = get_or cells (top - 1) 0 in
    let step : step_instruction g.store (frame_of g) (plain.Memory (memory.Load op argument)) p.values p.rest
    ≡ continue_after (frame_of g) (push_read g.store (frame_of g) (load_from op m.bytes (get_or cells (top - 1) 0 + offset)) w.popped.others) p.rest =
    ap (λ (vs : List Val). step_instruction g.store (frame_of g) o vs p.rest) w.are
    ∙ ap (λ (found : Option (ℕ × MemoryInstance)). continue_after (frame_of g) (in_memory g.store (frame_of g) found (memory.Load op argument) (I32 i ∷ w.popped.others)) p.rest) located
    ∙ ap (λ (n : ℕ). continue_after (frame_of g) (push_read g.store (frame_of g) (load_from op m.bytes (i + n)) w.popped.others) p.rest) offset_is in (
      address,
      m,
      located,
      w.enough,
      w.inside,
      w.fits.0,
      λ result is. answers o g cells at top p 1 (top - 1) w.popped (load_type op) refl result
          (step ∙ ap (λ (r : Result Val Trap). continue_after (frame_of g) (push_read g.store (frame_of g) r w.popped.others) p.rest) is
          ∙ ap (λ (e : Effect). continue_after (frame_of g) e p.rest) (read-number g.store (frame_of g) p.rest (load_type op) result w.popped.others)),
      dear-here o g cells at top p (subst CostsOne (sym step) (read-costs g.store (frame_of g) p.rest (load_from op m.bytes (i + offset)) w.popped.others)),
    )

-- ---- stores

-- The number of a value of the instruction's type.
number-stored : (op : StoreOp) (n : ℕ) → stored_number op (value_of (store_type op) n) ≡ Some n
number-stored (store.Whole W32) n = refl
number-stored (store.Whole W64) n = refl
number-stored (store.Bits8 W32) n = refl
number-stored (store.Bits8 W64) n = refl
number-stored (store.Bits16 W32) n = refl
number-stored (store.Bits16 W64) n = refl
number-stored store.Bits32 n = refl

module _ (op : PlainOp) (g : Ghost) (cells : List ℕ) (at top : ℕ) (p : AtPlain op g cells at top)
    (counted : counts_of g.code.signatures op ≡ Some (counts 2 0)) (w : Popped op g cells at top p 2 (top - 2)) (address : ℕ) (m : MemoryInstance) where
  writes : (result : Result (List ℕ) Trap) → step_instruction g.store (frame_of g) op p.values p.rest
      ≡ continue_after (frame_of g) (write_memory g.store (frame_of g) 1 address m result w.others) p.rest → IsStored g address m cells at top result
  writes (Ok bytes) step = goes-on op g cells at top p 2 (top - 2) w (with_memory g.store address (record { limits = m.limits; bytes = bytes })) refl counted step
  writes (Err trap) step = fails-here op g cells at top p trap step

pub stores-number : StoresNumber
stores-number g cells at top op offset b =
    let (written, op_is, p₀) = at-written (plain.Memory (memory.Store op (at_offset offset))) g cells at top b in
    let (argument, written_is, offset_is) = written-store offset op written op_is in
    let o : PlainOp = plain.Memory (memory.Store op argument) in
    let p : AtPlain (plain.Memory (memory.Store op argument)) g cells at top = subst (λ (q : PlainOp). AtPlain q g cells at top) written_is p₀ in
    let f : Inner (here (plain.Memory (memory.Store op argument)) g cells at top p) = found o g cells at top p in
    let (operands, results, between, (has, aligned, type), frames, runs) = f.runs in
    let (address, m, located) = memory-there g p.runs.typed.valid f.carried has in
    let w : Operands (plain.Memory (memory.Store op argument)) g cells at top p (store_type op ∷ ty.I32 ∷ []) = operands-here o g cells at top p
    (function_type (ty.I32 ∷ store_type op ∷ []) []) (store_type op ∷ ty.I32 ∷ []) refl operands results between type f frames in
    let i : ℕ = get_or cells (top - 2) 0 in
    let n : ℕ = get_or cells (top - 1) 0 in
    let step : step_instruction g.store (frame_of g) (plain.Memory (memory.Store op argument)) p.values p.rest
    ≡ continue_after (frame_of g) (write_memory g.store (frame_of g) 1 address m
    (store_into m.bytes (get_or cells (top - 2) 0 + offset) (store_width op) (get_or cells (top - 1) 0)) w.popped.others) p.rest =
    ap (λ (vs : List Val). step_instruction g.store (frame_of g) o vs p.rest) w.are
    ∙ ap (λ (found : Option (ℕ × MemoryInstance)).
    continue_after (frame_of g) (in_memory g.store (frame_of g) found (memory.Store op argument)
    (value_of (store_type op) n ∷ (I32 i ∷ w.popped.others))) p.rest) located
    ∙ ap (λ (k : Option ℕ). continue_after (frame_of g) (store_number g.store (frame_of g) address m op (i + argument.offset) k w.popped.others) p.rest) (number-stored op n)
    ∙ ap (λ (k : ℕ). continue_after (frame_of g) (write_memory g.store (frame_of g) 1 address m (store_into m.bytes (i + k) (store_width op) n) w.popped.others) p.rest) offset_is in (
      address,
      m,
      located,
      w.enough,
      w.inside,
      w.fits.1.0,
      w.fits.0,
      λ result is. writes o g cells at top p refl w.popped address m result
          (step ∙ ap (λ (r : Result (List ℕ) Trap). continue_after (frame_of g) (write_memory g.store (frame_of g) 1 address m r w.popped.others) p.rest) is),
      dear-here o g cells at top p (subst CostsOne (sym step) (write-costs g.store (frame_of g) p.rest address m (store_into m.bytes (i + offset) (store_width op) n) w.popped.others)),
    )

-- ---- the size

pub measures-memory : MeasuresMemory
measures-memory g cells at top b =
    let op = plain.Memory memory.Size in
    let p : AtPlain (plain.Memory memory.Size) g cells at top = at-plain op (tt {0}) g cells at top b in
    let f : Inner (here (plain.Memory memory.Size) g cells at top p) = found op g cells at top p in
    let (operands, results, between, (has, type), frames, runs) = f.runs in
    let (address, m, located) = memory-there g p.runs.typed.valid f.carried has in
    let (more, put, dear) = pushes op g cells at top p m.limits.min (I32 m.limits.min) refl refl
    (ap (λ (found : Option (ℕ × MemoryInstance)). continue_after (frame_of g) (in_memory g.store (frame_of g) found memory.Size p.values) p.rest) located) in
    (address, m, located, more, put, dear)
