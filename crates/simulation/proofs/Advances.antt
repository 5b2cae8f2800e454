-- Steps of instructions, after their operands were popped.
use Rattle.std.proofs.Common.{◌≡◌, ℕ, suc, ◌<◌, List, [], ◌∷◌, ◌++◌, length, map, take, refl, sym, subst, ◌∙◌, arith, inl}
use Rattle.std.specs.Prelude.{Some, Result, Ok, Err}
use Rattle.core_types.specs.declared.op.PlainOp.{PlainOp}
use Rattle.core_types.specs.declared.outcome.Trap.{Trap}
use Rattle.core_types.specs.declared.outcome.Val.{Val}
use Rattle.core_types.specs.declared.types.ValType.{ValType}
use Rattle.meaning.specs.execution.Configurations.{Frame, Running}
use Rattle.meaning.specs.execution.Effects.{push_result}
use Rattle.meaning.specs.execution.Instructions.{Goes, continue_after, step_instruction}
use Rattle.meaning.specs.execution.Store.{Store}
use Rattle.meaning.specs.structure.Bodies.{Body}
use Rattle.sidetable.specs.Counts.{Signatures, counts, counts_of}
use Rattle.cells.specs.Cells.{cell_of, value_of}
use Rattle.simulation.specs.Instructions.{IsAnswered, IsKept, IsPut, PutsOne}
use Rattle.simulation.specs.Operations.{IsDear}
use Rattle.simulation.specs.Runs.{Ghost, frame_of}
use Rattle.simulation.specs.Settling.{HasNoAnnotations}
use Rattle.simulation.specs.Standing.{values_under}
use Rattle.simulation.proofs.Cells.{cell-of-value, pile-push}
use Rattle.simulation.proofs.Operands.{Popped, none-popped}
use Rattle.simulation.proofs.Plain.{AtPlain, CostsOne, advance, at-plain, dear-here, fails-here, high-then}

module _ (op : PlainOp) (g : Ghost) (cells : List ℕ) (at top : ℕ) (p : AtPlain op g cells at top) where
  -- If the step continues, it costs one unit of fuel.
  pub dear-goes : (store' : Store) (locals values : List Val) → step_instruction g.store (frame_of g) op p.values p.rest
      ≡ Goes 1 store' (record { instance = Some g.instance; locals = locals }) (Running values p.rest) → IsDear g cells at top
  dear-goes store' locals values goes = dear-here op g cells at top p (subst CostsOne (sym goes) refl)

  module _ (n low : ℕ) (w : Popped op g cells at top p n low) where
    -- A value in place of the operands.
    pub puts : (cell : ℕ) (v : Val) → cell_of v ≡ cell → counts_of g.code.signatures op ≡ Some (counts n 1)
        → step_instruction g.store (frame_of g) op p.values p.rest ≡ Goes 1 g.store (frame_of g) (Running (v ∷ w.others) p.rest) → IsPut g cells at cell low
    puts cell v is counted goes cells' at' top' fuel left put size at_is top_new enough left_is =
        let top_is = p.runs.holds.top_is in
        let count = w.count in
        let low_is = w.low_is in
        let put' : take (suc low) cells' ≡ take low cells ++ (cell_of v ∷ []) = subst (λ (k : ℕ). take (suc low) cells' ≡ take low cells ++ (k ∷ [])) (sym is) put in
        advance op g cells at top p 1 g.store g.locals (v ∷ w.others) (inl goes) refl (counts n 1) counted (omega (arith, count)) refl cells' at' top'
        fuel left size at_is (omega (arith, top_new, top_is, count, low_is))
        (rw top_new (pile-push cells (map cell_of g.locals) low v (w.others ++ values_under p.labels) w.held cells' (suc low) put')) enough left_is

    -- No value in their place.
    pub goes-on : (store' : Store) → store'.instances ≡ g.store.instances → counts_of g.code.signatures op ≡ Some (counts n 0)
        → step_instruction g.store (frame_of g) op p.values p.rest ≡ Goes 1 store' (frame_of g) (Running w.others p.rest) → IsKept g store' cells at low
    goes-on store' instances counted goes cells' at' top' fuel left kept size at_is top_new enough left_is =
        let top_is = p.runs.holds.top_is in
        let count = w.count in
        let low_is = w.low_is in
        advance op g cells at top p 1 store' g.locals w.others (inl goes) instances (counts n 0) counted (omega (arith, count)) refl cells' at' top'
        fuel left size at_is (omega (arith, top_new, top_is, count, low_is))
        (rw top_new (kept ∙ w.held)) enough left_is

    -- A result in their place, or its trap.
    pub answers : (r : ValType) → counts_of g.code.signatures op ≡ Some (counts n 1) → (result : Result ℕ Trap)
        → step_instruction g.store (frame_of g) op p.values p.rest
        ≡ continue_after (frame_of g) (push_result g.store (frame_of g) (value_of r) result w.others) p.rest → IsAnswered g cells at top low result
    answers r counted (Ok k) step = puts k (value_of r k) (cell-of-value r k) counted step
    answers r counted (Err trap) step = fails-here op g cells at top p trap step

  -- A value on top, without operands.
  pub pushes : (cell : ℕ) (v : Val) → cell_of v ≡ cell → counts_of g.code.signatures op ≡ Some (counts 0 1)
      → step_instruction g.store (frame_of g) op p.values p.rest ≡ Goes 1 g.store (frame_of g) (Running (v ∷ p.values) p.rest)
      → (top < length cells) × IsPut g cells at cell top × IsDear g cells at top
  pushes cell v is counted goes =
      let more = high-then op g cells at top p (counts 0 1) counted in
      let top_is = p.runs.holds.top_is in
      let room = p.runs.holds.room in
      let as_many = p.runs.holds.count in
      (omega (arith, more, top_is, room, as_many), puts 0 top (none-popped op g cells at top p) cell v is counted goes, dear-goes g.store g.locals (v ∷ p.values) goes)

-- The same for instructions that put one value in each state.
pub puts-one : (op : PlainOp) → HasNoAnnotations op → (cell : ℕ) (v : Val) → cell_of v ≡ cell → ((s : Signatures) → counts_of s op ≡ Some (counts 0 1))
    → ((store : Store) (frame : Frame) (values : List Val) (rest : Body) → step_instruction store frame op values rest ≡ Goes 1 store frame (Running (v ∷ values) rest)) → PutsOne op cell
puts-one op bare cell v is counted goes g cells at top b =
    let p : AtPlain op g cells at top = at-plain op bare g cells at top b in
    pushes op g cells at top p cell v is (counted g.code.signatures) (goes g.store (frame_of g) p.values p.rest)
