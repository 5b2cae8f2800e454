-- Outcomes of instructions: after their operands were popped, and by their rules.
use Rattle.std.proofs.Common.{◌≡◌, ℕ, ◌+◌, ◌-◌, ◌≤◌, List, [], ◌∷◌, ◌++◌, length, map, reverse, get_or, slice_get, refl, ap, sym, subst, ◌∙◌, arith, append_assoc, length-append, inl, inr}
use Rattle.std.proofs.lemmas.List.{length-reverse}
use Rattle.std.specs.Prelude.{Some}
use Rattle.core_types.specs.declared.op.MemoryOp.{MemoryOp}
use Rattle.core_types.specs.declared.op.MemoryOp.TheVariants as memory
use Rattle.core_types.specs.declared.op.PlainOp.{PlainOp}
use Rattle.core_types.specs.declared.op.PlainOp.TheVariants.{Memory, Table}
use Rattle.core_types.specs.declared.op.TableOp.{TableOp}
use Rattle.core_types.specs.declared.op.TableOp.TheVariants as table
use Rattle.core_types.specs.declared.outcome.Val.{Val}
use Rattle.core_types.specs.declared.outcome.Val.TheVariants as value
use Rattle.core_types.specs.declared.types.FuncType.{FuncType}
use Rattle.core_types.specs.declared.types.OperandType.{OperandType}
use Rattle.core_types.specs.declared.types.RefType.{RefType}
use Rattle.core_types.specs.declared.types.TableType.{TableType}
use Rattle.core_types.specs.declared.types.ValType.{ValType}
use Rattle.core_types.specs.declared.types.ValType.TheVariants.{I32}
use Rattle.meaning.specs.structure.Bodies.{Body}
use Rattle.meaning.specs.execution.Configurations.{Frame, Running}
use Rattle.meaning.specs.execution.Effects.{Effect, effect, table_at}
use Rattle.meaning.specs.execution.Instructions.{continue_after, step_instruction}
use Rattle.meaning.specs.execution.Store.{Store, instance_of}
use Rattle.meaning.specs.execution.Tables.{TableInstance}
use Rattle.meaning.specs.validation.Instructions.{HasFuncType, IsTable, Rule, memory_rule, table_rule}
use Rattle.meaning.specs.validation.Types.{function_type, reference_type}
use Rattle.soundness.specs.Places.{context_at}
use Rattle.soundness.specs.Stores.{StoreIsValid}
use Rattle.soundness.proofs.Extension.{instance-valid, types-found}
use Rattle.sidetable.specs.Counts.{Signatures, counts, counts_of}
use Rattle.sidetable.specs.Flat.{Plain}
use Rattle.cells.specs.Cells.{cell_of}
use Rattle.simulation.specs.Outcomes.{ActsOnStore, Answers, HasOperands, HasOutcome, IsMade, IsOnStore, IsOutcome, Outcome, effect_of, entry_type, failed}
use Rattle.simulation.specs.Outcomes.{grown, made, memory_instruction_type, instruction_type, table_instruction_type}
use Rattle.simulation.specs.Piles.{cells_of}
use Rattle.simulation.specs.Runs.{Ghost, NextContinues, IsBefore, frame_of, place_of}
use Rattle.simulation.specs.Settling.{HasNoAnnotations}
use Rattle.simulation.specs.Standing.{values_under}
use Rattle.simulation.proofs.Cells.{cells-joined}
use Rattle.simulation.proofs.OperandCells.{has-operands, operands-read}
use Rattle.simulation.proofs.Operands.{Operands, Popped, operands-here, operands_of}
use Rattle.simulation.proofs.Plain.{AtPlain, advance, asks-here, at-plain, dear-here, fails-here, found, here, high-then, lacks-here}
use Rattle.simulation.proofs.Typed.{Inner, with_labels}

module _ (op : PlainOp) (g : Ghost) (cells : List ℕ) (at top : ℕ) (p : AtPlain op g cells at top) (n low many : ℕ)
    (w : Popped op g cells at top p n low) (counted : counts_of g.code.signatures op ≡ Some (counts n many)) where
  -- Results in place of the operands.
  makes : (cost : ℕ) (store' : Store) (results : List Val) → IsOutcome g.store many (made cost store' results)
      → NextContinues (step_instruction g.store (frame_of g) op p.values p.rest) cost store' (frame_of g) (Running (results ++ w.others) p.rest) → IsMade g cost store' cells at low results
  makes cost store' results (size_is, instances) goes cells' at' top' fuel left put size at_is top_new enough left_is =
      let top_is = p.runs.holds.top_is in
      let count = w.count in
      let low_is = w.low_is in
      let both = length-append results w.others in
      advance op g cells at top p cost store' g.locals (results ++ w.others) goes instances (counts n many) counted (omega (arith, count, both, size_is)) refl cells' at' top' fuel left size at_is
      (omega (arith, top_new, top_is, count, low_is, both))
      (put ∙ ap (λ (z : List ℕ). z ++ cells_of results) w.held ∙ append_assoc (map cell_of g.locals) (cells_of (w.others ++ values_under p.labels)) (cells_of results)
      ∙ ap (λ (z : List ℕ). map cell_of g.locals ++ z) (sym (cells-joined results (w.others ++ values_under p.labels)) ∙ ap cells_of (sym (append_assoc results w.others (values_under p.labels)))))
      enough left_is

  pub has-outcome : (outcome : Outcome) → IsOutcome g.store many outcome → step_instruction g.store (frame_of g) op p.values p.rest
      ≡ continue_after (frame_of g) (effect_of outcome g.locals w.others) p.rest → HasOutcome g cells at top low outcome
  has-outcome (made cost store' results) is step = (makes cost store' results is (inl step), lacks-here op g cells at top p cost (rw step refl))
  has-outcome (grown cost store' results) is step =
      (makes cost store' results is (inr step), lacks-here op g cells at top p cost (rw step refl), asks-here op g cells at top p cost store' (frame_of g) (Running (results ++ w.others) p.rest) step)
  has-outcome (failed trap) is step = (fails-here op g cells at top p trap step, dear-here op g cells at top p (rw step refl))

-- Three operands that are i32, over values.
abbrev pub triple : List ℕ → (top : ℕ) → List Val → List Val
triple cells top values = value.I32 (get_or cells (top - 1) 0) ∷ (value.I32 (get_or cells (top - 2) 0) ∷ (value.I32 (get_or cells (top - 3) 0) ∷ values))

-- ---- instructions on the store

bare-on : (op : PlainOp) → IsOnStore op → HasNoAnnotations op
bare-on (Table op) is = tt
bare-on (Memory op) is = is
bare-on op is = absurd is

step-on : (store : Store) (frame : Frame) (op : PlainOp) (values : List Val) (rest : Body) → IsOnStore op
    → step_instruction store frame op values rest ≡ continue_after frame (effect store frame op values) rest
step-on store frame (Table op) values rest is = refl
step-on store frame (Memory op) values rest is = refl
step-on store frame op values rest is = absurd is

-- The numbers of operands and results are those of its type.
counted-on : (s : Signatures) (g : Ghost) (op : PlainOp) → IsOnStore op → counts_of s op ≡ Some (counts (length (instruction_type g op).params) (length (instruction_type g op).results))
counted-on s g (Table (table.Get x)) is = refl
counted-on s g (Table (table.Set x)) is = refl
counted-on s g (Table (table.Size x)) is = refl
counted-on s g (Table (table.Grow x)) is = refl
counted-on s g (Table (table.Fill x)) is = refl
counted-on s g (Table (table.Copy target source)) is = refl
counted-on s g (Table (table.Init segment x)) is = refl
counted-on s g (Table (table.ElemDrop segment)) is = refl
counted-on s g (Memory (memory.Load op argument)) is = absurd is
counted-on s g (Memory (memory.Store op argument)) is = absurd is
counted-on s g (Memory memory.Size) is = refl
counted-on s g (Memory memory.Grow) is = refl
counted-on s g (Memory memory.Fill) is = refl
counted-on s g (Memory memory.Copy) is = refl
counted-on s g (Memory (memory.Init segment)) is = refl
counted-on s g (Memory (memory.DataDrop segment)) is = refl
counted-on s g op is = absurd is

-- The table of the frame's context exists.
pub table-there : (g : Ghost) → StoreIsValid g.store → (carried : List (List ValType)) (x : ℕ) (t : RefType) → IsTable (context_at g.store (with_labels (place_of g) carried)) x t
    → (address : ℕ) × (held : TableInstance) × (table_at g.store (frame_of g) x ≡ Some (address, held)) × (held.ty.element ≡ t) × (slice_get g.store.tables address ≡ Some held)
table-there g valid carried x t (ty, is, element) =
    let (address, held, at_address, there, same) = types-found _ _ g.store.tables (instance_of g.store (Some g.instance)).tables x ty (instance-valid g.store valid (Some g.instance)).tables is in
    (address, held, rw (at_address, there) refl, ap (λ (u : TableType). u.element) same ∙ element, there)

module _ (g : Ghost) (valid : StoreIsValid g.store) (carried : List (List ValType)) (operands results : List OperandType) where
  abbrev entries : ℕ → ValType
  entries x = entry_type (table_at g.store (frame_of g) x)

  entries-typed : (x : ℕ) (t : RefType) → IsTable (context_at g.store (with_labels (place_of g) carried)) x t → reference_type t ≡ entries x
  entries-typed x t there =
      let (address, held, is, element, kept) = table-there g valid carried x t there in
      ap reference_type (sym element) ∙ ap entry_type (sym is)

  table-typed : (op : TableOp) → table_rule (context_at g.store (with_labels (place_of g) carried)) op operands results
      → HasFuncType (table_instruction_type (λ (x : ℕ). entry_type (table_at g.store (frame_of g) x)) op) operands results
  table-typed (table.Get x) (t, there, type) = subst (λ (u : ValType). HasFuncType (function_type (I32 ∷ []) (u ∷ [])) operands results) (entries-typed x t there) type
  table-typed (table.Set x) (t, there, type) = subst (λ (u : ValType). HasFuncType (function_type (I32 ∷ u ∷ []) []) operands results) (entries-typed x t there) type
  table-typed (table.Size x) (t, there, type) = type
  table-typed (table.Grow x) (t, there, type) = subst (λ (u : ValType). HasFuncType (function_type (u ∷ I32 ∷ []) (I32 ∷ [])) operands results) (entries-typed x t there) type
  table-typed (table.Fill x) (t, there, type) = subst (λ (u : ValType). HasFuncType (function_type (I32 ∷ u ∷ I32 ∷ []) []) operands results) (entries-typed x t there) type
  table-typed (table.Copy target source) (t, into, from, type) = type
  table-typed (table.Init segment x) (t, into, from, type) = type
  table-typed (table.ElemDrop segment) (t, there, type) = type

  memory-typed : (op : MemoryOp) → memory_rule (context_at g.store (with_labels (place_of g) carried)) op operands results → HasFuncType (memory_instruction_type op) operands results
  memory-typed (memory.Load op argument) (has, aligned, type) = type
  memory-typed (memory.Store op argument) (has, aligned, type) = type
  memory-typed memory.Size (has, type) = type
  memory-typed memory.Grow (has, type) = type
  memory-typed memory.Fill (has, type) = type
  memory-typed memory.Copy (has, type) = type
  memory-typed (memory.Init segment) (has, there, type) = type
  memory-typed (memory.DataDrop segment) (there, type) = type

  -- Its rule gives its type.
  typed-on : (op : PlainOp) → IsOnStore op → Rule (context_at g.store (with_labels (place_of g) carried)) op operands results → HasFuncType (instruction_type g op) operands results
  typed-on (Table op) is rule = table-typed op rule
  typed-on (Memory op) is rule = memory-typed op rule
  typed-on op is rule = absurd is

module _ (op : PlainOp) (is : IsOnStore op) (g : Ghost) (cells : List ℕ) (at top : ℕ) (b : IsBefore (Plain op) g cells at top) where
  abbrev stands-on : AtPlain op g cells at top
  stands-on = at-plain op (bare-on op is) g cells at top b

  -- Its rule, in the frame's context.
  pub rule-on : (carried : List (List ValType)) × (takes gives : List OperandType) × Rule (context_at g.store (with_labels (place_of g) carried)) op takes gives
  rule-on =
      let f : Inner (here op g cells at top stands-on) = found op g cells at top stands-on in
      let (takes, gives, between, rule, frames, runs) = f.runs in
      (f.carried, takes, gives, rule)

  -- If it has this type, it acts on its operands, read one by one from the top.
  pub acts-by : (s : FuncType) → instruction_type g op ≡ s
      → HasOperands g cells top s.params
      × (top - length s.params + length s.results ≤ length cells)
      × ((outcome : Outcome) → IsOutcome g.store (length s.results) outcome
      → ((values : List Val) → effect g.store (frame_of g) op (operands_of cells top 0 (reverse s.params) ++ values) ≡ effect_of outcome g.locals values)
      → HasOutcome g cells at top (top - length s.params) outcome)
  acts-by s type_is =
      let f : Inner (here op g cells at top stands-on) = found op g cells at top stands-on in
      let (takes, gives, between, rule, frames, runs) = f.runs in
      let type : HasFuncType s takes gives = subst (λ (u : FuncType). HasFuncType u takes gives) type_is (typed-on g stands-on.runs.typed.valid f.carried takes gives op is rule) in
      let w : Operands op g cells at top stands-on (reverse s.params) = operands-here op g cells at top stands-on s (reverse s.params) refl takes gives between type f frames in
      let size = length-reverse s.params in
      let counted : counts_of g.code.signatures op ≡ Some (counts (length (reverse s.params)) (length s.results)) =
      counted-on g.code.signatures g op is ∙ ap (λ (u : FuncType). Some (counts (length u.params) (length u.results))) type_is ∙ ap (λ (n : ℕ). Some (counts n (length s.results))) (sym size) in
      let more = high-then op g cells at top stands-on (counts (length (reverse s.params)) (length s.results)) counted in
      let count = w.popped.count in
      let top_is = stands-on.runs.holds.top_is in
      let room = stands-on.runs.holds.room in (
        has-operands op g cells at top stands-on s.params w,
        omega (arith, size, more, count, top_is, room),
        λ outcome fits effect_is. subst (λ (n : ℕ). HasOutcome g cells at top (top - n) outcome) size
            (has-outcome op g cells at top stands-on (length (reverse s.params)) (top - length (reverse s.params)) (length s.results) w.popped counted outcome fits
            (step-on g.store (frame_of g) op stands-on.values stands-on.rest is
            ∙ ap (λ (vs : List Val). continue_after (frame_of g) (effect g.store (frame_of g) op vs) stands-on.rest) w.are
            ∙ ap (λ (e : Effect). continue_after (frame_of g) e stands-on.rest) (effect_is w.popped.others))),
      )

  -- For each result of a function on them there is an outcome.
  pub answers-by : {T : Type 0} (s : FuncType) → instruction_type g op ≡ s → (held : T) (outcome : T → Outcome) → ((result : T) → IsOutcome g.store (length s.results) (outcome result))
      → ((result : T) (values : List Val) → held ≡ result → effect g.store (frame_of g) op (operands_of cells top 0 (reverse s.params) ++ values) ≡ effect_of (outcome result) g.locals values)
      → Answers g cells at top s.params held outcome
  answers-by s type_is held outcome fits effect_is =
      let (has, room, acts) = acts-by s type_is in
      (has, λ result same. acts (outcome result) (fits result) (λ values. effect_is result values same))

  -- Without operands it has one outcome.
  pub acts-alone : (s : FuncType) → instruction_type g op ≡ s → s.params ≡ [] → (outcome : Outcome) → IsOutcome g.store (length s.results) outcome
      → ((values : List Val) → effect g.store (frame_of g) op values ≡ effect_of outcome g.locals values) → (top + length s.results ≤ length cells) × HasOutcome g cells at top top outcome
  acts-alone s type_is none outcome fits effect_is =
      let (has, room, acts) = acts-by s type_is in
      let size : top - length s.params ≡ top = ap (λ (ts : List ValType). top - length ts) none ∙ omega arith in (
        rw size at room,
        rw size at (acts outcome fits (λ values. ap (λ (ts : List ValType). effect g.store (frame_of g) op (operands_of cells top 0 (reverse ts) ++ values)) none ∙ effect_is values)),
      )

pub acts-on-store : ActsOnStore
acts-on-store g cells at top op is b =
    let (has, room, acts) = acts-by op is g cells at top b (instruction_type g op) refl in
    let size : length (instruction_type g op).params ≤ top = let above = has.above in omega (arith, above) in (
      has,
      room,
      λ outcome fits effect_is. acts outcome fits
          (λ values. ap (λ (vs : List Val). effect g.store (frame_of g) op (vs ++ values)) (sym (operands-read cells top has.inside (instruction_type g op).params size)) ∙ effect_is values),
    )
