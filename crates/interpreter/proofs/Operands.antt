-- Operands are above the locals.
use Rattle.std.proofs.Common.{◌≡◌, ℕ, zero, suc, ◌+◌, ◌-◌, ◌≤◌, List, length, reverse, get_or, refl, ap, sym, subst, ◌∙◌, arith, length-append}
use Rattle.std.proofs.lemmas.List.{length-map, length-reverse}
use Rattle.std.specs.Prelude.{Option, Some}
use Rattle.core_types.specs.declared.op.MemoryOp.{MemoryOp}
use Rattle.core_types.specs.declared.op.MemoryOp.TheVariants as memory
use Rattle.core_types.specs.declared.op.PlainOp.{PlainOp}
use Rattle.core_types.specs.declared.op.PlainOp.TheVariants as plain
use Rattle.core_types.specs.declared.types.ValType.{ValType}
use Rattle.meaning.specs.validation.Instructions.{known}
use Rattle.soundness.specs.Places.{context_at}
use Rattle.soundness.proofs.Values.{values-length}
use Rattle.sidetable.specs.Counts.{Signatures, counts_of, memory_counts}
use Rattle.sidetable.specs.declared.counts.Counts.{Counts}
use Rattle.sidetable.specs.Flat.{Plain, without_alignment, without_annotations}
use Rattle.simulation.specs.Operations.{IsCharged, IsChosen}
use Rattle.simulation.specs.Runs.{Ghost, IsBefore, FrameReaches, Runs, place_of}
use Rattle.simulation.proofs.Heights.{Counted, counted, fits-length}
use Rattle.simulation.proofs.Plain.{at-written, found, here}
use Rattle.simulation.proofs.Typed.{Inner, with_labels}

-- ---- of an instruction

aligned-counts : (op : MemoryOp) → memory_counts (without_alignment op) ≡ memory_counts op
aligned-counts (memory.Load op argument) = refl
aligned-counts (memory.Store op argument) = refl
aligned-counts other = refl

written-counts : (s : Signatures) (op : PlainOp) → counts_of s (without_annotations op) ≡ counts_of s op
written-counts s (plain.SelectTyped types) = refl
written-counts s (plain.Memory op) = ap Some (aligned-counts op)
written-counts s other = refl

module _ (g : Ghost) (cells : List ℕ) (at top : ℕ) where
  pub takes-operands : (op : PlainOp) → IsBefore (Plain op) g cells at top → (c : Counts) → counts_of g.code.signatures op ≡ Some c → length g.locals + c.takes ≤ top
  takes-operands op b c is =
      let (written, op_is, p) = at-written op g cells at top b in
      let f : Inner (here written g cells at top p) = found written g cells at top p in
      let (operands, results, between, rule, frames, runs) = f.runs in
      let context = context_at g.store (with_labels (place_of (here written g cells at top p)) f.carried) in
      let many : Counted (counts_of g.code.signatures written) operands results = counted operands results context g.code.signatures p.runs.typed.types p.runs.typed.functions written rule in
      let enough : Counted (Some c) operands results = subst (λ (o : Option Counts). Counted o operands results)
      (sym (written-counts g.code.signatures written) ∙ ap (counts_of g.code.signatures) (sym op_is) ∙ is) many in
      let stack : length (known (reverse f.stack)) ≡ length frames.below + length frames.given = ap length frames.before_is ∙ length-append frames.below frames.given in
      let given : length frames.given ≡ length operands = fits-length frames.given operands frames.fits in
      let known_size : length (known (reverse f.stack)) ≡ length f.stack = simp (length-map, length-reverse) in
      let typed = values-length g.store p.values f.stack f.values in
      omega (arith, enough.0, stack, given, known_size, typed, p.runs.holds.top_is)

  -- ---- of a condition

  -- The machine after it has the same number of locals.
  pub charged-low : Runs g cells at top → (next_at next_top : ℕ) → IsCharged g cells at top next_at next_top → length g.locals ≤ next_top
  charged-low r next_at next_top (goes, dear) =
      let l : FrameReaches g 1 g.store cells next_at next_top 0 = goes 1 0 (omega arith) (omega arith) in
      let before = values-length g.store g.locals g.types r.typed.own in
      let after = values-length l.new.store l.new.locals l.new.types l.runs.typed.own in
      let types : length l.new.types ≡ length g.types = ap (λ (ts : List ValType). length ts) l.same.types in
      omega (arith, before, after, types, l.runs.holds.top_is)

  -- In both cases.
  pub either-way : (Zero Other P : Type 0) → IsChosen cells top Zero Other → (Zero → P) → (Other → P) → P
  either-way Zero Other P (some, inside, zeros, others) first second = by (get_or cells (top - 1) 0) zeros others
    where
      by : (n : ℕ) → (n ≡ 0 → Zero) → ((n ≡ 0 → ⊥) → Other) → P
      by zero zeros others = first (zeros refl)
      by (suc n) zeros others = second (others (λ e. absurd cc))

  -- The condition is above the locals.
  pub condition-low : Runs g cells at top → (next_at : ℕ) (Other : Type 0) → (Other → length g.locals ≤ top - 1)
      → IsChosen cells top (IsCharged g cells at top next_at (top - 1)) Other → length g.locals + 1 ≤ top
  condition-low r next_at Other low c =
      let le = either-way (IsCharged g cells at top next_at (top - 1)) Other (length g.locals ≤ top - 1) c (charged-low r next_at (top - 1)) low in
      omega (arith, le, c.0)
