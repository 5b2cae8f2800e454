-- Instructions on locals and globals: on values, and on their cells.
use Rattle.std.proofs.Common.{◌≡◌, ℕ, zero, suc, ◌+◌, ◌-◌, ◌<◌, ◌≤◌, List, [], ◌∷◌, ◌++◌, length, map, take, set, get_or, slice_get, slice_set, refl, ap, sym, ◌∙◌, arith, inl}
use Rattle.std.proofs.lemmas.List.{length-map, length-set, map-set, set-append_left}
use Rattle.std.proofs.Math.Seq.{take-set-lt}
use Rattle.std.specs.Prelude.{Option, Some}
use Rattle.core_types.specs.declared.op.PlainOp.TheVariants.{Variable}
use Rattle.core_types.specs.declared.op.PlainOp.{PlainOp}
use Rattle.core_types.specs.declared.op.VariableOp.TheVariants.{GlobalGet, GlobalSet, LocalGet, LocalSet, LocalTee}
use Rattle.core_types.specs.declared.outcome.Val.{Val}
use Rattle.core_types.specs.declared.types.GlobalType.{GlobalType}
use Rattle.core_types.specs.declared.types.ValType.{ValType}
use Rattle.meaning.specs.execution.Configurations.{Running}
use Rattle.meaning.specs.execution.Costs.{instruction_cost}
use Rattle.meaning.specs.execution.Effects.{Done, Effect, Lacks, get_global, set_global}
use Rattle.meaning.specs.execution.Instructions.{Goes, continue_after, step_instruction}
use Rattle.meaning.specs.execution.Store.{GlobalInstance, instance_of, with_global}
use Rattle.meaning.specs.validation.Types.{function_type}
use Rattle.soundness.proofs.Extension.{instance-valid, types-found}
use Rattle.soundness.proofs.Locals.{if-below}
use Rattle.soundness.proofs.Values.{values-at}
use Rattle.sidetable.specs.Counts.{counts, counts_of}
use Rattle.cells.specs.Cells.{cell_of, value_of}
use Rattle.simulation.specs.Piles.{cells_of}
use Rattle.simulation.specs.Instructions.{IsKept}
use Rattle.simulation.specs.Runs.{Ghost, frame_of}
use Rattle.simulation.specs.Standing.{under, values_under}
use Rattle.simulation.specs.Variables.{GetsGlobal, GetsLocal, HasGlobal, SetsGlobal, SetsLocal, TeesLocal}
use Rattle.simulation.proofs.Advances.{dear-goes, goes-on, pushes}
use Rattle.simulation.proofs.Cells.{cell-of-value, pile-base}
use Rattle.simulation.proofs.Operands.{Operands, operands-here}
use Rattle.simulation.proofs.Plain.{AtPlain, advance, at-plain, base-length, found, here}
use Rattle.simulation.proofs.Typed.{Inner}

-- ---- locals

-- The cell of a local.
mapped : (values : List Val) (k : ℕ) (v : Val) → slice_get values k ≡ Some v → (k < length values) × (get_or (map cell_of values) k 0 ≡ cell_of v)
mapped [] k v e = absurd cc
mapped (w ∷ values) zero v e = let same : w ≡ v = cc in (omega arith, ap cell_of same)
mapped (w ∷ values) (suc k) v e = let (inside, is) = mapped values k v e in (omega (arith, inside), is)

pub gets-local : GetsLocal
gets-local g cells at top x b =
    let op = Variable (LocalGet x) in
    let p : AtPlain op g cells at top = at-plain op (tt {0}) g cells at top b in
    let f : Inner (here op g cells at top p) = found op g cells at top p in
    let (operands, results, between, (t, is, type), frames, runs) = f.runs in
    let (v, there, fits) = values-at g.store g.locals g.types x t p.runs.typed.own is in
    let (inside, cell) = mapped g.locals x v there in
    let top_is = p.runs.holds.top_is in
    let room = p.runs.holds.room in
    let size = base-length _ cells at top p.runs in
    let read : get_or cells x 0 ≡ cell_of v = pile-base cells (map cell_of g.locals) top (p.values ++ values_under p.labels) x p.runs.holds.held (omega arith) (omega arith) ∙ cell in
    let (more, put, dear) = pushes op g cells at top p (get_or cells x 0) v (sym read) refl (rw there refl) in
    (inside, omega (arith, inside, room), more, put, dear)

-- The cells of the frame after a local's cell was written.
written-cells : (cells : List ℕ) (locals all : List Val) (x low c : ℕ) (v : Val) → take low cells ≡ map cell_of locals ++ cells_of all → x < length locals → x < low → cell_of v ≡ c
    → take low (set cells x c) ≡ map cell_of (set locals x v) ++ cells_of all
written-cells cells locals all x low c v held inside lower is =
    let size : length (map cell_of locals) ≡ length locals = length-map locals cell_of in
    take-set-lt low cells x c lower ∙ ap (λ (z : List ℕ). set z x c) held
    ∙ set-append_left (map cell_of locals) (cells_of all) x c (omega (arith, size, inside))
    ∙ ap (λ (k : ℕ). set (map cell_of locals) x k ++ cells_of all) (sym is)
    ∙ ap (λ (z : List ℕ). z ++ cells_of all) (sym (map-set cell_of locals x v))

module _ (op : PlainOp) (g : Ghost) (cells : List ℕ) (at top : ℕ) (p : AtPlain op g cells at top) (x low : ℕ) (v : Val) (values : List Val) (inside : x < length g.locals)
    (goes : step_instruction g.store (frame_of g) op p.values p.rest ≡ Goes 1 g.store (record { instance = Some g.instance; locals = set g.locals x v }) (Running values p.rest)) where
  -- A local is written, and these values are left.
  local-written : (c gives : ℕ) → cell_of v ≡ c → counts_of g.code.signatures op ≡ Some (counts 1 gives) → length p.values + gives
      ≡ suc (length values) → low ≡ length g.locals + (length values + under p.labels)
      → take low cells ≡ map cell_of g.locals ++ cells_of (values ++ values_under p.labels) → 1 ≤ length p.values → IsKept g g.store (set cells x c) at low
  local-written c gives is counted many low_is held some cells' at' top' fuel left kept size at_is top_new enough left_is =
      let same = length-set g.locals x v in
      let size' = length-set cells x c in
      advance op g cells at top p 1 g.store (set g.locals x v) values (inl goes) refl (counts 1 gives) counted (omega (arith, many, some)) same cells'
      at' top' fuel left (omega (arith, size, size')) at_is (omega (arith, top_new, low_is, same))
      (rw top_new (kept ∙ written-cells cells g.locals (values ++ values_under p.labels) x low c v held inside (omega (arith, inside, low_is)) is)) enough left_is

module _ (op : PlainOp) (g : Ghost) (cells : List ℕ) (at top : ℕ) (p : AtPlain op g cells at top) (x : ℕ) (t : ValType)
    (local : slice_get g.types x ≡ Some t) (w : Operands op g cells at top p (t ∷ [])) where
  -- The local exists, below the operand.
  local-there : (x < length g.locals) × (x < top - 1)
  local-there =
      let (old, there, fits) = values-at g.store g.locals g.types x t p.runs.typed.own local in
      let (inside, cell) = mapped g.locals x old there in
      let top_is = p.runs.holds.top_is in
      let count = w.popped.count in
      (inside, omega (arith, inside, top_is, count))

pub sets-local : SetsLocal
sets-local x g cells at top b =
    let op = Variable (LocalSet x) in
    let p : AtPlain op g cells at top = at-plain op (tt {0}) g cells at top b in
    let f : Inner (here op g cells at top p) = found op g cells at top p in
    let (operands, results, between, (t, is, type), frames, runs) = f.runs in
    let w : Operands op g cells at top p (t ∷ []) = operands-here op g cells at top p (function_type (t ∷ []) []) (t ∷ []) refl operands results between type f frames in
    let (inside, lower) = local-there op g cells at top p x t is w in
    let c : ℕ = get_or cells (top - 1) 0 in
    let goes : step_instruction g.store (frame_of g) op p.values p.rest
    ≡ Goes 1 g.store (record { instance = Some g.instance; locals = set g.locals x (value_of t (get_or cells (top - 1) 0)) })
    (Running w.popped.others p.rest) =
    ap (λ (vs : List Val). step_instruction g.store (frame_of g) op vs p.rest) w.are
    ∙ ap (λ (e : Effect). continue_after (frame_of g) e p.rest) (if-below x (length g.locals) (Done instruction_cost g.store (slice_set g.locals x (value_of t c)) w.popped.others) Lacks inside) in
    let top_is = p.runs.holds.top_is in
    let count = w.popped.count in (
      w.enough,
      w.inside,
      inside,
      lower,
      local-written op g cells at top p x (top - 1) (value_of t c) w.popped.others inside goes c 0 (cell-of-value t c) refl (omega (arith, count))
          (omega (arith, top_is, count)) w.popped.held (omega (arith, count)),
      dear-goes op g cells at top p g.store (set g.locals x (value_of t c)) w.popped.others goes,
    )

pub tees-local : TeesLocal
tees-local x g cells at top b =
    let op = Variable (LocalTee x) in
    let p : AtPlain op g cells at top = at-plain op (tt {0}) g cells at top b in
    let f : Inner (here op g cells at top p) = found op g cells at top p in
    let (operands, results, between, (t, is, type), frames, runs) = f.runs in
    let w : Operands op g cells at top p (t ∷ []) = operands-here op g cells at top p (function_type (t ∷ []) (t ∷ [])) (t ∷ []) refl operands results between type f frames in
    let (inside, lower) = local-there op g cells at top p x t is w in
    let c : ℕ = get_or cells (top - 1) 0 in
    let goes : step_instruction g.store (frame_of g) op p.values p.rest
    ≡ Goes 1 g.store (record { instance = Some g.instance; locals = set g.locals x (value_of t (get_or cells (top - 1) 0)) }) (Running p.values p.rest) =
    ap (λ (vs : List Val). step_instruction g.store (frame_of g) op vs p.rest) w.are
    ∙ ap (λ (e : Effect). continue_after (frame_of g) e p.rest)
    (if-below x (length g.locals) (Done instruction_cost g.store (slice_set g.locals x (value_of t c)) (value_of t c ∷ w.popped.others)) Lacks inside)
    ∙ ap (λ (vs : List Val). Goes 1 g.store (record { instance = Some g.instance; locals = set g.locals x (value_of t c) }) (Running vs p.rest)) (sym w.are) in
    let top_is = p.runs.holds.top_is in
    let count = w.popped.count in (
      w.enough,
      w.inside,
      inside,
      lower,
      local-written op g cells at top p x top (value_of t c) p.values inside goes c 1 (cell-of-value t c) refl (omega arith) top_is p.runs.holds.held (omega (arith, count)),
      dear-goes op g cells at top p g.store (set g.locals x (value_of t c)) p.values goes,
    )

-- ---- globals

pub gets-global : GetsGlobal
gets-global g cells at top x b =
    let op = Variable (GlobalGet x) in
    let p : AtPlain op g cells at top = at-plain op (tt {0}) g cells at top b in
    let f : Inner (here op g cells at top p) = found op g cells at top p in
    let (operands, results, between, (t, is, type), frames, runs) = f.runs in
    let (address, global, at_address, there, same) = types-found _ _ g.store.globals (instance_of g.store (Some g.instance)).globals x t
    (instance-valid g.store p.runs.typed.valid (Some g.instance)).globals is in
    let located : HasGlobal g x address global = rw (at_address, there) refl in
    let (more, put, dear) = pushes op g cells at top p (cell_of global.value) global.value refl refl
    (ap (λ (o : Option (ℕ × GlobalInstance)). continue_after (frame_of g) (get_global g.store (frame_of g) o p.values) p.rest) located) in
    (address, global, located, more, put, dear)

pub sets-global : SetsGlobal
sets-global g cells at top x b =
    let op = Variable (GlobalSet x) in
    let p : AtPlain op g cells at top = at-plain op (tt {0}) g cells at top b in
    let f : Inner (here op g cells at top p) = found op g cells at top p in
    let (operands, results, between, (t, is, variable, type), frames, runs) = f.runs in
    let (address, global, at_address, there, same) = types-found _ _ g.store.globals (instance_of g.store (Some g.instance)).globals x t
    (instance-valid g.store p.runs.typed.valid (Some g.instance)).globals is in
    let located : HasGlobal g x address global = rw (at_address, there) refl in
    let value_is : t.value ∷ [] ≡ global.ty.value ∷ [] = ap (λ (u : GlobalType). u.value ∷ []) (sym same) in
    let w : Operands op g cells at top p (global.ty.value ∷ []) = operands-here op g cells at top p (function_type (t.value ∷ []) [])
    (global.ty.value ∷ []) value_is operands results between type f frames in
    let v : Val = value_of global.ty.value (get_or cells (top - 1) 0) in
    let goes : step_instruction g.store (frame_of g) op p.values p.rest
    ≡ Goes 1 (with_global g.store address (record { ty = global.ty; value = value_of global.ty.value (get_or cells (top - 1) 0) })) (frame_of g)
    (Running w.popped.others p.rest) =
    ap (λ (vs : List Val). step_instruction g.store (frame_of g) op vs p.rest) w.are
    ∙ ap (λ (o : Option (ℕ × GlobalInstance)). continue_after (frame_of g) (set_global g.store (frame_of g) o v w.popped.others) p.rest) located in (
      address,
      global,
      located,
      ap (λ (u : GlobalType). u.mutability) same ∙ variable,
      w.enough,
      w.inside,
      w.fits.0,
      goes-on op g cells at top p 1 (top - 1) w.popped (with_global g.store address (record { ty = global.ty; value = v })) refl refl goes,
      dear-goes op g cells at top p (with_global g.store address (record { ty = global.ty; value = v })) g.locals w.popped.others goes,
    )
