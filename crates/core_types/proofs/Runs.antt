-- Locals in runs.
use Rattle.std.proofs.Common.{◌≡◌, ℕ, zero, suc, ◌+◌, ◌-◌, ◌^◌, ◌<◌, ◌≤◌, List, [], ◌∷◌, ◌++◌, length, get_or, replicate, refl, sym, ap, ◌∙◌, append_assoc, add-one, arith}
use Rattle.std.specs.Prelude.{Some, None, slice_get, IfSome}
use Rattle.std.proofs.lemmas.Option.{slice_get_past, slice_get_within, slice_get_read, slice_get-get_or}
use Rattle.std.proofs.lemmas.List.{length-append, length-replicate, append-nil}
use Rattle.core_types.specs.declared.types.ValType.{ValType}
use Rattle.core_types.specs.declared.locals.LocalRun.{LocalRun}
use Rattle.core_types.specs.LocalRuns.{expanded, IsAscending, end_of, start_of}

-- A run after other locals.
abbrev added : ℕ → ℕ → ValType → LocalRun
added len count ty = record { end = len + count; ty = ty }

pub length-expanded : (start : ℕ) (runs : List LocalRun) → IsAscending start runs → (start + length (expanded start runs) ≡ end_of start runs) × (end_of start runs < 2 ^ 32)
length-expanded start [] h = (omega arith, h)
length-expanded start (run ∷ runs) h =
    let r = length-expanded run.end runs h.1 in
    (omega (arith, length-append (replicate (run.end - start) run.ty) (expanded run.end runs), length-replicate (run.end - start) run.ty, r.0, h.0), r.1)

pub expanded-push : (start : ℕ) (runs : List LocalRun) (run : LocalRun) → expanded start (runs ++ run ∷ []) ≡ expanded start runs ++ replicate (run.end - end_of start runs) run.ty
expanded-push start [] run = append-nil (replicate (run.end - start) run.ty)
expanded-push start (first ∷ runs) run =
    ap (λ (types : List ValType). replicate (first.end - start) first.ty ++ types) (expanded-push first.end runs run) ∙ sym
    (append_assoc (replicate (first.end - start) first.ty) (expanded first.end runs) (replicate (run.end - end_of first.end runs) run.ty))

pub IsAscending-push : (start : ℕ) (runs : List LocalRun) (run : LocalRun) → IsAscending start runs → end_of start runs ≤ run.end → run.end < 2 ^ 32 → IsAscending start (runs ++ run ∷ [])
IsAscending-push start [] run h le lt = (le, lt)
IsAscending-push start (first ∷ runs) run h le lt = (h.0, IsAscending-push first.end runs run h.1 le lt)

pub end_of-last : (start : ℕ) (runs : List LocalRun) (last : ℕ) (run : LocalRun) → suc last ≡ length runs → slice_get runs last ≡ Some run → end_of start runs ≡ run.end
end_of-last start [] last run h e = absurd cc
end_of-last start (first ∷ []) zero run h e = let same : first ≡ run = cc in ap (λ (r : LocalRun). r.end) same
end_of-last start (first ∷ []) (suc last) run h e = absurd cc
end_of-last start (first ∷ second ∷ runs) zero run h e = absurd (omega arith)
end_of-last start (first ∷ second ∷ runs) (suc last) run h e = end_of-last first.end (second ∷ runs) last run (omega arith) e

pub start_of-next : (start : ℕ) (runs : List LocalRun) (k : ℕ) (run : LocalRun) → slice_get runs k ≡ Some run → start_of start runs (suc k) ≡ run.end
start_of-next start [] k run e = absurd cc
start_of-next start (first ∷ runs) zero run e = let h : first ≡ run = cc in ap (λ (r : LocalRun). r.end) h
start_of-next start (first ∷ runs) (suc k) run e = start_of-next first.end runs k run e

-- A run begins no earlier than the runs do.
start_of-above : (start : ℕ) (runs : List LocalRun) (k : ℕ) → IsAscending start runs → start ≤ start_of start runs k
start_of-above start runs zero h = omega arith
start_of-above start [] (suc k) h = omega arith
start_of-above start (run ∷ runs) (suc k) h = omega (arith, start_of-above run.end runs k h.1, h.0)

slice_get-replicate : {A : Type 0} (n k : ℕ) (x : A) (rest : List A) → k < n → slice_get (replicate n x ++ rest) k ≡ Some x
slice_get-replicate zero k x rest lt = absurd (omega arith)
slice_get-replicate (suc n) zero x rest lt = refl
slice_get-replicate (suc n) (suc k) x rest lt = slice_get-replicate n k x rest (omega arith)

slice_get-behind : {A : Type 0} (n k : ℕ) (x : A) (rest : List A) → slice_get (replicate n x ++ rest) (n + k) ≡ slice_get rest k
slice_get-behind zero k x rest = ap (slice_get rest) (omega arith)
slice_get-behind (suc n) k x rest = let e : suc n + k ≡ suc (n + k) = omega arith in rw e (slice_get-behind n k x rest)

-- The local at an index has the type of the run around it.
pub expanded-within : (start : ℕ) (runs : List LocalRun) (k index : ℕ) (run : LocalRun) → IsAscending start runs → slice_get runs k ≡ Some run
    → start_of start runs k ≤ index → index < run.end → slice_get (expanded start runs) (index - start) ≡ Some run.ty
expanded-within start [] k index run h e le lt = absurd cc
expanded-within start (first ∷ runs) zero index run h e le lt =
    let same : first ≡ run = cc in
    let there : index < first.end = rw same lt in
    slice_get-replicate (first.end - start) (index - start) first.ty (expanded first.end runs) (omega arith) ∙ ap (λ (r : LocalRun). Some r.ty) same
expanded-within start (first ∷ runs) (suc k) index run h e le lt =
    let above = start_of-above first.end runs k h.1 in
    let split : index - start ≡ (first.end - start) + (index - first.end) = omega (arith, above, h.0, le) in
    rw split (slice_get-behind (first.end - start) (index - first.end) first.ty (expanded first.end runs) ∙ expanded-within first.end runs k index run h.1 e le lt)

start_of-past : (start : ℕ) (runs : List LocalRun) (k : ℕ) → length runs ≤ k → start_of start runs k ≡ end_of start runs
start_of-past start [] zero h = refl
start_of-past start [] (suc k) h = refl
start_of-past start (run ∷ runs) zero h = absurd (omega arith)
start_of-past start (run ∷ runs) (suc k) h = start_of-past run.end runs k (omega arith)

module _ (runs : List LocalRun) (types : List ValType) (ascending : IsAscending 0 runs) (is : expanded 0 runs ≡ types) where
  ends_with : end_of 0 runs ≡ length types
  ends_with = omega (arith, (length-expanded 0 runs ascending).0, ap length is)

  pub IsAscending-added : (len count : ℕ) (ty : ValType) → len ≡ length types → length types + count < 2 ^ 32 → IsAscending 0 (runs ++ added len count ty ∷ [])
  IsAscending-added len count ty e lt = IsAscending-push 0 runs (added len count ty) ascending (omega (arith, ends_with)) (omega arith)

  pub expanded-added : (len count : ℕ) (ty : ValType) → len ≡ length types → expanded 0 (runs ++ added len count ty ∷ []) ≡ types ++ replicate count ty
  expanded-added len count ty e =
      let more : len + count - end_of 0 runs ≡ count = omega (arith, ends_with) in
      expanded-push 0 runs (added len count ty) ∙ rw (more, is) refl

  -- The local at an index has the type of the run around it.
  pub type_within : (k index : ℕ) (run : LocalRun) → k < length runs → run ≡ get_or runs k run → start_of 0 runs k ≤ index
      → IfSome (slice_get runs k) (λ r. index < r.end) → Some run.ty ≡ slice_get types index
  type_within k index run lt e begins ends =
      let there = slice_get_read runs (length runs) k run refl lt e in
      let less : index < run.end = rw there at ends in
      let whole : index - 0 ≡ index = omega arith in
      sym (rw whole at (expanded-within 0 runs k index run ascending there begins less)) ∙ ap (λ (ts : List ValType). slice_get ts index) is

  -- After the last run there is no local.
  pub none_past : (k index : ℕ) → length runs ≤ k → start_of 0 runs k ≤ index → None ≡ slice_get types index
  none_past k index past le = sym (slice_get_past types index (omega (arith, ends_with, start_of-past 0 runs k past)))

pub begins_next : (start : ℕ) (runs : List LocalRun) (k index : ℕ) (default : LocalRun) → k < length runs → (get_or runs k default).end ≤ index
    → start_of start runs (k + 1) ≤ index
begins_next start runs k index default lt le = rw (add-one, start_of-next start runs k (get_or runs k default) (slice_get-get_or runs k default lt)) le

pub ends_there : (runs : List LocalRun) (k index : ℕ) (default : LocalRun) → k < length runs → index < (get_or runs k default).end → IfSome (slice_get runs k) (λ run. index < run.end)
ends_there runs k index default lt less = rw (slice_get-get_or runs k default lt) less

-- Runs behind a first one end where the last of them does, or the first one if there are no others.
module _ (first : LocalRun) (others : List LocalRun) (types : List ValType) (ascending : IsAscending 0 (first ∷ others)) (is : expanded 0 (first ∷ others) ≡ types) where
  pub ends_behind : (run : LocalRun) → Some run ≡ slice_get others (length others - 1) → run.end ≡ length types
  ends_behind run e =
      let inside = slice_get_within others (length others - 1) run (sym e) in
      sym (end_of-last first.end others (length others - 1) run (omega (arith, inside)) (sym e)) ∙ ends_with (first ∷ others) types ascending is

  pub ends_first : others ≡ [] → first.end ≡ length types
  ends_first none = ap (λ (runs : List LocalRun). end_of first.end runs) (sym none) ∙ ends_with (first ∷ others) types ascending is
