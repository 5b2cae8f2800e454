-- Entries with their targets.
use Rattle.std.proofs.Common.{◌≡◌, ℕ, suc, ◌<◌, List, [], ◌∷◌, ◌++◌, length, set, refl, ap, ap₂, sym, ◌∙◌, subst, arith, append_assoc, length-append}
use Rattle.std.proofs.lemmas.List.{get_or_append_left, get_or_at, length-set, set-append_left, set_at}
use Rattle.std.proofs.lemmas.List.Elements.{All-head, All-tail}
use Rattle.std.specs.List.{All}
use Rattle.sidetable.specs.Completion.{aimed_at, entry_in, with_target, with_targets}
use Rattle.sidetable.specs.declared.operations.Entry.{Entry}

abbrev pub IsBelow : ℕ → (ℕ × ℕ) → Type 0
IsBelow n t = t.0 < n

length-with_target : (es : List Entry) (n t : ℕ) → length (with_target es n t) ≡ length es
length-with_target es n t = length-set es n (aimed_at t (entry_in es n))

pub length-with_targets : (es : List Entry) (ts : List (ℕ × ℕ)) → length (with_targets es ts) ≡ length es
length-with_targets es [] = refl
length-with_targets es (t ∷ ts) = length-with_targets (with_target es t.0 t.1) ts ∙ length-with_target es t.0 t.1

with_target-append : (es fs : List Entry) (n t : ℕ) → n < length es → with_target (es ++ fs) n t ≡ with_target es n t ++ fs
with_target-append es fs n t within =
    ap (λ (e : Entry). set (es ++ fs) n (aimed_at t e)) (get_or_append_left es fs (record { target = 0; kept = 0; height = 0 }) n within)
    ∙ set-append_left es fs n (aimed_at t (entry_in es n)) within

pub with_targets-append : (es fs : List Entry) (ts : List (ℕ × ℕ)) → All (IsBelow (length es)) ts → with_targets (es ++ fs) ts ≡ with_targets es ts ++ fs
with_targets-append es fs [] below = refl
with_targets-append es fs (t ∷ ts) below =
    ap (λ (xs : List Entry). with_targets xs ts) (with_target-append es fs t.0 t.1 (All-head (IsBelow (length es)) t ts below))
    ∙ with_targets-append (with_target es t.0 t.1) fs ts (subst (λ (n : ℕ). All (IsBelow n) ts) (sym (length-with_target es t.0 t.1)) (All-tail (IsBelow (length es)) t ts below))

-- ---- entries that were pushed last

with_target-last : (es : List Entry) (e : Entry) (t : ℕ) → with_target (es ++ (e ∷ [])) (length es) t ≡ es ++ (aimed_at t e ∷ [])
with_target-last es e t =
    ap (λ (x : Entry). set (es ++ (e ∷ [])) (length es) (aimed_at t x)) (get_or_at es e [] (record { target = 0; kept = 0; height = 0 }) (length es) refl)
    ∙ set_at es e [] (aimed_at t e) (length es) refl

-- One entry that was pushed.
pub one-aimed : (es : List Entry) (e : Entry) (t : ℕ) (ts : List (ℕ × ℕ)) → All (IsBelow (length es)) ts
    → with_targets (es ++ (e ∷ [])) ((length es, t) ∷ ts) ≡ with_targets es ts ++ (aimed_at t e ∷ [])
one-aimed es e t ts below = ap (λ (xs : List Entry). with_targets xs ts) (with_target-last es e t) ∙ with_targets-append es (aimed_at t e ∷ []) ts below

-- Two, of which the second one gets its target first.
pub two-aimed : (es : List Entry) (e f : Entry) (t u : ℕ) (ts : List (ℕ × ℕ)) → All (IsBelow (length es)) ts
    → with_targets (es ++ (e ∷ (f ∷ []))) ((suc (length es), u) ∷ ((length es, t) ∷ ts)) ≡ with_targets es ts ++ (aimed_at t e ∷ (aimed_at u f ∷ []))
two-aimed es e f t u ts below =
    let size : suc (length es) ≡ length (es ++ (e ∷ [])) = omega (arith, length-append es (e ∷ [])) in
    ap₂ (λ (xs : List Entry) (n : ℕ). with_targets xs ((n, u) ∷ ((length es, t) ∷ ts))) (sym (append_assoc es (e ∷ []) (f ∷ []))) size
    ∙ ap (λ (xs : List Entry). with_targets (with_target xs (length es) t) ts) (with_target-last (es ++ (e ∷ [])) f u)
    ∙ ap (λ (xs : List Entry). with_targets xs ts)
    (with_target-append (es ++ (e ∷ [])) (aimed_at u f ∷ []) (length es) t (omega (arith, size)) ∙ ap (λ (xs : List Entry). xs ++ (aimed_at u f ∷ [])) (with_target-last es e t)
    ∙ append_assoc es (aimed_at t e ∷ []) (aimed_at u f ∷ []))
    ∙ with_targets-append es (aimed_at t e ∷ (aimed_at u f ∷ [])) ts below
