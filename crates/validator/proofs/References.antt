-- Marks that are set in turn.
use Rattle.std.proofs.Common.{◌≡◌, ℕ, zero, suc, ◌+◌, ◌<◌, Bool, List, [], ◌∷◌, ◌++◌, length, get_or, drop, replicate, refl, sym, ap, ◌∙◌, inl, inr, arith}
use Rattle.std.proofs.lemmas.List.{drop_more, length-replicate}
use Rattle.std.specs.Prelude.{true, false, ◌⊎◌, Some, slice_get, slice_set}
use Rattle.meaning.specs.validation.Instructions.{IsNamed}
use Rattle.core_types.specs.declared.module.Module.{Module}
use Rattle.meaning.specs.validation.Modules.{function_indices, named_functions}
use Rattle.validator.specs.References.{HasMarks, set_marks}

pub marked_append : (marks : List Bool) (xs ys : List ℕ) → set_marks marks (xs ++ ys) ≡ set_marks (set_marks marks xs) ys
marked_append marks [] ys = refl
marked_append marks (x ∷ xs) ys = marked_append (slice_set marks x true) xs ys

-- Each element names some functions, and the list names those of its elements in order.
module _ {A : Type 0} (first : A → List ℕ) (named : List A → List ℕ) (in_order : (x : A) (xs : List A) → named (x ∷ xs) ≡ first x ++ named xs) where
  pub marked_next : (xs : List A) (i : ℕ) (x : A) (marks marks' total : List Bool) → i < length xs → x ≡ get_or xs i x → marks' ≡ set_marks marks (first x)
      → set_marks marks (named (drop i xs)) ≡ total → set_marks marks' (named (drop (i + 1) xs)) ≡ total
  marked_next xs i x marks marks' total lt is set so_far =
      let others = named (drop (i + 1) xs) in
      let here : named (drop i xs) ≡ first x ++ others = ap named (drop_more xs i x lt ∙ ap (λ (y : A). y ∷ drop (i + 1) xs) (sym is)) ∙ in_order x (drop (i + 1) xs) in
      ap (λ (ms : List Bool). set_marks ms others) set ∙ sym (marked_append marks (first x) others) ∙ sym (ap (set_marks marks) here) ∙ so_far

set_only : (marks : List Bool) (y x : ℕ) → slice_get (slice_set marks y true) x ≡ Some true → (slice_get marks x ≡ Some true) ⊎ (x ≡ y)
set_only [] y x h = inl h
set_only (m ∷ ms) zero zero h = inr refl
set_only (m ∷ ms) zero (suc x) h = inl h
set_only (m ∷ ms) (suc y) zero h = inl h
set_only (m ∷ ms) (suc y) (suc x) h = elim (set_only ms y x h) [ inl before ↦ inl before | inr e ↦ inr (ap suc e) ]

set_stays : (marks : List Bool) (y x : ℕ) → slice_get marks x ≡ Some true → slice_get (slice_set marks y true) x ≡ Some true
set_stays [] y x h = h
set_stays (m ∷ ms) zero zero h = refl
set_stays (m ∷ ms) zero (suc x) h = h
set_stays (m ∷ ms) (suc y) zero h = h
set_stays (m ∷ ms) (suc y) (suc x) h = set_stays ms y x h

set_there : (marks : List Bool) (x : ℕ) → x < length marks → slice_get (slice_set marks x true) x ≡ Some true
set_there [] x lt = absurd (omega arith)
set_there (m ∷ ms) zero lt = refl
set_there (m ∷ ms) (suc x) lt = set_there ms x (omega arith)

length-set_true : (marks : List Bool) (x : ℕ) → length (slice_set marks x true) ≡ length marks
length-set_true [] x = refl
length-set_true (m ∷ ms) zero = refl
length-set_true (m ∷ ms) (suc x) = ap suc (length-set_true ms x)

marked_only : (marks : List Bool) (xs : List ℕ) (x : ℕ) → slice_get (set_marks marks xs) x ≡ Some true → (slice_get marks x ≡ Some true) ⊎ IsNamed x xs
marked_only marks [] x h = inl h
marked_only marks (y ∷ ys) x h =
    elim (marked_only (slice_set marks y true) ys x h) [ inl before ↦ elim (set_only marks y x before) [ inl earlier ↦ inl earlier | inr e ↦ inr (inl e) ] | inr later ↦ inr (inr later) ]

marked_stays : (marks : List Bool) (xs : List ℕ) (x : ℕ) → slice_get marks x ≡ Some true → slice_get (set_marks marks xs) x ≡ Some true
marked_stays marks [] x h = h
marked_stays marks (y ∷ ys) x h = marked_stays (slice_set marks y true) ys x (set_stays marks y x h)

pub marked_all : (marks : List Bool) (xs : List ℕ) (x : ℕ) → x < length marks → IsNamed x xs → slice_get (set_marks marks xs) x ≡ Some true
marked_all marks [] x lt named = absurd named
marked_all marks (y ∷ ys) x lt (inl e) = marked_stays (slice_set marks y true) ys x (rw (← e) (set_there marks x lt))
marked_all marks (y ∷ ys) x lt (inr later) = marked_all (slice_set marks y true) ys x (omega (arith, length-set_true marks y)) later

pub length-set_marks : (marks : List Bool) (xs : List ℕ) → length (set_marks marks xs) ≡ length marks
length-set_marks marks [] = refl
length-set_marks marks (x ∷ xs) = length-set_marks (slice_set marks x true) xs ∙ length-set_true marks x

none_set : (n x : ℕ) → slice_get (replicate n false) x ≡ Some true → ⊥
none_set zero x h = absurd cc
none_set (suc n) zero h = absurd cc
none_set (suc n) (suc x) h = none_set n x h

pub named_if_marked : (n : ℕ) (xs : List ℕ) (x : ℕ) → slice_get (set_marks (replicate n false) xs) x ≡ Some true → IsNamed x xs
named_if_marked n xs x h = elim (marked_only (replicate n false) xs x h) [ inl before ↦ absurd (none_set n x before) | inr named ↦ named ]

-- The marks of the functions that a module names, set in turn.
pub are_marks : (m : Module) (count : ℕ) (marks : List Bool) → count ≡ length (function_indices m) → marks ≡ set_marks (replicate count false) (named_functions m) → HasMarks m marks
are_marks m count marks one_each set =
    let none = replicate count false in
    record {
      one_for_each = ap length set ∙ length-set_marks none (named_functions m) ∙ length-replicate count false ∙ one_each;
      named = λ x marked. named_if_marked count (named_functions m) x (rw set at marked);
      set = λ x lt named. rw set (marked_all none (named_functions m) x (omega (arith, length-replicate count false, one_each)) named);
    }
