-- What a loop over a list has shown for each element.
use Rattle.std.proofs.Common.{◌≡◌, ℕ, ◌+◌, ◌<◌, ◌≤◌, ◌||◌, Bool, List, length, get_or, take, ap, subst, sym, ◌∙◌}
use Rattle.std.specs.List.{list_any}
use Rattle.std.proofs.lemmas.List.Folds.{list_any_more}
use Rattle.std.proofs.lemmas.List.Elements.{All-more}
use Rattle.std.proofs.lemmas.List.{take_all}
use Rattle.std.specs.Prelude.{All}

module _ {A : Type 0} (P : A → Type 0) (xs ys : List A) (i : ℕ) (same : ys ≡ xs) where
  pub All-next : (x : A) → i < length ys → x ≡ get_or ys i x → All P (take i xs) → P x → All P (take (i + 1) xs)
  All-next x lt is so_far p = All-more P xs i x (rw same at lt) so_far (subst P (is ∙ ap (λ (zs : List A). get_or zs i x) same) p)

  pub All-whole : length ys ≤ i → All P (take i xs) → All P xs
  All-whole past so_far = subst (All P) (take_all i xs (rw same at past)) so_far

-- Whether one of those so far has a property.
module _ {A : Type 0} (p : A → Bool) (xs ys : List A) (i : ℕ) (same : ys ≡ xs) where
  pub any_next : (x : A) → i < length ys → x ≡ get_or ys i x → (before named : Bool) → before ≡ list_any p (take i xs) → named ≡ p x
      → (before || named) ≡ list_any p (take (i + 1) xs)
  any_next x lt is before named so_far here =
      rw (so_far, here, is ∙ ap (λ (zs : List A). get_or zs i x) same) (sym (list_any_more p xs i x (rw same at lt)))

  pub any_whole : length ys ≤ i → (named : Bool) → named ≡ list_any p (take i xs) → named ≡ list_any p xs
  any_whole past named so_far = so_far ∙ ap (list_any p) (take_all i xs (rw same at past))
