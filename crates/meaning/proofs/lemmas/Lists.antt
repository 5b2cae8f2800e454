-- Lists that a loop builds, item by item.
use Rattle.std.proofs.Common.{◌≡◌, ℕ, ◌+◌, ◌<◌, ◌≤◌, List, [], ◌∷◌, ◌++◌, append_assoc, ap, drop, get_or, length, map, refl, sym, take, ◌∙◌}
use Rattle.std.specs.Prelude.{Option, Some, None}
use Rattle.std.proofs.lemmas.List.{append-nil, drop_more, map-append, take_more}
use Rattle.std.proofs.Math.ListN.{drop_of_length-le}
use Rattle.meaning.specs.execution.Modules.{cons, map_all}

-- ---- the value of each item

module _ {A B : Type 0} (f : A → B) where
  pub map-next : (xs : List A) (k : ℕ) (d : A) → k < length xs → map f (take k xs) ++ f (get_or xs k d) ∷ [] ≡ map f (take (k + 1) xs)
  map-next xs k d inside = sym (ap (map f) (take_more xs k d inside) ∙ map-append f (take k xs) (get_or xs k d ∷ []))

-- ---- the value of each item, if each item has one

-- Items before the existing ones, if there are any.
abbrev prepended : {B : Type 0} → List B → Option (List B) → Option (List B)
prepended items None = None
prepended items (Some others) = Some (items ++ others)

prepended-one : {B : Type 0} (ys : List B) (y : B) (rest : Option (List B)) → prepended ys (cons (Some y) rest) ≡ prepended (ys ++ y ∷ []) rest
prepended-one ys y None = refl
prepended-one {B = B} ys y (Some zs) = ap (λ (all : List B). Some all) (sym (append_assoc ys (y ∷ []) zs))

-- The items of an option, or an empty list if there are none.
abbrev items_in : {B : Type 0} → Option (List B) → List B
items_in None = []
items_in (Some ys) = ys

module _ {A B : Type 0} (f : A → Option B) (xs : List A) where
  -- The values so far, before those of the rest.
  abbrev pub SoFar : ℕ → List B → Type 0
  SoFar k ys = map_all f xs ≡ prepended ys (map_all f (drop k xs))

  pub map_all-next : (k : ℕ) (ys : List B) (d : A) (y : B) → k < length xs → SoFar k ys → f (get_or xs k d) ≡ Some y → SoFar (k + 1) (ys ++ y ∷ [])
  map_all-next k ys d y inside so_far has =
      so_far ∙ ap (λ (rest : List A). prepended ys (map_all f rest)) (drop_more xs k d inside) ∙ ap
      (λ (o : Option B). prepended ys (cons o (map_all f (drop (k + 1) xs)))) has ∙ prepended-one ys y (map_all f (drop (k + 1) xs))

  pub map_all-none : (k : ℕ) (ys : List B) (d : A) → k < length xs → SoFar k ys → f (get_or xs k d) ≡ None → map_all f xs ≡ None
  map_all-none k ys d inside so_far none =
      so_far ∙ ap (λ (rest : List A). prepended ys (map_all f rest)) (drop_more xs k d inside) ∙ ap (λ (o : Option B). prepended ys (cons o (map_all f (drop (k + 1) xs)))) none

  pub map_all-end : (k : ℕ) (ys : List B) → length xs ≤ k → SoFar k ys → map_all f xs ≡ Some ys
  map_all-end k ys past so_far =
      so_far ∙ ap (λ (rest : List A). prepended ys (map_all f rest)) (drop_of_length-le xs past) ∙ ap (λ (all : List B). Some all) (append-nil ys)

module _ {A B : Type 0} (f : A → Option B) where
  -- The list of the values of items is as long as the items.
  pub map_all-length : (xs : List A) (ys : List B) → map_all f xs ≡ Some ys → length ys ≡ length xs
  map_all-length [] ys e = rw (← ap items_in e) refl
  map_all-length (x ∷ xs) ys e = by-first (f x) (map_all f xs) (λ zs is. map_all-length xs zs is) e
    where
      by-first : (first : Option B) (others : Option (List B)) → ((zs : List B) → others ≡ Some zs → length zs ≡ length xs)
          → cons first others ≡ Some ys → length ys ≡ length (x ∷ xs)
      by-first None others rest all = absurd cc
      by-first (Some y) None rest all = absurd cc
      by-first (Some y) (Some zs) rest all = rw (← ap items_in all, rest zs refl) refl
