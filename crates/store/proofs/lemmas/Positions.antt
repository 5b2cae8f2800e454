-- Items by their positions.
use Rattle.std.proofs.Common.{◌≡◌, ℕ, zero, suc, ◌+◌, ◌<◌, List, [], ◌∷◌, ◌++◌, length, refl, sym, subst, ap, arith, ◌∙◌}
use Rattle.std.specs.Prelude.{Some, slice_get}
use Rattle.std.specs.List.{All}
use Rattle.std.proofs.lemmas.Option.{get_or_from_slice_get, slice_get_within}
use Rattle.meaning.specs.execution.Modules.{consecutive}

pub slice_get-front : {A : Type 0} (xs ys : List A) (k : ℕ) (x : A) → slice_get xs k ≡ Some x → slice_get (xs ++ ys) k ≡ Some x
slice_get-front [] ys k x e = absurd cc
slice_get-front (z ∷ zs) ys zero x e = e
slice_get-front (z ∷ zs) ys (suc k) x e = slice_get-front zs ys k x e

pub slice_get-seam : {A : Type 0} (xs : List A) (x : A) (ys : List A) → slice_get (xs ++ x ∷ ys) (length xs) ≡ Some x
slice_get-seam [] x ys = refl
slice_get-seam (z ∷ zs) x ys = slice_get-seam zs x ys

pub slice_get-behind : {A : Type 0} (xs ys : List A) (k : ℕ) (y : A) → slice_get ys k ≡ Some y → slice_get (xs ++ ys) (length xs + k) ≡ Some y
slice_get-behind {A} [] ys k y e = let same : zero + k ≡ k = omega arith in subst (λ (n : ℕ). slice_get ys n ≡ Some y) (sym same) e
slice_get-behind {A} (x ∷ xs) ys k y e =
    let same : suc (length xs) + k ≡ suc (length xs + k) = omega arith in
    subst (λ (n : ℕ). slice_get (x ∷ xs ++ ys) n ≡ Some y) (sym same) (slice_get-behind xs ys k y e)

-- What holds for each item at its position, and for one more at the end.
pub slice_get-last : {A : Type 0} (P : ℕ → A → Type 0) (xs : List A) (x : A) → ((k : ℕ) (y : A) → slice_get xs k ≡ Some y → P k y) → P (length xs) x
    → (k : ℕ) (y : A) → slice_get (xs ++ x ∷ []) k ≡ Some y → P k y
slice_get-last P [] x all last zero y e = let same : x ≡ y = cc in subst (P zero) same last
slice_get-last P [] x all last (suc k) y e = absurd cc
slice_get-last P (z ∷ zs) x all last zero y e = all zero y e
slice_get-last P (z ∷ zs) x all last (suc k) y e = slice_get-last (λ (n : ℕ). P (suc n)) zs x (λ n. all (suc n)) last k y e

pub holds-at : {A : Type 0} (P : A → Type 0) (xs : List A) (k : ℕ) (x : A) → All P xs → slice_get xs k ≡ Some x → P x
holds-at P xs k x h e = subst P (get_or_from_slice_get xs k x x e) (h k x (slice_get_within xs k x e))

-- Consecutive numbers.
pub consecutive-at : (first count k : ℕ) → k < count → slice_get (consecutive first count) k ≡ Some (first + k)
consecutive-at first zero k inside = absurd (omega (arith, inside))
consecutive-at first (suc count) zero inside = ap (λ (n : ℕ). Some n) (omega arith)
consecutive-at first (suc count) (suc k) inside =
    let same : suc first + k ≡ first + suc k = omega arith in
    consecutive-at (suc first) count k (omega (arith, inside)) ∙ ap (λ (n : ℕ). Some n) same

-- Consecutive numbers, and the next one.
pub consecutive-next : (first count : ℕ) → consecutive first count ++ (first + count) ∷ [] ≡ consecutive first (count + 1)
consecutive-next first zero = let e : first + 0 ≡ first = omega arith in ap (λ (n : ℕ). n ∷ []) e
consecutive-next first (suc count) =
    let e : first + suc count ≡ suc first + count = omega arith in
    let more = consecutive-next (suc first) count in
    let counted : suc count + 1 ≡ suc (count + 1) = omega arith in
    rw (e, counted) (ap (λ (ns : List ℕ). first ∷ ns) more)
