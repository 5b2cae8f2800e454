-- Bodies at places.
use Rattle.std.proofs.Common.{◌≡◌, ℕ, zero, suc, ◌+◌, List, [], ◌∷◌, ◌++◌, length, drop, refl, ap, sym, ◌∙◌, add-suc, add-zero, suc-add, length-append}
use Rattle.std.specs.Prelude.{Option}
use Rattle.meaning.specs.structure.Bodies.{Body, Empty, Then, Nested, IfElse}
use Rattle.sidetable.specs.Counts.{Signatures}
use Rattle.sidetable.specs.Flat.{FlatOp, flat, size}
use Rattle.sidetable.specs.declared.operations.Entry.{Entry}

module _ {X : Type 0} where
  pub drop-next : (at : ℕ) (xs : List X) (x : X) (ys : List X) → drop at xs ≡ x ∷ ys → drop (suc at) xs ≡ ys
  drop-next zero [] x ys e = absurd cc
  drop-next (suc at) [] x ys e = absurd cc
  drop-next zero (w ∷ xs) x ys e = cc
  drop-next (suc at) (w ∷ xs) x ys e = drop-next at xs x ys e

  pub drop-past : (at : ℕ) (xs first ys : List X) → drop at xs ≡ first ++ ys → drop (at + length first) xs ≡ ys
  drop-past at xs [] ys e = rw (add-zero at) e
  drop-past at xs (x ∷ first) ys e = rw (add-suc at (length first), ← suc-add at (length first)) (drop-past (suc at) xs first ys (drop-next at xs x (first ++ ys) e))

pub flat-size : (s : Signatures) (outermost : Entry) (body : Body) (labels : List Entry) (h : Option ℕ) (at : ℕ) → length (flat s outermost labels h at body) ≡ size body
flat-size s outermost Empty labels h at = refl
flat-size s outermost (Then op rest) labels h at = ap suc (flat-size s outermost rest labels _ (suc at))
flat-size s outermost (Nested kind type inner rest) labels h at = ap suc (simp (length-append, flat-size s outermost inner, flat-size s outermost rest))
flat-size s outermost (IfElse type inner other rest) labels h at = ap suc (simp (length-append, flat-size s outermost inner, flat-size s outermost other, flat-size s outermost rest))

-- After a body.
pub past-flat : (s : Signatures) (outermost : Entry) (body : Body) (labels : List Entry) (h : Option ℕ) (at : ℕ) (ops more : List FlatOp)
    → drop at ops ≡ flat s outermost labels h at body ++ more → drop (at + size body) ops ≡ more
past-flat s outermost body labels h at ops more e = ap (λ (n : ℕ). drop (at + n) ops) (sym (flat-size s outermost body labels h at)) ∙ drop-past at ops (flat s outermost labels h at body) more e
