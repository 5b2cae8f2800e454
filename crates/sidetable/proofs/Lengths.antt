-- The number of operations of a body is its size.
use Rattle.std.proofs.Common.{◌≡◌, ℕ, suc, ◌+◌, List, ◌++◌, length, refl, ap, ap₂, ◌∙◌, length-append}
use Rattle.std.specs.Prelude.{Option}
use Rattle.meaning.specs.structure.Bodies.{Body, Empty, Then, Nested, IfElse}
use Rattle.sidetable.specs.Counts.{Signatures}
use Rattle.sidetable.specs.Flat.{FlatOp, flat, size}
use Rattle.sidetable.specs.declared.operations.Entry.{Entry}

length-both : (xs ys : List FlatOp) (n m : ℕ) → length xs ≡ n → length ys ≡ m → length (xs ++ ys) ≡ n + m
length-both xs ys n m first second = length-append xs ys ∙ ap₂ (λ (i j : ℕ). i + j) first second

pub as-many : (s : Signatures) (outermost : Entry) (body : Body) (labels : List Entry) (h : Option ℕ) (at : ℕ) → length (flat s outermost labels h at body) ≡ size body
as-many s outermost Empty labels h at = refl
as-many s outermost (Then op rest) labels h at = ap suc (as-many s outermost rest labels _ (suc at))
as-many s outermost (Nested kind type inner rest) labels h at =
    ap suc (length-both _ _ (size inner) (size rest) (as-many s outermost inner _ _ (suc at)) (as-many s outermost rest labels _ _))
as-many s outermost (IfElse type inner other rest) labels h at =
    ap suc (length-both _ _ (size inner) (suc (size other + size rest)) (as-many s outermost inner _ _ (suc at))
    (ap suc (length-both _ _ (size other) (size rest) (as-many s outermost other _ _ _) (as-many s outermost rest labels _ _))))
