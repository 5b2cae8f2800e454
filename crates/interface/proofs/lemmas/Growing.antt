-- A list that has what is expected, when one more is added to both.
use Rattle.std.proofs.Common.{List, [], ◌∷◌, ◌++◌}
use Rattle.std.specs.List.{AllZip}

module _ {A B : Type 0} {Old New : A → B → Type 0} (kept : (x : A) (e : B) → Old x e → New x e) (item : A) (added : B) (is : New item added) where
  pub one_more : (items : List A) (expected : List B) → AllZip Old items expected → AllZip New (items ++ item ∷ []) (expected ++ added ∷ [])
  one_more [] [] listed = (is, tt)
  one_more [] (e ∷ es) listed = absurd listed
  one_more (x ∷ xs) [] listed = absurd listed
  one_more (x ∷ xs) (e ∷ es) listed = (kept x e listed.0, one_more xs es listed.1)
