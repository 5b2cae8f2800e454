-- Texts that represent arguments.
use Rattle.std.proofs.Common.{◌+◌, ◌++◌, ◌<◌, ℕ, List, [], ◌∷◌, length, take, get_or}
use Rattle.std.specs.List.{AllZip}
use Rattle.std.proofs.lemmas.List.{take_more}
use Rattle.std.proofs.lemmas.Slice.Zip.{all_zipped_more}

-- One more text is read.
pub one-more : {A B : Type 0} (R : A → B → Type 0) (xs : List A) (ys : List B) (i : ℕ) (d : A) (y : B) → i < length xs → AllZip R (take i xs) ys
    → R (get_or xs i d) y → AllZip R (take (i + 1) xs) (ys ++ y ∷ [])
one-more R xs ys i d y inside all one = rw (take_more xs i d inside) (all_zipped_more R (take i xs) ys (get_or xs i d) y all one)
