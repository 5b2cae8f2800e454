-- Items after others, and their addresses.
use Rattle.std.proofs.Common.{◌≡◌, ℕ, zero, suc, ◌+◌, ◌<◌, ◌≤◌, List, [], ◌∷◌, ◌++◌, length, map, Option, Some, refl, ap, ap₂, sym, ◌∙◌, append_assoc, arith, slice_get, option_map, unwrap_or}
use Rattle.std.proofs.lemmas.List.{length-append, map-append}
use Rattle.std.proofs.lemmas.List.Elements.{All-append, All-replicate}
use Rattle.std.specs.List.{All}
use Rattle.meaning.specs.execution.Modules.{consecutive}
use Rattle.soundness.specs.Places.{types_at}
use Rattle.soundness.specs.Stores.{AreThere, Keeps}

module _ {X : Type 0} where
  pub append-at : (xs ys : List X) (k : ℕ) (x : X) → slice_get xs k ≡ Some x → slice_get (xs ++ ys) k ≡ Some x
  append-at [] ys k x is = absurd cc
  append-at (y ∷ xs) ys zero x is = is
  append-at (y ∷ xs) ys (suc k) x is = append-at xs ys k x is

  pub append-first : (xs ys : List X) (y : X) → slice_get (xs ++ y ∷ ys) (length xs) ≡ Some y
  append-first [] ys y = refl
  append-first (x ∷ xs) ys y = append-first xs ys y

  pub same-below : (xs ys : List X) (k : ℕ) → k < length xs → slice_get (xs ++ ys) k ≡ slice_get xs k
  same-below [] ys k inside = absurd (let wrong : ⊥ = omega (arith, inside) in wrong)
  same-below (x ∷ xs) ys zero inside = refl
  same-below (x ∷ xs) ys (suc k) inside = same-below xs ys k (omega (arith, inside))

  pub Keeps-append : (Stays : X → X → Type 0) → ((x : X) → Stays x x) → (xs ys : List X) → Keeps Stays xs (xs ++ ys)
  Keeps-append Stays same xs ys k x is = (x, append-at xs ys k x is, same x)

-- ---- addresses

pub consecutive-length : (first count : ℕ) → length (consecutive first count) ≡ count
consecutive-length first zero = refl
consecutive-length first (suc count) = ap suc (consecutive-length (suc first) count)

pub consecutive-below : (first count bound : ℕ) → first + count ≤ bound → All (λ (a : ℕ). a < bound) (consecutive first count)
consecutive-below first zero bound fits = λ k d inside. let wrong : ⊥ = omega (arith, inside) in absurd wrong
consecutive-below first (suc count) bound fits =
    All-append (λ (a : ℕ). a < bound) (first ∷ []) (consecutive (suc first) count)
    (All-replicate (λ (a : ℕ). a < bound) 1 first (omega (arith, fits))) (consecutive-below (suc first) count bound (omega (arith, fits)))

pub there-append : {X : Type 0} (xs ys : List X) (given : List ℕ) (count : ℕ) → AreThere xs given → length ys ≡ count → AreThere (xs ++ ys) (given ++ consecutive (length xs) count)
there-append xs ys given count there same =
    let longer : length xs + count ≤ length (xs ++ ys) = omega (arith, same, length-append xs ys) in
    All-append (λ (a : ℕ). a < length (xs ++ ys)) given (consecutive (length xs) count)
    (λ k d inside. let below = there k d inside in omega (arith, below, longer)) (consecutive-below (length xs) count (length (xs ++ ys)) longer)

-- ---- types at addresses

module _ {X Y : Type 0} (type : X → Y) (missing : Y) where
  pub types-before : (xs ys : List X) (addresses : List ℕ) → AreThere xs addresses → types_at type missing (xs ++ ys) addresses ≡ types_at type missing xs addresses
  types-before xs ys [] there = refl
  types-before xs ys (a ∷ addresses) there =
      ap₂ (λ (t : Y) (ts : List Y). t ∷ ts) (ap (λ (o : Option X). unwrap_or (option_map type o) missing) (same-below xs ys a (there 0 a (omega (arith)))))
      (types-before xs ys addresses (λ k d inside. there (suc k) d (omega (arith, inside))))

  types-behind : (xs ys : List X) → types_at type missing (xs ++ ys) (consecutive (length xs) (length ys)) ≡ map type ys
  types-behind xs [] = refl
  types-behind xs (y ∷ ys) =
      let first = ap (λ (o : Option X). unwrap_or (option_map type o) missing) (append-first xs ys y) in
      let longer : length (xs ++ y ∷ []) ≡ suc (length xs) = omega (arith, length-append xs (y ∷ [])) in
      let others = types-behind (xs ++ y ∷ []) ys in
      ap₂ (λ (t : Y) (ts : List Y). t ∷ ts) first
      (ap₂ (λ (zs : List X) (n : ℕ). types_at type missing zs (consecutive n (length ys))) (sym (append_assoc xs (y ∷ []) ys)) (sym longer) ∙ others)

  -- What is given has its types, and the types of the new items follow.
  pub types-appended : (xs ys : List X) (given : List ℕ) (count : ℕ) → AreThere xs given → length ys ≡ count
      → types_at type missing (xs ++ ys) (given ++ consecutive (length xs) count) ≡ types_at type missing xs given ++ map type ys
  types-appended xs ys given count there same =
      ap (λ (n : ℕ). types_at type missing (xs ++ ys) (given ++ consecutive (length xs) n)) (sym same)
      ∙ map-append _ given (consecutive (length xs) (length ys))
      ∙ ap₂ (λ (a b : List Y). a ++ b) (types-before xs ys given there) (types-behind xs ys)
