-- Lists in which items replace others, and tests that hold.
use Rattle.std.proofs.Common.{◌≡◌, ℕ, ◌+◌, ◌≤◌, List, ◌++◌, Bool, true, false, length, take, drop, refl, arith}
use Rattle.std.proofs.lemmas.Bool.{leb-true}
use Rattle.std.proofs.lemmas.List.{length-append, length-drop, length-take-le}
use Rattle.std.proofs.lemmas.List.Elements.{All-append, All-drop, All-take}
use Rattle.std.specs.List.{All}
use Rattle.std.specs.Prelude.{◌&&◌, nat_le}
use Rattle.meaning.specs.execution.Storage.{items_at, overwrite}

module _ {X : Type 0} (items : List X) (offset : ℕ) where
  pub overwrite-length : (new : List X) → offset + length new ≤ length items → length (overwrite items offset new) ≡ length items
  overwrite-length new fits =
      let front : length (take offset items) ≡ offset = length-take-le offset items (omega (arith, fits)) in
      omega (
        arith,
        fits,
        front,
        length-append (take offset items) (new ++ drop (offset + length new) items),
        length-append new (drop (offset + length new) items),
        length-drop (offset + length new) items,
      )

  pub items-at-length : (count : ℕ) → offset + count ≤ length items → length (items_at items offset count) ≡ count
  items-at-length count fits = length-take-le count (drop offset items) (omega (arith, fits, length-drop offset items))

  module _ (P : X → Type 0) (all : All P items) where
    pub overwrite-all : (new : List X) → All P new → All P (overwrite items offset new)
    overwrite-all new others =
        All-append P (take offset items) (new ++ drop (offset + length new) items) (All-take P offset items all)
        (All-append P new (drop (offset + length new) items) others (All-drop P (offset + length new) items all))

    pub items-at-all : (count : ℕ) → All P (items_at items offset count)
    items-at-all count = All-take P count (drop offset items) (All-drop P offset items all)

-- Both of two tests hold.
pub both : (a b : Bool) → (a && b) ≡ true → (a ≡ true) × (b ≡ true)
both true b is = (refl, is)
both false b is = absurd cc

pub at-most : (a b : ℕ) → nat_le a b ≡ true → a ≤ b
at-most a b is = leb-true a b is
