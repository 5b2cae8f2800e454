-- The heights that are reached in a body.
use Rattle.std.specs.Prelude.{◌≡◌, ◌⊎◌, ℕ, Option, Some}
use Rattle.meaning.specs.structure.Bodies.{Body, IfKind, Empty, Then, Nested, IfElse}
use Rattle.sidetable.specs.Counts.{Signatures, behind, block_counts, counts_of}
use Rattle.sidetable.specs.Flat.{behind_height, inside_height}

-- From this height, this one is reached before an instruction of the body or at its end.
abbrev pub IsReached : Signatures → (height : Option ℕ) → Body → ℕ → Type 0
IsReached s h Empty n = h ≡ Some n
IsReached s h (Then op rest) n = (h ≡ Some n) ⊎ IsReached s (behind (counts_of s op) h) rest n
IsReached s h (Nested kind type inner rest) n =
    (h ≡ Some n)
    ⊎ (IsReached s (inside_height kind h) inner n
    ⊎ IsReached s (behind_height kind (block_counts s type) h) rest n)
IsReached s h (IfElse type inner other rest) n =
    (h ≡ Some n)
    ⊎ (IsReached s (inside_height IfKind h) inner n
    ⊎ (IsReached s (inside_height IfKind h) other n
    ⊎ IsReached s (behind_height IfKind (block_counts s type) h) rest n))
