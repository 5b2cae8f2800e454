-- No reached height is greater than the greatest.
use Rattle.std.proofs.Common.{inl, inr, ℕ, ◌≤◌, ap, arith}
use Rattle.std.specs.Prelude.{Option}
use Rattle.meaning.specs.structure.Bodies.{Body, IfKind, Empty, Then, Nested, IfElse}
use Rattle.sidetable.specs.Counts.{Signatures, behind, block_counts, counts_of, height_or_zero}
use Rattle.sidetable.specs.Flat.{behind_height, greatest, inside_height}
use Rattle.sidetable.specs.Heights.{IsReached}

pub reached-below : (s : Signatures) (h : Option ℕ) (body : Body) (n : ℕ) → IsReached s h body n → n ≤ greatest s h body
reached-below s h Empty n e = let here = ap height_or_zero e in omega (arith, here)
reached-below s h (Then op rest) n (inl e) = let here = ap height_or_zero e in omega (arith, here)
reached-below s h (Then op rest) n (inr there) = let below = reached-below s (behind (counts_of s op) h) rest n there in omega (arith, below)
reached-below s h (Nested kind type inner rest) n (inl e) = let here = ap height_or_zero e in omega (arith, here)
reached-below s h (Nested kind type inner rest) n (inr (inl there)) = let below = reached-below s (inside_height kind h) inner n there in omega (arith, below)
reached-below s h (Nested kind type inner rest) n (inr (inr there)) = let below = reached-below s (behind_height kind (block_counts s type) h) rest n there in omega (arith, below)
reached-below s h (IfElse type inner other rest) n (inl e) = let here = ap height_or_zero e in omega (arith, here)
reached-below s h (IfElse type inner other rest) n (inr (inl there)) = let below = reached-below s (inside_height IfKind h) inner n there in omega (arith, below)
reached-below s h (IfElse type inner other rest) n (inr (inr (inl there))) = let below = reached-below s (inside_height IfKind h) other n there in omega (arith, below)
reached-below s h (IfElse type inner other rest) n (inr (inr (inr there))) = let below = reached-below s (behind_height IfKind (block_counts s type) h) rest n there in omega (arith, below)
