-- The places of packed operations.
use Rattle.std.proofs.Common.{◌≡◌, ℕ, zero, suc, ◌<◌, List, [], ◌∷◌, length, drop, get_or, refl, ap, sym, subst, ◌∙◌, arith}
use Rattle.std.specs.List.{All}
use Rattle.meaning.specs.structure.Bodies.{Body, Empty, Then, Nested, IfElse}
use Rattle.core_types.specs.declared.outcome.Val.{Val}
use Rattle.meaning.specs.execution.Configurations.{Label}
use Rattle.sidetable.specs.Flat.{FlatOp}
use Rattle.sidetable.specs.Packing.{IsWithin, made, unpacked}
use Rattle.sidetable.specs.declared.operations.PackedOp.{PackedOp}
use Rattle.sidetable.specs.declared.side_tables.SideTables.{SideTables}
use Rattle.simulation.specs.Runs.{Ghost, Runs}
use Rattle.simulation.specs.Settling.{IsSettled}
use Rattle.simulation.specs.Standing.{FrameCode, StandsIn}
use Rattle.simulation.proofs.Settling.{at-leave}
use Rattle.simulation.proofs.Typed.{Settled, settled}

-- There is an operation at a place.
abbrev StandsSomewhere : List FlatOp → (at : ℕ) → Type 0
StandsSomewhere ops at = (o : FlatOp) × (more : List FlatOp) × (drop at ops ≡ o ∷ more)

stands-at : (f : FrameCode) (at : ℕ) (values : List Val) (labels : List Label) (rest : Body) → StandsIn f at values labels rest → IsSettled f at values labels rest → StandsSomewhere f.operations at
stands-at f at values labels (Then op rest) s settled = (_, _, s.here.placed)
stands-at f at values labels (Nested kind type inner rest) s settled = (_, _, s.here.placed)
stands-at f at values labels (IfElse type inner other rest) s settled = (_, _, s.here.placed)
stands-at f at values [] Empty s settled = let (more, placed) = at-leave f at values s in (_, more, placed)
stands-at f at values (label ∷ labels) Empty s settled = (_, _, settled.placed)

-- The operation that a packed operation at a place represents.
pub record IsPackedAt (t : SideTables) (ops : List PackedOp) (whole : List FlatOp) (at : ℕ) : Type 0 where
  pub inside : at < length ops
  pub more : List FlatOp
  pub there : (d : PackedOp) → drop at whole ≡ unpacked t (get_or ops at d) ∷ more
  pub within : (d : PackedOp) → IsWithin t (get_or ops at d)

packed-at : (t : SideTables) (ops : List PackedOp) → All (IsWithin t) ops → (at : ℕ) (o : FlatOp) (more : List FlatOp) → drop at (made t ops) ≡ o ∷ more → IsPackedAt t ops (made t ops) at
packed-at t [] within zero o more e = absurd cc
packed-at t [] within (suc at) o more e = absurd cc
packed-at t (op ∷ ops) within zero o more e = record { inside = omega arith; more = made t ops; there = λ d. refl; within = λ d. within 0 op (omega arith) }
packed-at t (op ∷ ops) within (suc at) o more e =
    let further = packed-at t ops (λ k d lt. within (suc k) d (omega (arith, lt))) at o more e in
    let lt = further.inside in
    record { inside = omega (arith, lt); more = further.more; there = further.there; within = further.within }

-- There is an operation where the machine is.
pub stands-there : (t : SideTables) (ops : List PackedOp) → All (IsWithin t) ops → (g : Ghost) (cells : List ℕ) (at top : ℕ) → g.code.operations
    ≡ made t ops → Runs g cells at top → IsPackedAt t ops g.code.operations at
stands-there t ops within g cells at top packed r =
    let s : Settled g cells at top = settled g cells at top r in
    let (o, more, there) = stands-at g.code at s.values s.labels s.rest s.runs.stands s.settled in
    subst (λ (whole : List FlatOp). IsPackedAt t ops whole at) (sym packed) (packed-at t ops within at o more (ap (drop at) (sym packed) ∙ there))
