-- The flat code of a module's functions, by index.
use Rattle.std.proofs.Common.{◌≡◌, ℕ, zero, suc, ◌<◌, List, [], ◌∷◌, length, arith}
use Rattle.std.specs.Prelude.{Some, slice_get}
use Rattle.core_types.specs.declared.module.Func.{Func}
use Rattle.sidetable.specs.Counts.{Signatures}
use Rattle.sidetable.specs.Flat.{FlatOp}
use Rattle.sidetable.specs.FlatModules.{AreFlat, IsFlat}
use Rattle.sidetable.specs.declared.flat_module.PackedFunction.{PackedFunction}

module _ (s : Signatures) (ops : List FlatOp) where
  pub flat-at : (funcs : List Func) (packed : List PackedFunction) (k : ℕ) (func : Func) (p : PackedFunction) → AreFlat s ops funcs packed
      → slice_get funcs k ≡ Some func → slice_get packed k ≡ Some p → IsFlat s ops func p
  flat-at [] packed k func p h e g = absurd cc
  flat-at (f ∷ funcs) [] k func p h e g = absurd h
  flat-at (f ∷ funcs) (q ∷ packed) zero func p h e g = let same : f ≡ func = cc in let same_packed : q ≡ p = cc in rw (← same, ← same_packed) h.0
  flat-at (f ∷ funcs) (q ∷ packed) (suc k) func p h e g = flat-at funcs packed k func p h.1 e g

  -- There is flat code for each function.
  pub code-within : (funcs : List Func) (packed : List PackedFunction) (k : ℕ) → AreFlat s ops funcs packed → k < length funcs → k < length packed
  code-within [] packed k h inside = absurd (omega (arith, inside))
  code-within (f ∷ funcs) [] k h inside = absurd h
  code-within (f ∷ funcs) (q ∷ packed) zero h inside = omega arith
  code-within (f ∷ funcs) (q ∷ packed) (suc k) h inside = let more = code-within funcs packed k h.1 (omega (arith, inside)) in omega (arith, more)
