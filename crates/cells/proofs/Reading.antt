-- Cells, one by one.
use Rattle.std.proofs.Common.{◌≡◌, ℕ, zero, suc, ◌+◌, ◌<◌, ◌≤◌, add-one, set, List, [], ◌∷◌, ◌++◌, length, map, take, drop, get_or, refl, ap, ◌∙◌, sym, arith}
use Rattle.core_types.specs.declared.outcome.Val.{Val}
use Rattle.core_types.specs.declared.outcome.Val.TheVariants.{I32, I64, FuncRef, ExternRef}
use Rattle.core_types.specs.declared.types.ValType.{ValType}
use Rattle.core_types.specs.declared.types.ValType.TheVariants as ty
use Rattle.std.specs.Prelude.{Option, Some, None}
use Rattle.meaning.specs.execution.Values.{type_of}
use Rattle.cells.specs.Cells.{AreCellsOf, IsCellOf, cell_of, reference_cell, reference_of, value_of, values_of}

reference-of-cell : (r : Option ℕ) → reference_of (reference_cell r) ≡ r
reference-of-cell None = refl
reference-of-cell (Some n) = refl

cell-of-reference : (n : ℕ) → reference_cell (reference_of n) ≡ n
cell-of-reference zero = refl
cell-of-reference (suc n) = refl

pub value-of-cell : (v : Val) → value_of (type_of v) (cell_of v) ≡ v
value-of-cell (I32 n) = refl
value-of-cell (I64 n) = refl
value-of-cell (FuncRef r) = ap FuncRef (reference-of-cell r)
value-of-cell (ExternRef r) = ap ExternRef (reference-of-cell r)

pub type-of-value : (t : ValType) (n : ℕ) → type_of (value_of t n) ≡ t
type-of-value ty.I32 n = refl
type-of-value ty.I64 n = refl
type-of-value ty.FuncRef n = refl
type-of-value ty.ExternRef n = refl

pub cell-of-value : (t : ValType) (n : ℕ) → cell_of (value_of t n) ≡ n
cell-of-value ty.I32 n = refl
cell-of-value ty.I64 n = refl
cell-of-value ty.FuncRef n = cell-of-reference n
cell-of-value ty.ExternRef n = cell-of-reference n

pub as-many : (ts : List ValType) (ns : List ℕ) → AreCellsOf ts ns → length ns ≡ length ts
as-many [] [] h = refl
as-many [] (n ∷ ns) h = absurd h
as-many (t ∷ ts) [] h = absurd h
as-many (t ∷ ts) (n ∷ ns) h = ap suc (as-many ts ns h.1)

pub cell-at : (ts : List ValType) (ns : List ℕ) (k : ℕ) (t : ValType) (n : ℕ) → AreCellsOf ts ns → k < length ts → IsCellOf (get_or ts k t) (get_or ns k n)
cell-at [] ns k t n h inside = absurd (omega (arith, inside))
cell-at (u ∷ ts) [] k t n h inside = absurd h
cell-at (u ∷ ts) (m ∷ ns) zero t n h inside = h.0
cell-at (u ∷ ts) (m ∷ ns) (suc k) t n h inside = cell-at ts ns k t n h.1 (omega (arith, inside))

-- One more value is read.
values-next-suc : (ts : List ValType) (ns : List ℕ) (k : ℕ) (t : ValType) (n : ℕ) → length ns ≡ length ts → k < length ts
    → values_of (take (suc k) ts) ns ≡ values_of (take k ts) ns ++ (value_of (get_or ts k t) (get_or ns k n) ∷ [])
values-next-suc [] ns k t n same inside = absurd (omega (arith, inside))
values-next-suc (u ∷ ts) [] k t n same inside = absurd (omega (arith, same))
values-next-suc (u ∷ ts) (m ∷ ns) zero t n same inside = refl
values-next-suc (u ∷ ts) (m ∷ ns) (suc k) t n same inside = ap (λ (vs : List Val). value_of u m ∷ vs) (values-next-suc ts ns k t n (omega (arith, same)) (omega (arith, inside)))

pub values-next : (ts : List ValType) (ns : List ℕ) (k : ℕ) (t : ValType) (n : ℕ) → length ns ≡ length ts → k < length ts
    → values_of (take (k + 1) ts) ns ≡ values_of (take k ts) ns ++ (value_of (get_or ts k t) (get_or ns k n) ∷ [])
values-next ts ns k t n same inside = ap (λ (j : ℕ). values_of (take j ts) ns) (add-one k) ∙ values-next-suc ts ns k t n same inside

-- One more cell is written.
write-next-suc : (from : List Val) (into : List ℕ) (k : ℕ) (d : Val) → k < length from → length from ≤ length into
    → set (map cell_of (take k from) ++ drop k into) k (cell_of (get_or from k d)) ≡ map cell_of (take (suc k) from) ++ drop (suc k) into
write-next-suc [] into k d inside room = absurd (omega (arith, inside))
write-next-suc (v ∷ from) [] k d inside room = absurd (omega (arith, room))
write-next-suc (v ∷ from) (n ∷ into) zero d inside room = refl
write-next-suc (v ∷ from) (n ∷ into) (suc k) d inside room = ap (λ (ns : List ℕ). cell_of v ∷ ns) (write-next-suc from into k d (omega (arith, inside)) (omega (arith, room)))

pub write-next : (from : List Val) (into now : List ℕ) (k : ℕ) (d : Val) → k < length from → length from ≤ length into → now ≡ map cell_of (take k from) ++ drop k into
    → set now k (cell_of (get_or from k d)) ≡ map cell_of (take (k + 1) from) ++ drop (k + 1) into
write-next from into now k d inside room is =
    ap (λ (ns : List ℕ). set ns k (cell_of (get_or from k d))) is ∙ write-next-suc from into k d inside room
    ∙ ap (λ (j : ℕ). map cell_of (take j from) ++ drop j into) (sym (add-one k))
