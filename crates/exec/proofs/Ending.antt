-- The results of a call that ended.
use Rattle.std.proofs.Common.{◌≡◌, ℕ, zero, suc, add-one, get_or, ◌+◌, ◌-◌, ◌^◌, ◌<◌, ◌≤◌, List, [], ◌∷◌, ◌++◌, length, map, reverse, take, drop, set, refl, ap, sym, subst, ◌∙◌, arith}
use Rattle.std.proofs.lemmas.List.{length-reverse, reverse-append, map-append, reverse-reverse}
use Rattle.std.specs.Prelude.{None, Some}
use Rattle.core_types.specs.declared.outcome.Val.{Val}
use Rattle.core_types.specs.declared.outcome.Val.TheVariants.{I32, I64, FuncRef, ExternRef}
use Rattle.core_types.specs.declared.types.ValType.{ValType}
use Rattle.meaning.specs.execution.Store.{Store}
use Rattle.meaning.specs.soundness.Values.{ValueHasType, ValuesHaveTypes}
use Rattle.soundness.proofs.Values.{values-length, values-reversed}
use Rattle.cells.specs.Cells.{AreCellsOf, IsCellOf, cell_of, value_of, values_of}
use Rattle.simulation.proofs.Cells.{value-read}
use Rattle.interpreter.specs.Running.{Machine}
use Rattle.interpreter.specs.Whole.{HasResults}

-- The cell of a value of a type is one of the type.
cell-fits : (store : Store) → length store.functions < 2 ^ 32 → (v : Val) (t : ValType) → ValueHasType store v t → IsCellOf t (cell_of v)
cell-fits store few (I32 n) t typed = rw typed.0 typed.1
cell-fits store few (I64 n) t typed = rw typed.0 typed.1
cell-fits store few (FuncRef None) t typed = rw typed.0 (omega arith)
cell-fits store few (FuncRef (Some a)) t typed = rw typed.0 (omega (arith, few, typed.1))
cell-fits store few (ExternRef None) t typed = rw typed.0 (omega arith)
cell-fits store few (ExternRef (Some x)) t typed = rw typed.0 (omega (arith, typed.1))

-- Cells of values of types are read as the values.
cells-fit : (store : Store) → length store.functions < 2 ^ 32 → (vs : List Val) (ts : List ValType) → ValuesHaveTypes store vs ts → AreCellsOf ts (map cell_of vs)
cells-fit store few [] [] typed = tt
cells-fit store few [] (t ∷ ts) typed = absurd typed
cells-fit store few (v ∷ vs) [] typed = absurd typed
cells-fit store few (v ∷ vs) (t ∷ ts) typed = (cell-fits store few v t typed.0, cells-fit store few vs ts typed.1)

cells-read : (store : Store) (vs : List Val) (ts : List ValType) → ValuesHaveTypes store vs ts → values_of ts (map cell_of vs) ≡ vs
cells-read store [] [] typed = refl
cells-read store [] (t ∷ ts) typed = absurd typed
cells-read store (v ∷ vs) [] typed = absurd typed
cells-read store (v ∷ vs) (t ∷ ts) typed = rw (value-read store v t typed.0, cells-read store vs ts typed.1) refl

map-reversed : (vs : List Val) → map cell_of (reverse vs) ≡ reverse (map cell_of vs)
map-reversed [] = refl
map-reversed (v ∷ vs) = ap (map cell_of) (reverse-append (v ∷ []) vs) ∙ map-append cell_of (reverse vs) (v ∷ []) ∙ ap
    (λ (z : List ℕ). z ++ (cell_of v ∷ [])) (map-reversed vs) ∙ sym (reverse-append (cell_of v ∷ []) (map cell_of vs))

module _ (store : Store) (m : Machine) (types : List ValType) (values : List Val) (h : HasResults store m types values) where
  typed : ValuesHaveTypes store (reverse values) types
  typed = subst (ValuesHaveTypes store (reverse values)) (reverse-reverse types) (values-reversed store values (reverse types) h.typed)

  as-many : length types ≡ length values
  as-many = sym (values-length store values (reverse types) h.typed ∙ length-reverse types)

  pub types-few : length types ≤ m.top
  types-few = let low = h.low in omega (arith, as-many, low)

  abbrev read : List ℕ
  read = take (m.top + 1 - (m.top + 1 - length types)) (drop (m.top + 1 - length types) (set m.cells m.top m.operand))

  read-is : read ≡ map cell_of (reverse values)
  read-is =
      let few = types-few in
      let same : m.top + 1 - (m.top + 1 - length types) ≡ length types = omega (arith, few) in
      ap (λ (i : ℕ). take i (drop (m.top + 1 - length types) (set m.cells m.top m.operand))) same
      ∙ ap (λ (i : ℕ). take i (drop (m.top + 1 - i) (set m.cells m.top m.operand))) as-many
      ∙ h.lie ∙ sym (map-reversed values)

  pub results-fit : AreCellsOf types read
  results-fit = subst (AreCellsOf types) (sym read-is) (cells-fit store h.valid.few.functions (reverse values) types typed)

  pub results-are : values_of types read ≡ reverse values
  results-are = ap (values_of types) read-is ∙ cells-read store (reverse values) types typed

-- ---- cells, one by one

cells-many : (ts : List ValType) (ns : List ℕ) → AreCellsOf ts ns → length ns ≡ length ts
cells-many [] [] fit = refl
cells-many [] (n ∷ ns) fit = absurd fit
cells-many (t ∷ ts) [] fit = absurd fit
cells-many (t ∷ ts) (n ∷ ns) fit = ap suc (cells-many ts ns fit.1)

pub cells-inside : (ts : List ValType) (ns : List ℕ) (k : ℕ) → AreCellsOf ts ns → k < length ts → k < length ns
cells-inside ts ns k fit inside = let same = cells-many ts ns fit in omega (arith, same, inside)

pub cell-there : (ts : List ValType) (ns : List ℕ) (k : ℕ) (t : ValType) (n : ℕ) → AreCellsOf ts ns → k < length ts → IsCellOf (get_or ts k t) (get_or ns k n)
cell-there [] ns k t n fit inside = absurd (omega (arith, inside))
cell-there (u ∷ ts) [] k t n fit inside = absurd fit
cell-there (u ∷ ts) (m ∷ ns) zero t n fit inside = fit.0
cell-there (u ∷ ts) (m ∷ ns) (suc k) t n fit inside = cell-there ts ns k t n fit.1 (omega (arith, inside))

-- One more value is read over others.
next-read-suc : (ts : List ValType) (ns : List ℕ) (into : List Val) (k : ℕ) (t : ValType) (n : ℕ) → AreCellsOf ts ns → length into ≡ length ts → k < length ts
    → set (values_of (take k ts) ns ++ drop k into) k (value_of (get_or ts k t) (get_or ns k n)) ≡ values_of (take (suc k) ts) ns ++ drop (suc k) into
next-read-suc [] ns into k t n fit room inside = absurd (omega (arith, inside))
next-read-suc (u ∷ ts) [] into k t n fit room inside = absurd fit
next-read-suc (u ∷ ts) (m ∷ ns) [] k t n fit room inside = absurd (omega (arith, room))
next-read-suc (u ∷ ts) (m ∷ ns) (v ∷ into) zero t n fit room inside = refl
next-read-suc (u ∷ ts) (m ∷ ns) (v ∷ into) (suc k) t n fit room inside =
    ap (λ (vs : List Val). value_of u m ∷ vs) (next-read-suc ts ns into k t n fit.1 (omega (arith, room)) (omega (arith, inside)))

pub next-read : (ts : List ValType) (ns : List ℕ) (into now : List Val) (k : ℕ) (t : ValType) (n : ℕ) → AreCellsOf ts ns → length into ≡ length ts → k < length ts
    → now ≡ values_of (take k ts) ns ++ drop k into → set now k (value_of (get_or ts k t) (get_or ns k n)) ≡ values_of (take (k + 1) ts) ns ++ drop (k + 1) into
next-read ts ns into now k t n fit room inside is =
    ap (λ (vs : List Val). set vs k (value_of (get_or ts k t) (get_or ns k n))) is ∙ next-read-suc ts ns into k t n fit room inside
    ∙ ap (λ (j : ℕ). values_of (take j ts) ns ++ drop j into) (sym (add-one k))
