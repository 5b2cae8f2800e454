-- Typed values, and facts about each item of a list.
use Rattle.std.proofs.Common.{◌≡◌, ℕ, zero, suc, ◌≤◌, List, [], ◌∷◌, ◌++◌, length, map, take, drop, reverse, Some, None, refl, ap, sym, arith, get_or, slice_get, slice_set}
use Rattle.std.proofs.lemmas.List.{reverse-append}
use Rattle.std.proofs.lemmas.Option.{get_or_from_slice_get, slice_get_within, slice_get-get_or}
use Rattle.std.specs.List.{All}
use Rattle.core_types.specs.declared.outcome.Val.{Val}
use Rattle.core_types.specs.declared.outcome.Val.TheVariants.{I32, I64, FuncRef, ExternRef}
use Rattle.core_types.specs.declared.types.ValType.{ValType}
use Rattle.core_types.specs.declared.types.ValType.TheVariants as ty
use Rattle.meaning.specs.execution.Store.{Store}
use Rattle.meaning.specs.execution.Values.{default_of, type_of}
use Rattle.meaning.specs.soundness.Values.{ValueHasType, ValuesHaveTypes}

-- ---- each item of a list

module _ {X : Type 0} (P : X → Type 0) (xs : List X) where
  pub All-at : (k : ℕ) (x : X) → slice_get xs k ≡ Some x → All P xs → P x
  All-at k x is all = rw (get_or_from_slice_get xs k x x is) at (all k x (slice_get_within xs k x is))

  pub All-from : ((k : ℕ) (x : X) → slice_get xs k ≡ Some x → P x) → All P xs
  All-from each = λ k d inside. each k (get_or xs k d) (slice_get-get_or xs k d inside)

-- ---- stores with more functions

module _ (old new : Store) (more : length old.functions ≤ length new.functions) where
  pub value-extended : (v : Val) (t : ValType) → ValueHasType old v t → ValueHasType new v t
  value-extended (I32 n) t typed = typed
  value-extended (I64 n) t typed = typed
  value-extended (FuncRef None) t typed = typed
  value-extended (FuncRef (Some a)) t (is, there) = (is, omega (arith, more, there))
  value-extended (ExternRef x) t typed = typed

  pub values-extended : (vs : List Val) (ts : List ValType) → ValuesHaveTypes old vs ts → ValuesHaveTypes new vs ts
  values-extended [] [] typed = tt
  values-extended [] (t ∷ ts) typed = absurd typed
  values-extended (v ∷ vs) [] typed = absurd typed
  values-extended (v ∷ vs) (t ∷ ts) typed = (value-extended v t typed.0, values-extended vs ts typed.1)

-- ---- lists of values

module _ (store : Store) where
  pub values-length : (vs : List Val) (ts : List ValType) → ValuesHaveTypes store vs ts → length vs ≡ length ts
  values-length [] [] typed = refl
  values-length [] (t ∷ ts) typed = absurd typed
  values-length (v ∷ vs) [] typed = absurd typed
  values-length (v ∷ vs) (t ∷ ts) typed = ap suc (values-length vs ts typed.1)

  pub values-joined : (vs ws : List Val) (ts us : List ValType) → ValuesHaveTypes store vs ts → ValuesHaveTypes store ws us → ValuesHaveTypes store (vs ++ ws) (ts ++ us)
  values-joined [] ws [] us first second = second
  values-joined [] ws (t ∷ ts) us first second = absurd first
  values-joined (v ∷ vs) ws [] us first second = absurd first
  values-joined (v ∷ vs) ws (t ∷ ts) us first second = (first.0, values-joined vs ws ts us first.1 second)

  -- The values of the first types, and those of the others.
  pub values-parts : (vs : List Val) (ts us : List ValType) → ValuesHaveTypes store vs (ts ++ us) → ValuesHaveTypes store (take (length ts) vs) ts × ValuesHaveTypes store (drop (length ts) vs) us
  values-parts vs [] us typed = (tt, typed)
  values-parts [] (t ∷ ts) us typed = absurd typed
  values-parts (v ∷ vs) (t ∷ ts) us typed = let (first, second) = values-parts vs ts us typed.1 in ((typed.0, first), second)

  pub values-reversed : (vs : List Val) (ts : List ValType) → ValuesHaveTypes store vs ts → ValuesHaveTypes store (reverse vs) (reverse ts)
  values-reversed [] [] typed = tt
  values-reversed [] (t ∷ ts) typed = absurd typed
  values-reversed (v ∷ vs) [] typed = absurd typed
  values-reversed (v ∷ vs) (t ∷ ts) typed =
      rw (reverse-append (v ∷ []) vs, reverse-append (t ∷ []) ts) (values-joined (reverse vs) (v ∷ []) (reverse ts) (t ∷ []) (values-reversed vs ts typed.1) (typed.0, tt))

  pub values-at : (vs : List Val) (ts : List ValType) (k : ℕ) (t : ValType) → ValuesHaveTypes store vs ts → slice_get ts k ≡ Some t → (v : Val) × (slice_get vs k ≡ Some v) × ValueHasType store v t
  values-at vs [] k t typed is = absurd cc
  values-at [] (u ∷ ts) k t typed is = absurd typed
  values-at (v ∷ vs) (u ∷ ts) zero t typed is = let same : u ≡ t = cc in (v, refl, rw same at typed.0)
  values-at (v ∷ vs) (u ∷ ts) (suc k) t typed is = values-at vs ts k t typed.1 is

  pub values-set : (vs : List Val) (ts : List ValType) (k : ℕ) (t : ValType) (v : Val) → ValuesHaveTypes store vs ts → slice_get ts k ≡ Some t
      → ValueHasType store v t → ValuesHaveTypes store (slice_set vs k v) ts
  values-set vs [] k t v typed is fits = absurd cc
  values-set [] (u ∷ ts) k t v typed is fits = absurd typed
  values-set (w ∷ vs) (u ∷ ts) zero t v typed is fits = let same : t ≡ u = cc in (rw same at fits, typed.1)
  values-set (w ∷ vs) (u ∷ ts) (suc k) t v typed is fits = (typed.0, values-set vs ts k t v typed.1 is fits)

  pub default-typed : (t : ValType) → ValueHasType store (default_of t) t
  default-typed ty.I32 = (refl, omega (arith))
  default-typed ty.I64 = (refl, omega (arith))
  default-typed ty.FuncRef = (refl, tt)
  default-typed ty.ExternRef = (refl, tt)

  pub defaults-typed : (ts : List ValType) → ValuesHaveTypes store (map default_of ts) ts
  defaults-typed [] = tt
  defaults-typed (t ∷ ts) = (default-typed t, defaults-typed ts)

  pub type-of-value : (v : Val) (t : ValType) → ValueHasType store v t → type_of v ≡ t
  type-of-value (I32 n) t typed = sym typed.0
  type-of-value (I64 n) t typed = sym typed.0
  type-of-value (FuncRef a) t typed = sym typed.0
  type-of-value (ExternRef x) t typed = sym typed.0

  pub types-of-values : (vs : List Val) (ts : List ValType) → ValuesHaveTypes store vs ts → map type_of vs ≡ ts
  types-of-values [] [] typed = refl
  types-of-values [] (t ∷ ts) typed = absurd typed
  types-of-values (v ∷ vs) [] typed = absurd typed
  types-of-values (v ∷ vs) (t ∷ ts) typed = rw (type-of-value v t typed.0, types-of-values vs ts typed.1) refl
