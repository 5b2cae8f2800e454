-- Values that have their types.
use Rattle.std.proofs.Common.{◌≡◌, ℕ, zero, suc, ◌+◌, ◌<◌, List, [], ◌∷◌, ◌++◌, length, get_or, take, refl, ap, arith}
use Rattle.std.proofs.lemmas.List.{take_more}
use Rattle.core_types.specs.declared.types.ValType.{ValType}
use Rattle.core_types.specs.declared.outcome.Val.{Val}
use Rattle.meaning.specs.execution.Store.{Store}
use Rattle.meaning.specs.soundness.Values.{ValueHasType, ValuesHaveTypes}

module _ (store : Store) where
  push : (vs : List Val) (ts : List ValType) (v : Val) (t : ValType) → ValuesHaveTypes store vs ts → ValueHasType store v t → ValuesHaveTypes store (vs ++ v ∷ []) (ts ++ t ∷ [])
  push [] [] v t h k = (k, tt)
  push [] (u ∷ ts) v t h k = absurd h
  push (w ∷ vs) [] v t h k = absurd h
  push (w ∷ vs) (u ∷ ts) v t h k = (h.0, push vs ts v t h.1 k)

  pub ValuesHaveTypes-next : (vs : List Val) (ts : List ValType) (k : ℕ) (v : Val) (t : ValType) → k < length vs → k < length ts
      → ValuesHaveTypes store (take k vs) (take k ts) → ValueHasType store (get_or vs k v) (get_or ts k t)
      → ValuesHaveTypes store (take (k + 1) vs) (take (k + 1) ts)
  ValuesHaveTypes-next vs ts k v t in_vs in_ts so_far h = rw (take_more vs k v in_vs, take_more ts k t in_ts) (push (take k vs) (take k ts) (get_or vs k v) (get_or ts k t) so_far h)

  -- There is one value for each type.
  pub length-typed : (vs : List Val) (ts : List ValType) → ValuesHaveTypes store vs ts → length vs ≡ length ts
  length-typed [] [] h = refl
  length-typed [] (t ∷ ts) h = absurd h
  length-typed (v ∷ vs) [] h = absurd h
  length-typed (v ∷ vs) (t ∷ ts) h = ap suc (length-typed vs ts h.1)

  -- A value and the type at its position, if all values have their types.
  pub ValuesHaveTypes-at : (vs : List Val) (ts : List ValType) (k : ℕ) (v : Val) (t : ValType) → k < length vs → ValuesHaveTypes store vs ts → ValueHasType store (get_or vs k v) (get_or ts k t)
  ValuesHaveTypes-at [] ts k v t inside h = absurd (omega (arith, inside))
  ValuesHaveTypes-at (w ∷ vs) [] k v t inside h = absurd h
  ValuesHaveTypes-at (w ∷ vs) (u ∷ ts) zero v t inside h = h.0
  ValuesHaveTypes-at (w ∷ vs) (u ∷ ts) (suc k) v t inside h = ValuesHaveTypes-at vs ts k v t (omega (arith, inside)) h.1
