-- The types of arguments.
use Rattle.std.proofs.Common.{◌≡◌, ℕ, List, [], ◌∷◌, map, refl, ap, ap₂, sym, ◌∙◌}
use Rattle.std.specs.Prelude.{Some, slice_get}
use Rattle.core_types.specs.declared.types.ValType.{ValType}
use Rattle.core_types.specs.declared.outcome.Val.{Val}
use Rattle.core_types.specs.declared.outcome.Val.TheVariants.{I32, I64, FuncRef, ExternRef}
use Rattle.meaning.specs.execution.Store.{FunctionInstance, Store}
use Rattle.meaning.specs.execution.Values.{type_of}
use Rattle.meaning.specs.soundness.Values.{TakesArguments, ValueHasType, ValuesHaveTypes}

value-type : (store : Store) (v : Val) (t : ValType) → ValueHasType store v t → type_of v ≡ t
value-type store (I32 n) t h = sym h.0
value-type store (I64 n) t h = sym h.0
value-type store (FuncRef a) t h = sym h.0
value-type store (ExternRef x) t h = sym h.0

values-types : (store : Store) (vs : List Val) (ts : List ValType) → ValuesHaveTypes store vs ts → map type_of vs ≡ ts
values-types store [] [] h = refl
values-types store [] (t ∷ ts) h = absurd h
values-types store (v ∷ vs) [] h = absurd h
values-types store (v ∷ vs) (t ∷ ts) h = ap₂ (λ (u : ValType) (us : List ValType). u ∷ us) (value-type store v t h.0) (values-types store vs ts h.1)

-- The arguments that a function takes have its parameter types.
pub argument_types : (store : Store) (address : ℕ) (args : List Val) (f : FunctionInstance) → slice_get store.functions address ≡ Some f
    → TakesArguments store address args → map type_of args ≡ f.ty.params
argument_types store address args f is (g, there, typed) =
    let same : g ≡ f = (let both = sym there ∙ is in cc) in
    values-types store args g.ty.params typed ∙ ap (λ (k : FunctionInstance). k.ty.params) same
