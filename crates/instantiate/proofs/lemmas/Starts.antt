-- A start function that takes arguments, or does not exist.
use Rattle.std.proofs.Common.{◌≡◌, ℕ, List, [], ◌∷◌, length, refl, sym, subst, arith}
use Rattle.std.specs.Prelude.{Option, Some, None, slice_get}
use Rattle.core_types.specs.declared.types.ValType.{ValType}
use Rattle.meaning.specs.structure.Bodies.{Empty}
use Rattle.meaning.specs.execution.Configurations.{Invoking, no_frame}
use Rattle.meaning.specs.execution.Instructions.{NotReady, call_function, call_implementation, next}
use Rattle.meaning.specs.execution.Store.{FunctionInstance, Store}
use Rattle.meaning.specs.soundness.Values.{ValuesHaveTypes}
use Rattle.meaning.proofs.lemmas.Layers.{if-more}
use Rattle.meaning.specs.soundness.Values.{TakesArguments}

pub start-refused : (store : Store) (address : ℕ) → (TakesArguments store address [] → ⊥) → next store no_frame (Invoking [] address) ≡ NotReady
start-refused store address not = go (slice_get store.functions address) refl
  where
    go : (found : Option FunctionInstance) → slice_get store.functions address ≡ found → call_function 0 store None found [] Empty ≡ NotReady
    go None e = refl
    go (Some f) e = by_parameters f.ty.params refl
      where
        by_parameters : (ts : List ValType) → f.ty.params ≡ ts → call_function 0 store None (Some f) [] Empty ≡ NotReady
        by_parameters [] same = absurd (not (f, e, subst (ValuesHaveTypes store []) (sym same) tt))
        by_parameters (t ∷ ts) same =
            if-more (length f.ty.params) 0 (call_implementation 0 store None f.ty f.implementation [] Empty) NotReady (rw same (omega arith))
