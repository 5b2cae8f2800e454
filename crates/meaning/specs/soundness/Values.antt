-- Typed values (Appendix, Soundness).
use Rattle.std.specs.Prelude.{◌≡◌, ◌^◌, ◌<◌, ℕ, List, [], ◌∷◌, length, Option, Some, None, slice_get}
use Rattle.core_types.specs.declared.types.ValType.{ValType}
use Rattle.core_types.specs.declared.types.ValType.TheVariants as ty
use Rattle.core_types.specs.declared.outcome.Val.{Val}
use Rattle.core_types.specs.declared.outcome.Val.TheVariants.{I32, I64, FuncRef, ExternRef}
use Rattle.meaning.specs.execution.Store.{FunctionInstance, Store}
use Rattle.meaning.specs.execution.Values.{IsExternalNumber}

-- Null, or the address of a function in the store.
abbrev pub IsFunctionAddress : Store → Option ℕ → Type 0
IsFunctionAddress store None = Unit {0}
IsFunctionAddress store (Some a) = a < length store.functions

-- The value has the type.
abbrev pub ValueHasType : Store → Val → ValType → Type 0
ValueHasType store (I32 n) t = (t ≡ ty.I32) × (n < 2 ^ 32)
ValueHasType store (I64 n) t = (t ≡ ty.I64) × (n < 2 ^ 64)
ValueHasType store (FuncRef a) t = (t ≡ ty.FuncRef) × IsFunctionAddress store a
ValueHasType store (ExternRef x) t = (t ≡ ty.ExternRef) × IsExternalNumber x

-- The values have the types, one by one.
abbrev pub ValuesHaveTypes : Store → List Val → List ValType → Type 0
ValuesHaveTypes store [] [] = Unit {0}
ValuesHaveTypes store [] (t ∷ ts) = ⊥
ValuesHaveTypes store (v ∷ vs) [] = ⊥
ValuesHaveTypes store (v ∷ vs) (t ∷ ts) = ValueHasType store v t × ValuesHaveTypes store vs ts

-- There is a function at the address, and the arguments have its parameter types.
abbrev pub TakesArguments : Store → (address : ℕ) → List Val → Type 0
TakesArguments store address arguments =
    (f : FunctionInstance) × (slice_get store.functions address ≡ Some f) ×
    ValuesHaveTypes store arguments f.ty.params
