-- What is found at an address, and under an index of an instance.
use Rattle.std.proofs.Common.{◌≡◌, ℕ, zero, suc, ◌<◌, List, [], ◌∷◌, length, refl, sym, ap, subst, ◌∙◌}
use Rattle.std.specs.Prelude.{Option, Some, None, IsSome, unwrap_or, option_map, slice_get}
use Rattle.std.proofs.lemmas.Option.{slice_get-map, slice_get_within}
use Rattle.core_types.specs.declared.types.FuncType.{FuncType}
use Rattle.core_types.specs.declared.module.Func.{Func}
use Rattle.core_types.specs.declared.module.Module.{Module}
use Rattle.meaning.specs.structure.Bodies.{body_of, writing}
use Rattle.meaning.proofs.lemmas.Writings.{read-whole}
use Rattle.meaning.specs.validation.Modules.{IsValid, IsValidFunction}
use Rattle.meaning.specs.execution.Store.{FunctionInstance as Function}
use Rattle.store.specs.declared.instances.FunctionInstance.{FunctionInstance}
use Rattle.store.specs.declared.instances.Instance.{Instance}
use Rattle.store.specs.Contents.{Contents, IsFound, AllFound, entry_function, instance_function, module_function, typed_function, function_of, function_at, functions_in, host_function, no_function}
use Rattle.store.proofs.lemmas.Positions.{holds-at}

-- ---- the functions of a valid module

-- Its code is the writing of its body.
pub body-written : (m : Module) (k : ℕ) (f : Func) → IsValid m → slice_get m.funcs k ≡ Some f → f.body ≡ writing (body_of f.body)
body-written m k f valid there =
    let v : IsValidFunction m f = holds-at (IsValidFunction m) m.funcs k f valid.bodies there in
    v.written ∙ ap writing (sym (ap body_of v.written ∙ read-whole v.body))

-- The type of a function is among the module's types.
pub type-within : (m : Module) (k : ℕ) (f : Func) → IsValid m → slice_get m.funcs k ≡ Some f → f.ty < length m.types
type-within m k f valid there =
    let v : IsValidFunction m f = holds-at (IsValidFunction m) m.funcs k f valid.bodies there in
    slice_get_within m.types f.ty _ v.has_type

-- ---- the function at an address

module _ (hosts : List FuncType) (instances : List Instance) where
  -- An entry of the store finds its function.
  found-at : (fs : List FunctionInstance) (k : ℕ) (f : FunctionInstance) → AllFound hosts instances fs → slice_get fs k ≡ Some f → IsFound hosts instances f
  found-at [] k f h e = absurd cc
  found-at (g ∷ gs) zero f h e = let same : g ≡ f = cc in subst (IsFound hosts instances) same h.0
  found-at (g ∷ gs) (suc k) f h e = found-at gs k f h.1 e

module _ (s : Contents) (address : ℕ) (entry : FunctionInstance) (there : slice_get s.functions address ≡ Some entry) where
  pub function-there : (f : Function) → entry_function s.hosts s.instances entry ≡ Some f → slice_get (functions_in s) address ≡ Some f
  function-there f e =
      slice_get-map (function_at s.hosts s.instances) s.functions address ∙ ap (option_map (function_at s.hosts s.instances)) there ∙ ap (λ (o : Option Function). Some (unwrap_or o no_function)) e

  -- The entry finds its function.
  pub entry-found : AllFound s.hosts s.instances s.functions → IsFound s.hosts s.instances entry
  entry-found found = found-at s.hosts s.instances s.functions address entry found there

-- ---- the type of a host function

module _ (hosts : List FuncType) (number : ℕ) where
  pub host-within : IsSome (option_map (host_function number) (slice_get hosts number)) → number < length hosts
  host-within some = go (slice_get hosts number) refl some
    where
      go : (found : Option FuncType) → slice_get hosts number ≡ found → IsSome (option_map (host_function number) found) → number < length hosts
      go None e some = absurd cc
      go (Some t) e some = slice_get_within hosts number t e

  pub host-found : (t : FuncType) → slice_get hosts number ≡ Some t → option_map (host_function number) (slice_get hosts number) ≡ Some (host_function number t)
  host-found t e = ap (option_map (host_function number)) e

-- ---- the function that an instance has under an index

module _ (instance index : ℕ) where
  pub func-there : (i : Instance) → IsSome (instance_function instance index (Some i)) → (f : Func) × (slice_get i.loaded.value.source.funcs index ≡ Some f)
  func-there i some = go (slice_get i.loaded.value.source.funcs index) refl some
    where
      go : (found : Option Func) → slice_get i.loaded.value.source.funcs index ≡ found → IsSome (module_function instance i.loaded.value.source found)
          → (f : Func) × (slice_get i.loaded.value.source.funcs index ≡ Some f)
      go None e some = absurd cc
      go (Some f) e some = (f, e)

  pub function-is : (i : Instance) (f : Func) → slice_get i.loaded.value.source.funcs index ≡ Some f → (t : FuncType) → slice_get i.loaded.value.source.types f.ty ≡ Some t
      → instance_function instance index (Some i) ≡ Some (function_of t instance f)
  function-is i f in_module t e = ap (module_function instance i.loaded.value.source) in_module ∙ ap (λ (o : Option FuncType). typed_function instance o f) e

-- ---- an instance

instance-found : (instances : List Instance) (n k : ℕ) (found : Option Instance) → slice_get instances n ≡ found → IsSome (instance_function n k found) → n < length instances
instance-found instances n k None there some = absurd cc
instance-found instances n k (Some i) there some = slice_get_within instances n i there

-- The instance exists if it has a function.
pub instance-within : (instances : List Instance) (n k : ℕ) → IsSome (instance_function n k (slice_get instances n)) → n < length instances
instance-within instances n k some = instance-found instances n k (slice_get instances n) refl some
