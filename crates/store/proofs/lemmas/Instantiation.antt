-- A store with one more module.
use Rattle.std.proofs.Common.{◌≡◌, ℕ, suc, List, [], ◌∷◌, ◌++◌, length, map, refl, sym, ap, subst, ◌∙◌, append_assoc, length-append, arith}
use Rattle.std.specs.Prelude.{Option, Some, None, IsSome, option_map, unwrap_or, slice_get}
use Rattle.std.proofs.lemmas.List.{append-nil, map-append, length-map}
use Rattle.core_types.specs.declared.types.FuncType.{FuncType}
use Rattle.core_types.specs.declared.module.Func.{Func}
use Rattle.meaning.specs.validation.Modules.{IsValid, IsValidFunction}
use Rattle.meaning.specs.execution.Modules.{consecutive, new_function}
use Rattle.meaning.specs.execution.Store.{FunctionInstance as Function}
use Rattle.store.specs.declared.instances.FunctionInstance.{FunctionInstance}
use Rattle.store.specs.declared.instances.FunctionInstance.TheVariants.{InModule, InHost}
use Rattle.store.specs.declared.instances.Instance.{Instance}
use Rattle.store.specs.Contents.{AllFound, IsFound, contents_of, entries_of, entry_function, function_at, host_function, instance_function, module_function}
use Rattle.store.specs.Contents.{functions_in, instances_in, module_instance_of, no_function, typed_function}
use Rattle.store.proofs.lemmas.Positions.{slice_get-front, slice_get-seam, holds-at}

-- An entry that finds its function still finds it when instances and host functions are added.
instance-behind : (instances new : List Instance) (instance index : ℕ) → IsSome (instance_function instance index (slice_get instances instance))
    → slice_get (instances ++ new) instance ≡ slice_get instances instance
instance-behind instances new instance index h = go (slice_get instances instance) refl h
  where
    go : (there : Option Instance) → slice_get instances instance ≡ there → IsSome (instance_function instance index there) → slice_get (instances ++ new) instance ≡ slice_get instances instance
    go None e h = absurd (let none = h in cc)
    go (Some i) e h = slice_get-front instances new instance i e ∙ sym e

host-behind : (hosts new : List FuncType) (number : ℕ) → IsSome (option_map (host_function number) (slice_get hosts number)) → slice_get (hosts ++ new) number ≡ slice_get hosts number
host-behind hosts new number h = go (slice_get hosts number) refl h
  where
    go : (there : Option FuncType) → slice_get hosts number ≡ there → IsSome (option_map (host_function number) there) → slice_get (hosts ++ new) number ≡ slice_get hosts number
    go None e h = absurd (let none = h in cc)
    go (Some t) e h = slice_get-front hosts new number t e ∙ sym e

module _ (hosts new_hosts : List FuncType) (instances new_instances : List Instance) where
  entry-behind : (f : FunctionInstance) → IsFound hosts instances f → entry_function (hosts ++ new_hosts) (instances ++ new_instances) f ≡ entry_function hosts instances f
  entry-behind (InModule instance index) h = ap (instance_function instance index) (instance-behind instances new_instances instance index h)
  entry-behind (InHost number) h = ap (option_map (host_function number)) (host-behind hosts new_hosts number h)

  AllFound-behind : (fs : List FunctionInstance) → AllFound hosts instances fs → AllFound (hosts ++ new_hosts) (instances ++ new_instances) fs
  AllFound-behind [] h = tt
  AllFound-behind (f ∷ fs) h = (subst (λ (there : Option Function). IsSome there) (sym (entry-behind f h.0)) h.0, AllFound-behind fs h.1)

  function_at-behind : (fs : List FunctionInstance) → AllFound hosts instances fs → map (function_at (hosts ++ new_hosts) (instances ++ new_instances)) fs ≡ map (function_at hosts instances) fs
  function_at-behind [] h = refl
  function_at-behind (f ∷ fs) h =
      let first : function_at (hosts ++ new_hosts) (instances ++ new_instances) f
      ≡ function_at hosts instances f = ap (λ (there : Option Function). unwrap_or there no_function) (entry-behind f h.0) in
      let others = function_at-behind fs h.1 in
      cc

AllFound-append : (hosts : List FuncType) (instances : List Instance) (fs gs : List FunctionInstance) → AllFound hosts instances fs → AllFound hosts instances gs → AllFound hosts instances (fs ++ gs)
AllFound-append hosts instances [] gs h k = k
AllFound-append hosts instances (f ∷ fs) gs h k = (h.0, AllFound-append hosts instances fs gs h.1 k)

-- ---- one more host function

module _ (hosts : List FuncType) (instances : List Instance) (t : FuncType) (functions : List FunctionInstance) (found : AllFound hosts instances functions) where
  host-there : slice_get (hosts ++ t ∷ []) (length hosts) ≡ Some t
  host-there = slice_get-seam hosts t []

  host_is : entry_function (hosts ++ t ∷ []) instances (InHost (length hosts)) ≡ Some (host_function (length hosts) t)
  host_is = ap (option_map (host_function (length hosts))) host-there

  same_instances : instances ++ [] ≡ instances
  same_instances = append-nil instances

  pub AllFound-hosted : AllFound (hosts ++ t ∷ []) instances (functions ++ InHost (length hosts) ∷ [])
  AllFound-hosted =
      let before : AllFound (hosts ++ t ∷ []) instances functions = rw same_instances at (AllFound-behind hosts (t ∷ []) instances [] functions found) in
      AllFound-append (hosts ++ t ∷ []) instances functions (InHost (length hosts) ∷ []) before (rw host_is refl, tt)

  pub functions-hosted : functions_in (contents_of (functions ++ InHost (length hosts) ∷ []) instances (hosts ++ t ∷ []))
      ≡ functions_in (contents_of functions instances hosts) ++ host_function (length hosts) t ∷ []
  functions-hosted =
      let all = map-append (function_at (hosts ++ t ∷ []) instances) functions (InHost (length hosts) ∷ []) in
      let before : map (function_at (hosts ++ t ∷ []) instances) functions
      ≡ map (function_at hosts instances) functions = rw same_instances at (function_at-behind hosts (t ∷ []) instances [] functions found) in
      let new : function_at (hosts ++ t ∷ []) instances (InHost (length hosts)) ≡ host_function (length hosts) t = ap (λ (there : Option Function). unwrap_or there no_function) host_is in
      rw (all, before, new) refl

-- ---- one more module

module _ (hosts : List FuncType) (instances : List Instance) (i : Instance) (valid : IsValid i.loaded.value.source) where
  abbrev all : List Instance
  all = instances ++ i ∷ []

  abbrev named : Func → Function
  named func = new_function (length instances) i.loaded.value.source func

  abbrev entry : ℕ → FunctionInstance
  entry k = InModule (length instances) k

  module _ (k : ℕ) (func : Func) (there : slice_get i.loaded.value.source.funcs k ≡ Some func) where
    entry_function-new : entry_function hosts all (entry k) ≡ typed_function (length instances) (slice_get i.loaded.value.source.types func.ty) func
    entry_function-new = ap (instance_function (length instances) k) (slice_get-seam instances i []) ∙ ap (module_function (length instances) i.loaded.value.source) there

    IsFound-new : IsFound hosts all (entry k)
    IsFound-new =
        let v : IsValidFunction i.loaded.value.source func = holds-at (IsValidFunction i.loaded.value.source) i.loaded.value.source.funcs k func valid.bodies there in
        rw (entry_function-new, v.has_type) refl

    function_at-entry : function_at hosts all (entry k) ≡ named func
    function_at-entry =
        let v : IsValidFunction i.loaded.value.source func = holds-at (IsValidFunction i.loaded.value.source) i.loaded.value.source.funcs k func valid.bodies there in
        rw (entry_function-new, v.has_type) refl

  -- The entries of the module's functions from a position on.
  module _ (before : List Func) (func : Func) (funcs : List Func) (whole : i.loaded.value.source.funcs ≡ before ++ func ∷ funcs) where
    here : slice_get i.loaded.value.source.funcs (length before) ≡ Some func
    here = ap (λ (fs : List Func). slice_get fs (length before)) whole ∙ slice_get-seam before func funcs

    onward : i.loaded.value.source.funcs ≡ (before ++ func ∷ []) ++ funcs
    onward = whole ∙ sym (append_assoc before (func ∷ []) funcs)

    next : length (before ++ func ∷ []) ≡ suc (length before)
    next = omega (arith, length-append before (func ∷ []))

  AllFound-new : (before funcs : List Func) → i.loaded.value.source.funcs ≡ before ++ funcs → AllFound hosts all (entries_of (length instances) (consecutive (length before) (length funcs)))
  AllFound-new before [] whole = tt
  AllFound-new before (func ∷ funcs) whole = (
    IsFound-new (length before) func (here before func funcs whole),
    rw (next before func funcs whole) at (AllFound-new (before ++ func ∷ []) funcs (onward before func funcs whole)),
  )

  function_at-new : (before funcs : List Func) → i.loaded.value.source.funcs ≡ before ++ funcs
      → map (function_at hosts all) (entries_of (length instances) (consecutive (length before) (length funcs))) ≡ map named funcs
  function_at-new before [] whole = refl
  function_at-new before (func ∷ funcs) whole =
      let first : function_at hosts all (entry (length before)) ≡ named func = function_at-entry (length before) func (here before func funcs whole) in
      let others : map (function_at hosts all) (entries_of (length instances) (consecutive (suc (length before)) (length funcs)))
      ≡ map named funcs = rw (next before func funcs whole) at (function_at-new (before ++ func ∷ []) funcs (onward before func funcs whole)) in
      cc

  module _ (functions after : List FunctionInstance) (found : AllFound hosts instances functions)
      (behind : after ≡ functions ++ entries_of (length instances) (consecutive 0 (length i.loaded.value.source.funcs))) where
    abbrev added : List FunctionInstance
    added = entries_of (length instances) (consecutive 0 (length i.loaded.value.source.funcs))

    pub AllFound-added : AllFound hosts all after
    AllFound-added =
        let before : AllFound hosts all functions = rw (append-nil hosts) at (AllFound-behind hosts [] instances (i ∷ []) functions found) in
        subst (AllFound hosts all) (sym behind) (AllFound-append hosts all functions added before (AllFound-new [] i.loaded.value.source.funcs refl))

    -- The functions are those before, followed by those of the module.
    pub functions-added : functions_in (contents_of after all hosts)
        ≡ functions_in (contents_of functions instances hosts) ++ map
        (new_function (length (instances_in (contents_of functions instances hosts))) i.loaded.value.source) i.loaded.value.source.funcs
    functions-added =
        let old = map-append (function_at hosts all) functions added in
        let before : map (function_at hosts all) functions ≡ map (function_at hosts instances) functions = rw (append-nil hosts) at (function_at-behind hosts [] instances (i ∷ []) functions found) in
        let new = function_at-new [] i.loaded.value.source.funcs refl in
        rw (behind, old, before, new, length-map instances module_instance_of) refl
