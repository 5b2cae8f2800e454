-- The types of an instance's functions, which are those of its module.
use Rattle.std.proofs.Common.{◌≡◌, ℕ, List, [], ◌∷◌, ◌++◌, length, map, get_or, slice_get, Some, refl, ap, sym, subst, ◌∙◌, arith, length-append}
use Rattle.std.specs.Prelude.{option_map}
use Rattle.std.proofs.lemmas.Option.{slice_get-map}
use Rattle.std.specs.List.{All}
use Rattle.std.proofs.lemmas.List.Elements.{All-append, All-cons, All-nil}
use Rattle.meaning.specs.execution.Modules.{new_function, with_module}
use Rattle.meaning.specs.execution.Store.{FunctionInstance as Function, ModuleInstance, ObjectLists, Store, instance_of}
use Rattle.meaning.specs.structure.Bodies.{Body, body_of, writing}
use Rattle.meaning.specs.validation.Modules.{functions_of}
use Rattle.meaning.specs.validation.Types.{function_type}
use Rattle.soundness.specs.Links.{IsAllocation}
use Rattle.soundness.specs.Places.{instance_context}
use Rattle.soundness.specs.Stores.{InstanceIsValid, StoreIsValid}
use Rattle.soundness.proofs.Allocation.{context-has-module-types}
use Rattle.soundness.proofs.Appends.{types-before}
use Rattle.store.specs.declared.instances.Instance.{Instance}
use Rattle.store.specs.Contents.{AreOfContext, Contents, HasModuleTypes, code_store, functions_in, instances_in, module_instance_of, signatures_of_instance}
use Rattle.store.proofs.lemmas.Positions.{holds-at, slice_get-seam}
use Rattle.store.proofs.lemmas.Validity.{Grows, allocation-grows}

-- They stay when functions are added.
module _ (functions more : List Function) where
  types-stay : (i : Instance) → HasModuleTypes functions i → HasModuleTypes (functions ++ more) i
  types-stay i h = record {
    there = λ k d inside. let below = h.there k d inside in omega (arith, below, length-append functions more);
    types = types-before (λ (f : Function). f.ty) (function_type [] []) functions more i.addresses.functions.items h.there ∙ h.types;
  }

  pub all-stay : (is : List Instance) → All (HasModuleTypes functions) is → All (HasModuleTypes (functions ++ more)) is
  all-stay is all = λ k d inside. types-stay (get_or is k d) (all k d inside)

pub all-with : (functions : List Function) (is : List Instance) (i : Instance) → All (HasModuleTypes functions) is → HasModuleTypes functions i → All (HasModuleTypes functions) (is ++ i ∷ [])
all-with functions is i all h =
    All-append (HasModuleTypes functions) is (i ∷ []) all (All-cons (HasModuleTypes functions) i [] h (All-nil (HasModuleTypes functions)))

-- A module that is allocated has them.
pub allocated : ((b : Body) → body_of (writing b) ≡ b) → (old : Store) (i : Instance) (objects : ObjectLists) → StoreIsValid old
    → IsAllocation old i.loaded.value.source (module_instance_of i) objects
    → HasModuleTypes (old.functions ++ map (new_function (length old.instances) i.loaded.value.source) i.loaded.value.source.funcs) i
allocated read old i objects valid a =
    let m = i.loaded.value.source in
    let new = with_module old (module_instance_of i) m objects in
    let grows : Grows old new = allocation-grows read old m (module_instance_of i) objects valid a in
    let whole : InstanceIsValid new (module_instance_of i) =
    holds-at (InstanceIsValid new) new.instances (length old.instances) (module_instance_of i) grows.1.instances (slice_get-seam old.instances (module_instance_of i) []) in
    record {
      there = whole.functions;
      types = subst (λ (j : ModuleInstance). (instance_context (with_module old j m objects) j).functions ≡ functions_of m) (sym a.instance_is)
          (context-has-module-types old m a.given objects a.linkable).1;
    }

-- The code of an instance refers to the types of its context.
pub context-types : (c : Contents) (n : ℕ) (i : Instance) → slice_get c.instances n ≡ Some i → HasModuleTypes (functions_in c) i
    → AreOfContext (signatures_of_instance (slice_get c.instances n)) (instance_context (code_store c) (instance_of (code_store c) (Some n)))
context-types c n i there types =
    let found : slice_get (instances_in c) n ≡ Some (module_instance_of i) = slice_get-map module_instance_of c.instances n ∙ ap (option_map module_instance_of) there in
    rw (there, found) (record { types = refl; functions = types.types })
