-- What is added to a store leaves it valid.
use Rattle.std.proofs.Common.{◌≡◌, ℕ, ◌+◌, ◌<◌, ◌^◌, List, [], ◌∷◌, ◌++◌, length, map, Some, Result, Ok, Err, OnErr, OnOk, ap, ap₂, sym, subst, ◌∙◌}
use Rattle.core_types.specs.declared.module.Module.{Module}
use Rattle.core_types.specs.declared.types.FuncType.{FuncType}
use Rattle.meaning.specs.execution.Modules.{new_function, new_objects, with_module}
use Rattle.meaning.specs.execution.Store.{FunctionInstance, ModuleInstance, ObjectLists, Store}
use Rattle.meaning.specs.structure.Bodies.{Body, body_of, writing}
use Rattle.soundness.specs.Links.{IsAllocation}
use Rattle.soundness.specs.Stores.{Extends, StoreIsValid}
use Rattle.soundness.proofs.Allocation.{allocation-keeps-valid}
use Rattle.soundness.proofs.Effects.{Extends-same}
use Rattle.soundness.proofs.Functions.{host-extends, host-valid}
use Rattle.store.specs.Contents.{AddressLists, Contents, functions_in, host_function, instances_in, module_instance, store_with, with_function}
use Rattle.store.specs.State.{Bounds, StateContents, append_objects}

-- The store is valid, and extends this one.
abbrev pub Grows : (old new : Store) → Type 0
Grows old new = Extends old new × StoreIsValid new

pub grows-same : (old new : Store) → StoreIsValid old → new ≡ old → Grows old new
grows-same old new valid same = subst (Grows old) (sym same) (Extends-same old, valid)

-- Two facts if all went well, or one if it did not.
pub of-either : {T E : Type 0} (r : Result T E) (P Q R S : Type 0) → OnOk r P → OnOk r Q → OnErr r R → (P → Q → S) → (R → S) → S
of-either (Ok v) P Q R S p q r well otherwise = well p q
of-either (Err e) P Q R S p q r well otherwise = otherwise r

-- The same objects with the same bounds are the same store, whatever room there is.
pub equal-stores : (code : Contents) (s t : StateContents) → t.contents ≡ s.contents → t.bounds ≡ s.bounds → store_with code t ≡ store_with code s
equal-stores code s t contents bounds = ap₂ (λ (o : ObjectLists) (b : Bounds). store_with code (record { contents = o; room = s.room; bounds = b })) contents bounds

module _ (code new : Contents) (s : StateContents) where
  abbrev with_code : List FunctionInstance → List ModuleInstance → Store
  with_code functions instances = record (store_with code s) { functions = functions; instances = instances }

  pub host-grows : (t : FuncType) (number : ℕ) → length (functions_in code) + 1 < 2 ^ 32 → StoreIsValid (store_with code s) → functions_in new
      ≡ functions_in code ++ host_function number t ∷ [] → instances_in new ≡ instances_in code → Grows (store_with code s) (store_with new s)
  host-grows t number room valid functions instances =
      let same : store_with new s ≡ with_function (store_with code s) (host_function number t) = ap₂ with_code functions instances in
      subst (Grows (store_with code s)) (sym same) (host-extends (store_with code s) t number room valid, host-valid (store_with code s) t number room valid)

pub allocation-grows : ((b : Body) → body_of (writing b) ≡ b) → (old : Store) (m : Module) (i : ModuleInstance) (objects : ObjectLists)
    → StoreIsValid old → IsAllocation old m i objects → Grows old (with_module old i m objects)
allocation-grows read old m i objects valid a =
    subst (λ (j : ModuleInstance). Grows old (with_module old j m objects)) (sym a.instance_is)
    (allocation-keeps-valid read old m a.given objects valid a.linkable (subst (λ (j : ModuleInstance). new_objects old j m ≡ Some objects) a.instance_is a.objects_are))

module _ (code new : Contents) (s between last : StateContents) (m : Module) (addresses : AddressLists) (objects : ObjectLists) where
  pub module-appended : functions_in new ≡ functions_in code ++ map (new_function (length (instances_in code)) m) m.funcs → instances_in new ≡ instances_in code ++ module_instance addresses m ∷ []
      → between.contents ≡ s.contents → between.bounds ≡ s.bounds → last.contents ≡ append_objects between.contents objects → last.bounds ≡ between.bounds
      → store_with new last ≡ with_module (store_with code s) (module_instance addresses m) m objects
  module-appended functions instances contents bounds appended bounds' =
      equal-stores new (record { contents = append_objects s.contents objects; room = s.room; bounds = s.bounds }) last
      (appended ∙ ap (λ (o : ObjectLists). append_objects o objects) contents) (bounds' ∙ bounds)
      ∙ ap₂ (with_code code new (record { contents = append_objects s.contents objects; room = s.room; bounds = s.bounds })) functions instances
