-- The functions of an instance's module, after those that it imports.
use Rattle.std.proofs.Common.{◌≡◌, ℕ, ◌+◌, ◌-◌, ◌≤◌, List, [], ◌∷◌, ◌++◌, length, ap, ◌∙◌, arith, length-append}
use Rattle.std.specs.Prelude.{Some, option_map, slice_get}
use Rattle.std.proofs.lemmas.Option.{slice_get-map}
use Rattle.std.proofs.lemmas.List.{length-map}
use Rattle.meaning.specs.structure.Bodies.{writing}
use Rattle.meaning.specs.execution.Modules.{code_of, consecutive, function_address, given_addresses}
use Rattle.meaning.specs.execution.Store.{ModuleInstance, ObjectLists}
use Rattle.sidetable.specs.FlatModules.{IsFlat, module_signatures, operations_of}
use Rattle.soundness.specs.Links.{IsAllocation}
use Rattle.soundness.proofs.Appends.{consecutive-length}
use Rattle.store.specs.declared.instances.Callee.TheVariants as callee
use Rattle.store.specs.declared.instances.FunctionInstance.{FunctionInstance}
use Rattle.store.specs.declared.instances.FunctionInstance.TheVariants.{InModule}
use Rattle.store.specs.declared.instances.Instance.{Instance}
use Rattle.store.specs.declared.instances.ModuleFunction.{ModuleFunction}
use Rattle.store.specs.Contents.{AddsFunctions, Contents, HasOwnFunctions, IsCalleeAt, IsLoaded, entries_of, function_at, function_of, instance_function, module_instance_of, store_with}
use Rattle.store.specs.State.{StateContents}
use Rattle.store.proofs.lemmas.ContextTypes.{context-types}
use Rattle.store.proofs.lemmas.Lookups.{function-is, function-there}
use Rattle.store.proofs.lemmas.Positions.{slice_get-behind, slice_get-front, slice_get-last, consecutive-at}

-- The functions of each instance are in this order.
abbrev pub AllHaveOwn : List FunctionInstance → List Instance → Type 0
AllHaveOwn functions instances =
    (number : ℕ) (i : Instance) → slice_get instances number ≡ Some i → HasOwnFunctions functions number i

-- They stay when functions are added.
pub all-own-stay : (functions more : List FunctionInstance) (instances : List Instance) → AllHaveOwn functions instances → AllHaveOwn (functions ++ more) instances
all-own-stay functions more instances all number i there =
    let h = all number i there in record {
      count = h.count;
      own = λ index inside.
          let (address, is) = h.own index inside in
          (address, record { named = is.named; there = slice_get-front functions more address _ is.there });
    }

-- An added instance has them.
pub own-added : (functions : List FunctionInstance) (number : ℕ) (i : Instance) → AddsFunctions (length functions) i
    → HasOwnFunctions (functions ++ entries_of number (consecutive 0 (length i.loaded.value.source.funcs))) number i
own-added functions number i adds =
    let count = length i.loaded.value.source.funcs in
    let entry : ℕ → FunctionInstance = λ k. InModule number k in record {
      count = ap (λ (addresses : List ℕ). length addresses) adds.behind
          ∙ omega (arith, length-append adds.given (consecutive (length functions) count), consecutive-length (length functions) count, adds.imported);
      own = λ index inside. (
        length functions + index,
        record {
          named = rw (adds.behind, adds.imported)
              (slice_get-behind adds.given (consecutive (length functions) count) index _ (consecutive-at (length functions) count index inside));
          there = slice_get-behind functions (entries_of number (consecutive 0 count)) index _
              (slice_get-map entry (consecutive 0 count) index ∙ ap (option_map entry) (consecutive-at 0 count index inside ∙ ap (λ (k : ℕ). Some k) (omega arith)));
        },
      );
    }

pub all-own-with : (functions : List FunctionInstance) (instances : List Instance) (i : Instance)
    → AllHaveOwn functions instances → HasOwnFunctions functions (length instances) i → AllHaveOwn functions (instances ++ i ∷ [])
all-own-with functions instances i all own number j there =
    slice_get-last (λ (n : ℕ) (k : Instance). HasOwnFunctions functions n k) instances i all own number j there

-- An allocated instance has functions that are given for imports, followed by those of its module.
module _ (code : Contents) (state : StateContents) (i : Instance) (objects : ObjectLists) (a : IsAllocation (store_with code state) i.loaded.value.source (module_instance_of i) objects) where
  abbrev count : ℕ
  count = length i.loaded.value.source.funcs

  abbrev given : List ℕ
  given = given_addresses function_address a.given

  behind : i.addresses.functions.items ≡ given ++ consecutive (length code.functions) count
  behind =
      ap (λ (m : ModuleInstance). m.functions) a.instance_is
      ∙ ap (λ (first : ℕ). given ++ consecutive first count) (length-map code.functions (function_at code.hosts code.instances))

  together : length i.addresses.functions.items ≡ length given + count
  together = ap (λ (addresses : List ℕ). length addresses) behind
      ∙ omega (arith, length-append given (consecutive (length code.functions) count), consecutive-length (length code.functions) count)

  pub own-within : count ≤ length i.addresses.functions.items
  own-within = omega (arith, together)

  pub adds-functions : i.imported ≡ length i.addresses.functions.items - count → AddsFunctions (length code.functions) i
  adds-functions imported = record { given = given; imported = omega (arith, imported, together); behind = behind }

-- The function at the address of such a function is a function of its module.
pub own-callee : (code : Contents) (f : ModuleFunction) (i : Instance) (index address : ℕ) → IsLoaded code f.instance i
    → slice_get code.functions address ≡ Some (InModule f.instance index)
    → slice_get i.loaded.value.source.funcs index ≡ Some f.func.now
    → slice_get i.loaded.value.source.types f.func.now.ty ≡ Some f.ty.now
    → IsFlat (module_signatures i.loaded.value.source) (operations_of i.loaded.value.flat) f.func.now f.flat.now
    → f.func.now.body ≡ writing (code_of f.func.now).body
    → IsCalleeAt code address (callee.InModule f)
own-callee code f i index address loaded there func ty flat body = record {
  there = function-there code address (InModule f.instance index) there (function_of f.ty.now f.instance f.func.now)
      (ap (instance_function f.instance index) loaded.there ∙ function-is f.instance index i f.func.now func f.ty.now ty);
  flat = (i, loaded, rw loaded.there flat);
  declared = rw loaded.there (ty, body);
  types = context-types code f.instance i loaded.there loaded.types;
}
