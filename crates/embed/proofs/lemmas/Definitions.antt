-- Definitions of host functions, one more at the end.
use Rattle.std.proofs.Common.{◌≡◌, ℕ, suc, ◌+◌, List, [], ◌∷◌, ◌++◌, length, map, refl, ap, ap₂, sym, subst, ◌∙◌, arith}
use Rattle.std.specs.Prelude.{Option, Some, None}
use Rattle.std.specs.Option.{option_or}
use Rattle.std.proofs.lemmas.List.{map-append}
use Rattle.core_types.specs.declared.types.FuncType.{FuncType}
use Rattle.meaning.specs.embedding.Creation.{Fault, HostDefinition, fault_of, first_fault, host_functions, store_of_hosts, with_definitions}
use Rattle.meaning.specs.embedding.Creation as machine
use Rattle.meaning.specs.embedding.Names.{NamesContents, no_names, with_host}
use Rattle.meaning.specs.execution.Store.{FunctionInstance, InHost, Store}
use Rattle.hostfunc.specs.Boxes.{type_of_host}
use Rattle.hostfunc.specs.declared.host_function.HostFn.{Ghosts}
use Rattle.hostfunc.specs.declared.host_object.HostObject.{HostObject}
use Rattle.store.specs.Contents.{host_function, with_function}
use Rattle.embed.specs.Definitions.{IsAtFault, IsFirstFault, definition_of}
use Rattle.embed.specs.declared.host_definitions.HostDef.{HostDef}
use Rattle.embed.specs.declared.new_fault.NewFault.{NewFault}
use Rattle.embed.specs.declared.new_fault.NewFault.TheVariants.{HostFuncRef, NameTaken, OutOfMemory}

module _ {H : Type 0} (host_type : H → FuncType) where
  pub names-next : (names : NamesContents) (k : ℕ) (ds : List (HostDefinition H)) (d : HostDefinition H)
      → with_definitions host_type names k (ds ++ d ∷ []) ≡ with_host (with_definitions host_type names k ds) d.module_name d.name (k + length ds)
  names-next names k [] d = ap (λ (n : ℕ). with_host names d.module_name d.name n) (omega arith)
  names-next names k (e ∷ ds) d =
      names-next (with_host names e.module_name e.name k) (suc k) ds d
      ∙ ap (λ (n : ℕ). with_host (with_definitions host_type (with_host names e.module_name e.name k) (suc k) ds) d.module_name d.name n) (omega arith)

  pub functions-next : (k : ℕ) (ds : List (HostDefinition H)) (d : HostDefinition H)
      → host_functions host_type k (ds ++ d ∷ []) ≡ host_functions host_type k ds ++ record { ty = host_type d.host; implementation = InHost (k + length ds) } ∷ []
  functions-next k [] d = ap (λ (n : ℕ). record { ty = host_type d.host; implementation = InHost n } ∷ []) (omega arith)
  functions-next k (e ∷ ds) d =
      ap (λ (fs : List FunctionInstance). record { ty = host_type e.host; implementation = InHost k } ∷ fs)
      (functions-next (suc k) ds d ∙ ap (λ (n : ℕ). host_functions host_type (suc k) ds ++ record { ty = host_type d.host; implementation = InHost n } ∷ []) (omega arith))

  pub length-functions : (k : ℕ) (ds : List (HostDefinition H)) → length (host_functions host_type k ds) ≡ length ds
  length-functions k [] = refl
  length-functions k (d ∷ ds) = ap suc (length-functions (suc k) ds)

  -- If the definitions so far have no fault, the next one decides.
  pub fault-next : (names : NamesContents) (k : ℕ) (ds : List (HostDefinition H)) (d : HostDefinition H) (rest : List (HostDefinition H)) → first_fault host_type names k ds ≡ None
      → first_fault host_type names k (ds ++ d ∷ rest)
      ≡ option_or (fault_of host_type (with_definitions host_type names k ds) d)
      (first_fault host_type (with_host (with_definitions host_type names k ds) d.module_name d.name (k + length ds)) (suc (k + length ds)) rest)
  fault-next names k [] d rest none =
      ap (λ (n : ℕ). option_or (fault_of host_type names d) (first_fault host_type (with_host names d.module_name d.name n) (suc n) rest)) (omega arith)
  fault-next names k (e ∷ ds) d rest none = go (fault_of host_type names e) refl none (fault-next (with_host names e.module_name e.name k) (suc k) ds d rest)
    where
      names' : NamesContents
      names' = with_host names e.module_name e.name k

      go : (f : Option Fault) → fault_of host_type names e ≡ f → option_or f (first_fault host_type names' (suc k) ds) ≡ None
          → (first_fault host_type names' (suc k) ds ≡ None
          → (first_fault host_type names' (suc k) (ds ++ d ∷ rest)
          ≡ option_or (fault_of host_type (with_definitions host_type names' (suc k) ds) d)
          (first_fault host_type (with_host (with_definitions host_type names' (suc k) ds) d.module_name d.name (suc k + length ds))
          (suc (suc k + length ds)) rest)))
          → option_or (fault_of host_type names e) (first_fault host_type names' (suc k) (ds ++ d ∷ rest))
          ≡ option_or (fault_of host_type (with_definitions host_type names' (suc k) ds) d)
          (first_fault host_type (with_host (with_definitions host_type names' (suc k) ds) d.module_name d.name (k + suc (length ds)))
          (suc (k + suc (length ds))) rest)
      go (Some x) is none' later = absurd (cc)
      go None is none' later =
          let same : suc k + length ds ≡ k + suc (length ds) = omega arith in
          ap (λ (f : Option Fault). option_or f (first_fault host_type names' (suc k) (ds ++ d ∷ rest))) is ∙ subst
          (λ (n : ℕ). (first_fault host_type names' (suc k) (ds ++ d ∷ rest)
          ≡ option_or (fault_of host_type (with_definitions host_type names' (suc k) ds) d)
          (first_fault host_type (with_host (with_definitions host_type names' (suc k) ds) d.module_name d.name n) (suc n) rest))) same (later none')

-- ---- one more definition is added

module _ {I : Type 0} {F : I → Type 0} (members : (i : I) → Ghosts (F i)) (taken : List (HostDef I F)) (next : HostDef I F) where
  abbrev so_far : List (HostDefinition (HostObject I F))
  so_far = map (definition_of members) taken

  one_more : map (definition_of members) (taken ++ next ∷ []) ≡ so_far ++ definition_of members next ∷ []
  one_more = map-append (definition_of members) taken (next ∷ [])

  module _ (names : NamesContents) (names_are : names ≡ with_definitions type_of_host no_names 0 so_far) where
    pub names-taken : (names' : NamesContents) (address : ℕ) → address ≡ length so_far
        → names' ≡ with_host names (definition_of members next).module_name (definition_of members next).name address
        → names' ≡ with_definitions type_of_host no_names 0 (map (definition_of members) (taken ++ next ∷ []))
    names-taken names' address is new =
        let count : address ≡ 0 + length so_far = omega arith in
        new
        ∙ ap₂ (λ (ns : NamesContents) (a : ℕ). with_host ns (definition_of members next).module_name (definition_of members next).name a) names_are count
        ∙ sym (names-next type_of_host no_names 0 so_far (definition_of members next))
        ∙ ap (with_definitions type_of_host no_names 0) (sym one_more)

    module _ (faultless : first_fault type_of_host no_names 0 so_far ≡ None) where
      pub faultless-taken : fault_of type_of_host names (definition_of members next) ≡ None → first_fault type_of_host no_names 0 (map (definition_of members) (taken ++ next ∷ [])) ≡ None
      faultless-taken none =
          ap (first_fault type_of_host no_names 0) one_more
          ∙ fault-next type_of_host no_names 0 so_far (definition_of members next) [] faultless
          ∙ ap (λ (f : Option Fault). option_or f None) (ap (λ (ns : NamesContents). fault_of type_of_host ns (definition_of members next)) (sym names_are) ∙ none)

      decided : (f : Fault) (rest : List (HostDef I F)) → fault_of type_of_host names (definition_of members next) ≡ Some f
          → first_fault type_of_host no_names 0 (map (definition_of members) (taken ++ next ∷ rest)) ≡ Some f
      decided f rest is =
          ap (first_fault type_of_host no_names 0) (map-append (definition_of members) taken (next ∷ rest))
          ∙ fault-next type_of_host no_names 0 so_far (definition_of members next) (map (definition_of members) rest) faultless
          ∙ ap (λ (g : Option Fault). option_or g
          (first_fault type_of_host (with_host (with_definitions type_of_host no_names 0 so_far) (definition_of members next).module_name
          (definition_of members next).name (0 + length so_far)) (suc (0 + length so_far)) (map (definition_of members) rest)))
          (ap (λ (ns : NamesContents). fault_of type_of_host ns (definition_of members next)) (sym names_are) ∙ is)

      pub fault-first : (fault : NewFault) (rest : List (HostDef I F)) → IsAtFault members fault names next → IsFirstFault members fault (taken ++ next ∷ rest)
      fault-first HostFuncRef rest is = decided machine.HostFuncRef rest is
      fault-first NameTaken rest is = decided machine.NameTaken rest is
      fault-first OutOfMemory rest is = tt

  pub store-taken : (pages entries number : ℕ) (store store' : Store) → store ≡ store_of_hosts type_of_host pages entries so_far → number ≡ length so_far
      → store' ≡ with_function store (host_function number (definition_of members next).host.ty)
      → store' ≡ store_of_hosts type_of_host pages entries (map (definition_of members) (taken ++ next ∷ []))
  store-taken pages entries number store store' is count new =
      let number_is : number ≡ 0 + length so_far = omega arith in
      new
      ∙ ap₂ (λ (s : Store) (n : ℕ). with_function s (host_function n (definition_of members next).host.ty)) is number_is
      ∙ ap (λ (fs : List FunctionInstance). record (store_of_hosts type_of_host pages entries so_far) { functions = fs }) (sym (functions-next type_of_host 0 so_far (definition_of members next)))
      ∙ ap (store_of_hosts type_of_host pages entries) (sym one_more)

  pub objects-taken : (objects objects' : List (HostObject I F)) → objects ≡ map (λ d. d.host) so_far → objects' ≡ objects ++ (definition_of members next).host ∷ []
      → objects' ≡ map (λ d. d.host) (map (definition_of members) (taken ++ next ∷ []))
  objects-taken objects objects' is new =
      new ∙ ap (λ (os : List (HostObject I F)). os ++ (definition_of members next).host ∷ []) is
      ∙ sym (map-append (λ (d : HostDefinition (HostObject I F)). d.host) so_far (definition_of members next ∷ []))
      ∙ ap (map (λ (d : HostDefinition (HostObject I F)). d.host)) (sym one_more)
