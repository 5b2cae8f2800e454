-- A fresh embedding is sound.
use Rattle.std.proofs.Common.{◌≡◌, ℕ, zero, suc, ◌+◌, ◌<◌, ◌^◌, List, [], ◌∷◌, length, map, refl, ap, subst, sym, ◌∙◌, arith}
use Rattle.std.proofs.lemmas.List.Elements.{All-append, All-replicate}
use Rattle.std.specs.List.{All}
use Rattle.std.specs.Option.{option_or}
use Rattle.std.specs.Prelude.{Bool, true, false, Option, Some, None, option_map, slice_get, if◌then◌else◌, is_some}
use Rattle.core_types.specs.declared.types.FuncType.{FuncType}
use Rattle.meaning.specs.embedding.Creation.{Fault, HostDefinition, NameTaken, HostFuncRef, fault_of, first_fault, has_funcref, host_functions, store_of_hosts}
use Rattle.meaning.specs.embedding.Names.{NamesContents, host_of, no_names, with_host}
use Rattle.meaning.specs.execution.Hosts.{HostsHaveTypes}
use Rattle.meaning.specs.execution.Store.{FunctionInstance, InHost, Store}
use Rattle.soundness.specs.Embedding.{FreshOnesAreSound, IsSound}
use Rattle.soundness.specs.Hosts.{AreReady, GivesNoFuncref}
use Rattle.soundness.specs.Stores.{FunctionIsValid, StoreIsValid}

none : {X : Type 0} (P : X → Type 0) → All P []
none P k d inside = let wrong : ⊥ = omega (arith, inside) in absurd wrong

module _ {H : Type 0} (host_type : H → FuncType) where
  numbered : (k : ℕ) (ds : List (HostDefinition H)) (a n : ℕ) (f : FunctionInstance) → slice_get (host_functions host_type k ds) a ≡ Some f → f.implementation ≡ InHost n
      → (n ≡ k + a) × (option_map host_type (slice_get (map (λ (d : HostDefinition H). d.host) ds) a) ≡ Some f.ty)
  numbered k [] a n f there in_host = absurd (cc)
  numbered k (d ∷ ds) zero n f there in_host =
      let same : record { ty = host_type d.host; implementation = InHost k } ≡ f = cc in
      let host : InHost k ≡ InHost n = ap (λ (g : FunctionInstance). g.implementation) same ∙ in_host in
      let number : k ≡ n = cc in
      (omega arith, ap Some (ap (λ (g : FunctionInstance). g.ty) same))
  numbered k (d ∷ ds) (suc a) n f there in_host =
      let (number, typed) = numbered (suc k) ds a n f there in_host in
      (omega arith, typed)

  hosts-typed : (pages entries : ℕ) (ds : List (HostDefinition H)) → HostsHaveTypes host_type (store_of_hosts host_type pages entries ds) (map (λ (d : HostDefinition H). d.host) ds)
  hosts-typed pages entries ds address n f there in_host =
      let (number, typed) = numbered 0 ds address n f there in_host in
      let same : n ≡ address = omega arith in
      ap (λ (m : ℕ). option_map host_type (slice_get (map (λ (d : HostDefinition H). d.host) ds) m)) same ∙ typed

  functions-valid : (store : Store) (number : ℕ) (ds : List (HostDefinition H)) → All (FunctionIsValid store) (host_functions host_type number ds)
  functions-valid store number [] = none (FunctionIsValid store)
  functions-valid store number (d ∷ ds) =
      All-append (FunctionIsValid store) (record { ty = host_type d.host; implementation = InHost number } ∷ []) (host_functions host_type (suc number) ds)
      (All-replicate (FunctionIsValid store) 1 (record { ty = host_type d.host; implementation = InHost number }) tt) (functions-valid store (suc number) ds)

  -- ---- no funcref among the results of host functions without a fault

  first-has-none : (found : Bool) (other rest : Option Fault) → option_or (if found then Some HostFuncRef else other) rest ≡ None → found ≡ false
  first-has-none true other rest faultless = absurd cc
  first-has-none false other rest faultless = refl

  others-faultless : (fault rest : Option Fault) → option_or fault rest ≡ None → rest ≡ None
  others-faultless None rest faultless = faultless
  others-faultless (Some fault) rest faultless = absurd cc

  no-funcrefs : (names : NamesContents) (address : ℕ) (ds : List (HostDefinition H)) → first_fault host_type names address ds ≡ None
      → All (GivesNoFuncref host_type) (map (λ (d : HostDefinition H). d.host) ds)
  no-funcrefs names address [] faultless = none (GivesNoFuncref host_type)
  no-funcrefs names address (d ∷ ds) faultless =
      let names' = with_host names d.module_name d.name address in
      let rest = first_fault host_type names' (suc address) ds in
      let first = first-has-none (has_funcref (host_type d.host).results) (if is_some (host_of names d.module_name d.name) then Some NameTaken else None) rest faultless in
      All-append (GivesNoFuncref host_type) (d.host ∷ []) (map (λ (e : HostDefinition H). e.host) ds) (All-replicate (GivesNoFuncref host_type) 1 d.host first)
      (no-funcrefs names' (suc address) ds (others-faultless (fault_of host_type names d) rest faultless))

  pub fresh-ready : (pages entries : ℕ) (ds : List (HostDefinition H)) → first_fault host_type no_names 0 ds ≡ None
      → AreReady host_type (store_of_hosts host_type pages entries ds) (map (λ (d : HostDefinition H). d.host) ds)
  fresh-ready pages entries ds faultless = record { typed = hosts-typed pages entries ds; no_funcrefs = no-funcrefs no_names 0 ds faultless }

  -- ---- a store of host functions

  as-many : (number : ℕ) (ds : List (HostDefinition H)) → length (host_functions host_type number ds) ≡ length ds
  as-many number [] = refl
  as-many number (d ∷ ds) = ap suc (as-many (suc number) ds)

  fresh-valid : (pages entries : ℕ) (ds : List (HostDefinition H)) → length ds < 2 ^ 32 → StoreIsValid (store_of_hosts host_type pages entries ds)
  fresh-valid pages entries ds few = record {
    functions = functions-valid (store_of_hosts host_type pages entries ds) 0 ds;
    instances = none _;
    tables = none _;
    memories = none _;
    globals = none _;
    elements = none _;
    datas = none _;
    few = record {
      functions = omega (arith, few, as-many 0 ds);
      instances = omega (arith);
      tables = omega (arith);
      memories = omega (arith);
      globals = omega (arith);
      elements = omega (arith);
      datas = omega (arith);
    };
  }

  pub fresh-sound : FreshOnesAreSound host_type
  fresh-sound setup ds at few (faultless, at_is) =
      subst (IsSound host_type) (sym at_is) (record { valid = fresh-valid setup.pages setup.entries ds few; ready = fresh-ready setup.pages setup.entries ds faultless })
