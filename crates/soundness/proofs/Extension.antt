-- What holds in a valid store holds in each store that extends it.
use Rattle.std.proofs.Common.{◌≡◌, ℕ, ◌<◌, ◌≤◌, List, [], ◌++◌, length, reverse, Option, Some, None, refl, ap, sym, ◌∙◌, arith, slice_get, option_map, unwrap_or, inl, inr}
use Rattle.std.proofs.lemmas.Option.{slice_get-map, slice_get_cases, slice_get_within}
use Rattle.core_types.specs.declared.types.FuncType.{FuncType}
use Rattle.core_types.specs.declared.types.GlobalType.{GlobalType}
use Rattle.core_types.specs.declared.types.RefType.{RefType}
use Rattle.core_types.specs.declared.types.TableType.{TableType}
use Rattle.core_types.specs.declared.types.ValType.{ValType}
use Rattle.meaning.specs.structure.Bodies.{Body}
use Rattle.meaning.specs.execution.Configurations.{Configuration, Running, InLabel, InFrame, Invoking, continue_with}
use Rattle.meaning.specs.execution.Store.{FunctionInstance, ModuleInstance, Store, instance_of, no_instance}
use Rattle.meaning.specs.validation.ContextExtension.{Carries}
use Rattle.meaning.specs.validation.Instructions.{IsElement, IsTable, HasMemory, known}
use Rattle.meaning.proofs.lemmas.Contexts.{HasType-extension}
use Rattle.soundness.specs.Places.{Place, RunsOn, context_at, inside_frame, inside_label, instance_context, types_at}
use Rattle.soundness.specs.Stores.{AreThere, Extends, InstanceIsValid, Keeps, StoreIsValid}
use Rattle.soundness.specs.Configurations.{ConfigurationHasType}
use Rattle.soundness.proofs.Values.{All-at, values-extended}

-- ---- lists of what exists

module _ {X : Type 0} (Stays : X → X → Type 0) (old new : List X) (kept : Keeps Stays old new) where
  pub Keeps-length : length old ≤ length new
  Keeps-length = elim (slice_get_cases old (length new)).1 [
    | inl w ↦ let there = kept (length new) w.0 w.2 in let inside = slice_get_within new (length new) there.0 there.1 in omega (arith, inside)
    | inr w ↦ w.0
  ]

module _ {X Y : Type 0} (type : X → Y) (missing : Y) (items : List X) (addresses : List ℕ) (x : ℕ) where
  abbrev type_of_item : ℕ → Y
  type_of_item address = unwrap_or (option_map type (slice_get items address)) missing

  -- A type under an index is that of what is at the address.
  pub types-found : (t : Y) → AreThere items addresses → slice_get (types_at type missing items addresses) x ≡ Some t
      → (address : ℕ) × (item : X) × (slice_get addresses x ≡ Some address) × (slice_get items address ≡ Some item) × (type item ≡ t)
  types-found t there is = by (slice_get addresses x) refl (rw (slice_get-map type_of_item addresses x) at is)
    where
      found : (address : ℕ) → slice_get addresses x ≡ Some address → (o : Option X) → slice_get items address ≡ o → unwrap_or (option_map type o) missing ≡ t
          → (address : ℕ) × (item : X) × (slice_get addresses x ≡ Some address) × (slice_get items address ≡ Some item) × (type item ≡ t)
      found address at None none same =
          let inside = All-at (λ (a : ℕ). a < length items) addresses x address at there in
          elim (slice_get_cases items address).1 [ inl w ↦ absurd cc | inr w ↦ let wrong : ⊥ = omega (arith, inside, w.0) in absurd wrong ]
      found address at (Some item) some same = (address, item, at, some, same)

      by : (o : Option ℕ) → slice_get addresses x ≡ o → option_map type_of_item o ≡ Some t
          → (address : ℕ) × (item : X) × (slice_get addresses x ≡ Some address) × (slice_get items address ≡ Some item) × (type item ≡ t)
      by None at same = absurd cc
      by (Some address) at same = let same_type : type_of_item address ≡ t = cc in found address at (slice_get items address) refl same_type

  pub types-find : (address : ℕ) (item : X) → slice_get addresses x ≡ Some address → slice_get items address ≡ Some item → slice_get (types_at type missing items addresses) x ≡ Some (type item)
  types-find address item at is =
      slice_get-map type_of_item addresses x ∙ ap (option_map type_of_item) at
      ∙ ap (λ (o : Option X). Some (unwrap_or (option_map type o) missing)) is

-- ---- contexts

module _ (old new : Store) (valid : StoreIsValid old) (more : Extends old new) where
  module _ (i : ModuleInstance) (there : InstanceIsValid old i) where
    functions-carried : (x : ℕ) (t : FuncType) → slice_get (instance_context old i).functions x ≡ Some t → slice_get (instance_context new i).functions x ≡ Some t
    functions-carried x t is =
        let (address, f, at, found, same) = types-found _ _ old.functions i.functions x t there.functions is in
        let (g, there', stays) = more.functions address f found in
        types-find _ _ new.functions i.functions x address g at there' ∙ ap (λ (h : FunctionInstance). Some h.ty) (sym stays) ∙ ap (λ (u : FuncType). Some u) same

    tables-carried : (x : ℕ) (t : RefType) → IsTable (instance_context old i) x t → IsTable (instance_context new i) x t
    tables-carried x t (ty, is, element) =
        let (address, table, at, found, same) = types-found _ _ old.tables i.tables x ty there.tables is in
        let (table', there', stays) = more.tables address table found in
        (table'.ty, types-find _ _ new.tables i.tables x address table' at there', sym stays.0 ∙ ap (λ (u : TableType). u.element) same ∙ element)

    memory-carried : HasMemory (instance_context old i) → HasMemory (instance_context new i)
    memory-carried (limits, is) =
        let (address, memory, at, found, same) = types-found _ _ old.memories i.memories 0 limits there.memories is in
        let (memory', there', stays) = more.memories address memory found in
        (memory'.limits, types-find _ _ new.memories i.memories 0 address memory' at there')

    globals-carried : (x : ℕ) (g : GlobalType) → slice_get (instance_context old i).globals x ≡ Some g → slice_get (instance_context new i).globals x ≡ Some g
    globals-carried x ty is =
        let (address, g, at, found, same) = types-found _ _ old.globals i.globals x ty there.globals is in
        let (g', there', stays) = more.globals address g found in
        types-find _ _ new.globals i.globals x address g' at there' ∙ ap (λ (u : GlobalType). Some u) (sym stays.0 ∙ same)

    elements-carried : (x : ℕ) (t : RefType) → IsElement (instance_context old i) x t → IsElement (instance_context new i) x t
    elements-carried x t is =
        let (address, e, at, found, same) = types-found _ _ old.elements i.elements x t there.elements is in
        let (e', there', stays) = more.elements address e found in
        types-find _ _ new.elements i.elements x address e' at there' ∙ ap (λ (u : RefType). Some u) (sym stays.0 ∙ same)

  carried : (place : Place) (i : ModuleInstance) (there : InstanceIsValid old i) → instance_of old place.instance ≡ i → instance_of new place.instance
      ≡ i → Carries (context_at old place) (context_at new place)
  carried place i there before now = rw (before, now) (record {
    types = λ x t is. is;
    functions = functions-carried i there;
    tables = tables-carried i there;
    memory = memory-carried i there;
    globals = globals-carried i there;
    elements = elements-carried i there;
    datas = omega (arith);
    locals = λ x t is. is;
    labels = λ x t is. is;
    results = λ types is. is;
    references = λ x f is named. named;
  })

  -- If there is no instance, nothing was typed by it.
  carried-from-none : (place : Place) → instance_of old place.instance ≡ no_instance → Carries (context_at old place) (context_at new place)
  carried-from-none place before = rw before (record {
    types = λ x t is. absurd cc;
    functions = λ x t is. absurd cc;
    tables = λ x t (ty, is, element). absurd cc;
    memory = λ (limits, is). absurd cc;
    globals = λ x t is. absurd cc;
    elements = λ x t is. absurd cc;
    datas = omega (arith);
    locals = λ x t is. is;
    labels = λ x t is. is;
    results = λ types is. is;
    references = λ x f is named. absurd cc;
  })

  carried-at : (place : Place) → Carries (context_at old place) (context_at new place)
  carried-at place = by place.instance refl
    where
      found : (address : ℕ) → place.instance ≡ Some address → (o : Option ModuleInstance) → slice_get old.instances address ≡ o → Carries (context_at old place) (context_at new place)
      found address at None is = carried-from-none place (ap (instance_of old) at ∙ ap (λ (o : Option ModuleInstance). unwrap_or o no_instance) is)
      found address at (Some i) is =
          let (j, there', same) = more.instances address i is in
          carried place i (All-at (InstanceIsValid old) old.instances address i is valid.instances)
          (ap (instance_of old) at ∙ ap (λ (o : Option ModuleInstance). unwrap_or o no_instance) is)
          (ap (instance_of new) at ∙ ap (λ (o : Option ModuleInstance). unwrap_or o no_instance) there' ∙ sym same)

      by : (o : Option ℕ) → place.instance ≡ o → Carries (context_at old place) (context_at new place)
      by None at = carried-from-none place (ap (instance_of old) at)
      by (Some address) at = found address at (slice_get old.instances address) refl

  -- ---- bodies and configurations

  pub functions-more : length old.functions ≤ length new.functions
  functions-more = Keeps-length (λ (f g : FunctionInstance). f ≡ g) old.functions new.functions more.functions

  pub RunsOn-extended : (place : Place) (body : Body) (stack results : List ValType) → RunsOn old place body stack results → RunsOn new place body stack results
  RunsOn-extended place body stack results typed =
      HasType-extension (context_at old place) (context_at new place) (carried-at place) body (known (reverse stack)) (known results) typed

  pub configuration-extended : (place : Place) (c : Configuration) (results : List ValType) → ConfigurationHasType old place c results → ConfigurationHasType new place c results
  configuration-extended place (Running values rest) results (stack, typed, runs) =
      (stack, values-extended old new functions-more values stack typed, RunsOn-extended place rest stack results runs)
  configuration-extended place (InLabel label inside) results (stack, given, carried, arity, typed, inner, onward, again) = (
    stack,
    given,
    carried,
    arity,
    values-extended old new functions-more label.values stack typed,
    configuration-extended (inside_label place carried) inside given inner,
    RunsOn-extended place label.rest (reverse given ++ stack) results onward,
    RunsOn-extended place (continue_with label.continuation label.rest) (reverse carried ++ stack) results again,
  )
  configuration-extended place (InFrame activation frame inside) results (stack, given, locals, arity, typed, own, inner, onward) = (
    stack,
    given,
    locals,
    arity,
    values-extended old new functions-more activation.values stack typed,
    values-extended old new functions-more frame.locals locals own,
    configuration-extended (inside_frame frame.instance locals given) inside given inner,
    RunsOn-extended place activation.rest (reverse given ++ stack) results onward,
  )
  configuration-extended place (Invoking arguments address) results (f, is, typed, same) =
      let (g, there', stays) = more.functions address f is in
      (f, there' ∙ ap (λ (h : FunctionInstance). Some h) (sym stays), values-extended old new functions-more arguments (reverse f.ty.params) typed, same)

-- The instance of a place is valid, even if there is none.
pub instance-valid : (store : Store) → StoreIsValid store → (at : Option ℕ) → InstanceIsValid store (instance_of store at)
instance-valid store valid at = by at
  where
    nothing : {X : Type 0} (items : List X) → AreThere items []
    nothing items k d inside = let wrong : ⊥ = omega (arith, inside) in absurd wrong

    none : InstanceIsValid store no_instance
    none = record {
      functions = nothing store.functions;
      tables = nothing store.tables;
      memories = nothing store.memories;
      globals = nothing store.globals;
      elements = nothing store.elements;
      datas = nothing store.datas;
      exports = λ k e inside. let wrong : ⊥ = omega (arith, inside) in absurd wrong;
    }

    found : (address : ℕ) (o : Option ModuleInstance) → slice_get store.instances address ≡ o → InstanceIsValid store (unwrap_or o no_instance)
    found address None is = none
    found address (Some i) is = All-at (InstanceIsValid store) store.instances address i is valid.instances

    by : (at : Option ℕ) → InstanceIsValid store (instance_of store at)
    by None = none
    by (Some address) = found address (slice_get store.instances address) refl
