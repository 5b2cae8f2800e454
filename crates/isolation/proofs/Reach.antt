-- What can be reached is closed, and has all that a command starts from.
use Rattle.std.proofs.Common.{length, ◌<◌, ◌≡◌, ℕ, suc, inl, inr, List, [], ◌∷◌, Some, true, refl, ap, subst, slice_get}
use Rattle.std.specs.List.{All}
use Rattle.core_types.specs.declared.module.Module.{Module}
use Rattle.core_types.specs.declared.outcome.Extern.{Extern}
use Rattle.core_types.specs.declared.outcome.Extern.TheVariants as value
use Rattle.core_types.specs.declared.outcome.Val.{Val}
use Rattle.core_types.specs.declared.outcome.Val.TheVariants.{I32, I64, FuncRef, ExternRef}
use Rattle.std.specs.Prelude.{None}
use Rattle.meaning.specs.embedding.Commands.{Command, Load, Link, Register, Call, GetGlobal, SetFuel}
use Rattle.meaning.specs.embedding.Machine.{Embedding, resolve_imports}
use Rattle.meaning.specs.execution.Store.{FunctionInstance, GlobalInstance, Implementation, InCode, InHost, ModuleInstance, Store}
use Rattle.meaning.specs.soundness.Values.{ValueHasType}
use Rattle.meaning.specs.validation.Types.{reference_type}
use Rattle.soundness.specs.Stores.{ElementIsValid, FunctionIsValid, GlobalIsValid, ImplementationIsValid, InstanceIsValid, StoreIsValid, TableIsValid}
use Rattle.soundness.proofs.Values.{All-at, All-from}
use Rattle.isolation.specs.Commands.{AsksWithin, Asks, ReachesNoFurther}
use Rattle.isolation.specs.Reach.{WhatIsReachedIsThere, IsPlaceIn, ReachIsLeast, IsIn, Function, Instance, Table, Memory, Global, Element, Data, Host, IsAmong}
use Rattle.isolation.specs.Reach.{IsReached, Leads, Place, onward, reach, reach_when_asked, reach_of, start}
use Rattle.isolation.specs.Regions.{IsThere, ExternIsWithin, ExternsAreWithin, ImplementationIsWithin, InstanceIsWithin, IsClosed, Region, ValueIsWithin, ValuesAreWithin, marked}
use Rattle.isolation.proofs.Within.{at-within}

each-within : (region : Region) (vs : List Val) → ((x : ℕ) → IsAmong vs (FuncRef (Some x)) → region.functions x) → ValuesAreWithin region vs
each-within region [] each = tt
each-within region (v ∷ vs) each = (first v (λ x is. each x (0, ap Some is)), each-within region vs (λ x among. each x (suc among.0, among.1)))
  where
    first : (w : Val) → ((x : ℕ) → w ≡ FuncRef (Some x) → region.functions x) → ValueIsWithin region w
    first (I32 n) at = tt
    first (I64 n) at = tt
    first (FuncRef None) at = tt
    first (FuncRef (Some x)) at = at x refl
    first (ExternRef x) at = tt

module _ (store : Store) (Starts : Place → Type 0) where
  abbrev all : Region
  all = reach store Starts

  code-reached : (a : ℕ) (f : FunctionInstance) → IsReached store Starts (Function a) → slice_get store.functions a ≡ Some f → (i : Implementation)
      → f.implementation ≡ i → ImplementationIsWithin all i
  code-reached a f reached is (InCode instance code) in_code = onward reached (f, code, is, in_code)
  code-reached a f reached is (InHost number) in_host = onward reached (f, is, in_host)

  instance-reached : (a : ℕ) (i : ModuleInstance) → IsReached store Starts (Instance a) → slice_get store.instances a ≡ Some i → InstanceIsWithin all i
  instance-reached a i reached is = record {
    functions = All-from all.functions i.functions (λ k x at. onward reached (i, is, (k, at)));
    tables = All-from all.tables i.tables (λ k x at. onward reached (i, is, (k, at)));
    memories = All-from all.memories i.memories (λ k x at. onward reached (i, is, (k, at)));
    globals = All-from all.globals i.globals (λ k x at. onward reached (i, is, (k, at)));
    elements = All-from all.elements i.elements (λ k x at. onward reached (i, is, (k, at)));
    datas = All-from all.datas i.datas (λ k x at. onward reached (i, is, (k, at)));
  }

  global-reached : (a : ℕ) (g : GlobalInstance) → IsReached store Starts (Global a) → slice_get store.globals a ≡ Some g → (v : Val) → g.value ≡ v → ValueIsWithin all v
  global-reached a g reached is (I32 n) at = tt
  global-reached a g reached is (I64 n) at = tt
  global-reached a g reached is (FuncRef None) at = tt
  global-reached a g reached is (FuncRef (Some x)) at = onward reached (g, is, at)
  global-reached a g reached is (ExternRef x) at = tt

  -- What can be reached is closed.
  pub reach-closed : IsClosed all store
  reach-closed = record {
    functions = λ a f reached is. code-reached a f reached is f.implementation refl;
    instances = instance-reached;
    tables = λ a t reached is. each-within all t.entries (λ x among. onward reached (t, is, among));
    globals = λ a g reached is. global-reached a g reached is g.value refl;
    elements = λ a e reached is. each-within all e.references (λ x among. onward reached (e, is, among));
  }

-- ---- the least

module _ (store : Store) (region : Region) (closed : IsClosed region store) where
  leads-within : (from to : Place) → Leads store from to → IsIn region from → IsIn region to
  leads-within (Function a) (Instance b) (f, code, is, in_code) has = subst (ImplementationIsWithin region) in_code (closed.functions a f has is)
  leads-within (Function a) (Host b) (f, is, in_host) has = subst (ImplementationIsWithin region) in_host (closed.functions a f has is)
  leads-within (Instance a) (Function b) (i, is, (k, at)) has = All-at region.functions i.functions k b at (closed.instances a i has is).functions
  leads-within (Instance a) (Table b) (i, is, (k, at)) has = All-at region.tables i.tables k b at (closed.instances a i has is).tables
  leads-within (Instance a) (Memory b) (i, is, (k, at)) has = All-at region.memories i.memories k b at (closed.instances a i has is).memories
  leads-within (Instance a) (Global b) (i, is, (k, at)) has = All-at region.globals i.globals k b at (closed.instances a i has is).globals
  leads-within (Instance a) (Element b) (i, is, (k, at)) has = All-at region.elements i.elements k b at (closed.instances a i has is).elements
  leads-within (Instance a) (Data b) (i, is, (k, at)) has = All-at region.datas i.datas k b at (closed.instances a i has is).datas
  leads-within (Table a) (Function b) (t, is, (k, at)) has = at-within region t.entries k (FuncRef (Some b)) (closed.tables a t has is) at
  leads-within (Global a) (Function b) (g, is, at) has = subst (ValueIsWithin region) at (closed.globals a g has is)
  leads-within (Element a) (Function b) (e, is, (k, at)) has = at-within region e.references k (FuncRef (Some b)) (closed.elements a e has is) at
  leads-within from to leads has = absurd leads

  pub least : (Starts : Place → Type 0) → ((place : Place) → Starts place → IsIn region place) → (place : Place) → IsReached store Starts place → IsIn region place
  least Starts from place (start starts) = from place starts
  least Starts from place (onward {from = before} {to = to} reached leads) = leads-within before to leads (least Starts from before reached)

is-in : (store : Store) (Starts : Place → Type 0) (place : Place) → IsReached store Starts place → IsIn (reach store Starts) place
is-in store Starts (Function a) reached = reached
is-in store Starts (Instance a) reached = reached
is-in store Starts (Table a) reached = reached
is-in store Starts (Memory a) reached = reached
is-in store Starts (Global a) reached = reached
is-in store Starts (Element a) reached = reached
is-in store Starts (Data a) reached = reached
is-in store Starts (Host n) reached = reached

pub reach-is-least : ReachIsLeast
reach-is-least = record {
  closed = λ store starts. reach-closed store (λ place. starts place ≡ true);
  has = λ store starts place is. is-in store (λ at. starts at ≡ true) place (start is);
  least = λ store starts marks closed from place reached. least store (marked marks) closed (λ at. starts at ≡ true) from place reached;
}

-- ---- what exists

module _ (store : Store) (valid : StoreIsValid store) where
  leads-there : (from to : Place) → Leads store from to → IsPlaceIn store to
  leads-there (Function a) (Instance b) (f, code, is, in_code) = (subst (ImplementationIsValid store f.ty) in_code (All-at (FunctionIsValid store) store.functions a f is valid.functions)).0
  leads-there (Function a) (Host b) leads = tt
  leads-there (Instance a) (Function b) (i, is, (k, at)) = All-at (λ (n : ℕ). n < length store.functions) i.functions k b at
      (All-at (InstanceIsValid store) store.instances a i is valid.instances).functions
  leads-there (Instance a) (Table b) (i, is, (k, at)) = All-at (λ (n : ℕ). n < length store.tables) i.tables k b at (All-at (InstanceIsValid store) store.instances a i is valid.instances).tables
  leads-there (Instance a) (Memory b) (i, is, (k, at)) = All-at (λ (n : ℕ). n < length store.memories) i.memories k b at
      (All-at (InstanceIsValid store) store.instances a i is valid.instances).memories
  leads-there (Instance a) (Global b) (i, is, (k, at)) = All-at (λ (n : ℕ). n < length store.globals) i.globals k b at (All-at (InstanceIsValid store) store.instances a i is valid.instances).globals
  leads-there (Instance a) (Element b) (i, is, (k, at)) = All-at (λ (n : ℕ). n < length store.elements) i.elements k b at
      (All-at (InstanceIsValid store) store.instances a i is valid.instances).elements
  leads-there (Instance a) (Data b) (i, is, (k, at)) = All-at (λ (n : ℕ). n < length store.datas) i.datas k b at (All-at (InstanceIsValid store) store.instances a i is valid.instances).datas
  leads-there (Table a) (Function b) (t, is, (k, at)) =
      (All-at (λ (v : Val). ValueHasType store v (reference_type t.ty.element)) t.entries k (FuncRef (Some b)) at (All-at (TableIsValid store) store.tables a t is valid.tables).entries).1
  leads-there (Global a) (Function b) (g, is, at) = (subst (λ (v : Val). ValueHasType store v g.ty.value) at (All-at (GlobalIsValid store) store.globals a g is valid.globals)).1
  leads-there (Element a) (Function b) (e, is, (k, at)) =
      (All-at (λ (v : Val). ValueHasType store v (reference_type e.ty)) e.references k (FuncRef (Some b)) at (All-at (ElementIsValid store) store.elements a e is valid.elements)).1
  leads-there from to leads = absurd leads

  pub reached-there : (Starts : Place → Type 0) → ((place : Place) → Starts place → IsPlaceIn store place) → (place : Place) → IsReached store Starts place → IsPlaceIn store place
  reached-there Starts from place (start starts) = from place starts
  reached-there Starts from place (onward {from = before} {to = to} reached leads) = leads-there before to leads

  pub reach-there : (Starts : Place → Type 0) → ((place : Place) → Starts place → IsPlaceIn store place) → IsThere (reach store Starts) store
  reach-there Starts from = record {
    functions = λ a reached. reached-there Starts from (Function a) reached;
    instances = λ a reached. reached-there Starts from (Instance a) reached;
    tables = λ a reached. reached-there Starts from (Table a) reached;
    memories = λ a reached. reached-there Starts from (Memory a) reached;
    globals = λ a reached. reached-there Starts from (Global a) reached;
    elements = λ a reached. reached-there Starts from (Element a) reached;
    datas = λ a reached. reached-there Starts from (Data a) reached;
  }

pub what-is-reached-is-there : WhatIsReachedIsThere
what-is-reached-is-there store starts valid from = reach-there store valid (λ place. starts place ≡ true) from

-- ---- commands

externs-within : (region : Region) (given : List Extern) → ((e : Extern) → IsAmong given e → ExternIsWithin region e) → ExternsAreWithin region given
externs-within region [] each = tt
externs-within region (e ∷ given) each = (each e (0, refl), externs-within region given (λ x among. each x (suc among.0, among.1)))

module _ {H : Type 0} (at : Embedding H) where
  import-within : (number : ℕ) (m : Module) (given : List Extern) → slice_get at.modules number ≡ Some m
      → resolve_imports at.state.store at.names m.imports ≡ Some given → (e : Extern) → IsAmong given e
      → ExternIsWithin (reach_of at (Link number)) e
  import-within number m given is named (value.Func x) among = start (m, given, value.Func x, is, named, among, refl)
  import-within number m given is named (value.Table x) among = start (m, given, value.Table x, is, named, among, refl)
  import-within number m given is named (value.Memory x) among = start (m, given, value.Memory x, is, named, among, refl)
  import-within number m given is named (value.Global x) among = start (m, given, value.Global x, is, named, among, refl)

  -- A command reaches no further than what it can reach.
  pub reaches-no-further : (command : Command) → ReachesNoFurther (reach_of at command) at command
  reaches-no-further (Load bytes) = tt
  reaches-no-further (Link number) = λ m given is named. externs-within (reach_of at (Link number)) given (import-within number m given is named)
  reaches-no-further (Register number name) = tt
  reaches-no-further (Call number name arguments) = (
    λ instance is. start (inl (instance, refl, is)),
    each-within (reach_of at (Call number name arguments)) arguments (λ x among. start (inr (x, refl, among))),
  )
  reaches-no-further (GetGlobal number name) = tt
  reaches-no-further (SetFuel fuel) = tt

  -- The same for a command to an instance.
  pub said-within : (number : ℕ) (commands : List Command) (command : Command) → IsAmong commands command → Asks number command → AsksWithin (reach_when_asked at number commands) number command
  said-within number commands (Load bytes) among to = to
  said-within number commands (Link other) among to = to
  said-within number commands (Register other name) among to = to
  said-within number commands (Call other name arguments) among to =
      (to, each-within (reach_when_asked at number commands) arguments (λ x refers. start (inr (Call other name arguments, among, (x, refl, refers)))))
  said-within number commands (GetGlobal other name) among to = to
  said-within number commands (SetFuel fuel) among to = tt

  pub all-said-within : (number : ℕ) (commands : List Command) → All (Asks number) commands → All (AsksWithin (reach_when_asked at number commands) number) commands
  all-said-within number commands to = All-from (AsksWithin (reach_when_asked at number commands) number) commands
      (λ k c is. said-within number commands c (k, is) (All-at (Asks number) commands k c is to))
