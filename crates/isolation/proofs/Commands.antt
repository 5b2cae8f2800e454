-- Commands keep to their reach, and replies to what they ask are alike in embeddings that look alike there.
use Rattle.std.proofs.Common.{◌≡◌, ℕ, zero, suc, ◌<◌, ◌≤◌, List, [], ◌∷◌, length, reverse, Option, Some, None, refl, ap, sym, subst, ◌∙◌, arith, slice_get, inl, inr}
use Rattle.std.proofs.lemmas.Option.{slice_get_within}
use Rattle.std.specs.List.{All}
use Rattle.std.specs.Prelude.{Result, Ok, Err}
use Rattle.core_types.specs.declared.module.Module.{Module}
use Rattle.core_types.specs.declared.outcome.Extern.{Extern}
use Rattle.core_types.specs.declared.outcome.Val.{Val}
use Rattle.core_types.specs.declared.outcome.Val.TheVariants.{I32, I64, FuncRef, ExternRef}
use Rattle.core_types.specs.declared.types.FuncType.{FuncType}
use Rattle.core_types.specs.declared.types.ValType.{ValType}
use Rattle.meaning.specs.embedding.Commands.{Command, Load, Link, Register, Call, GetGlobal, SetFuel, Refusal, Reply, Linked, Ended, Refused}
use Rattle.meaning.specs.embedding.Creation.{Creates, HostDefinition}
use Rattle.meaning.specs.embedding.Machine.{Applies, AppliesAll, CallsAt, Embedding, GetsAt, LinksAt, Loads, Refuses, RegistersAt, as_function, as_global}
use Rattle.meaning.specs.embedding.Machine.{export_at, export_from, export_in, resolve_imports, with_fuel}
use Rattle.meaning.specs.embedding.Machine as machine
use Rattle.meaning.specs.embedding.Names.{export_of}
use Rattle.meaning.specs.execution.Configurations.{Invoking, no_frame}
use Rattle.meaning.specs.execution.Hosts.{IsHostStep}
use Rattle.meaning.specs.execution.Modules.{Instantiation}
use Rattle.meaning.specs.execution.Runs.{Answer, Ending, Run, State, WithValues}
use Rattle.meaning.specs.execution.Store.{FunctionInstance, ModuleInstance, Store, instance_of}
use Rattle.meaning.specs.soundness.Values.{TakesArguments, ValueHasType, ValuesHaveTypes}
use Rattle.soundness.proofs.Creation.{fresh-ready}
use Rattle.soundness.specs.Hosts.{GivesNoFuncref}
use Rattle.isolation.specs.Commands.{AnyInstanceIsIn, ChangesNothing, AllKeepToTheirReach, ChangesNoMore, CommandsKeepToTheirReach}
use Rattle.isolation.specs.Commands.{AsksWithin, KeepsToItsReach, MayReply}
use Rattle.isolation.specs.Commands.{ReachesNoFurther, ReplyIsWithin}
use Rattle.isolation.specs.Isolation.{LookAlike}
use Rattle.isolation.specs.Regions.{AgreeWithin, AllocatesNothing, ExternsAreWithin, Has, HasNot}
use Rattle.isolation.specs.Regions.{InstanceIsWithin, IsClosed, KeepsCode, LeavesOutside, Region, StaysOutside, ValueIsWithin, ValuesAreWithin}
use Rattle.isolation.specs.Regions.{and_from, with_new, marked}
use Rattle.isolation.proofs.Changes.{Change, IsNoLink, call_run, command-change, fuel_set, link_failed, link_made, modules_loaded, name_registered}
use Rattle.isolation.proofs.Changes.{nothing_done}
use Rattle.isolation.proofs.Effects.{instance-same, instance-within}
use Rattle.isolation.proofs.Links.{links-keep-to}
use Rattle.isolation.proofs.Moves.{LeavesOutside-same}
use Rattle.isolation.proofs.New.{closed-more}
use Rattle.isolation.specs.Reach.{StartsFrom, reach_of}
use Rattle.isolation.proofs.Reach.{reach-closed, reaches-no-further}
use Rattle.isolation.proofs.Runs.{looks-like-itself, run-alike, runs-keep-to}
use Rattle.isolation.proofs.Within.{reverse-within}
use Rattle.isolation.proofs.Everything.{any-externs, any-store, any-values, everything}
use Rattle.isolation.proofs.Exports.{function-exported, global-exported}

pub not-from : (addresses : ℕ → Type 0) (first k : ℕ) → HasNot addresses k → k < first → HasNot (and_from addresses first) k
not-from addresses first k not less any = elim any [
  | inl has ↦ not has
  | inr past ↦ (let wrong : ⊥ = omega (arith, less, past) in wrong)
]

pub some-there : {X : Type 0} (xs : List X) (n : ℕ) → n < length xs → (x : X) × (slice_get xs n ≡ Some x)
some-there [] n inside = absurd (let wrong : ⊥ = omega (arith, inside) in wrong)
some-there (x ∷ xs) zero inside = (x, refl)
some-there (x ∷ xs) (suc n) inside = some-there xs n (omega (arith, inside))

code-kept : (old new : Store) → AllocatesNothing old new → KeepsCode old new
code-kept old new same = record {
  functions = λ address inside. ap (λ (fs : List FunctionInstance). slice_get fs address) same.functions;
  instances = λ address inside. ap (λ (is : List ModuleInstance). slice_get is address) same.instances;
}

code-same : (store : Store) → KeepsCode store store
code-same store = record { functions = λ address inside. refl; instances = λ address inside. refl }

module _ {H : Type 0} (host_type : H → FuncType) (Answers : H → List Val → List ℕ → Answer → List ℕ → H → Type 0) where
  abbrev HostStep : List H → ℕ → Option ℕ → List Val → Store → Answer → Store → List H → Type 0
  HostStep = IsHostStep host_type Answers

  abbrev pub NoFuncrefs : Embedding H → Type 0
  NoFuncrefs at = All (GivesNoFuncref host_type) at.state.hosts

  -- ---- what each command leaves

  pub record Leaves (old : Embedding H) (reply : Reply) (new : Embedding H) : Type 0 where
    pub free : NoFuncrefs new
    pub code : KeepsCode old.state.store new.state.store
    pub no_fewer : length old.state.store.instances ≤ length new.state.store.instances
    pub one_more : (number : ℕ) → reply ≡ Linked number → length old.state.store.instances < length new.state.store.instances

  module _ (old new : Embedding H) (reply : Reply) (free : NoFuncrefs old) where
    leaves-store : IsNoLink reply → new.state.store ≡ old.state.store → new.state.hosts ≡ old.state.hosts → Leaves old reply new
    leaves-store other store hosts = record {
      free = subst (All (GivesNoFuncref host_type)) (sym hosts) free;
      code = subst (KeepsCode old.state.store) (sym store) (code-same old.state.store);
      no_fewer = let same = ap (λ (s : Store). length s.instances) store in omega (arith, same);
      one_more = λ number linked. absurd (other number linked);
    }

    leaves-link : {m : Module} {given : List Extern} {ending : Ending} {state : State H}
        → Instantiation HostStep old.setup.depth m given old.state ending state → new.state ≡ state → Leaves old reply new
    leaves-link {m} {given} {ending} {state} link is =
        let keeps = links-keep-to host_type Answers everything old.setup.depth m given old.state state ending (any-store old.state.store) free (any-externs given) link in
        subst (λ (s : State H). Leaves old reply (record new { state = s })) (sym is) (record {
          free = keeps.no_funcrefs;
          code = keeps.code;
          no_fewer = let more = keeps.one_more in omega (arith, more);
          one_more = λ number linked. keeps.one_more;
        })

    pub command-leaves : {command : Command} → Change HostStep old command reply new → Leaves old reply new
    command-leaves (nothing_done r n) = leaves-store r (ap (λ (e : Embedding H). e.state.store) n) (ap (λ (e : Embedding H). e.state.hosts) n)
    command-leaves (modules_loaded r n) = leaves-store r (ap (λ (e : Embedding H). e.state.store) n) (ap (λ (e : Embedding H). e.state.hosts) n)
    command-leaves (name_registered c r n) = leaves-store r (ap (λ (e : Embedding H). e.state.store) n) (ap (λ (e : Embedding H). e.state.hosts) n)
    command-leaves (fuel_set r n) = leaves-store r (ap (λ (e : Embedding H). e.state.store) n) (ap (λ (e : Embedding H). e.state.hosts) n)
    command-leaves (call_run arguments {address = address} {ending = ending} {state = state} run r n) =
        let (keeps, within) = runs-keep-to host_type Answers everything old.setup.depth no_frame old.state state (Invoking (reverse arguments) address) ending
        (record { closed = any-store old.state.store; no_funcrefs = free; frame = record { instance = tt; locals = tt }; within = (any-values (reverse arguments), tt) }) run in
        subst (λ (s : State H). Leaves old reply (record new { state = s })) (sym (ap (λ (e : Embedding H). e.state) n)) (record {
          free = keeps.no_funcrefs;
          code = code-kept old.state.store state.store keeps.nothing_new;
          no_fewer = let same = ap (λ (is : List ModuleInstance). length is) keeps.nothing_new.instances in omega (arith, same);
          one_more = λ number linked. absurd (r number linked);
        })
    command-leaves (link_made link c r n) = leaves-link link (ap (λ (e : Embedding H). e.state) n)
    command-leaves (link_failed link r n) = leaves-link link (ap (λ (e : Embedding H). e.state) n)

    pub command-free : (command : Command) → Applies HostStep old command reply new → NoFuncrefs new
    command-free command applies = (command-leaves (command-change HostStep old new reply command applies)).free

  pub list-free : {old last : Embedding H} {commands : List Command} {replies : List Reply} → NoFuncrefs old → AppliesAll HostStep old commands replies last → NoFuncrefs last
  list-free free machine.none = free
  list-free {old} free (machine.then_on {between = between} {command = command} {reply = reply} first rest) = list-free (command-free old between reply free command first) rest

  pub fresh-free : (setup : machine.Setup) (definitions : List (HostDefinition H)) (fresh : Embedding H) → Creates host_type setup definitions (Ok fresh) → NoFuncrefs fresh
  fresh-free setup definitions fresh (faultless, is) = subst NoFuncrefs (sym is) (fresh-ready host_type setup.pages setup.entries definitions faultless).no_funcrefs

  -- ---- each command keeps to its reach

  module _ (region : Region) (old new : Embedding H) (reply : Reply) (free : NoFuncrefs old) (closed : IsClosed region old.state.store) where
    unchanged : new ≡ old → ChangesNothing old new
    unchanged is = (ap (λ (e : Embedding H). e.state.store) is, ap (λ (e : Embedding H). e.state.hosts) is)

    loads-reach : (bytes : List ℕ) → Loads old bytes reply new → ChangesNothing old new
    loads-reach bytes (machine.loaded decoded valid r n) = (ap (λ (e : Embedding H). e.state.store) n, ap (λ (e : Embedding H). e.state.hosts) n)
    loads-reach bytes (machine.no_module missing cause (r, n)) = unchanged n
    loads-reach bytes (machine.not_valid decoded invalid (r, n)) = unchanged n
    loads-reach bytes (machine.no_memory (r, n)) = unchanged n

    abbrev LinkedWithin : Embedding H → Type 0
    LinkedWithin e = LeavesOutside (with_new region old.state.store) old.state.store e.state.store × KeepsCode old.state.store e.state.store
        × IsClosed (with_new region old.state.store) e.state.store × StaysOutside region region.hosts old.state.hosts e.state.hosts

    nothing-linked : LinkedWithin old
    nothing-linked = (LeavesOutside-same (with_new region old.state.store) old.state.store, code-same old.state.store, closed-more region old.state.store closed, λ number not. refl)

    refused-link : new ≡ old → LinkedWithin new
    refused-link is = subst LinkedWithin (sym is) nothing-linked

    links-reach : (found : Option Module)
        → ((m : Module) (given : List Extern) → found ≡ Some m → resolve_imports old.state.store old.names m.imports ≡ Some given
        → ExternsAreWithin region given) → LinksAt HostStep old found reply new → LinkedWithin new
    links-reach None imports (r, n) = refused-link n
    links-reach (Some m) imports (machine.linked {externs = externs} {state = state} named allowed link r n) =
        let keeps = links-keep-to host_type Answers region old.setup.depth m externs old.state state (WithValues []) closed free (imports m externs refl named) link in
        subst LinkedWithin (sym n) (keeps.outside, keeps.code, keeps.closed, keeps.hosts)
    links-reach (Some m) imports (machine.ended {externs = externs} {ending = ending} {state = state} named allowed link empty r n) =
        let keeps = links-keep-to host_type Answers region old.setup.depth m externs old.state state ending closed free (imports m externs refl named) link in
        subst LinkedWithin (sym n) (keeps.outside, keeps.code, keeps.closed, keeps.hosts)
    links-reach (Some m) imports (machine.unknown nameless (r, n)) = refused-link n
    links-reach (Some m) imports (machine.incompatible named misfit (r, n)) = refused-link n
    links-reach (Some m) imports (machine.too_large named given large (r, n)) = refused-link n
    links-reach (Some m) imports (machine.no_memory (r, n)) = refused-link n

    registers-reach : (name : List ℕ) (found : Option ℕ) → RegistersAt old name found reply new → ChangesNothing old new
    registers-reach name None (r, n) = unchanged n
    registers-reach name (Some instance) (machine.registered unused r n) = (ap (λ (e : Embedding H). e.state.store) n, ap (λ (e : Embedding H). e.state.hosts) n)
    registers-reach name (Some instance) (machine.taken there (r, n)) = unchanged n
    registers-reach name (Some instance) (machine.no_memory unused (r, n)) = unchanged n

    gets-reach : (found : Result ℕ Refusal) → GetsAt old found reply new → ChangesNothing old new
    gets-reach (Err why) (r, n) = unchanged n
    gets-reach (Ok address) (machine.got there r n) = unchanged n
    gets-reach (Ok address) (machine.no_memory (r, n)) = unchanged n

    abbrev CalledWithin : Reply → Embedding H → Type 0
    CalledWithin r e = LeavesOutside region old.state.store e.state.store × KeepsCode old.state.store e.state.store × IsClosed region e.state.store
        × ReplyIsWithin region r × StaysOutside region region.hosts old.state.hosts e.state.hosts

    refused-call : {why : Refusal} → reply ≡ Refused why → new ≡ old → CalledWithin reply new
    refused-call {why} r n =
        subst (λ (x : Reply). CalledWithin x new) (sym r)
        (subst (CalledWithin (Refused why)) (sym n) (LeavesOutside-same region old.state.store, code-same old.state.store, closed, tt, λ number not. refl))

    calls-reach : (arguments : List Val) → ValuesAreWithin region arguments → (found : Result ℕ Refusal)
        → ((address : ℕ) → found ≡ Ok address → Has region.functions address) → CallsAt HostStep old found arguments reply new → CalledWithin reply new
    calls-reach arguments within (Err why) has (r, n) = refused-call r n
    calls-reach arguments within (Ok address) has (machine.called {ending = ending} {state = state} takes run r n) =
        let (keeps, ends) = runs-keep-to host_type Answers region old.setup.depth no_frame old.state state (Invoking (reverse arguments) address) ending
        (record { closed = closed; no_funcrefs = free; frame = record { instance = tt; locals = tt }; within = (reverse-within region arguments within, has address refl) }) run in
        subst (λ (x : Reply). CalledWithin x new) (sym r)
        (subst (CalledWithin (Ended ending)) (sym n)
        (keeps.outside, code-kept old.state.store state.store keeps.nothing_new, keeps.closed, ends, keeps.hosts))
    calls-reach arguments within (Ok address) has (machine.bad_arguments misfit (r, n)) = refused-call r n

    function-reached : (number : ℕ) (name : List ℕ) → AnyInstanceIsIn region old number → (address : ℕ) → as_function (export_at old number name) ≡ Ok address → Has region.functions address
    function-reached number name each address = go (slice_get old.instances number) refl
      where
        go : (o : Option ℕ) → slice_get old.instances number ≡ o → as_function (export_from old.state.store name o) ≡ Ok address → Has region.functions address
        go None is found = absurd cc
        go (Some instance) is found =
            function-exported region (instance_of old.state.store (Some instance))
            (instance-within region old.state.store old.state.store closed (looks-like-itself region old.state).stores (Some instance)
            (each instance is)) name address found

    pub command-reaches : (command : Command) → ReachesNoFurther region old command → Applies HostStep old command reply new → ChangesNoMore region old command reply new
    command-reaches (Load bytes) reach applies = loads-reach bytes applies
    command-reaches (Link number) reach applies = links-reach (slice_get old.modules number) reach applies
    command-reaches (Register number name) reach applies = registers-reach name (slice_get old.instances number) applies
    command-reaches (Call number name arguments) reach applies = calls-reach arguments reach.1 (as_function (export_at old number name)) (function-reached number name reach.0) applies
    command-reaches (GetGlobal number name) reach applies = gets-reach (as_global (export_at old number name)) applies
    command-reaches (SetFuel fuel) reach applies = (ap (λ (e : Embedding H). e.state.store) applies.1, ap (λ (e : Embedding H). e.state.hosts) applies.1)

  list-reaches : {old last : Embedding H} {commands : List Command} {replies : List Reply} → NoFuncrefs old → (run : AppliesAll HostStep old commands replies last) → AllKeepToTheirReach HostStep run
  list-reaches free machine.none = tt
  list-reaches {old} free (machine.then_on {between = between} {command = command} {reply = reply} first rest) = (
    command-reaches (reach_of old command) old between reply free (reach-closed old.state.store (StartsFrom old command)) command (reaches-no-further old command) first,
    λ marks closed reach. command-reaches (marked marks) old between reply free closed command reach first,
    list-reaches (command-free old between reply free command first) rest,
  )

  pub commands-keep : CommandsKeepToTheirReach host_type Answers
  commands-keep setup definitions fresh last commands replies created run = list-reaches (fresh-free setup definitions fresh created) run

  pub keeps-to-its-reach : (setup : machine.Setup) (definitions : List (HostDefinition H)) (fresh : Embedding H) {old : Embedding H}
      {before : List Command} {replied : List Reply} → Creates host_type setup definitions (Ok fresh) → AppliesAll HostStep fresh before replied old
      → (command : Command) (reply : Reply) (new : Embedding H) → Applies HostStep old command reply new → KeepsToItsReach old command reply new
  keeps-to-its-reach setup definitions fresh {old} created run command reply new applies =
      command-reaches (reach_of old command) old new reply (list-free (fresh-free setup definitions fresh created) run)
      (reach-closed old.state.store (StartsFrom old command)) command (reaches-no-further old command) applies

  -- ---- embeddings that look alike from an instance

  pub record SeemsAlike (region : Region) (number : ℕ) (a b : Embedding H) : Type 0 where
    pub instance : ℕ
    pub first : slice_get a.instances number ≡ Some instance
    pub second : slice_get b.instances number ≡ Some instance
    pub within : Has region.instances instance
    pub depth : b.setup.depth ≡ a.setup.depth
    pub states : LookAlike region a.state b.state

  pub record StaysAlike (region : Region) (number : ℕ) (a b : Embedding H) : Type 0 where
    pub seems : SeemsAlike region number a b
    pub closed : IsClosed region a.state.store
    pub free : NoFuncrefs a

  module _ (region : Region) (a b : Store) (agree : AgreeWithin region a b) where
    function-there : (n : ℕ) → Has region.functions n → n < length a.functions → n < length b.functions
    function-there n has less = go (slice_get a.functions n) refl
      where
        go : (o : Option FunctionInstance) → slice_get a.functions n ≡ o → n < length b.functions
        go None is = absurd (let there = some-there a.functions n less in let both : None ≡ Some there.0 = sym is ∙ there.1 in cc)
        go (Some f) is = slice_get_within b.functions n f (agree.functions n has ∙ is)

    value-alike : (v : Val) (t : ValType) → ValueIsWithin region v → ValueHasType a v t → ValueHasType b v t
    value-alike (I32 n) t within typed = typed
    value-alike (I64 n) t within typed = typed
    value-alike (FuncRef None) t within typed = typed
    value-alike (FuncRef (Some n)) t within (is, less) = (is, function-there n within less)
    value-alike (ExternRef x) t within typed = typed

    values-alike : (vs : List Val) (ts : List ValType) → ValuesAreWithin region vs → ValuesHaveTypes a vs ts → ValuesHaveTypes b vs ts
    values-alike [] [] within typed = tt
    values-alike [] (t ∷ ts) within typed = absurd typed
    values-alike (v ∷ vs) [] within typed = absurd typed
    values-alike (v ∷ vs) (t ∷ ts) within typed = (value-alike v t within.0 typed.0, values-alike vs ts within.1 typed.1)

    takes-alike : (address : ℕ) → Has region.functions address → (arguments : List Val) → ValuesAreWithin region arguments → TakesArguments a address arguments → TakesArguments b address arguments
    takes-alike address has arguments within (f, is, typed) = (f, agree.functions address has ∙ is, values-alike arguments f.ty.params within typed)

    agree-back : AgreeWithin region b a
    agree-back = record {
      functions = λ k has. sym (agree.functions k has);
      instances = λ k has. sym (agree.instances k has);
      tables = λ k has. sym (agree.tables k has);
      memories = λ k has. sym (agree.memories k has);
      globals = λ k has. sym (agree.globals k has);
      elements = λ k has. sym (agree.elements k has);
      datas = λ k has. sym (agree.datas k has);
      pages = sym agree.pages;
      entries = sym agree.entries;
    }

    pub closed-too : IsClosed region a → IsClosed region b
    closed-too closed = record {
      functions = λ k x has is. closed.functions k x has (sym (agree.functions k has) ∙ is);
      instances = λ k x has is. closed.instances k x has (sym (agree.instances k has) ∙ is);
      tables = λ k x has is. closed.tables k x has (sym (agree.tables k has) ∙ is);
      globals = λ k x has is. closed.globals k x has (sym (agree.globals k has) ∙ is);
      elements = λ k x has is. closed.elements k x has (sym (agree.elements k has) ∙ is);
    }

  pub alike-back : (region : Region) (number : ℕ) (a b : Embedding H) → NoFuncrefs b → StaysAlike region number a b → StaysAlike region number b a
  alike-back region number a b free_b alike = record {
    seems = record {
      instance = alike.seems.instance;
      first = alike.seems.second;
      second = alike.seems.first;
      within = alike.seems.within;
      depth = sym alike.seems.depth;
      states = record { stores = agree-back region a.state.store b.state.store alike.seems.states.stores; hosts = λ n has. sym (alike.seems.states.hosts n has); fuel = sym alike.seems.states.fuel };
    };
    closed = closed-too region a.state.store b.state.store alike.seems.states.stores alike.closed;
    free = free_b;
  }

  -- ---- commands to an instance

  module _ (region : Region) (number : ℕ) (a b a' : Embedding H) (reply : Reply) (alike : StaysAlike region number a b) where
    abbrev Answered : (Embedding H → Type 0) → Type 0
    Answered Does = (b' : Embedding H) × Does b' × StaysAlike region number a' b'

    stay : a' ≡ a → StaysAlike region number a' b
    stay is = subst (λ (e : Embedding H). StaysAlike region number e b) (sym is) alike

    export-alike : (name : List ℕ) → export_at b number name ≡ export_at a number name
    export-alike name =
        ap (export_from b.state.store name) alike.seems.second
        ∙ ap (λ (i : ModuleInstance). export_in (export_of i name))
        (instance-same region a.state.store b.state.store alike.closed alike.seems.states.stores (Some alike.seems.instance) alike.seems.within)
        ∙ sym (ap (export_from a.state.store name) alike.seems.first)

    its-instance : InstanceIsWithin region (instance_of a.state.store (Some alike.seems.instance))
    its-instance = instance-within region a.state.store b.state.store alike.closed alike.seems.states.stores (Some alike.seems.instance) alike.seems.within

    function-of : (name : List ℕ) (address : ℕ) → as_function (export_at a number name) ≡ Ok address → Has region.functions address
    function-of name address found = function-exported region _ its-instance name address
        (subst (λ (o : Option ℕ). as_function (export_from a.state.store name o) ≡ Ok address) alike.seems.first found)

    global-of : (name : List ℕ) (address : ℕ) → as_global (export_at a number name) ≡ Ok address → Has region.globals address
    global-of name address found = global-exported region _ its-instance name address (subst (λ (o : Option ℕ). as_global (export_from a.state.store name o) ≡ Ok address) alike.seems.first found)

    calls-alike : (arguments : List Val) → ValuesAreWithin region arguments → (found : Result ℕ Refusal)
        → ((address : ℕ) → found ≡ Ok address → Has region.functions address) → CallsAt HostStep a found arguments reply a'
        → Answered (CallsAt HostStep b found arguments reply)
    calls-alike arguments within (Err why) has (r, n) = (b, (r, refl), stay n)
    calls-alike arguments within (Ok address) has (machine.called {ending = ending} {state = state} takes run r n) =
        let after = run-alike host_type Answers region a.setup.depth no_frame run b.state
        (record {
          closed = alike.closed;
          no_funcrefs = alike.free;
          frame = record { instance = tt; locals = tt };
          within = (reverse-within region arguments within, has address refl);
        }) alike.seems.states in
        let there = takes-alike region a.state.store b.state.store alike.seems.states.stores address (has address refl) arguments within takes in (
          record b { state = after.last' },
          machine.called there (subst (λ (bound : ℕ). Run HostStep bound no_frame b.state (Invoking (reverse arguments) address) ending after.last') (sym alike.seems.depth) after.runs) r refl,
          subst (λ (e : Embedding H). StaysAlike region number e (record b { state = after.last' })) (sym n) (record {
            seems = record {
              instance = alike.seems.instance;
              first = alike.seems.first;
              second = alike.seems.second;
              within = alike.seems.within;
              depth = alike.seems.depth;
              states = after.look;
            };
            closed = after.keeps.closed;
            free = after.keeps.no_funcrefs;
          }),
        )
    calls-alike arguments within (Ok address) has (machine.bad_arguments misfit (r, n)) = (
      b,
      machine.bad_arguments (λ takes.
          misfit (takes-alike region b.state.store a.state.store (agree-back region a.state.store b.state.store alike.seems.states.stores) address
          (has address refl) arguments within takes)) (r, refl),
      stay n,
    )

    gets-alike : (found : Result ℕ Refusal) → ((address : ℕ) → found ≡ Ok address → Has region.globals address) → GetsAt a found reply a' → Answered (GetsAt b found reply)
    gets-alike (Err why) has (r, n) = (b, (r, refl), stay n)
    gets-alike (Ok address) has (machine.got is r n) = (b, machine.got (alike.seems.states.stores.globals address (has address refl) ∙ is) r refl, stay n)
    gets-alike (Ok address) has (machine.no_memory (r, n)) = (b, machine.no_memory (r, refl), stay n)

    sets-alike : (fuel : ℕ) → Applies HostStep a (SetFuel fuel) reply a' → Answered (Applies HostStep b (SetFuel fuel) reply)
    sets-alike fuel (r, n) = (
      with_fuel b fuel,
      (r, refl),
      subst (λ (e : Embedding H). StaysAlike region number e (with_fuel b fuel)) (sym n) (record {
        seems = record {
          instance = alike.seems.instance;
          first = alike.seems.first;
          second = alike.seems.second;
          within = alike.seems.within;
          depth = alike.seems.depth;
          states = record { stores = alike.seems.states.stores; hosts = alike.seems.states.hosts; fuel = refl };
        };
        closed = alike.closed;
        free = alike.free;
      }),
    )

    its-calls : (name : List ℕ) (arguments : List Val) → ValuesAreWithin region arguments → Applies HostStep a (Call number name arguments) reply a'
        → Answered (Applies HostStep b (Call number name arguments) reply)
    its-calls name arguments within applies =
        subst (λ (found : Result Extern Refusal). Answered (CallsAt HostStep b (as_function found) arguments reply)) (sym (export-alike name))
        (calls-alike arguments within (as_function (export_at a number name)) (function-of name) applies)

    its-gets : (name : List ℕ) → Applies HostStep a (GetGlobal number name) reply a' → Answered (Applies HostStep b (GetGlobal number name) reply)
    its-gets name applies = subst (λ (found : Result Extern Refusal). Answered (GetsAt b (as_global found) reply)) (sym (export-alike name))
        (gets-alike (as_global (export_at a number name)) (global-of name) applies)

    said-alike : (command : Command) → AsksWithin region number command → Applies HostStep a command reply a' → Answered (Applies HostStep b command reply)
    said-alike (Load bytes) said applies = absurd said
    said-alike (Link other) said applies = absurd said
    said-alike (Register other name) said applies = absurd said
    said-alike (Call other name arguments) (same, within) applies =
        subst (λ (n : ℕ). Answered (Applies HostStep b (Call n name arguments) reply)) (sym same)
        (its-calls name arguments within (subst (λ (n : ℕ). Applies HostStep a (Call n name arguments) reply a') same applies))
    said-alike (GetGlobal other name) same applies =
        subst (λ (n : ℕ). Answered (Applies HostStep b (GetGlobal n name) reply)) (sym same) (its-gets name (subst (λ (n : ℕ). Applies HostStep a (GetGlobal n name) reply a') same applies))
    said-alike (SetFuel fuel) said applies = sets-alike fuel applies

  pub conversation : (region : Region) (number : ℕ) {a last : Embedding H} {commands : List Command} {replies : List Reply}
      → AppliesAll HostStep a commands replies last → (b : Embedding H) → StaysAlike region number a b
      → All (AsksWithin region number) commands → MayReply HostStep b commands replies
  conversation region number machine.none b alike said = (b, machine.none)
  conversation region number {a} (machine.then_on {between = between} {command = command} {commands = commands} {reply = reply} first rest) b alike said =
      let (b', does, after) = said-alike region number a b between reply alike command (said 0 command (omega arith)) first in
      let (last', others) = conversation region number rest b' after (λ k d inside. said (suc k) d (omega (arith, inside))) in
      (last', machine.then_on does others)
