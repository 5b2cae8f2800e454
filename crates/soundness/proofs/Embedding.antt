-- Commands to a sound embedding go well, and leave it sound.
use Rattle.std.proofs.Common.{◌≡◌, ℕ, ◌<◌, List, [], ◌∷◌, ◌++◌, bytes_eq, length, reverse, Some, refl, ap, sym, subst, arith, slice_get}
use Rattle.std.proofs.lemmas.List.Elements.{All-append}
use Rattle.std.specs.List.{All}
use Rattle.std.specs.Prelude.{Option, None, Result, Ok, Err, find, option_and_then, option_map}
use Rattle.core_types.specs.declared.module.Export.{Export}
use Rattle.core_types.specs.declared.module.ExportDesc.{ExportDesc}
use Rattle.core_types.specs.declared.module.ExportDesc.TheVariants as export
use Rattle.core_types.specs.declared.module.Import.{Import}
use Rattle.core_types.specs.declared.module.Module.{Module}
use Rattle.core_types.specs.declared.outcome.Extern.{Extern}
use Rattle.core_types.specs.declared.outcome.Extern.TheVariants as value
use Rattle.core_types.specs.declared.outcome.Val.{Val}
use Rattle.core_types.specs.declared.types.FuncType.{FuncType}
use Rattle.core_types.specs.declared.types.ValType.{ValType}
use Rattle.meaning.proofs.lemmas.Lists.{map_all-length}
use Rattle.meaning.specs.embedding.Commands.{Command, Load, Link, Register, Call, GetGlobal, SetFuel, Refusal, Reply, Done, Refused}
use Rattle.meaning.specs.embedding.Machine.{Applies, AppliesAll, Calls, CallsAt, Embedding, Gets, GetsAt, Links, LinksAt, Loads, Registers, RegistersAt}
use Rattle.meaning.specs.embedding.Machine.{as_function, as_global, export_at, export_from, export_in, resolve_imports}
use Rattle.meaning.specs.embedding.Machine as machine
use Rattle.meaning.specs.embedding.Names.{NamesContents, export_of, extern_of, resolve_name}
use Rattle.meaning.specs.execution.Configurations.{Invoking, no_frame}
use Rattle.meaning.specs.execution.Hosts.{IsHostStep}
use Rattle.meaning.specs.execution.Modules.{Instantiation, IsAllowed}
use Rattle.meaning.specs.execution.Runs.{Answer, Ending, State, WithValues}
use Rattle.meaning.specs.execution.Storage.{AreBytes}
use Rattle.meaning.specs.execution.Store.{ModuleInstance, Store, instance_of}
use Rattle.meaning.specs.structure.Bodies.{Body, body_of, writing}
use Rattle.soundness.specs.Embedding.{AllGoWell, CommandsGoWell, GoesWell, IsSound, LinksSoundModule, LoadsBytes, RepliesWell, asked_types, function_results, global_value}
use Rattle.soundness.specs.Headline.{AllAreAsSaid, AppliesWell, IsAsSaid, RunsWell}
use Rattle.soundness.specs.Hosts.{AreReady}
use Rattle.soundness.specs.Links.{IsLinkable, IsSoundModule}
use Rattle.soundness.specs.Places.{outermost}
use Rattle.soundness.specs.Runs.{EndsTyped}
use Rattle.soundness.specs.Stores.{Extends, GlobalIsValid, InstanceIsValid, StoreIsValid}
use Rattle.soundness.proofs.Decoded.{All-behind, spelt-sound}
use Rattle.soundness.proofs.Effects.{Extends-same}
use Rattle.soundness.proofs.Extension.{instance-valid}
use Rattle.soundness.proofs.Fuel.{applies-spends}
use Rattle.soundness.proofs.Hosts.{hosts-answer-well, ready-linked, ready-still}
use Rattle.soundness.proofs.Links.{links-never-go-wrong}
use Rattle.soundness.proofs.Objects.{All-first, All-none}
use Rattle.soundness.proofs.Runs.{never-goes-wrong, out}
use Rattle.soundness.proofs.Values.{All-at, values-reversed}

-- ---- exported globals

-- The result of a function for an item that exists.
made-of : {A B : Type 0} (f : A → B) (found : Option A) (y : B) → option_map f found ≡ Some y → (x : A) × (found ≡ Some x) × (f x ≡ y)
made-of f None y is = absurd cc
made-of f (Some x) y is = (x, refl, cc)

module _ (store : Store) (i : ModuleInstance) (valid : InstanceIsValid store i) where
  of-kind : (desc : ExportDesc) (address : ℕ) → extern_of i desc ≡ Some (value.Global address) → address < length store.globals
  of-kind (export.Func x) address is = let (a, there, same) = made-of value.Func (slice_get i.functions x) (value.Global address) is in absurd cc
  of-kind (export.Table x) address is = let (a, there, same) = made-of value.Table (slice_get i.tables x) (value.Global address) is in absurd cc
  of-kind (export.Memory x) address is = let (a, there, same) = made-of value.Memory (slice_get i.memories x) (value.Global address) is in absurd cc
  of-kind (export.Global x) address is =
      let (a, there, same) = made-of value.Global (slice_get i.globals x) (value.Global address) is in
      let one : a ≡ address = cc in
      subst (λ (b : ℕ). b < length store.globals) one (All-at (λ (b : ℕ). b < length store.globals) i.globals x a there valid.globals)

  exported-there : (name : List ℕ) (address : ℕ) → export_of i name ≡ Some (value.Global address) → address < length store.globals
  exported-there name address is = go (find (λ (e : Export). bytes_eq e.name name) i.exports) is
    where
      go : (found : Option Export) → option_and_then (λ (e : Export). extern_of i e.desc) found ≡ Some (value.Global address) → address < length store.globals
      go None same = absurd cc
      go (Some e) same = of-kind e.desc address same

-- An exported global exists.
pub global-there : (store : Store) → StoreIsValid store → (name : List ℕ) (instance : Option ℕ) (address : ℕ)
    → as_global (export_from store name instance) ≡ Ok address → address < length store.globals
global-there store valid name None address is = absurd cc
global-there store valid name (Some instance) address is = go (export_of (instance_of store (Some instance)) name) refl is
  where
    go : (found : Option Extern) → export_of (instance_of store (Some instance)) name ≡ found → as_global (export_in found) ≡ Ok address → address < length store.globals
    go None there same = absurd cc
    go (Some (value.Func a)) there same = absurd cc
    go (Some (value.Table a)) there same = absurd cc
    go (Some (value.Memory a)) there same = absurd cc
    go (Some (value.Global a)) there same =
        let one : a ≡ address = cc in
        subst (λ (b : ℕ). b < length store.globals) one (exported-there store (instance_of store (Some instance)) (instance-valid store valid (Some instance)) name a there)

-- ---- commands

-- A sound module that is allowed can be linked with what the names of its imports stand for.
pub links-linkable : (store : Store) (names : NamesContents) (m : Module) → IsSoundModule m → (given : List Extern)
    → resolve_imports store names m.imports ≡ Some given → IsAllowed store m given → IsLinkable store m given
links-linkable store names m sound given resolved allowed =
    record { sound = sound; within = allowed.within; count = map_all-length (λ (i : Import). resolve_name store names i.module_name i.name) m.imports given resolved; fits = allowed.given }

module _ {H : Type 0} (host_type : H → FuncType) where
  -- The result of a command, if these types were asked for.
  pub record LeavesWell (old : Embedding H) (types : List ValType) (reply : Reply) (new : Embedding H) : Type 0 where
    pub extends : Extends old.state.store new.state.store
    pub replies : RepliesWell new.state.store types reply
    pub sound : IsSound host_type new

  module _ (old new : Embedding H) (sound : IsSound host_type old) (types : List ValType) (reply : Reply) where
    -- A command that leaves the state of runs unchanged.
    still : new.state ≡ old.state → RepliesWell old.state.store types reply → LeavesWell old types reply new
    still same replies =
        let stores : new.state.store ≡ old.state.store = ap (λ (s : State H). s.store) same in
        record {
          extends = subst (λ (s : Store). Extends old.state.store s) (sym stores) (Extends-same old.state.store);
          replies = subst (λ (s : Store). RepliesWell s types reply) (sym stores) replies;
          sound = record {
            valid = subst StoreIsValid (sym stores) sound.valid;
            ready = subst (λ (s : State H). AreReady host_type s.store s.hosts) (sym same) sound.ready;
          };
        }

    refused : {refusal : Refusal} → (reply ≡ Refused refusal) × (new ≡ old) → LeavesWell old types reply new
    refused (reply_is, new_is) =
        still (ap (λ (e : Embedding H). e.state) new_is) (subst (RepliesWell old.state.store types) (sym reply_is) tt)

    loads-well : (bytes : List ℕ) → Loads old bytes reply new → LeavesWell old types reply new
    loads-well bytes (machine.loaded decoded valid reply_is new_is) =
        still (ap (λ (e : Embedding H). e.state) new_is) (subst (RepliesWell old.state.store types) (sym reply_is) tt)
    loads-well bytes (machine.no_module none cause refuses) = refused refuses
    loads-well bytes (machine.not_valid decoded invalid refuses) = refused refuses
    loads-well bytes (machine.no_memory refuses) = refused refuses

    registers-well : (name : List ℕ) (instance : Option ℕ) → RegistersAt old name instance reply new → LeavesWell old types reply new
    registers-well name None refuses = refused refuses
    registers-well name (Some instance) (machine.registered free reply_is new_is) =
        still (ap (λ (e : Embedding H). e.state) new_is) (subst (RepliesWell old.state.store types) (sym reply_is) tt)
    registers-well name (Some instance) (machine.taken has refuses) = refused refuses
    registers-well name (Some instance) (machine.no_memory free refuses) = refused refuses

  module _ (old new : Embedding H) (sound : IsSound host_type old) (reply : Reply) where
    sets-fuel-well : (fuel : ℕ) → (reply ≡ Done) × (new ≡ machine.with_fuel old fuel) → LeavesWell old [] reply new
    sets-fuel-well fuel (reply_is, new_is) =
        let replies : RepliesWell old.state.store [] reply = subst (RepliesWell old.state.store []) (sym reply_is) tt in
        rw new_is (record {
          extends = Extends-same old.state.store;
          replies = replies;
          sound = record { valid = sound.valid; ready = sound.ready };
        })

    gets-well : (found : Result ℕ Refusal) → GetsAt old found reply new → LeavesWell old (global_value old.state.store found) reply new
    gets-well (Err refusal) refuses = refused old new sound [] reply refuses
    gets-well (Ok address) (machine.got {g = g} there reply_is new_is) =
        let typed : GlobalIsValid old.state.store g = All-at (GlobalIsValid old.state.store) old.state.store.globals address g there sound.valid.globals in
        rw there (still old new sound (g.ty.value ∷ []) reply (ap (λ (e : Embedding H). e.state) new_is)
        (subst (RepliesWell old.state.store (g.ty.value ∷ [])) (sym reply_is) (typed, tt)))
    gets-well (Ok address) (machine.no_memory refuses) = refused old new sound _ reply refuses

-- ---- commands with a run

module _ {H : Type 0} (host_type : H → FuncType) (Answers : H → List Val → List ℕ → Answer → List ℕ → H → Type 0) where
  module _ (old new : Embedding H) (sound : IsSound host_type old) (reply : Reply) where
    -- The result of a run.
    leaves : {ending : Ending} {state : State H} (types : List ValType) → EndsTyped (IsHostStep host_type Answers) (AreReady host_type) types old.state ending state
        → new.state ≡ state → RepliesWell state.store types reply → LeavesWell host_type old types reply new
    leaves {state = state} types ended state_is replies =
        let stores : new.state.store ≡ state.store = ap (λ (s : State H). s.store) state_is in
        record {
          extends = subst (λ (s : Store). Extends old.state.store s) (sym stores) ended.extends;
          replies = subst (λ (s : Store). RepliesWell s types reply) (sym stores) replies;
          sound = record {
            valid = subst StoreIsValid (sym stores) ended.valid;
            ready = subst (λ (s : State H). AreReady host_type s.store s.hosts) (sym state_is) ended.there;
          };
        }

    pub calls-well : (arguments : List Val) (found : Result ℕ Refusal) → CallsAt (IsHostStep host_type Answers) old found arguments reply new
        → LeavesWell host_type old (function_results old.state.store found) reply new
    calls-well arguments (Err refusal) refuses = refused host_type old new sound [] reply refuses
    calls-well arguments (Ok address) (machine.bad_arguments none refuses) = refused host_type old new sound _ reply refuses
    calls-well arguments (Ok address) (machine.called {ending = ending} {state = state} (f, there, typed) run reply_is new_is) =
        let ended = never-goes-wrong (IsHostStep host_type Answers) (AreReady host_type) (ready-still host_type) (hosts-answer-well host_type Answers)
        old.setup.depth no_frame outermost old.state state
        (Invoking (reverse arguments) address) f.ty.results ending out sound.valid sound.ready (f, there, values-reversed old.state.store arguments f.ty.params typed, refl) run in
        rw there (leaves f.ty.results ended (ap (λ (e : Embedding H). e.state) new_is) (subst (RepliesWell state.store f.ty.results) (sym reply_is) ended.ends))

    link-ends : ((b : Body) → body_of (writing b) ≡ b) → (m : Module) → IsSoundModule m → (externs : List Extern) (ending : Ending) (state : State H)
        → resolve_imports old.state.store old.names m.imports ≡ Some externs → IsAllowed old.state.store m externs
        → Instantiation (IsHostStep host_type Answers) old.setup.depth m externs old.state ending state
        → EndsTyped (IsHostStep host_type Answers) (AreReady host_type) [] old.state ending state
    link-ends read m sound_module externs ending state resolved allowed run =
        let linkable = links-linkable old.state.store old.names m sound_module externs resolved allowed in
        (links-never-go-wrong read (IsHostStep host_type Answers) (AreReady host_type) (ready-still host_type) (ready-linked host_type)
        (hosts-answer-well host_type Answers) old.setup.depth m externs old.state state
        ending sound.valid sound.ready linkable run).0

    links-well : ((b : Body) → body_of (writing b) ≡ b) → (m : Module) → IsSoundModule m → Links (IsHostStep host_type Answers) old m reply new → LeavesWell host_type old [] reply new
    links-well read m sound_module (machine.linked {externs = externs} {state = state} resolved allowed run reply_is new_is) =
        let ended = link-ends read m sound_module externs (WithValues []) state resolved allowed run in
        leaves [] ended (ap (λ (e : Embedding H). e.state) new_is) (subst (RepliesWell state.store []) (sym reply_is) tt)
    links-well read m sound_module (machine.ended {externs = externs} {ending = ending} {state = state} resolved allowed run none reply_is new_is) =
        let ended = link-ends read m sound_module externs ending state resolved allowed run in
        leaves [] ended (ap (λ (e : Embedding H). e.state) new_is) (subst (RepliesWell state.store []) (sym reply_is) ended.ends)
    links-well read m sound_module (machine.unknown none refuses) = refused host_type old new sound [] reply refuses
    links-well read m sound_module (machine.incompatible resolved differs refuses) = refused host_type old new sound [] reply refuses
    links-well read m sound_module (machine.too_large resolved given passes refuses) = refused host_type old new sound [] reply refuses
    links-well read m sound_module (machine.no_memory refuses) = refused host_type old new sound [] reply refuses

    links-at-well : ((b : Body) → body_of (writing b) ≡ b) → (found : Option Module) → ((m : Module) → found ≡ Some m → IsSoundModule m)
        → LinksAt (IsHostStep host_type Answers) old found reply new → LeavesWell host_type old [] reply new
    links-at-well read None linkable refuses = refused host_type old new sound [] reply refuses
    links-at-well read (Some m) linkable links = links-well read m (linkable m refl) links

    applies-well : ((b : Body) → body_of (writing b) ≡ b) → (command : Command) → LinksSoundModule old command → Applies (IsHostStep host_type Answers) old command reply new
        → LeavesWell host_type old (asked_types old command) reply new
    applies-well read (Load bytes) linkable applies = loads-well host_type old new sound [] reply bytes applies
    applies-well read (Link number) linkable applies = links-at-well read (slice_get old.modules number) linkable applies
    applies-well read (Register number name) linkable applies = registers-well host_type old new sound [] reply name (slice_get old.instances number) applies
    applies-well read (Call number name arguments) linkable applies = calls-well arguments (as_function (export_at old number name)) applies
    applies-well read (GetGlobal number name) linkable applies = gets-well host_type old new sound reply (as_global (export_at old number name)) applies
    applies-well read (SetFuel fuel) linkable applies = sets-fuel-well host_type old new sound reply fuel applies

    -- A command goes well, if the module that it links can be linked, and leaves a sound embedding.
    pub goes-well : ((b : Body) → body_of (writing b) ≡ b) → (command : Command) → LinksSoundModule old command → Applies (IsHostStep host_type Answers) old command reply new
        → GoesWell old command reply new × IsSound host_type new
    goes-well read command linkable applies =
        let left = applies-well read command linkable applies in
        (record { valid = left.sound.valid; extends = left.extends; replies = left.replies; spends = applies-spends (IsHostStep host_type Answers) old new reply command applies }, left.sound)

-- The module that is linked is one of those of the embedding.
pub one-of : {H : Type 0} (at : Embedding H) (command : Command) → All IsSoundModule at.modules → LinksSoundModule at command
one-of at (Load bytes) all = tt
one-of at (Link number) all = λ m there. All-at IsSoundModule at.modules number m there all
one-of at (Register number name) all = tt
one-of at (Call number name arguments) all = tt
one-of at (GetGlobal number name) all = tt
one-of at (SetFuel fuel) all = tt

-- ---- consecutive commands

module _ {H : Type 0} (HostStep : List H → ℕ → Option ℕ → List Val → Store → Answer → Store → List H → Type 0) where
  pub none-well : (at : Embedding H) → RunsWell HostStep at [] [] at
  none-well at = (machine.none, tt, tt)

  -- A command before others.
  pub one-before-well : {old between last : Embedding H} {command : Command} {reply : Reply} {commands : List Command} {replies : List Reply} → AppliesWell HostStep old command reply between
      → RunsWell HostStep between commands replies last → RunsWell HostStep old (command ∷ commands) (reply ∷ replies) last
  one-before-well (step, well, said) (run, others, others_said) = (machine.then_on step run, (well, others), (said, others_said))

  -- A command after others.
  module _ {between : Embedding H} (last : Embedding H) (command : Command) (reply : Reply) (step : Applies HostStep between command reply last) where
    one-more : {old : Embedding H} {commands : List Command} {replies : List Reply} → AppliesAll HostStep old commands replies between
        → AppliesAll HostStep old (commands ++ command ∷ []) (replies ++ reply ∷ []) last
    one-more machine.none = machine.then_on step machine.none
    one-more (machine.then_on first rest) = machine.then_on first (one-more rest)

    all-well : {old : Embedding H} {commands : List Command} {replies : List Reply} (run : AppliesAll HostStep old commands replies between)
        → GoesWell between command reply last → AllGoWell HostStep run
        → AllGoWell HostStep (one-more run)
    unfolding one-more
    all-well machine.none well before = (well, tt)
    all-well (machine.then_on first rest) well before = (before.0, all-well rest well before.1)

    all-said : {old : Embedding H} {commands : List Command} {replies : List Reply} (run : AppliesAll HostStep old commands replies between)
        → IsAsSaid HostStep between command reply last → AllAreAsSaid HostStep run
        → AllAreAsSaid HostStep (one-more run)
    unfolding one-more
    all-said machine.none said before = (said, tt)
    all-said (machine.then_on first rest) said before = (before.0, all-said rest said before.1)

  pub one-more-well : {old between last : Embedding H} {command : Command} {reply : Reply} {commands : List Command} {replies : List Reply} → RunsWell HostStep old commands replies between
      → AppliesWell HostStep between command reply last → RunsWell HostStep old (commands ++ command ∷ []) (replies ++ reply ∷ []) last
  one-more-well {last = last} {command = command} {reply = reply} (run, before, said_before) (step, well, said) =
      (one-more last command reply step run, all-well last command reply step run well before, all-said last command reply step run said said_before)

-- ---- runs of commands

module _ {H : Type 0} (HostStep : List H → ℕ → Option ℕ → List Val → Store → Answer → Store → List H → Type 0) where
  as-before : (old new : Embedding H) → new.modules ≡ old.modules → All IsSoundModule old.modules → All IsSoundModule new.modules
  as-before old new same all = subst (All IsSoundModule) (sym same) all

  refused-after : (old new : Embedding H) {refusal : Refusal} {reply : Reply} → (reply ≡ Refused refusal) × (new ≡ old) → All IsSoundModule old.modules → All IsSoundModule new.modules
  refused-after old new (reply_is, new_is) = as-before old new (ap (λ (e : Embedding H). e.modules) new_is)

  -- The modules can be linked after a command if they could before.
  loads-after : (old new : Embedding H) (bytes : List ℕ) (reply : Reply) → AreBytes bytes → Loads old bytes reply new → All IsSoundModule old.modules → All IsSoundModule new.modules
  loads-after old new bytes reply are (machine.loaded {m = m} decoded valid reply_is new_is) =
      λ all. subst (All IsSoundModule) (sym (ap (λ (e : Embedding H). e.modules) new_is))
      (All-append IsSoundModule old.modules (m ∷ []) all (All-first IsSoundModule m [] (spelt-sound bytes m are decoded valid) (All-none IsSoundModule)))
  loads-after old new bytes reply are (machine.no_module none cause refuses) = refused-after old new refuses
  loads-after old new bytes reply are (machine.not_valid decoded invalid refuses) = refused-after old new refuses
  loads-after old new bytes reply are (machine.no_memory refuses) = refused-after old new refuses

  links-after : (old new : Embedding H) (found : Option Module) (reply : Reply) → LinksAt HostStep old found reply new → All IsSoundModule old.modules → All IsSoundModule new.modules
  links-after old new None reply refuses = refused-after old new refuses
  links-after old new (Some m) reply (machine.linked resolved allowed run reply_is new_is) = as-before old new (ap (λ (e : Embedding H). e.modules) new_is)
  links-after old new (Some m) reply (machine.ended resolved allowed run none reply_is new_is) = as-before old new (ap (λ (e : Embedding H). e.modules) new_is)
  links-after old new (Some m) reply (machine.unknown none refuses) = refused-after old new refuses
  links-after old new (Some m) reply (machine.incompatible resolved differs refuses) = refused-after old new refuses
  links-after old new (Some m) reply (machine.too_large resolved given passes refuses) = refused-after old new refuses
  links-after old new (Some m) reply (machine.no_memory refuses) = refused-after old new refuses

  registers-after : (old new : Embedding H) (name : List ℕ) (instance : Option ℕ) (reply : Reply) → RegistersAt old name instance reply new
      → All IsSoundModule old.modules → All IsSoundModule new.modules
  registers-after old new name None reply refuses = refused-after old new refuses
  registers-after old new name (Some instance) reply (machine.registered free reply_is new_is) = as-before old new (ap (λ (e : Embedding H). e.modules) new_is)
  registers-after old new name (Some instance) reply (machine.taken has refuses) = refused-after old new refuses
  registers-after old new name (Some instance) reply (machine.no_memory free refuses) = refused-after old new refuses

  calls-after : (old new : Embedding H) (found : Result ℕ Refusal) (arguments : List Val) (reply : Reply)
      → CallsAt HostStep old found arguments reply new → All IsSoundModule old.modules → All IsSoundModule new.modules
  calls-after old new (Err refusal) arguments reply refuses = refused-after old new refuses
  calls-after old new (Ok address) arguments reply (machine.called takes run reply_is new_is) = as-before old new (ap (λ (e : Embedding H). e.modules) new_is)
  calls-after old new (Ok address) arguments reply (machine.bad_arguments none refuses) = refused-after old new refuses

  gets-after : (old new : Embedding H) (found : Result ℕ Refusal) (reply : Reply) → GetsAt old found reply new → All IsSoundModule old.modules → All IsSoundModule new.modules
  gets-after old new (Err refusal) reply refuses = refused-after old new refuses
  gets-after old new (Ok address) reply (machine.got there reply_is new_is) = as-before old new (ap (λ (e : Embedding H). e.modules) new_is)
  gets-after old new (Ok address) reply (machine.no_memory refuses) = refused-after old new refuses

  pub modules-after : (old new : Embedding H) (command : Command) (reply : Reply) → LoadsBytes command → Applies HostStep old command reply new
      → All IsSoundModule old.modules → All IsSoundModule new.modules
  modules-after old new (Load bytes) reply are applies = loads-after old new bytes reply are applies
  modules-after old new (Link number) reply are applies = links-after old new (slice_get old.modules number) reply applies
  modules-after old new (Register number name) reply are applies = registers-after old new name (slice_get old.instances number) reply applies
  modules-after old new (Call number name arguments) reply are applies = calls-after old new (as_function (export_at old number name)) arguments reply applies
  modules-after old new (GetGlobal number name) reply are applies = gets-after old new (as_global (export_at old number name)) reply applies
  modules-after old new (SetFuel fuel) reply are applies = as-before old new (ap (λ (e : Embedding H). e.modules) applies.1)

pub commands-go-well : ((b : Body) → body_of (writing b) ≡ b)
    → {H : Type 0} (host_type : H → FuncType) (Answers : H → List Val → List ℕ → Answer → List ℕ → H → Type 0) → CommandsGoWell host_type Answers
commands-go-well read host_type Answers old last commands replies machine.none sound linkable bytes = (tt, sound)
commands-go-well read host_type Answers old last (command ∷ commands) (reply ∷ replies) (machine.then_on {between = between} first rest) sound linkable bytes =
    let (well, then) = goes-well host_type Answers old between sound reply read command (one-of old command linkable) first in
    let now = modules-after (IsHostStep host_type Answers) old between command reply (bytes 0 command (omega (arith))) first linkable in
    let (others, sound_then) = commands-go-well read host_type Answers between last commands replies rest then now (All-behind LoadsBytes (command ∷ []) commands bytes) in
    ((well, others), sound_then)
