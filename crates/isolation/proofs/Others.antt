-- Commands to other instances change no replies.
use Rattle.std.proofs.Common.{◌≡◌, ℕ, ◌<◌, List, ◌∷◌, length, Option, Some, refl, ap, sym, subst, arith, slice_get, inl, inr, ◌^◌}
use Rattle.std.specs.List.{All}
use Rattle.std.specs.Prelude.{Ok}
use Rattle.core_types.specs.declared.outcome.Val.{Val}
use Rattle.core_types.specs.declared.types.FuncType.{FuncType}
use Rattle.meaning.specs.embedding.Commands.{Command, Load, Link, Register, Call, GetGlobal, SetFuel, Reply}
use Rattle.meaning.specs.embedding.Creation.{Creates, HostDefinition}
use Rattle.meaning.specs.embedding.Machine.{Applies, AppliesAll, CallsAt, Embedding, GetsAt, LinksAt, Loads, Refuses, RegistersAt, as_function, as_global}
use Rattle.meaning.specs.embedding.Machine.{export_at, export_from, export_in, resolve_imports, with_fuel}
use Rattle.meaning.specs.embedding.Machine as machine
use Rattle.meaning.specs.execution.Hosts.{IsHostStep}
use Rattle.meaning.specs.execution.Runs.{Answer}
use Rattle.meaning.specs.execution.Store.{Store}
use Rattle.meaning.specs.structure.Bodies.{Body, body_of, writing}
use Rattle.soundness.proofs.Creation.{fresh-sound}
use Rattle.soundness.proofs.Embedding.{commands-go-well}
use Rattle.soundness.proofs.Objects.{All-none}
use Rattle.soundness.specs.Embedding.{LoadsBytes}
use Rattle.soundness.specs.Links.{IsSoundModule}
use Rattle.soundness.specs.Stores.{StoreIsValid}
use Rattle.isolation.specs.Commands.{LeavesHosts, ChangesNoMore}
use Rattle.isolation.specs.Commands.{IsOthersCommand, AsksWithin, MayReply, OthersChangeNoAnswers, OutOfReachChangesNoAnswers}
use Rattle.isolation.specs.Regions.{AreApart, IsThere, AgreeWithin}
use Rattle.isolation.specs.Regions.{KeepsCode, LeavesOutside, IsSameWithin, Region}
use Rattle.isolation.specs.Regions.{with_new, marked}
use Rattle.isolation.proofs.Changes.{command-change}
use Rattle.isolation.proofs.Changes.{numbers-before, numbers-kept, setup-kept}
use Rattle.isolation.specs.Reach.{AreMentioned, IsPlaceIn, AsksFrom, Place, StartsFrom, reach_when_asked, reach_of, start}
use Rattle.isolation.proofs.Reach.{all-said-within, reach-closed, reach-there, reaches-no-further}
use Rattle.isolation.proofs.Runs.{looks-like-itself}
use Rattle.isolation.proofs.Commands.{NoFuncrefs, StaysAlike, alike-back, command-free, command-leaves, command-reaches, conversation, fresh-free, list-free, not-from}

module _ {H : Type 0} (host_type : H → FuncType) (Answers : H → List Val → List ℕ → Answer → List ℕ → H → Type 0) where
  abbrev HostStep : List H → ℕ → Option ℕ → List Val → Store → Answer → Store → List H → Type 0
  HostStep = IsHostStep host_type Answers

  -- ---- what they keep

  module _ (region theirs : Region) (old new : Store) (there : IsThere region old) (apart : AreApart region theirs) (code : KeepsCode old new) where
    kept-of-region : LeavesOutside theirs old new → AgreeWithin region old new
    kept-of-region outside = record {
      functions = λ k has. code.functions k (there.functions k has);
      instances = λ k has. code.instances k (there.instances k has);
      tables = λ k has. outside.tables k (apart.tables k has);
      memories = λ k has. outside.memories k (apart.memories k has);
      globals = λ k has. outside.globals k (apart.globals k has);
      elements = λ k has. outside.elements k (apart.elements k has);
      datas = λ k has. outside.datas k (apart.datas k has);
      pages = outside.pages;
      entries = outside.entries;
    }

    kept-of-link : LeavesOutside (with_new theirs old) old new → AgreeWithin region old new
    kept-of-link outside = record {
      functions = λ k has. code.functions k (there.functions k has);
      instances = λ k has. code.instances k (there.instances k has);
      tables = λ k has. outside.tables k (not-from theirs.tables (length old.tables) k (apart.tables k has) (there.tables k has));
      memories = λ k has. outside.memories k (not-from theirs.memories (length old.memories) k (apart.memories k has) (there.memories k has));
      globals = λ k has. outside.globals k (not-from theirs.globals (length old.globals) k (apart.globals k has) (there.globals k has));
      elements = λ k has. outside.elements k (not-from theirs.elements (length old.elements) k (apart.elements k has) (there.elements k has));
      datas = λ k has. outside.datas k (not-from theirs.datas (length old.datas) k (apart.datas k has) (there.datas k has));
      pages = outside.pages;
      entries = outside.entries;
    }

  module _ (region theirs : Region) (old new : Embedding H) (number : ℕ) (reply : Reply) where
    kept-same : new.state.store ≡ old.state.store → AgreeWithin region old.state.store new.state.store
    kept-same same = subst (AgreeWithin region old.state.store) (sym same) (looks-like-itself region old.state).stores

    pub kept-by : (command : Command) → IsThere region old.state.store → AreApart region theirs → ChangesNoMore theirs old command reply new → AgreeWithin region old.state.store new.state.store
    kept-by (Load bytes) there apart (same, hosts) = kept-same same
    kept-by (Link other) there apart (outside, code, closed, hosts) = kept-of-link region theirs old.state.store new.state.store there apart code outside
    kept-by (Register other name) there apart (same, hosts) = kept-same same
    kept-by (Call other name arguments) there apart (outside, code, closed, within, hosts) = kept-of-region region theirs old.state.store new.state.store there apart code outside
    kept-by (GetGlobal other name) there apart (same, hosts) = kept-same same
    kept-by (SetFuel fuel) there apart (same, hosts) = kept-same same

    hosts-kept-by : (command : Command) → LeavesHosts region theirs old new → ChangesNoMore theirs old command reply new → IsSameWithin region region.hosts old.state.hosts new.state.hosts
    hosts-kept-by (Load bytes) apart (same, hosts) = λ n has. ap (λ (hs : List H). slice_get hs n) hosts
    hosts-kept-by (Link other) apart (outside, code, closed, hosts) = λ n has. elim (apart n has) [ inl not ↦ hosts n not | inr same ↦ same ]
    hosts-kept-by (Register other name) apart (same, hosts) = λ n has. ap (λ (hs : List H). slice_get hs n) hosts
    hosts-kept-by (Call other name arguments) apart (outside, code, closed, within, hosts) = λ n has. elim (apart n has) [ inl not ↦ hosts n not | inr same ↦ same ]
    hosts-kept-by (GetGlobal other name) apart (same, hosts) = λ n has. ap (λ (hs : List H). slice_get hs n) hosts
    hosts-kept-by (SetFuel fuel) apart (same, hosts) = λ n has. ap (λ (hs : List H). slice_get hs n) hosts

    seem-alike : (command : Command) (fuel : ℕ) → NoFuncrefs host_type Answers old → IsOthersCommand host_type Answers region theirs old number command reply new
        → StaysAlike host_type Answers region number (with_fuel old fuel) (with_fuel new fuel)
    seem-alike command fuel free others =
        let changes = command-reaches host_type Answers theirs old new reply free others.their_closed command others.reach others.applies in
        let change = command-change HostStep old new reply command others.applies in
        let (instance, is, has) = others.instance in
        record {
          seems = record {
            instance = instance;
            first = is;
            second = numbers-kept HostStep change number instance is;
            within = has;
            depth = ap (λ (s : machine.Setup). s.depth) (setup-kept HostStep change);
            states = record { stores = kept-by command others.there others.apart changes; hosts = hosts-kept-by command others.hosts changes; fuel = refl };
          };
          closed = others.closed;
          free = free;
        }

  fuelled : (region : Region) (number fuel : ℕ) (a b : Embedding H) (commands : List Command) (replies : List Reply)
      → StaysAlike host_type Answers region number (with_fuel a fuel) (with_fuel b fuel) → All (AsksWithin region number) commands
      → MayReply HostStep a (SetFuel fuel ∷ commands) replies → MayReply HostStep b (SetFuel fuel ∷ commands) replies
  fuelled region number fuel a b commands replies alike said (last, run) = go run
    where
      go : {replies : List Reply} → AppliesAll HostStep a (SetFuel fuel ∷ commands) replies last → MayReply HostStep b (SetFuel fuel ∷ commands) replies
      go (machine.then_on {between = between} {replies = others} first rest) =
          let (last', answers) = conversation host_type Answers region number (subst (λ (e : Embedding H). AppliesAll HostStep e commands others last) first.1 rest) (with_fuel b fuel) alike said in
          (last', machine.then_on (first.0, refl) answers)

  pub others-change-nothing : OthersChangeNoAnswers host_type Answers
  others-change-nothing setup definitions fresh old new before commands replied replies mine theirs number fuel command reply created run others said =
      let free = list-free host_type Answers (fresh-free host_type Answers setup definitions fresh created) run in
      let alike = seem-alike (marked mine) (marked theirs) old new number reply command fuel free others in (
        fuelled (marked mine) number fuel old new commands replies alike said,
        fuelled (marked mine) number fuel new old commands replies
            (alike-back host_type Answers (marked mine) number (with_fuel old fuel) (with_fuel new fuel) (command-free host_type Answers old new reply free command others.applies) alike) said,
      )

  -- ---- the addresses of numbered instances

  abbrev pub NumbersAreThere : Embedding H → Type 0
  NumbersAreThere at = (number instance : ℕ) → slice_get at.instances number ≡ Some instance → instance < length at.state.store.instances

  pub command-there : (old new : Embedding H) (reply : Reply) → NoFuncrefs host_type Answers old → NumbersAreThere old
      → (command : Command) → Applies HostStep old command reply new → NumbersAreThere new
  command-there old new reply free there command applies number instance is =
      let change = command-change HostStep old new reply command applies in
      let leaves = command-leaves host_type Answers old new reply free change in
      elim (numbers-before HostStep change number instance is) [
        | inl before ↦ let inside = there number instance before in let more = leaves.no_fewer in omega (arith, inside, more)
        | inr made ↦ let is_last = made.1 in let more = leaves.one_more number made.0 in omega (arith, is_last, more)
      ]

  pub list-there : {old last : Embedding H} {commands : List Command} {replies : List Reply} → NoFuncrefs host_type Answers old → NumbersAreThere old
      → AppliesAll HostStep old commands replies last → NumbersAreThere last
  list-there free there machine.none = there
  list-there {old} free there (machine.then_on {between = between} {command = command} {reply = reply} first rest) =
      list-there (command-free host_type Answers old between reply free command first) (command-there old between reply free there command first) rest

  pub fresh-there : (setup : machine.Setup) (definitions : List (HostDefinition H)) (fresh : Embedding H) → Creates host_type setup definitions (Ok fresh) → NumbersAreThere fresh
  fresh-there setup definitions fresh (faultless, is) = subst NumbersAreThere (sym is) (λ number instance found. absurd cc)

  module _ (read : (b : Body) → body_of (writing b) ≡ b) where
    pub valid-then : (setup : machine.Setup) (definitions : List (HostDefinition H)) (fresh old : Embedding H) (before : List Command)
        (replied : List Reply) → length definitions < 2 ^ 32 → Creates host_type setup definitions (Ok fresh)
        → All LoadsBytes before → AppliesAll HostStep fresh before replied old → StoreIsValid old.state.store
    valid-then setup definitions fresh old before replied few created bytes run =
        (commands-go-well read host_type Answers fresh old before replied run (fresh-sound host_type setup definitions fresh few created)
        (subst (All IsSoundModule) (sym (ap (λ (e : Embedding H). e.modules) created.1)) (All-none IsSoundModule)) bytes).1.valid

    pub out-of-reach-changes-nothing : OutOfReachChangesNoAnswers host_type Answers
    out-of-reach-changes-nothing setup definitions fresh old new before commands replied replies number fuel command reply few created bytes run out to =
        let free = list-free host_type Answers (fresh-free host_type Answers setup definitions fresh created) run in
        let numbers = list-there (fresh-free host_type Answers setup definitions fresh created) (fresh-there setup definitions fresh created) run in
        let said = all-said-within old number commands to in
        let others : IsOthersCommand host_type Answers (reach_when_asked old number commands) (reach_of old command) old number command reply new = record {
          closed = reach-closed old.state.store (AsksFrom old number commands);
          there = reach-there old.state.store (valid-then setup definitions fresh old before replied few created bytes run) (AsksFrom old number commands) (from numbers out.arguments);
          instance = (out.instance, out.is, start (inl (out.instance, refl, out.is)));
          their_closed = reach-closed old.state.store (StartsFrom old command);
          apart = out.apart;
          reach = reaches-no-further old command;
          applies = out.applies;
          hosts = out.hosts;
        } in
        let alike = seem-alike (reach_when_asked old number commands) (reach_of old command) old new number reply command fuel free others in (
          fuelled (reach_when_asked old number commands) number fuel old new commands replies alike said,
          fuelled (reach_when_asked old number commands) number fuel new old commands replies
              (alike-back host_type Answers (reach_when_asked old number commands) number (with_fuel old fuel) (with_fuel new fuel)
              (command-free host_type Answers old new reply free command out.applies) alike) said,
        )
      where
        from : NumbersAreThere old → ((place : Place) → AreMentioned commands place → IsPlaceIn old.state.store place) → (place : Place)
            → AsksFrom old number commands place → IsPlaceIn old.state.store place
        from numbers mentioned place (inl (instance, is, found)) = subst (IsPlaceIn old.state.store) (sym is) (numbers number instance found)
        from numbers mentioned place (inr says) = mentioned place says
