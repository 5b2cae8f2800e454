-- Instances that share nothing stay apart.
use Rattle.std.proofs.Common.{◌≡◌, ℕ, zero, suc, ◌+◌, ◌<◌, ◌^◌, ◌⊎◌, inl, inr, List, [], ◌∷◌, length, Option, Some, None, refl, ap, sym, subst, ◌∙◌, arith, slice_get, option_map}
use Rattle.std.proofs.lemmas.Bool.{cases_eq}
use Rattle.std.proofs.lemmas.Option.{slice_get_within}
use Rattle.std.specs.List.{All}
use Rattle.std.specs.Prelude.{Bool, true, false, Ok, if◌then◌else◌, bytes_eq, unwrap_or}
use Rattle.std.specs.Option.{option_or}
use Rattle.core_types.specs.declared.module.Import.{Import}
use Rattle.core_types.specs.declared.outcome.Extern.{Extern}
use Rattle.core_types.specs.declared.outcome.Extern.TheVariants as value
use Rattle.core_types.specs.declared.outcome.Val.{Val}
use Rattle.core_types.specs.declared.outcome.Val.TheVariants.{FuncRef}
use Rattle.core_types.specs.declared.types.FuncType.{FuncType}
use Rattle.meaning.specs.embedding.Commands.{Command, Load, Link, Register, Call, GetGlobal, SetFuel, Reply, Loaded, Linked, Done, Ended, Refused}
use Rattle.meaning.specs.embedding.Creation.{Creates, HostDefinition, host_functions, with_definitions}
use Rattle.meaning.specs.embedding.Machine.{Applies, AppliesAll, Embedding, Setup, none, resolve_imports, then_on}
use Rattle.meaning.specs.embedding.Names.{NamesContents, host_of, hosts_of, no_names, put_under, registered_export, resolve_name, under, with_host}
use Rattle.meaning.specs.execution.Hosts.{IsHostStep}
use Rattle.meaning.specs.execution.Modules.{cons}
use Rattle.meaning.specs.execution.Runs.{Answer}
use Rattle.meaning.specs.execution.Store.{FunctionInstance, InHost, Store}
use Rattle.meaning.specs.structure.Bodies.{Body, body_of, writing}
use Rattle.soundness.proofs.Creation.{fresh-sound}
use Rattle.soundness.proofs.Embedding.{commands-go-well}
use Rattle.soundness.proofs.Objects.{All-first, All-none}
use Rattle.soundness.proofs.Values.{All-at}
use Rattle.soundness.specs.Embedding.{AllGoWell, LoadsBytes}
use Rattle.soundness.specs.Links.{IsSoundModule}
use Rattle.soundness.specs.Stores.{StoreIsValid}
use Rattle.isolation.specs.Apart.{AllLeaveOneAlone, AllShareNothing, DoesNotCall, GivesNothing, IsOfHost, LeavesAlone, LinksAreApart}
use Rattle.isolation.specs.Apart.{OnlyRegisteredOnesAreShared, RefersToNone, SharesNothing, StrangersAreApart, StrangersChangeNoAnswers}
use Rattle.isolation.specs.Commands.{ChangesNoMore, ReachesNoFurther}
use Rattle.isolation.specs.Reach.{AreMentioned, Host, Instance, IsGivenAt, IsImportOf, IsIn, IsInstanceOf, IsPlaceIn}
use Rattle.isolation.specs.Reach.{IsReached, AsksFrom, Mentions, Place, StartsFrom, reach_from, reach_when_asked, reach_of}
use Rattle.isolation.specs.Reach.{start}
use Rattle.isolation.specs.Regions.{AreApart, IsClosed, IsThere, KeepsCode, Region}
use Rattle.isolation.proofs.Bounds.{behind}
use Rattle.isolation.proofs.Changes.{Change, IsNoLink, call_run, command-change, fuel_set, link_failed, link_made, links-alone, modules_loaded, name_registered, nothing_done, numbers-before}
use Rattle.isolation.proofs.Commands.{NoFuncrefs, closed-too, command-free, command-leaves, command-reaches, fresh-free, list-free, some-there}
use Rattle.isolation.proofs.Others.{NumbersAreThere, command-there, fresh-there, kept-by, list-there, out-of-reach-changes-nothing, valid-then}
use Rattle.isolation.proofs.Larger.{IsPartOf, both, closed-both, externs-larger, second-part, values-larger}
use Rattle.isolation.proofs.Reach.{least, reach-closed, reach-there, reaches-no-further}
use Rattle.isolation.proofs.Reached.{IsHostPlace, apart-both, apart-from-hosts, apart-from-nothing, apart-grown, apart-less, apart-other, grown, instance-grown, part-of-reach, reached-in}

-- ---- commands

module _ {H : Type 0} (host_type : H → FuncType) (Answers : H → List Val → List ℕ → Answer → List ℕ → H → Type 0) where
  abbrev HostStep : List H → ℕ → Option ℕ → List Val → Store → Answer → Store → List H → Type 0
  HostStep = IsHostStep host_type Answers

  further : (region larger : Region) → IsPartOf region larger → (at : Embedding H) (command : Command) → ReachesNoFurther region at command → ReachesNoFurther larger at command
  further region larger part at (Load bytes) reaches = tt
  further region larger part at (Link number) reaches = λ m given is named. externs-larger region larger part given (reaches m given is named)
  further region larger part at (Register number name) reaches = tt
  further region larger part at (Call number name arguments) reaches = (λ instance is. part.instances instance (reaches.0 instance is), values-larger region larger part arguments reaches.1)
  further region larger part at (GetGlobal number name) reaches = tt
  further region larger part at (SetFuel fuel) reaches = tt

  -- ---- what a command that shares nothing reaches

  module _ (at : Embedding H) (all : (one other : ℕ) → (one ≡ other → ⊥) → AreApart (reach_from at one) (reach_from at other)) where
    -- It is apart from each instance that the command does not call.
    reach-apart : (command : Command) (number : ℕ) → SharesNothing at command → DoesNotCall number command → AreApart (reach_from at number) (reach_of at command)
    reach-apart (Load bytes) number shares calls = apart-from-nothing at.state.store (reach_from at number) (StartsFrom at (Load bytes)) (λ place starts. starts)
    reach-apart (Link k) number shares calls = apart-from-hosts at.state.store (reach_from at number) (StartsFrom at (Link k)) imports
      where
        given-host : (e : Extern) (place : Place) → IsOfHost at.state.store e → IsGivenAt e place → IsHostPlace at.state.store place
        given-host (value.Func a) place of_host given = subst (IsHostPlace at.state.store) (sym given) of_host
        given-host (value.Table a) place of_host given = absurd of_host
        given-host (value.Memory a) place of_host given = absurd of_host
        given-host (value.Global a) place of_host given = absurd of_host

        imports : (place : Place) → IsImportOf at k place → IsHostPlace at.state.store place
        imports place (m, given, e, there, named, (j, among), is) = given-host e place (All-at (IsOfHost at.state.store) given j e among (shares m given there named)) is
    reach-apart (Register k name) number shares calls = apart-from-nothing at.state.store (reach_from at number) (StartsFrom at (Register k name)) (λ place starts. starts)
    reach-apart (Call k name arguments) number shares calls =
        apart-less (reach_from at number) (reach_from at k) (reach_from at number) (reach_of at (Call k name arguments)) (all number k (λ same. calls (sym same))) (λ place has. has)
        (part-of-reach at.state.store (StartsFrom at (Call k name arguments)) (IsInstanceOf at k) from-instance)
      where
        from-instance : (place : Place) → StartsFrom at (Call k name arguments) place → IsReached at.state.store (IsInstanceOf at k) place
        from-instance place (inl starts) = start starts
        from-instance place (inr (address, is, (j, among))) = absurd (All-at RefersToNone arguments j (FuncRef (Some address)) among shares)
    reach-apart (GetGlobal k name) number shares calls = apart-from-nothing at.state.store (reach_from at number) (StartsFrom at (GetGlobal k name)) (λ place starts. starts)
    reach-apart (SetFuel fuel) number shares calls = apart-from-nothing at.state.store (reach_from at number) (StartsFrom at (SetFuel fuel)) (λ place starts. starts)

  -- A command is a call, or it calls no instance.
  calls-which : (one other : ℕ) (command : Command) → (DoesNotCall one command × DoesNotCall other command) ⊎ ((k : ℕ) × (name : List ℕ) × (arguments : List Val) × (command ≡ Call k name arguments))
  calls-which one other (Load bytes) = inl (tt, tt)
  calls-which one other (Link k) = inl (tt, tt)
  calls-which one other (Register k name) = inl (tt, tt)
  calls-which one other (Call k name arguments) = inr (k, name, arguments, refl)
  calls-which one other (GetGlobal k name) = inl (tt, tt)
  calls-which one other (SetFuel fuel) = inl (tt, tt)

  -- ---- one command

  module _ (old new : Embedding H) (command : Command) (reply : Reply) (applies : Applies HostStep old command reply new)
      (free : NoFuncrefs host_type Answers old) (numbers : NumbersAreThere host_type Answers old)
      (valid : StoreIsValid old.state.store) where
    closed-grown : (region : Region) → IsClosed region old.state.store → (c : Command) → ChangesNoMore region old c reply new → IsClosed (grown region old.state.store c) new.state.store
    closed-grown region closed (Load bytes) (same, hosts) = subst (IsClosed region) (sym same) closed
    closed-grown region closed (Link number) (outside, code, closed_then, hosts) = closed_then
    closed-grown region closed (Register number name) (same, hosts) = subst (IsClosed region) (sym same) closed
    closed-grown region closed (Call number name arguments) (outside, code, closed_then, within, hosts) = closed_then
    closed-grown region closed (GetGlobal number name) (same, hosts) = subst (IsClosed region) (sym same) closed
    closed-grown region closed (SetFuel fuel) (same, hosts) = subst (IsClosed region) (sym same) closed

    change : Change HostStep old command reply new
    change = command-change HostStep old new reply command applies

    module _ (one other : ℕ) (alone : LeavesAlone old one command reply) (apart : AreApart (reach_from old one) (reach_from old other)) where
      abbrev store : Store
      store = old.state.store

      abbrev mine : Region
      mine = reach_from old one

      abbrev theirs : Region
      theirs = both (reach_from old other) (reach_of old command)

      there : IsThere mine store
      there = reach-there store valid (IsInstanceOf old one) (λ place from. subst (IsPlaceIn store) (sym from.1) (numbers one from.0 from.2))

      closed-theirs : IsClosed theirs store
      closed-theirs = closed-both (reach_from old other) (reach_of old command) store (reach-closed store (IsInstanceOf old other)) (reach-closed store (StartsFrom old command))

      apart-theirs : AreApart mine theirs
      apart-theirs = apart-both mine (reach_from old other) (reach_of old command) apart alone.apart

      changes : ChangesNoMore theirs old command reply new
      changes = command-reaches host_type Answers theirs old new reply free closed-theirs command
          (further (reach_of old command) theirs (second-part (reach_from old other) (reach_of old command)) old command (reaches-no-further old command)) applies

      closed-mine : IsClosed mine new.state.store
      closed-mine = closed-too host_type Answers mine store new.state.store
          (kept-by host_type Answers mine theirs old new one reply command there apart-theirs changes) (reach-closed store (IsInstanceOf old one))

      from-one : (place : Place) → IsInstanceOf new one place → IsIn mine place
      from-one place (instance, is, found) = subst (IsIn mine) (sym is) (elim (numbers-before HostStep change one instance found) [
        | inl before ↦ start (instance, refl, before)
        | inr made ↦ absurd (alone.makes_another made.0)
      ])

      from-other : (place : Place) → IsInstanceOf new other place → IsIn (grown theirs store command) place
      from-other place (instance, is, found) = subst (IsIn (grown theirs store command)) (sym is) (elim (numbers-before HostStep change other instance found) [
        | inl before ↦ instance-grown theirs store instance (inl (start (instance, refl, before))) command
        | inr made ↦ subst (λ (c : Command). IsIn (grown theirs store c) (Instance instance)) (sym made.2.1) (let last = made.1 in inr (omega (arith, last)))
      ])

      -- Two instances that are apart stay apart, if one is left alone.
      apart-after : AreApart (reach_from new one) (reach_from new other)
      apart-after = apart-less mine (grown theirs store command) (reach_from new one) (reach_from new other) (apart-grown mine theirs store there apart-theirs command)
          (λ place has. least new.state.store mine closed-mine (IsInstanceOf new one) from-one place (reached-in new.state.store (IsInstanceOf new one) place has))
          (λ place has. least new.state.store (grown theirs store command) (closed-grown theirs closed-theirs command changes)
          (IsInstanceOf new other) from-other place (reached-in new.state.store (IsInstanceOf new other) place has))

    either-after : (one other : ℕ) → (LeavesAlone old one command reply ⊎ LeavesAlone old other command reply)
        → AreApart (reach_from old one) (reach_from old other) → AreApart (reach_from new one) (reach_from new other)
    either-after one other leaves apart = elim leaves [
      | inl alone ↦ apart-after one other alone apart
      | inr alone ↦ apart-other (reach_from new other) (reach_from new one) (apart-after other one alone (apart-other (reach_from old one) (reach_from old other) apart))
    ]

    -- ---- a command that shares nothing

    -- A command makes at most one instance.
    makes-another : (one other : ℕ) → (one ≡ other → ⊥) → (r : Reply) → reply ≡ r → (reply ≡ Linked one → ⊥) ⊎ (reply ≡ Linked other → ⊥)
    makes-another one other differ (Loaded n) is = inl (λ made. let wrong : Loaded n ≡ Linked one = sym is ∙ made in cc)
    makes-another one other differ Done is = inl (λ made. let wrong : Done ≡ Linked one = sym is ∙ made in cc)
    makes-another one other differ (Ended ending) is = inl (λ made. let wrong : Ended ending ≡ Linked one = sym is ∙ made in cc)
    makes-another one other differ (Refused why) is = inl (λ made. let wrong : Refused why ≡ Linked one = sym is ∙ made in cc)
    makes-another one other differ (Linked n) is = elim (cases_eq n one) [
      | inl same ↦ inr (λ made. let both_made : Linked n ≡ Linked other = sym is ∙ made in let is_other : n ≡ other = cc in differ (sym same ∙ is_other))
      | inr differs ↦ inl (λ made. let both_made : Linked n ≡ Linked one = sym is ∙ made in let is_one : n ≡ one = cc in differs is_one)
    ]

    module _ (all : (one other : ℕ) → (one ≡ other → ⊥) → AreApart (reach_from old one) (reach_from old other)) (shares : SharesNothing old command) where
      leaves-one : (one other : ℕ) → (one ≡ other → ⊥) → LeavesAlone old one command reply ⊎ LeavesAlone old other command reply
      leaves-one one other differ = go (calls-which one other command)
        where
          alone : (number : ℕ) → (reply ≡ Linked number → ⊥) → DoesNotCall number command → LeavesAlone old number command reply
          alone number another calls = record { makes_another = another; apart = reach-apart old all command number shares calls }

          go : (DoesNotCall one command × DoesNotCall other command)
              ⊎ ((k : ℕ) × (name : List ℕ) × (arguments : List Val) × (command ≡ Call k name arguments)) → LeavesAlone old one command reply
              ⊎ LeavesAlone old other command reply
          go (inl (calls, calls')) = elim (makes-another one other differ reply refl) [ inl another ↦ inl (alone one another calls) | inr another ↦ inr (alone other another calls') ]
          go (inr (k, name, arguments, is)) =
              let no_link : IsNoLink reply = links-alone HostStep change (λ number link. let wrong : Call k name arguments ≡ Link number = sym is ∙ link in cc) in
              elim (cases_eq k one) [
                | inl same ↦ inr (alone other (no_link other) (subst (DoesNotCall other) (sym is) (λ same'. differ (sym same ∙ same'))))
                | inr differs ↦ inl (alone one (no_link one) (subst (DoesNotCall one) (sym is) differs))
              ]

      all-after : (one other : ℕ) → (one ≡ other → ⊥) → AreApart (reach_from new one) (reach_from new other)
      all-after one other differ = either-after one other (leaves-one one other differ) (all one other differ)

  -- ---- runs

  -- What is kept along a run: host functions give no references, numbered instances exist, and the store is valid.
  record IsTidy (at : Embedding H) : Type 0 where
    free : NoFuncrefs host_type Answers at
    numbers : NumbersAreThere host_type Answers at
    valid : StoreIsValid at.state.store

  tidy-after : (old new : Embedding H) (command : Command) (reply : Reply) → IsTidy old → Applies HostStep old command reply new → StoreIsValid new.state.store → IsTidy new
  tidy-after old new command reply tidy applies valid = record {
    free = command-free host_type Answers old new reply tidy.free command applies;
    numbers = command-there host_type Answers old new reply tidy.free tidy.numbers command applies;
    valid = valid;
  }

  stay-apart : (one other : ℕ) {old last : Embedding H} {commands : List Command} {replies : List Reply}
      → (run : AppliesAll HostStep old commands replies last) → AllGoWell HostStep run → IsTidy old → AllLeaveOneAlone HostStep one other run
      → AreApart (reach_from old one) (reach_from old other) → AreApart (reach_from last one) (reach_from last other)
  stay-apart one other none well tidy leaves apart = apart
  stay-apart one other {old} (then_on {between = between} {command = command} {reply = reply} first rest) well tidy leaves apart =
      stay-apart one other rest well.1 (tidy-after old between command reply tidy first well.0.valid) leaves.1
      (either-after old between command reply first tidy.free tidy.numbers tidy.valid one other leaves.0 apart)

  all-stay-apart : {old last : Embedding H} {commands : List Command} {replies : List Reply} → (run : AppliesAll HostStep old commands replies last)
      → AllGoWell HostStep run → IsTidy old → AllShareNothing HostStep run
      → ((one other : ℕ) → (one ≡ other → ⊥) → AreApart (reach_from old one) (reach_from old other)) → (one other : ℕ) → (one ≡ other → ⊥) → AreApart (reach_from last one) (reach_from last other)
  all-stay-apart none well tidy shares apart = apart
  all-stay-apart {old} (then_on {between = between} {command = command} {reply = reply} first rest) well tidy shares apart =
      all-stay-apart rest well.1 (tidy-after old between command reply tidy first well.0.valid) shares.1
      (all-after old between command reply first tidy.free tidy.numbers tidy.valid apart shares.0)

  module _ (setup : Setup) (definitions : List (HostDefinition H)) (fresh : Embedding H) (created : Creates host_type setup definitions (Ok fresh)) where
    from-nowhere : (number : ℕ) (place : Place) → IsInstanceOf fresh number place → ⊥
    from-nowhere number place (instance, is, found) =
        let none_there : slice_get fresh.instances number ≡ None = ap (λ (e : Embedding H). slice_get e.instances number) created.1 in
        let wrong : Some instance ≡ None = sym found ∙ none_there in
        cc

    fresh-apart : (one other : ℕ) → AreApart (reach_from fresh one) (reach_from fresh other)
    fresh-apart one other = apart-from-nothing fresh.state.store (reach_from fresh one) (IsInstanceOf fresh other) (from-nowhere other)

    module _ (few : length definitions < 2 ^ 32) (read : (b : Body) → body_of (writing b) ≡ b) where
      fresh-tidy : IsTidy fresh
      fresh-tidy = record {
        free = fresh-free host_type Answers setup definitions fresh created;
        numbers = fresh-there host_type Answers setup definitions fresh created;
        valid = (fresh-sound host_type setup definitions fresh few created).valid;
      }

      goes-well : {last : Embedding H} {commands : List Command} {replies : List Reply} → All LoadsBytes commands → (run : AppliesAll HostStep fresh commands replies last) → AllGoWell HostStep run
      goes-well {last} {commands} {replies} bytes run =
          (commands-go-well read host_type Answers fresh last commands replies run (fresh-sound host_type setup definitions fresh few created)
          (subst (All IsSoundModule) (sym (ap (λ (e : Embedding H). e.modules) created.1)) (All-none IsSoundModule)) bytes).0

  module _ (read : (b : Body) → body_of (writing b) ≡ b) where
    pub links-are-apart : LinksAreApart host_type Answers
    links-are-apart setup definitions fresh last commands replies one other few created bytes run leaves =
        stay-apart one other run (goes-well setup definitions fresh created few read bytes run) (fresh-tidy setup definitions fresh created few read)
        leaves (fresh-apart setup definitions fresh created one other)

    pub strangers-are-apart : StrangersAreApart host_type Answers
    strangers-are-apart setup definitions fresh last commands replies one other few created bytes run shares =
        all-stay-apart run (goes-well setup definitions fresh created few read bytes run) (fresh-tidy setup definitions fresh created few read) shares
        (λ a b differ. fresh-apart setup definitions fresh created a b) one other

  -- ---- names, if no instance is registered

  module _ {T : Type 0} where
    -- After one item was stored under a name, the item found under another name is that item, or was there before.
    put-finds : (items : List (List ℕ × T)) (name name' : List ℕ) (item x : T) → under (put_under items name item) name' ≡ Some x → (x ≡ item) ⊎ (under items name' ≡ Some x)
    put-finds [] name name' item x is = go (bytes_eq name' name) is
      where
        go : (b : Bool) → (if b then Some item else None) ≡ Some x → (x ≡ item) ⊎ (under [] name' ≡ Some x)
        go true same = inl cc
        go false same = absurd cc
    put-finds (first ∷ others) name name' item x is = go (bytes_eq name first.0) is (put-finds others name name' item x)
      where
        here : (b : Bool) → (if b then Some item else under others name') ≡ Some x → (x ≡ item) ⊎ ((if b then Some first.1 else under others name') ≡ Some x)
        here true same = inl cc
        here false same = inr same

        there : (b : Bool) → (if b then Some first.1 else under (put_under others name item) name') ≡ Some x
            → (under (put_under others name item) name' ≡ Some x → (x ≡ item) ⊎ (under others name' ≡ Some x))
            → (x ≡ item) ⊎ ((if b then Some first.1 else under others name') ≡ Some x)
        there true same behind = inr same
        there false same behind = behind same

        go : (b : Bool) → under (if b then (first.0, item) ∷ others else first ∷ put_under others name item) name' ≡ Some x
            → (under (put_under others name item) name' ≡ Some x → (x ≡ item) ⊎ (under others name' ≡ Some x))
            → (x ≡ item) ⊎ (under (first ∷ others) name' ≡ Some x)
        go true same behind = here (bytes_eq name' first.0) same
        go false same behind = there (bytes_eq name' first.0) same behind

  -- All host functions have addresses below a bound.
  abbrev HostsAreBelow : NamesContents → ℕ → Type 0
  HostsAreBelow names n = (module_name name : List ℕ) (address : ℕ) → host_of names module_name name ≡ Some address → address < n

  with-one-below : (names : NamesContents) (module_name name : List ℕ) (n : ℕ) → HostsAreBelow names n → HostsAreBelow (with_host names module_name name n) (suc n)
  with-one-below names module_name name n below other_module other address is = go (under (put_under names.hosts module_name put) other_module) refl is
    where
      put : List (List ℕ × ℕ)
      put = put_under (hosts_of names module_name) name n

      go : (found : Option (List (List ℕ × ℕ))) → under (put_under names.hosts module_name put) other_module ≡ found → under (unwrap_or found []) other ≡ Some address → address < suc n
      go None there same = absurd cc
      go (Some items) there same = elim (put-finds names.hosts module_name other_module put items there) [
        | inl is_put ↦ elim (put-finds (hosts_of names module_name) name other n address (subst (λ (z : List (List ℕ × ℕ)). under z other ≡ Some address) is_put same)) [
          | inl last ↦ omega (arith, last)
          | inr before ↦ (let less = below module_name other address before in omega (arith, less))
        ]
        | inr before ↦
            let found_before : host_of names other_module other ≡ Some address = ap (λ (o : Option (List (List ℕ × ℕ))). under (unwrap_or o []) other) before ∙ same in
            let less = below other_module other address found_before in
            omega (arith, less)
      ]

  defined-below : (names : NamesContents) (n : ℕ) (ds : List (HostDefinition H)) → HostsAreBelow names n → HostsAreBelow (with_definitions host_type names n ds) (n + length ds)
  defined-below names n [] below module_name name address is = let less = below module_name name address is in omega (arith, less)
  defined-below names n (d ∷ ds) below module_name name address is =
      let less = defined-below (with_host names d.module_name d.name n) (suc n) ds (with-one-below names d.module_name d.name n below) module_name name address is in
      omega (arith, less)

  none-registered : (names : NamesContents) (n : ℕ) (ds : List (HostDefinition H)) → (with_definitions host_type names n ds).registered ≡ names.registered
  none-registered names n [] = refl
  none-registered names n (d ∷ ds) = none-registered (with_host names d.module_name d.name n) (suc n) ds

  host-there : (n : ℕ) (ds : List (HostDefinition H)) (address : ℕ) → address < length ds → (f : FunctionInstance) × (number : ℕ)
      × (slice_get (host_functions host_type n ds) address ≡ Some f) × (f.implementation ≡ InHost number)
  host-there n [] address inside = absurd (let wrong : ⊥ = omega (arith, inside) in wrong)
  host-there n (d ∷ ds) zero inside = (record { ty = host_type d.host; implementation = InHost n }, n, refl, refl)
  host-there n (d ∷ ds) (suc address) inside = host-there (suc n) ds address (omega (arith, inside))

  -- No instance is registered, and names of host functions stand for such.
  record NamesAreOfHosts (at : Embedding H) : Type 0 where
    registered : at.names.registered ≡ []
    hosts : (module_name name : List ℕ) (address : ℕ) → host_of at.names module_name name ≡ Some address → IsOfHost at.state.store (value.Func address)

  fresh-names : (setup : Setup) (definitions : List (HostDefinition H)) (fresh : Embedding H) → Creates host_type setup definitions (Ok fresh) → NamesAreOfHosts fresh
  fresh-names setup definitions fresh created = subst NamesAreOfHosts (sym created.1) (record {
    registered = none-registered no_names 0 definitions;
    hosts = λ module_name name address is. let below = defined-below no_names 0 definitions (λ m n a found. absurd cc) module_name name address is in
        host-there 0 definitions address (omega (arith, below));
  })

  names-after : (old new : Embedding H) (command : Command) (reply : Reply) → NoFuncrefs host_type Answers old → GivesNothing command
      → Applies HostStep old command reply new → NamesAreOfHosts old → NamesAreOfHosts new
  names-after old new command reply free gives applies names =
      record {
        registered = ap (λ (ns : NamesContents). ns.registered) same ∙ names.registered;
        hosts = λ module_name name address is.
            still address (names.hosts module_name name address (ap (λ (ns : NamesContents). host_of ns module_name name) (sym same) ∙ is));
      }
    where
      go : Change HostStep old command reply new → new.names ≡ old.names
      go (nothing_done r n) = ap (λ (e : Embedding H). e.names) n
      go (modules_loaded r n) = ap (λ (e : Embedding H). e.names) n
      go (name_registered c r n) = absurd (subst GivesNothing c gives)
      go (fuel_set r n) = ap (λ (e : Embedding H). e.names) n
      go (call_run arguments run r n) = ap (λ (e : Embedding H). e.names) n
      go (link_made link c r n) = ap (λ (e : Embedding H). e.names) n
      go (link_failed link r n) = ap (λ (e : Embedding H). e.names) n

      same : new.names ≡ old.names
      same = go (command-change HostStep old new reply command applies)

      code : KeepsCode old.state.store new.state.store
      code = (command-leaves host_type Answers old new reply free (command-change HostStep old new reply command applies)).code

      still : (address : ℕ) → IsOfHost old.state.store (value.Func address) → IsOfHost new.state.store (value.Func address)
      still address (f, number, is, in_host) = (f, number, code.functions address (slice_get_within old.state.store.functions address f is) ∙ is, in_host)

  module _ (at : Embedding H) (names : NamesAreOfHosts at) where
    resolved-host : (module_name name : List ℕ) (e : Extern) → resolve_name at.state.store at.names module_name name ≡ Some e → IsOfHost at.state.store e
    resolved-host module_name name e is = go (host_of at.names module_name name) refl is
      where
        nothing-exported : registered_export at.state.store at.names module_name name ≡ None
        nothing-exported = ap (λ (rs : List (List ℕ × ℕ)). registered_export at.state.store (record at.names { registered = rs }) module_name name) names.registered

        go : (found : Option ℕ) → host_of at.names module_name name ≡ found
            → option_or (option_map value.Func found) (registered_export at.state.store at.names module_name name) ≡ Some e → IsOfHost at.state.store e
        go None there same = absurd (let wrong : None ≡ Some e = sym nothing-exported ∙ same in cc)
        go (Some address) there same = let is_function : value.Func address ≡ e = cc in subst (IsOfHost at.state.store) is_function (names.hosts module_name name address there)

    resolved-hosts : (imports : List Import) (given : List Extern) → resolve_imports at.state.store at.names imports ≡ Some given → All (IsOfHost at.state.store) given
    resolved-hosts [] given is = let nothing : [] ≡ given = cc in subst (All (IsOfHost at.state.store)) nothing (All-none (IsOfHost at.state.store))
    resolved-hosts (i ∷ imports) given is = go (resolve_name at.state.store at.names i.module_name i.name) refl (resolve_imports at.state.store at.names imports) (resolved-hosts imports) is
      where
        go : (first : Option Extern) → resolve_name at.state.store at.names i.module_name i.name ≡ first → (others : Option (List Extern))
            → ((es : List Extern) → others ≡ Some es → All (IsOfHost at.state.store) es) → cons first others ≡ Some given
            → All (IsOfHost at.state.store) given
        go None first_is others behind same = absurd cc
        go (Some e) first_is None behind same = absurd cc
        go (Some e) first_is (Some es) behind same =
            let all : e ∷ es ≡ given = cc in
            subst (All (IsOfHost at.state.store)) all (All-first (IsOfHost at.state.store) e es (resolved-host i.module_name i.name e first_is) (behind es refl))

    shares-nothing : (command : Command) → GivesNothing command → SharesNothing at command
    shares-nothing (Load bytes) gives = tt
    shares-nothing (Link number) gives = λ m given there named. resolved-hosts m.imports given named
    shares-nothing (Register number name) gives = tt
    shares-nothing (Call number name arguments) gives = gives
    shares-nothing (GetGlobal number name) gives = tt
    shares-nothing (SetFuel fuel) gives = tt

  all-share-nothing : {old last : Embedding H} {commands : List Command} {replies : List Reply} → NoFuncrefs host_type Answers old
      → NamesAreOfHosts old → All GivesNothing commands → (run : AppliesAll HostStep old commands replies last)
      → AllShareNothing HostStep run × NamesAreOfHosts last
  all-share-nothing free names gives none = (tt, names)
  all-share-nothing {old} free names gives (then_on {between = between} {command = command} {commands = commands} {reply = reply} first rest) =
      let one = gives 0 command (omega arith) in
      let (others, names_then) = all-share-nothing (command-free host_type Answers old between reply free command first)
      (names-after old between command reply free one first names) (behind GivesNothing command commands gives) rest in
      ((shares-nothing old names command one, others), names_then)

  pub registered-ones : OnlyRegisteredOnesAreShared host_type Answers
  registered-ones setup definitions fresh last commands replies created gives run =
      (all-share-nothing (fresh-free host_type Answers setup definitions fresh created) (fresh-names setup definitions fresh created) gives run).0

  -- ---- what strangers cannot change

  module _ (read : (b : Body) → body_of (writing b) ≡ b) where
    pub strangers-change-nothing : StrangersChangeNoAnswers host_type Answers
    strangers-change-nothing setup definitions fresh old new before commands replied replies number fuel command reply few created bytes gave run inside gives another applies hosts to asks =
        out-of-reach-changes-nothing host_type Answers read setup definitions fresh old new before commands replied replies number fuel command reply few created bytes run (record {
          instance = its.0;
          is = its.1;
          arguments = λ place mentioned. absurd (nothing-mentioned place mentioned);
          apart = apart-less (reach_from old number) (reach_of old command) (reach_when_asked old number commands) (reach_of old command) apart
              (part-of-reach old.state.store (AsksFrom old number commands) (IsInstanceOf old number) said) (λ place has. has);
          applies = applies;
          hosts = λ n has. hosts n (part-of-reach old.state.store (AsksFrom old number commands) (IsInstanceOf old number) said (Host n) has);
        }) to
      where
        its : (instance : ℕ) × (slice_get old.instances number ≡ Some instance)
        its = some-there old.instances number inside

        refers-to-none : (c : Command) → GivesNothing c → (place : Place) → Mentions c place → ⊥
        refers-to-none (Load bytes) none_given place mentions = mentions
        refers-to-none (Link k) none_given place mentions = mentions
        refers-to-none (Register k name) none_given place mentions = mentions
        refers-to-none (Call k name arguments) none_given place (address, at, (j, among)) = All-at RefersToNone arguments j (FuncRef (Some address)) among none_given
        refers-to-none (GetGlobal k name) none_given place mentions = mentions
        refers-to-none (SetFuel n) none_given place mentions = mentions

        nothing-mentioned : (place : Place) → AreMentioned commands place → ⊥
        nothing-mentioned place (c, (j, among), mentions) = refers-to-none c (All-at GivesNothing commands j c among asks) place mentions

        said : (place : Place) → AsksFrom old number commands place → IsReached old.state.store (IsInstanceOf old number) place
        said place (inl starts) = start starts
        said place (inr mentioned) = absurd (nothing-mentioned place mentioned)

        free : NoFuncrefs host_type Answers old
        free = list-free host_type Answers (fresh-free host_type Answers setup definitions fresh created) run

        tidy : IsTidy old
        tidy = record {
          free = free;
          numbers = list-there host_type Answers (fresh-free host_type Answers setup definitions fresh created) (fresh-there host_type Answers setup definitions fresh created) run;
          valid = valid-then host_type Answers read setup definitions fresh old before replied few created bytes run;
        }

        shared : AllShareNothing HostStep run × NamesAreOfHosts old
        shared = all-share-nothing (fresh-free host_type Answers setup definitions fresh created) (fresh-names setup definitions fresh created) gave run

        all-apart : (one other : ℕ) → (one ≡ other → ⊥) → AreApart (reach_from old one) (reach_from old other)
        all-apart one other differ = strangers-are-apart read setup definitions fresh old before replied one other few created bytes run shared.0 differ

        apart : AreApart (reach_from old number) (reach_of old command)
        apart = reach-apart old all-apart command number (shares-nothing old shared.1 command gives) another
