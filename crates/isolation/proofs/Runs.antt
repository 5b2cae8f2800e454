-- Runs within a closed region keep to it, and cannot tell what is outside of it.
use Rattle.std.proofs.Common.{slice_set, ◌≡◌, ℕ, ◌-◌, ◌≤◌, List, [], ◌∷◌, map, reverse, Option, Some, None, false, refl, ap, sym, subst, ◌∙◌, arith, slice_get}
use Rattle.std.specs.List.{All}
use Rattle.core_types.specs.declared.outcome.Val.{Val}
use Rattle.core_types.specs.declared.outcome.Val.TheVariants.{I32, I64, FuncRef, ExternRef}
use Rattle.core_types.specs.declared.types.FuncType.{FuncType}
use Rattle.core_types.specs.declared.types.ValType.{ValType}
use Rattle.meaning.specs.embedding.Creation.{has_funcref}
use Rattle.meaning.specs.execution.Configurations.{Configuration, Frame, depth}
use Rattle.meaning.specs.execution.Hosts.{AnswersWith, IsHostCall, IsHostStep, bytes_in, lent_bytes, with_bytes, with_lent_bytes}
use Rattle.meaning.specs.execution.Instructions.{Next, Goes, Grows, Opens, CallsHost, Traps, Branches, Returns, TailCalls, Over, NotReady, next}
use Rattle.meaning.specs.execution.Memories.{MemoryInstance}
use Rattle.meaning.specs.execution.Runs.{Answer, AsksForMemory, Ending, HostTrap, IsEnd, IsStep, IsWithinBound, Results, WithValues, Run, State, Steps, goes}
use Rattle.meaning.specs.execution.Runs.{grows, opens, calls, values_left, trapped, host_trapped, no_fuel, no_depth, no_memory, end, step, none, one_more}
use Rattle.meaning.specs.execution.Runs.{price}
use Rattle.meaning.specs.execution.Store.{Store}
use Rattle.meaning.specs.execution.Values.{type_of}
use Rattle.soundness.proofs.Values.{All-at}
use Rattle.soundness.proofs.Writes.{All-set}
use Rattle.soundness.specs.Hosts.{GivesNoFuncref}
use Rattle.isolation.specs.Isolation.{EndingIsWithin, IsConfined, KeepsTo, LookAlike, RunsCannotTell, RunsKeepTo, StepsCannotTell, StepsKeepTo}
use Rattle.isolation.specs.Regions.{Has, AgreeWithin, ConfigurationIsWithin, IsClosed, IsSameWithin, Region, StaysOutside, ValuesAreWithin}
use Rattle.isolation.proofs.Moves.{AllocatesNothing-same, AllocatesNothing-through, LeavesOutside-same, LeavesOutside-through, Moves, Moves-same, memory-moves}
use Rattle.isolation.proofs.Steps.{IsLentWithin, NextsAgree, nexts-agree}
use Rattle.isolation.proofs.Within.{answered-within, reverse-within, set-agrees, set-outside}

-- ---- the next step

module _ (region : Region) (a b : Store) where
  prices-agree : (n n' : Next) → NextsAgree region a b n n' → price n' ≡ price n
  prices-agree (Goes cost a' frame c) n' e = ap price e.1
  prices-agree (Grows cost a' frame c) n' e = ap price e.1
  prices-agree (Opens cost a' c) n' e = ap price e.1
  prices-agree (CallsHost cost number lent arguments c) n' e = ap price e.0
  prices-agree (Traps cost trap) n' is = ap price is
  prices-agree (Branches label values) n' e = ap price e.0
  prices-agree (Returns values) n' e = ap price e.0
  prices-agree (TailCalls lent f values) n' e = ap price e.0
  prices-agree (Over values) n' e = ap price e.0
  prices-agree NotReady n' is = ap price is

  asks-agree : (bound frames : ℕ) (n n' : Next) → NextsAgree region a b n n' → AsksForMemory n → IsWithinBound bound frames n → AsksForMemory n' × IsWithinBound bound frames n'
  asks-agree bound frames (Goes cost a' frame c) n' e asks fits = absurd asks
  asks-agree bound frames (Grows cost a' frame c) n' e asks fits = rw e.1 (tt, tt)
  asks-agree bound frames (Opens cost a' c) n' e asks fits = rw e.1 (tt, fits)
  asks-agree bound frames (CallsHost cost number lent arguments c) n' e asks fits = rw e.0 (tt, tt)
  asks-agree bound frames (Traps cost trap) n' is asks fits = absurd asks
  asks-agree bound frames (Branches label values) n' e asks fits = absurd asks
  asks-agree bound frames (Returns values) n' e asks fits = absurd asks
  asks-agree bound frames (TailCalls lent f values) n' e asks fits = absurd asks
  asks-agree bound frames (Over values) n' e asks fits = absurd asks
  asks-agree bound frames NotReady n' is asks fits = absurd asks

-- ---- host functions

-- The answer of a host function, if there is one, is within the region.
abbrev AnswerIsWithin : Region → Answer → Type 0
AnswerIsWithin region (Results values) = ValuesAreWithin region values
AnswerIsWithin region (HostTrap code) = Unit {0}

module _ (region : Region) where
  results-within : (values : List Val) → has_funcref (map type_of values) ≡ false → ValuesAreWithin region values
  results-within [] free = tt
  results-within (I32 n ∷ values) free = (tt, results-within values free)
  results-within (I64 n ∷ values) free = (tt, results-within values free)
  results-within (FuncRef r ∷ values) free = absurd cc
  results-within (ExternRef r ∷ values) free = (tt, results-within values free)

  answer-within : (answer : Answer) (types : List ValType) → AnswersWith answer types → has_funcref types ≡ false → AnswerIsWithin region answer
  answer-within (Results values) types (same, fits) free = results-within values (ap has_funcref same ∙ free)
  answer-within (HostTrap code) types same free = tt

  module _ (a b : Store) (closed : IsClosed region a) (agree : AgreeWithin region a b) where
    lent-same : (lent : Option ℕ) → IsLentWithin region lent → lent_bytes b lent ≡ lent_bytes a lent
    lent-same None has = refl
    lent-same (Some address) has = ap bytes_in (agree.memories address has)

    lent-moves : (lent : Option ℕ) → IsLentWithin region lent → (bytes : List ℕ) → Moves region a b (with_lent_bytes a lent bytes) (with_lent_bytes b lent bytes)
    lent-moves None has bytes = Moves-same region a b closed agree
    lent-moves (Some address) has bytes =
        subst (λ (o : Option MemoryInstance).
        Moves region a b (with_bytes a address (slice_get a.memories address) bytes) (with_bytes b address o bytes))
        (sym (agree.memories address has)) (go (slice_get a.memories address))
      where
        go : (o : Option MemoryInstance) → Moves region a b (with_bytes a address o bytes) (with_bytes b address o bytes)
        go None = Moves-same region a b closed agree
        go (Some memory) = memory-moves region a b closed agree address has (record memory { bytes = bytes })

module _ {H : Type 0} (host_type : H → FuncType) (Answers : H → List Val → List ℕ → Answer → List ℕ → H → Type 0) (region : Region) where
  abbrev HostStep : List H → ℕ → Option ℕ → List Val → Store → Answer → Store → List H → Type 0
  HostStep = IsHostStep host_type Answers

  abbrev NoFuncrefs : List H → Type 0
  NoFuncrefs hosts = All (GivesNoFuncref host_type) hosts

  -- A host function answers alike if it and the memory that it borrows are alike.
  record ToldAlike (hosts_a hosts_b hosts_a' : List H) (number : ℕ) (lent : Option ℕ) (arguments : List Val) (a b a' : Store) (answer : Answer) : Type 0 where
    b' : Store
    hosts_b' : List H
    told : HostStep hosts_b number lent arguments b answer b' hosts_b'
    moves : Moves region a b a' b'
    no_funcrefs : NoFuncrefs hosts_a'
    agree : IsSameWithin region region.hosts hosts_a' hosts_b'
    outside : StaysOutside region region.hosts hosts_a hosts_a'
    within : AnswerIsWithin region answer

  told-alike : (hosts_a hosts_b hosts_a' : List H) (number : ℕ) → Has region.hosts number → IsSameWithin region region.hosts hosts_a hosts_b
      → (lent : Option ℕ) → IsLentWithin region lent → (arguments : List Val) (a b a' : Store)
      → IsClosed region a → AgreeWithin region a b → (answer : Answer) → NoFuncrefs hosts_a
      → HostStep hosts_a number lent arguments a answer a' hosts_a' → ToldAlike hosts_a hosts_b hosts_a' number lent arguments a b a' answer
  told-alike hosts_a hosts_b hosts_a' number of alike lent has arguments a b a' closed agree answer free (bytes, call, is) =
      let own_free = All-at (GivesNoFuncref host_type) hosts_a number call.host call.is free in
      record {
        b' = with_lent_bytes b lent bytes;
        hosts_b' = slice_set hosts_b number call.host';
        told = (
          bytes,
          subst (λ (bs : List ℕ). IsHostCall host_type Answers hosts_b number arguments bs answer bytes (slice_set hosts_b number call.host'))
              (sym (lent-same region a b closed agree lent has)) (record {
                host = call.host;
                host' = call.host';
                is = alike number of ∙ call.is;
                answers = call.answers;
                typed = call.typed;
                same_type = call.same_type;
                same_length = call.same_length;
                are_bytes = call.are_bytes;
                hosts_are = refl;
              }),
          refl,
        );
        moves = subst (λ (s : Store). Moves region a b s (with_lent_bytes b lent bytes)) (sym is) (lent-moves region a b closed agree lent has bytes);
        no_funcrefs = subst NoFuncrefs (sym call.hosts_are)
            (All-set (GivesNoFuncref host_type) hosts_a number call.host' free (ap (λ (t : FuncType). has_funcref t.results) call.same_type ∙ own_free));
        agree = subst (λ (hs : List H). IsSameWithin region region.hosts hs (slice_set hosts_b number call.host')) (sym call.hosts_are)
            (set-agrees region region.hosts number of call.host' hosts_a hosts_b alike);
        outside = subst (StaysOutside region region.hosts hosts_a) (sym call.hosts_are) (set-outside region region.hosts number of call.host' hosts_a);
        within = answer-within region answer (host_type call.host).results call.typed own_free;
      }

  -- ---- what a run keeps to

  abbrev Confined : State H → Frame → Configuration → Type 0
  Confined = IsConfined host_type region

  abbrev Keeps : State H → State H → Type 0
  Keeps = KeepsTo host_type region

  pub Keeps-through : (a b c : State H) → Keeps a b → Keeps b c → Keeps a c
  Keeps-through a b c first second = record {
    closed = second.closed;
    no_funcrefs = second.no_funcrefs;
    outside = LeavesOutside-through region a.store b.store c.store first.outside second.outside;
    nothing_new = AllocatesNothing-through a.store b.store c.store first.nothing_new second.nothing_new;
    hosts = λ number not. second.hosts number not ∙ first.hosts number not;
  }

  keeps-by : (a b a' : State H) (t : Store) → Moves region a.store b.store a'.store t → NoFuncrefs a'.hosts → StaysOutside region region.hosts a.hosts a'.hosts → Keeps a a'
  keeps-by a b a' t moves free hosts = record {
    closed = moves.closed;
    no_funcrefs = free;
    outside = moves.first;
    nothing_new = moves.first_new;
    hosts = hosts;
  }

  -- Host functions that do not change.
  hosts-same : (hosts hosts' : List H) → hosts' ≡ hosts → StaysOutside region region.hosts hosts hosts'
  hosts-same hosts hosts' is = subst (StaysOutside region region.hosts hosts) (sym is) (λ number not. refl)

  hosts-alike : (hosts hosts' others : List H) → hosts' ≡ hosts → IsSameWithin region region.hosts hosts others → IsSameWithin region region.hosts hosts' others
  hosts-alike hosts hosts' others is alike = subst (λ (hs : List H). IsSameWithin region region.hosts hs others) (sym is) alike

  -- ---- one step

  module _ (bound : ℕ) (outside : Frame) where
    record StepsAlike (a b : State H) (c : Configuration) (a' : State H) (c' : Configuration) : Type 0 where
      b' : State H
      steps : IsStep HostStep bound outside b c b' c'
      look : LookAlike region a' b'
      keeps : Keeps a a'
      within : ConfigurationIsWithin region c'

    record EndsAlike (a b : State H) (c : Configuration) (ending : Ending) (last : State H) : Type 0 where
      last' : State H
      ends : IsEnd HostStep bound outside b c ending last'
      look : LookAlike region last last'
      keeps : Keeps a last
      within : EndingIsWithin region ending

    module _ (a b : State H) (c : Configuration) (confined : Confined a outside c) (look : LookAlike region a b) where
      agreed : NextsAgree region a.store b.store (next a.store outside c) (next b.store outside c)
      agreed = nexts-agree region a.store b.store confined.closed look.stores outside confined.frame c confined.within

      at : (n : Next) → next a.store outside c ≡ n → NextsAgree region a.store b.store n (next b.store outside c)
      at n is = subst (λ (m : Next). NextsAgree region a.store b.store m (next b.store outside c)) is agreed

      enough : (cost : ℕ) → cost ≤ a.fuel → cost ≤ b.fuel
      enough cost pays = let fuel = look.fuel in omega (arith, pays, fuel)

      left : (a' : State H) (cost : ℕ) → a'.fuel ≡ a.fuel - cost → b.fuel - cost ≡ a'.fuel
      left a' cost is = let fuel = look.fuel in omega (arith, is, fuel)

      told-there : (hosts' : List H) (number : ℕ) → Has region.hosts number → (lent : Option ℕ) → IsLentWithin region lent → (arguments : List Val) (a' : Store) (answer : Answer)
          → HostStep a.hosts number lent arguments a.store answer a' hosts' → ToldAlike a.hosts b.hosts hosts' number lent arguments a.store b.store a' answer
      told-there hosts' number of lent has arguments a' answer told =
          told-alike a.hosts b.hosts hosts' number of look.hosts lent has arguments a.store b.store a' confined.closed look.stores answer confined.no_funcrefs told

      step-alike : {a' : State H} {c' : Configuration} → IsStep HostStep bound outside a c a' c' → StepsAlike a b c a' c'
      step-alike {a'} {c'} (goes {cost = cost} is pays fuel hosts) =
          let (t, is', moves, fits, within) = at (Goes cost a'.store outside c') is in
          record {
            b' = record { store = t; hosts = b.hosts; fuel = b.fuel - cost };
            steps = goes is' (enough cost pays) refl refl;
            look = record { stores = moves.agree; hosts = hosts-alike a.hosts a'.hosts b.hosts hosts look.hosts; fuel = left a' cost fuel };
            keeps = keeps-by a b a' t moves (subst NoFuncrefs (sym hosts) confined.no_funcrefs) (hosts-same a.hosts a'.hosts hosts);
            within = within;
          }
      step-alike {a'} {c'} (grows {cost = cost} is pays fuel hosts) =
          let (t, is', moves, fits, within) = at (Grows cost a'.store outside c') is in
          record {
            b' = record { store = t; hosts = b.hosts; fuel = b.fuel - cost };
            steps = grows is' (enough cost pays) refl refl;
            look = record { stores = moves.agree; hosts = hosts-alike a.hosts a'.hosts b.hosts hosts look.hosts; fuel = left a' cost fuel };
            keeps = keeps-by a b a' t moves (subst NoFuncrefs (sym hosts) confined.no_funcrefs) (hosts-same a.hosts a'.hosts hosts);
            within = within;
          }
      step-alike {a'} {c'} (opens {cost = cost} is pays fuel hosts few) =
          let (t, is', moves, within) = at (Opens cost a'.store c') is in
          record {
            b' = record { store = t; hosts = b.hosts; fuel = b.fuel - cost };
            steps = opens is' (enough cost pays) refl refl few;
            look = record { stores = moves.agree; hosts = hosts-alike a.hosts a'.hosts b.hosts hosts look.hosts; fuel = left a' cost fuel };
            keeps = keeps-by a b a' t moves (subst NoFuncrefs (sym hosts) confined.no_funcrefs) (hosts-same a.hosts a'.hosts hosts);
            within = within;
          }
      step-alike {a'} {c'} (calls {cost = cost} {number = number} {lent = lent} {arguments = arguments} {results = results} {waiting = waiting} is pays fuel told then) =
          let (is', lends, of, within) = at (CallsHost cost number lent arguments waiting) is in
          let alike = told-there a'.hosts number of lent lends arguments a'.store (Results results) told in
          record {
            b' = record { store = alike.b'; hosts = alike.hosts_b'; fuel = b.fuel - cost };
            steps = calls is' (enough cost pays) refl alike.told then;
            look = record { stores = alike.moves.agree; hosts = alike.agree; fuel = left a' cost fuel };
            keeps = keeps-by a b a' alike.b' alike.moves alike.no_funcrefs alike.outside;
            within = subst (ConfigurationIsWithin region) (sym then) (answered-within region results waiting alike.within within);
          }

      pub kept : Keeps a a
      kept = record {
        closed = confined.closed;
        no_funcrefs = confined.no_funcrefs;
        outside = LeavesOutside-same region a.store;
        nothing_new = AllocatesNothing-same a.store;
        hosts = λ number not. refl;
      }

      -- An end that does not change the state.
      ends-here : {last : State H} {ending : Ending} → last ≡ a → IsEnd HostStep bound outside b c ending b → EndingIsWithin region ending → EndsAlike a b c ending last
      ends-here {last} {ending} is ends within = record {
        last' = b;
        ends = ends;
        look = subst (λ (s : State H). LookAlike region s b) (sym is) look;
        keeps = subst (Keeps a) (sym is) kept;
        within = within;
      }

      nothing-within : {ending : Ending} (e : Ending) → ending ≡ e → EndingIsWithin region e → EndingIsWithin region ending
      nothing-within e is within = subst (EndingIsWithin region) (sym is) within

      end-alike : {last : State H} {ending : Ending} → IsEnd HostStep bound outside a c ending last → EndsAlike a b c ending last
      end-alike {last} {ending} (values_left {values = values} is e l) =
          let (is', within) = at (Over values) is in
          ends-here l (values_left is' e refl) (nothing-within (WithValues (reverse values)) e (reverse-within region values within))
      end-alike {last} {ending} (trapped {cost = cost} {trap = trap} is pays e l) =
          let is' = at (Traps cost trap) is in
          let fuel = ap (λ (s : State H). s.fuel) l in
          record {
            last' = record b { fuel = b.fuel - cost };
            ends = trapped is' (enough cost pays) e refl;
            look = record {
              stores = subst (λ (s : State H). AgreeWithin region s.store b.store) (sym l) look.stores;
              hosts = hosts-alike a.hosts last.hosts b.hosts (ap (λ (s : State H). s.hosts) l) look.hosts;
              fuel = left last cost fuel;
            };
            keeps = subst (Keeps a) (sym l) (record { closed = kept.closed; no_funcrefs = kept.no_funcrefs; outside = kept.outside; nothing_new = kept.nothing_new; hosts = λ number not. refl });
            within = nothing-within _ e tt;
          }
      end-alike {last} {ending} (host_trapped {cost = cost} {number = number} {code = code} {lent = lent} {arguments = arguments} {waiting = waiting} is pays fuel told e) =
          let (is', lends, of, within) = at (CallsHost cost number lent arguments waiting) is in
          let alike = told-there last.hosts number of lent lends arguments last.store (HostTrap code) told in
          record {
            last' = record { store = alike.b'; hosts = alike.hosts_b'; fuel = b.fuel - cost };
            ends = host_trapped is' (enough cost pays) refl alike.told e;
            look = record { stores = alike.moves.agree; hosts = alike.agree; fuel = left last cost fuel };
            keeps = keeps-by a b last alike.b' alike.moves alike.no_funcrefs alike.outside;
            within = nothing-within _ e tt;
          }
      end-alike {last} {ending} (no_fuel little e l) =
          let prices = prices-agree region a.store b.store (next a.store outside c) (next b.store outside c) agreed in
          let fuel = look.fuel in
          ends-here l (no_fuel (omega (arith, little, prices, fuel)) e refl) (nothing-within _ e tt)
      end-alike {last} {ending} (no_depth {cost = cost} {store = store} {configuration' = c'} is pays deep e l) =
          let (t, is', moves, within) = at (Opens cost store c') is in
          ends-here l (no_depth is' (enough cost pays) deep e refl) (nothing-within _ e tt)
      end-alike {last} {ending} (no_memory asks fits pays e l) =
          let prices = prices-agree region a.store b.store (next a.store outside c) (next b.store outside c) agreed in
          let (asks', fits') = asks-agree region a.store b.store bound (depth c) (next a.store outside c) (next b.store outside c) agreed asks fits in
          let fuel = look.fuel in
          ends-here l (no_memory asks' fits' (omega (arith, pays, prices, fuel)) e refl) (nothing-within _ e tt)

    -- ---- runs

    pub record RunsAlike (a b : State H) (c : Configuration) (ending : Ending) (last : State H) : Type 0 where
      pub last' : State H
      pub runs : Run HostStep bound outside b c ending last'
      pub look : LookAlike region last last'
      pub keeps : Keeps a last
      pub within : EndingIsWithin region ending

    record ComesAlike (a b : State H) (c : Configuration) (at : State H) (reached : Configuration) : Type 0 where
      at' : State H
      steps : Steps HostStep bound outside b c at' reached
      look : LookAlike region at at'
      keeps : Keeps a at
      within : ConfigurationIsWithin region reached

    still-confined : (a a' : State H) (c c' : Configuration) → Confined a outside c → Keeps a a' → ConfigurationIsWithin region c' → Confined a' outside c'
    still-confined a a' c c' confined keeps within = record { closed = keeps.closed; no_funcrefs = keeps.no_funcrefs; frame = confined.frame; within = within }

    pub run-alike : {a last : State H} {c : Configuration} {ending : Ending} → Run HostStep bound outside a c ending last → (b : State H)
        → Confined a outside c → LookAlike region a b → RunsAlike a b c ending last
    run-alike {a} {last} {c} {ending} (end is) b confined look =
        let alike = end-alike a b c confined look is in
        record { last' = alike.last'; runs = end alike.ends; look = alike.look; keeps = alike.keeps; within = alike.within }
    run-alike {a} {last} {c} {ending} (step {between = between} {configuration' = then} first rest) b confined look =
        let alike = step-alike a b c confined look first in
        let others = run-alike rest alike.b' (still-confined a between c then confined alike.keeps alike.within) alike.look in
        record {
          last' = others.last';
          runs = step alike.steps others.runs;
          look = others.look;
          keeps = Keeps-through a between last alike.keeps others.keeps;
          within = others.within;
        }

    steps-alike : {a at : State H} {c reached : Configuration} → Steps HostStep bound outside a c at reached → (b : State H) → Confined a outside c → LookAlike region a b → ComesAlike a b c at reached
    steps-alike {a} {at} {c} none b confined look = record { at' = b; steps = none; look = look; keeps = kept a b c confined look; within = confined.within }
    steps-alike {a} {at} {c} {reached} (one_more {between = between} {second = second} before last) b confined look =
        let first = steps-alike before b confined look in
        let alike = step-alike between first.at' second (still-confined a between c second confined first.keeps first.within) first.look last in
        record {
          at' = alike.b';
          steps = one_more first.steps alike.steps;
          look = alike.look;
          keeps = Keeps-through a between at first.keeps alike.keeps;
          within = alike.within;
        }

-- ---- the laws

pub looks-like-itself : {H : Type 0} (region : Region) (a : State H) → LookAlike region a a
looks-like-itself region a = record {
  stores = record {
    functions = λ address has. refl;
    instances = λ address has. refl;
    tables = λ address has. refl;
    memories = λ address has. refl;
    globals = λ address has. refl;
    elements = λ address has. refl;
    datas = λ address has. refl;
    pages = refl;
    entries = refl;
  };
  hosts = λ number has. refl;
  fuel = refl;
}

module _ {H : Type 0} (host_type : H → FuncType) (Answers : H → List Val → List ℕ → Answer → List ℕ → H → Type 0) where
  pub runs-keep-to : (region : Region) → RunsKeepTo host_type Answers region
  runs-keep-to region bound outside old last c ending confined run =
      let alike = run-alike host_type Answers region bound outside run old confined (looks-like-itself region old) in
      (alike.keeps, alike.within)

  pub steps-keep-to : (region : Region) → StepsKeepTo host_type Answers region
  steps-keep-to region bound outside old at c reached confined steps =
      let alike = steps-alike host_type Answers region bound outside steps old confined (looks-like-itself region old) in
      (alike.keeps, alike.within)

  pub runs-cannot-tell : (region : Region) → RunsCannotTell host_type Answers region
  runs-cannot-tell region bound outside a b last c ending confined look run =
      let alike = run-alike host_type Answers region bound outside run b confined look in
      (alike.last', alike.runs, alike.look)

  pub steps-cannot-tell : (region : Region) → StepsCannotTell host_type Answers region
  steps-cannot-tell region bound outside a b at c reached confined look steps =
      let alike = steps-alike host_type Answers region bound outside steps b confined look in
      (alike.at', alike.steps, alike.look)
