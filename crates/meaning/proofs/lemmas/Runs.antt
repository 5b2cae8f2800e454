-- Laws of bounded runs: each step and each end is the only one, unless memory runs out.
use Rattle.std.proofs.Common.{◌≡◌, ℕ, ◌<◌, ◌≤◌, ◌-◌, ◌⊎◌, inl, inr, List, reverse, refl, ap, sym, ◌∙◌, arith}
use Rattle.std.specs.Prelude.{Option}
use Rattle.core_types.specs.declared.outcome.Trap.TheVariants.{Host}
use Rattle.core_types.specs.declared.outcome.Val.{Val}
use Rattle.meaning.specs.execution.Configurations.{Configuration, Frame, answered, depth}
use Rattle.meaning.specs.execution.Instructions.{Next, Goes, Grows, Opens, CallsHost, Traps, Branches, Returns, TailCalls, Over, NotReady, next}
use Rattle.meaning.specs.execution.Runs.{Answer, AsksForMemory, Results, HostTrap, Ending, WithValues, WithTrap, OutOfFuel, OutOfDepth, OutOfMemory, State}
use Rattle.meaning.specs.execution.Runs.{IsStep, goes, grows, opens, calls, IsEnd, values_left, trapped, host_trapped, no_fuel, no_depth, no_memory, Run, end}
use Rattle.meaning.specs.execution.Runs.{step, Steps, none, one_more, price}
use Rattle.meaning.specs.execution.Store.{Store}

module _ {H : Type 0} where
  -- States with the same parts.
  same-state : (a b : State H) → a.store ≡ b.store → a.hosts ≡ b.hosts → a.fuel ≡ b.fuel → a ≡ b
  same-state a b stores hosts fuels =
      ap (λ (s : Store). state s a.hosts a.fuel) stores ∙ ap (λ (hs : List H). state b.store hs a.fuel) hosts ∙ ap (state b.store b.hosts) fuels
    where
      state : Store → List H → ℕ → State H
      state s hs n = record { store = s; hosts = hs; fuel = n }

module _ {H : Type 0} (HostStep : List H → ℕ → Option ℕ → List Val → Store → Answer → Store → List H → Type 0) (bound : ℕ) (outside : Frame) where
  -- An end out of memory is before a step that asks for memory.
  pub memory-asked : {at last : State H} {configuration : Configuration} {ending : Ending} → ending ≡ OutOfMemory
      → IsEnd HostStep bound outside at configuration ending last → AsksForMemory (next at.store outside configuration)
  memory-asked wants (values_left is e l) = absurd (let both = sym wants ∙ e in cc)
  memory-asked wants (trapped is le e l) = absurd (let both = sym wants ∙ e in cc)
  memory-asked wants (host_trapped is le l host e) = absurd (let both = sym wants ∙ e in cc)
  memory-asked wants (no_fuel lt e l) = absurd (let both = sym wants ∙ e in cc)
  memory-asked wants (no_depth is le deep e l) = absurd (let both = sym wants ∙ e in cc)
  memory-asked wants (no_memory asks within le e l) = asks

  -- A run after steps is a run from before them.
  pub Steps-run : {old between last : State H} {first second : Configuration} {ending : Ending}
      → Steps HostStep bound outside old first between second → Run HostStep bound outside between second ending last
      → Run HostStep bound outside old first ending last
  Steps-run none run = run
  Steps-run (one_more before last) run = Steps-run before (step last run)

  pub Steps-join : {old between new : State H} {first second third : Configuration} → Steps HostStep bound outside old first between second
      → Steps HostStep bound outside between second new third → Steps HostStep bound outside old first new third
  Steps-join before none = before
  Steps-join before (one_more more last) = one_more (Steps-join before more) last

  -- Steps leave at most the fuel that there was.
  step-fuel : {old new : State H} {first second : Configuration} → IsStep HostStep bound outside old first new second → new.fuel ≤ old.fuel
  step-fuel (goes is le f h) = omega (arith, f)
  step-fuel (grows is le f h) = omega (arith, f)
  step-fuel (opens is le f h lt) = omega (arith, f)
  step-fuel (calls is le f host c) = omega (arith, f)

  pub Steps-fuel : {old new : State H} {first second : Configuration} → Steps HostStep bound outside old first new second → new.fuel ≤ old.fuel
  Steps-fuel {old} none = omega arith
  Steps-fuel (one_more before last) =
      let first = Steps-fuel before in
      let second = step-fuel last in
      omega (arith, first, second)

  -- ---- what the next step can lead to

  module _ (at : State H) (frames : ℕ) where
    abbrev NoFuel : ℕ → Ending → State H → Type 0
    NoFuel cost ending last = (at.fuel < cost) × (ending ≡ OutOfFuel) × (last ≡ at)

    -- The end, unless memory ran out.
    abbrev EndsAt : Next → Ending → State H → Type 0
    EndsAt (Goes cost store frame configuration) ending last = NoFuel cost ending last
    EndsAt (Grows cost store frame configuration) ending last = NoFuel cost ending last
    EndsAt (Opens cost store configuration) ending last =
        NoFuel cost ending last ⊎ ((cost ≤ at.fuel) × (bound ≤ frames) × (ending ≡ OutOfDepth) × (last ≡ at))
    EndsAt (CallsHost cost number lent arguments configuration) ending last =
        NoFuel cost ending last ⊎ ((code : ℕ) × (cost ≤ at.fuel) × (last.fuel ≡ at.fuel - cost)
        × HostStep at.hosts number lent arguments at.store (HostTrap code) last.store last.hosts × (ending ≡ WithTrap (Host code)))
    EndsAt (Traps cost trap) ending last =
        NoFuel cost ending last ⊎ ((cost ≤ at.fuel) × (ending ≡ WithTrap trap) × (last ≡ record at { fuel = at.fuel - cost }))
    EndsAt (Branches label values) ending last = ⊥
    EndsAt (Returns values) ending last = ⊥
    EndsAt (TailCalls lent function values) ending last = ⊥
    EndsAt (Over values) ending last = (ending ≡ WithValues (reverse values)) × (last ≡ at)
    EndsAt NotReady ending last = ⊥

    abbrev GoesTo : ℕ → Store → Configuration → State H → Configuration → Type 0
    GoesTo cost store configuration new configuration' =
        (cost ≤ at.fuel) × (new ≡ record { store = store; hosts = at.hosts; fuel = at.fuel - cost }) × (configuration' ≡ configuration)

    -- The step.
    abbrev StepsAt : Next → State H → Configuration → Type 0
    StepsAt (Goes cost store frame configuration) new configuration' = GoesTo cost store configuration new configuration'
    StepsAt (Grows cost store frame configuration) new configuration' = GoesTo cost store configuration new configuration'
    StepsAt (Opens cost store configuration) new configuration' =
        GoesTo cost store configuration new configuration' × (frames < bound)
    StepsAt (CallsHost cost number lent arguments configuration) new configuration' =
        (results : List Val) × (cost ≤ at.fuel) × (new.fuel ≡ at.fuel - cost)
        × HostStep at.hosts number lent arguments at.store (Results results) new.store new.hosts × (configuration' ≡ answered results configuration)
    StepsAt (Traps cost trap) new configuration' = ⊥
    StepsAt (Branches label values) new configuration' = ⊥
    StepsAt (Returns values) new configuration' = ⊥
    StepsAt (TailCalls lent function values) new configuration' = ⊥
    StepsAt (Over values) new configuration' = ⊥
    StepsAt NotReady new configuration' = ⊥

    without-fuel : (n : Next) {ending : Ending} {last : State H} → at.fuel < price n → ending ≡ OutOfFuel → last ≡ at → EndsAt n ending last
    without-fuel (Goes cost store frame configuration) lt e l = (lt, e, l)
    without-fuel (Grows cost store frame configuration) lt e l = (lt, e, l)
    without-fuel (Opens cost store configuration) lt e l = inl (lt, e, l)
    without-fuel (CallsHost cost number lent arguments configuration) lt e l = inl (lt, e, l)
    without-fuel (Traps cost trap) lt e l = inl (lt, e, l)
    without-fuel (Branches label values) lt e l = absurd (omega (arith, lt))
    without-fuel (Returns values) lt e l = absurd (omega (arith, lt))
    without-fuel (TailCalls lent function values) lt e l = absurd (omega (arith, lt))
    without-fuel (Over values) lt e l = absurd (omega (arith, lt))
    without-fuel NotReady lt e l = absurd (omega (arith, lt))

  module _ (at : State H) (configuration : Configuration) where
    abbrev here : Next
    here = next at.store outside configuration

    IsEnd-at : {ending : Ending} {last : State H} → IsEnd HostStep bound outside at configuration ending last → (ending ≡ OutOfMemory) ⊎ EndsAt at (depth configuration) here ending last
    IsEnd-at (values_left is e l) = inr (rw is (e, l))
    IsEnd-at (trapped is le e l) = inr (rw is (inr (le, e, l)))
    IsEnd-at (host_trapped {code = code} is le l host e) = inr (rw is (inr (code, le, l, host, e)))
    IsEnd-at (no_fuel lt e l) = inr (without-fuel at (depth configuration) here lt e l)
    IsEnd-at (no_depth is le deep e l) = inr (rw is (inr (le, deep, e, l)))
    IsEnd-at (no_memory asks within le e l) = inl e

    IsStep-at : {new : State H} {configuration' : Configuration} → IsStep HostStep bound outside at configuration new configuration' → StepsAt at (depth configuration) here new configuration'
    IsStep-at {new} (goes is le f h) = rw is (le, same-state new _ refl h f, refl)
    IsStep-at {new} (grows is le f h) = rw is (le, same-state new _ refl h f, refl)
    IsStep-at {new} (opens is le f h lt) = rw is ((le, same-state new _ refl h f, refl), lt)
    IsStep-at (calls {results = results} is le f host c) = rw is (results, le, f, host, c)

  -- ---- only one of them occurs

  -- Each host function answers in one way.
  abbrev pub AnswersInOneWay : Type 0
  AnswersInOneWay = (hosts : List H) (number : ℕ) (lent : Option ℕ) (arguments : List Val) (store : Store) (a b : Answer) (s t : Store) (hs gs : List H)
      → HostStep hosts number lent arguments store a s hs → HostStep hosts number lent arguments store b t gs → (a ≡ b) × (s ≡ t) × (hs ≡ gs)

  module _ (one : AnswersInOneWay) (at : State H) (frames : ℕ) where
    ends-agree : (n : Next) {e f : Ending} {s t : State H} → EndsAt at frames n e s → EndsAt at frames n f t → (e ≡ f) × (s ≡ t)
    ends-agree (Goes cost store frame configuration) (lt, e, s) (lt', f, t) = (e ∙ sym f, s ∙ sym t)
    ends-agree (Grows cost store frame configuration) (lt, e, s) (lt', f, t) = (e ∙ sym f, s ∙ sym t)
    ends-agree (Opens cost store configuration) (inl (lt, e, s)) (inl (lt', f, t)) = (e ∙ sym f, s ∙ sym t)
    ends-agree (Opens cost store configuration) (inl a) (inr b) = absurd (omega arith)
    ends-agree (Opens cost store configuration) (inr a) (inl b) = absurd (omega arith)
    ends-agree (Opens cost store configuration) (inr (le, deep, e, s)) (inr (le', deep', f, t)) = (e ∙ sym f, s ∙ sym t)
    ends-agree (CallsHost cost number lent arguments configuration) (inl (lt, e, s)) (inl (lt', f, t)) = (e ∙ sym f, s ∙ sym t)
    ends-agree (CallsHost cost number lent arguments configuration) (inl a) (inr b) = absurd (omega arith)
    ends-agree (CallsHost cost number lent arguments configuration) (inr a) (inl b) = absurd (omega arith)
    ends-agree (CallsHost cost number lent arguments configuration) {s = s} {t = t} (inr (c, le, k, host, e)) (inr (d, le', l, host', f)) =
        let (answers, stores, hosts) = one at.hosts number lent arguments at.store (HostTrap c) (HostTrap d) s.store t.store s.hosts t.hosts host host' in
        let codes : c ≡ d = cc in
        (e ∙ ap (λ (n : ℕ). WithTrap (Host n)) codes ∙ sym f, same-state s t stores hosts (k ∙ sym l))
    ends-agree (Traps cost trap) (inl (lt, e, s)) (inl (lt', f, t)) = (e ∙ sym f, s ∙ sym t)
    ends-agree (Traps cost trap) (inl a) (inr b) = absurd (omega arith)
    ends-agree (Traps cost trap) (inr a) (inl b) = absurd (omega arith)
    ends-agree (Traps cost trap) (inr (le, e, s)) (inr (le', f, t)) = (e ∙ sym f, s ∙ sym t)
    ends-agree (Branches label values) a b = absurd a
    ends-agree (Returns values) a b = absurd a
    ends-agree (TailCalls lent function values) a b = absurd a
    ends-agree (Over values) (e, s) (f, t) = (e ∙ sym f, s ∙ sym t)
    ends-agree NotReady a b = absurd a

    steps-agree : (n : Next) {s t : State H} {c d : Configuration} → StepsAt at frames n s c → StepsAt at frames n t d → (s ≡ t) × (c ≡ d)
    steps-agree (Goes cost store frame configuration) (le, s, c) (le', t, d) = (s ∙ sym t, c ∙ sym d)
    steps-agree (Grows cost store frame configuration) (le, s, c) (le', t, d) = (s ∙ sym t, c ∙ sym d)
    steps-agree (Opens cost store configuration) ((le, s, c), lt) ((le', t, d), lt') = (s ∙ sym t, c ∙ sym d)
    steps-agree (CallsHost cost number lent arguments configuration) {s} {t} (us, le, k, host, c) (vs, le', l, host', d) =
        let (answers, stores, hosts) = one at.hosts number lent arguments at.store (Results us) (Results vs) s.store t.store s.hosts t.hosts host host' in
        let results : us ≡ vs = cc in
        (same-state s t stores hosts (k ∙ sym l), c ∙ ap (λ (ws : List Val). answered ws configuration) results ∙ sym d)
    steps-agree (Traps cost trap) a b = absurd a
    steps-agree (Branches label values) a b = absurd a
    steps-agree (Returns values) a b = absurd a
    steps-agree (TailCalls lent function values) a b = absurd a
    steps-agree (Over values) a b = absurd a
    steps-agree NotReady a b = absurd a

    no-end : (n : Next) (s t : State H) (c : Configuration) (e : Ending) → StepsAt at frames n s c → EndsAt at frames n e t → ⊥
    no-end (Goes cost store frame configuration) s t c e a b = let le = a.0 in let lt = b.0 in omega arith
    no-end (Grows cost store frame configuration) s t c e a b = let le = a.0 in let lt = b.0 in omega arith
    no-end (Opens cost store configuration) s t c e a (inl b) = let le = a.0.0 in let lt = b.0 in omega arith
    no-end (Opens cost store configuration) s t c e a (inr b) = let lt = a.1 in let le = b.1 in omega arith
    no-end (CallsHost cost number lent arguments configuration) s t c e a (inl b) = let le = a.1 in let lt = b.0 in omega arith
    no-end (CallsHost cost number lent arguments configuration) s t c e (results, le, k, host, d) (inr (code, more, l, host', f)) =
        let (answers, stores, hosts) = one at.hosts number lent arguments at.store (Results results) (HostTrap code) s.store t.store s.hosts t.hosts host host' in cc
    no-end (Traps cost trap) s t c e a b = a
    no-end (Branches label values) s t c e a b = a
    no-end (Returns values) s t c e a b = a
    no-end (TailCalls lent function values) s t c e a b = a
    no-end (Over values) s t c e a b = a
    no-end NotReady s t c e a b = a

  -- Two runs from one start end alike, unless one of them ends out of memory.
  module _ (one : AnswersInOneWay) where
    abbrev EndAlike : Ending → Ending → State H → State H → Type 0
    EndAlike e f s t = (e ≡ OutOfMemory) ⊎ ((f ≡ OutOfMemory) ⊎ ((e ≡ f) × (s ≡ t)))

    pub Runs-agree : {at s t : State H} {configuration : Configuration} {e f : Ending} → Run HostStep bound outside at configuration e s
        → Run HostStep bound outside at configuration f t → EndAlike e f s t
    Runs-agree {at} {s} {t} {configuration} {e} {f} (end a) (end b) = both (IsEnd-at at configuration a) (IsEnd-at at configuration b)
      where
        both : (e ≡ OutOfMemory) ⊎ EndsAt at (depth configuration) (here at configuration) e s → (f ≡ OutOfMemory) ⊎ EndsAt at (depth configuration) (here at configuration) f t → EndAlike e f s t
        both (inl wants) other = inl wants
        both (inr x) (inl wants) = inr (inl wants)
        both (inr x) (inr y) = inr (inr (ends-agree one at (depth configuration) (here at configuration) x y))
    Runs-agree {at} {s} {t} {configuration} {e} {f} (end a) (step b more) = early (IsEnd-at at configuration a)
      where
        early : (e ≡ OutOfMemory) ⊎ EndsAt at (depth configuration) (here at configuration) e s → EndAlike e f s t
        early (inl wants) = inl wants
        early (inr x) = absurd (no-end one at (depth configuration) (here at configuration) _ _ _ _ (IsStep-at at configuration b) x)
    Runs-agree {at} {s} {t} {configuration} {e} {f} (step a more) (end b) = late (IsEnd-at at configuration b)
      where
        late : (f ≡ OutOfMemory) ⊎ EndsAt at (depth configuration) (here at configuration) f t → EndAlike e f s t
        late (inl wants) = inr (inl wants)
        late (inr x) = absurd (no-end one at (depth configuration) (here at configuration) _ _ _ _ (IsStep-at at configuration a) x)
    Runs-agree {at} {configuration = configuration} (step a more) (step b rest) =
        let (states, configurations) = steps-agree one at (depth configuration) (here at configuration) (IsStep-at at configuration a) (IsStep-at at configuration b) in
        Runs-agree more (rw (← states, ← configurations) at rest)
