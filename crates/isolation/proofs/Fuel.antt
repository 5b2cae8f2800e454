-- Fuel is only a bound, and so is depth.
use Rattle.std.proofs.Common.{◌≡◌, ℕ, ◌+◌, ◌-◌, ◌<◌, ◌≤◌, ◌⊎◌, List, Option, reverse, refl, ap, sym, ◌∙◌, inl, inr, arith}
use Rattle.std.proofs.lemmas.Bool.{cases_lt}
use Rattle.std.specs.Prelude.{Result, Ok, Err}
use Rattle.core_types.specs.declared.outcome.Val.{Val}
use Rattle.meaning.specs.embedding.Commands.{Refusal, Ended}
use Rattle.meaning.specs.embedding.Machine.{CallsAt, Embedding, as_function, export_at}
use Rattle.meaning.specs.embedding.Machine as machine
use Rattle.meaning.proofs.lemmas.Runs.{AnswersInOneWay, Runs-agree, Steps-join}
use Rattle.meaning.specs.execution.Configurations.{Configuration, Frame, Invoking, depth, no_frame}
use Rattle.meaning.specs.execution.Instructions.{Next, Goes, Grows, Opens, CallsHost, Traps, Branches, Returns, TailCalls, Over, NotReady, next}
use Rattle.meaning.specs.execution.Runs.{Answer, Ending, IsEnd, IsStep, IsWithinBound, OutOfFuel, OutOfDepth, Run, State, goes, grows, opens, calls}
use Rattle.meaning.specs.execution.Runs.{values_left, trapped, host_trapped, no_fuel, no_depth, no_memory, end, step, none, one_more, price}
use Rattle.meaning.specs.execution.Store.{Store}
use Rattle.soundness.proofs.Fuel.{run-costs}
use Rattle.soundness.specs.Costs.{cost_of_step}
use Rattle.isolation.specs.Fuel.{CallsNeedNoDeeper, CallsNeedNoMore, EndsEarly, RunsAllEndEarly, RunsEndEarly, RunsNeedNoDeeper, RunsNeedNoMore, StepsNeedNoMore, bounded, fuelled, with_more}

pub with-fuel-left : {H : Type 0} (at : State H) (n less : ℕ) → at.fuel ≡ n + less → at ≡ with_more (record at { fuel = n }) less
with-fuel-left at n less same = ap (λ (f : ℕ). record at { fuel = f }) same

module _ {H : Type 0} (HostStep : List H → ℕ → Option ℕ → List Val → Store → Answer → Store → List H → Type 0) where
  module _ (bound : ℕ) (outside : Frame) where
    -- ---- more fuel

    step-more : {old new : State H} {first then : Configuration} (more : ℕ) → IsStep HostStep bound outside old first new then
        → IsStep HostStep bound outside (with_more old more) first (with_more new more) then
    step-more more (goes is enough left hosts) = goes is (omega (arith, enough)) (omega (arith, enough, left)) hosts
    step-more more (grows is enough left hosts) = grows is (omega (arith, enough)) (omega (arith, enough, left)) hosts
    step-more more (opens is enough left hosts within) = opens is (omega (arith, enough)) (omega (arith, enough, left)) hosts within
    step-more more (calls is enough left told then) = calls is (omega (arith, enough)) (omega (arith, enough, left)) told then

    pub steps-more : StepsNeedNoMore HostStep bound outside
    steps-more old at first reached more none = none
    steps-more old at first reached more (one_more {between = between} {second = second} before last) = one_more (steps-more old between first second more before) (step-more more last)

    end-more : {at last : State H} {c : Configuration} {ending : Ending} (more : ℕ) → IsEnd HostStep bound outside at c ending last → (ending ≡ OutOfFuel → ⊥)
        → IsEnd HostStep bound outside (with_more at more) c ending (with_more last more)
    end-more more (values_left is e l) enough = values_left is e (ap (λ (s : State H). with_more s more) l)
    end-more {at} {last} more (trapped {cost = cost} is le e l) enough =
        let same : (at.fuel - cost) + more ≡ (at.fuel + more) - cost = omega (arith, le) in
        trapped is (omega (arith, le)) e (ap (λ (s : State H). with_more s more) l ∙ ap (λ (n : ℕ). record at { fuel = n }) same)
    end-more more (host_trapped is le left told e) enough = host_trapped is (omega (arith, le)) (omega (arith, le, left)) told e
    end-more more (no_fuel little e l) enough = absurd (enough e)
    end-more more (no_depth is le deep e l) enough = no_depth is (omega (arith, le)) deep e (ap (λ (s : State H). with_more s more) l)
    end-more more (no_memory asks within le e l) enough = no_memory asks within (omega (arith, le)) e (ap (λ (s : State H). with_more s more) l)

    pub runs-more : RunsNeedNoMore HostStep bound outside
    runs-more old last first ending more (end is) enough = end (end-more more is enough)
    runs-more old last first ending more (step {between = between} {configuration' = then} one rest) enough = step (step-more more one) (runs-more between last then ending more rest enough)

    -- ---- less fuel

    module _ (old : State H) (first : Configuration) (less : ℕ) where
      at-once : old.fuel < price (next old.store outside first) → EndsEarly HostStep bound outside old first less
      at-once little = record {
        at = old;
        reached = first;
        same_steps = none;
        steps = none;
        passes_fuel = little;
        ends = end (no_fuel little refl refl);
      }

    price-of-step : {old new : State H} {first then : Configuration} (is : IsStep HostStep bound outside old first new then)
        → price (next old.store outside first) ≡ cost_of_step HostStep bound outside is
    price-of-step (goes is enough left hosts) = rw is refl
    price-of-step (grows is enough left hosts) = rw is refl
    price-of-step (opens is enough left hosts within) = rw is refl
    price-of-step (calls is enough left told then) = rw is refl

    -- The same step with other fuel.
    step-with : {old new : State H} {first then : Configuration} (is : IsStep HostStep bound outside old first new then) (n : ℕ) → cost_of_step HostStep bound outside is ≤ n
        → IsStep HostStep bound outside (record old { fuel = n }) first (record new { fuel = n - cost_of_step HostStep bound outside is }) then
    step-with (goes is enough left hosts) n pays = goes is pays refl hosts
    step-with (grows is enough left hosts) n pays = grows is pays refl hosts
    step-with (opens is enough left hosts within) n pays = opens is pays refl hosts within
    step-with (calls is enough left told then) n pays = calls is pays refl told then

    step-left : {old new : State H} {first then : Configuration} (is : IsStep HostStep bound outside old first new then) → new.fuel ≡ old.fuel - cost_of_step HostStep bound outside is
    step-left (goes is enough left hosts) = left
    step-left (grows is enough left hosts) = left
    step-left (opens is enough left hosts within) = left
    step-left (calls is enough left told then) = left

    -- ---- the same with less fuel, or early

    -- The run ends the same from a state with less fuel, and that much less is left.
    abbrev Fits : (old : State H) (first : Configuration) (ending : Ending) (last : State H) (less : ℕ) → Type 0
    Fits old first ending last less = (last' : State H) × Run HostStep bound outside old first ending last' × (last ≡ with_more last' less)

    end-less : {at last : State H} {first : Configuration} {ending : Ending} → IsEnd HostStep bound outside at first ending last → (n less : ℕ) → at.fuel ≡ n + less
        → Fits (record at { fuel = n }) first ending last less ⊎ EndsEarly HostStep bound outside (record at { fuel = n }) first less
    end-less {at} (values_left is e l) n less same = inl (record at { fuel = n }, end (values_left is e refl), l ∙ with-fuel-left at n less same)
    end-less {at} {first = first} (trapped {cost = cost} is le e l) n less same = elim (cases_lt n cost) [
      | inl short ↦ inr (at-once (record at { fuel = n }) first less (rw is short))
      | inr pays ↦ inl (record at { fuel = n - cost }, end (trapped is pays e refl), l ∙ ap (λ (f : ℕ). record at { fuel = f }) (omega (arith, same, pays)))
    ]
    end-less {at} {last} {first} (host_trapped {cost = cost} is le left told e) n less same = elim (cases_lt n cost) [
      | inl short ↦ inr (at-once (record at { fuel = n }) first less (rw is short))
      | inr pays ↦ inl (record last { fuel = n - cost }, end (host_trapped is pays refl told e), ap (λ (f : ℕ). record last { fuel = f }) (omega (arith, same, pays, left)))
    ]
    end-less {at} (no_fuel little e l) n less same = inl (record at { fuel = n }, end (no_fuel (omega (arith, little, same)) e refl), l ∙ with-fuel-left at n less same)
    end-less {at} {first = first} (no_depth {cost = cost} is le deep e l) n less same = elim (cases_lt n cost) [
      | inl short ↦ inr (at-once (record at { fuel = n }) first less (rw is short))
      | inr pays ↦ inl (record at { fuel = n }, end (no_depth is pays deep e refl), l ∙ with-fuel-left at n less same)
    ]
    end-less {at} {first = first} (no_memory asks within le e l) n less same = elim (cases_lt n (price (next at.store outside first))) [
      | inl short ↦ inr (at-once (record at { fuel = n }) first less short)
      | inr pays ↦ inl (record at { fuel = n }, end (no_memory asks within pays e refl), l ∙ with-fuel-left at n less same)
    ]

    pub run-less : {at last : State H} {first : Configuration} {ending : Ending} → Run HostStep bound outside at first ending last → (n less : ℕ) → at.fuel ≡ n + less
        → Fits (record at { fuel = n }) first ending last less ⊎ EndsEarly HostStep bound outside (record at { fuel = n }) first less
    run-less (end is) n less same = end-less is n less same
    run-less {at} {last} {first} (step {between = between} {configuration' = then} one rest) n less same = elim (cases_lt n (cost_of_step HostStep bound outside one)) [
      | inl short ↦ inr (at-once (record at { fuel = n }) first less (rw (price-of-step one) short))
      | inr pays ↦
          let left = step-left one in
          let paid = step-with one n pays in
          elim (run-less rest (n - cost_of_step HostStep bound outside one) less (omega (arith, left, same, pays))) [
            | inl fits ↦ inl (fits.0, step paid fits.1, fits.2)
            | inr others ↦ inr (record {
              at = others.at;
              reached = others.reached;
              same_steps = Steps-join HostStep bound outside (one_more none (step-more less paid)) others.same_steps;
              steps = Steps-join HostStep bound outside (one_more none paid) others.steps;
              passes_fuel = others.passes_fuel;
              ends = step paid others.ends;
            })
          ]
    ]

    pub runs-end-early : RunsEndEarly HostStep bound outside
    runs-end-early old last first ending less run little = elim (run-less run old.fuel less refl) [
      | inl fits ↦
          let costs = run-costs HostStep bound outside run in
          let left : last.fuel ≡ fits.0.fuel + less = ap (λ (s : State H). s.fuel) fits.2 in
          absurd (let wrong : ⊥ = omega (arith, costs, left, little) in wrong)
      | inr early ↦ early
    ]

    pub all-end-early : AnswersInOneWay HostStep bound outside → RunsAllEndEarly HostStep bound outside
    all-end-early one old last last' first ending ending' less run little other some = elim (Runs-agree HostStep bound outside one (runs-end-early old last first ending less run little).ends other) [
      | inl wants ↦ absurd cc
      | inr (inl wants) ↦ absurd (some wants)
      | inr (inr same) ↦ sym same.0
    ]

  pub calls-more : CallsNeedNoMore HostStep
  calls-more old new number name arguments reply more applies enough = go (as_function (export_at old number name)) applies
    where
      go : (found : Result ℕ Refusal) → CallsAt HostStep old found arguments reply new → CallsAt HostStep (fuelled old more) found arguments reply (fuelled new more)
      go (Ok address) (machine.called {ending = ending} {state = state} takes run r n) =
          machine.called takes (runs-more old.setup.depth no_frame old.state state (Invoking (reverse arguments) address) ending more run
          (λ e. enough (r ∙ ap Ended e))) r (ap (λ (z : Embedding H). fuelled z more) n)
      go (Ok address) (machine.bad_arguments misfit (r, n)) = machine.bad_arguments misfit (r, ap (λ (z : Embedding H). fuelled z more) n)
      go (Err why) (r, n) = (r, ap (λ (z : Embedding H). fuelled z more) n)

  -- ---- depth

  module _ (bound deeper : ℕ) (more : bound ≤ deeper) (outside : Frame) where
    step-deeper : {old new : State H} {first then : Configuration} → IsStep HostStep bound outside old first new then → IsStep HostStep deeper outside old first new then
    step-deeper (goes is enough left hosts) = goes is enough left hosts
    step-deeper (grows is enough left hosts) = grows is enough left hosts
    step-deeper (opens is enough left hosts within) = opens is enough left hosts (omega (arith, within, more))
    step-deeper (calls is enough left told then) = calls is enough left told then

    within-deeper : (frames : ℕ) (n : Next) → IsWithinBound bound frames n → IsWithinBound deeper frames n
    within-deeper frames (Goes cost store frame c) within = tt
    within-deeper frames (Grows cost store frame c) within = tt
    within-deeper frames (Opens cost store c) within = omega (arith, within, more)
    within-deeper frames (CallsHost cost number lent arguments c) within = tt
    within-deeper frames (Traps cost trap) within = tt
    within-deeper frames (Branches label values) within = tt
    within-deeper frames (Returns values) within = tt
    within-deeper frames (TailCalls lent f values) within = tt
    within-deeper frames (Over values) within = tt
    within-deeper frames NotReady within = tt

    end-deeper : {at last : State H} {c : Configuration} {ending : Ending} → IsEnd HostStep bound outside at c ending last → (ending ≡ OutOfDepth → ⊥) → IsEnd HostStep deeper outside at c ending last
    end-deeper (values_left is e l) enough = values_left is e l
    end-deeper (trapped is le e l) enough = trapped is le e l
    end-deeper (host_trapped is le left told e) enough = host_trapped is le left told e
    end-deeper (no_fuel little e l) enough = no_fuel little e l
    end-deeper (no_depth is le deep e l) enough = absurd (enough e)
    end-deeper {at} {c = c} (no_memory asks within le e l) enough = no_memory asks (within-deeper (depth c) (next at.store outside c) within) le e l

    run-deeper : {old last : State H} {first : Configuration} {ending : Ending} → Run HostStep bound outside old first ending last
        → (ending ≡ OutOfDepth → ⊥) → Run HostStep deeper outside old first ending last
    run-deeper (end is) enough = end (end-deeper is enough)
    run-deeper (step one rest) enough = step (step-deeper one) (run-deeper rest enough)

  pub runs-deeper : RunsNeedNoDeeper HostStep
  runs-deeper bound deeper outside old last first ending more run enough = run-deeper bound deeper more outside run enough

  pub calls-deeper : CallsNeedNoDeeper HostStep
  calls-deeper old new number name arguments reply deeper more applies enough = go (as_function (export_at old number name)) applies
    where
      go : (found : Result ℕ Refusal) → CallsAt HostStep old found arguments reply new → CallsAt HostStep (bounded old deeper) found arguments reply (bounded new deeper)
      go (Ok address) (machine.called {ending = ending} {state = state} takes run r n) =
          machine.called takes (runs-deeper old.setup.depth deeper no_frame old.state state (Invoking (reverse arguments) address) ending more run
          (λ e. enough (r ∙ ap Ended e))) r (ap (λ (z : Embedding H). bounded z deeper) n)
      go (Ok address) (machine.bad_arguments misfit (r, n)) = machine.bad_arguments misfit (r, ap (λ (z : Embedding H). bounded z deeper) n)
      go (Err why) (r, n) = (r, ap (λ (z : Embedding H). bounded z deeper) n)
