-- A run without host functions is a run over any host functions.
use Rattle.std.proofs.Common.{ℕ, List, refl, ap}
use Rattle.std.specs.Prelude.{Option}
use Rattle.core_types.specs.declared.outcome.Val.{Val}
use Rattle.meaning.specs.execution.Configurations.{Configuration, Frame}
use Rattle.meaning.specs.execution.Runs.{Answer, Ending, IsEnd, IsStep, NoHosts, Run, State, Steps}
use Rattle.meaning.specs.execution.Runs as of
use Rattle.meaning.specs.execution.Store.{Store}

-- The state with these host functions.
abbrev pub with_hosts : {H : Type 0} → List H → State ⊥ → State H
with_hosts hosts s = record { store = s.store; hosts = hosts; fuel = s.fuel }

module _ {H : Type 0} (HostStep : List H → ℕ → Option ℕ → List Val → Store → Answer → Store → List H → Type 0) (hosts : List H) (bound : ℕ) (outside : Frame) where
  pub step-over : {old new : State ⊥} {first second : Configuration} → IsStep NoHosts bound outside old first new second
      → IsStep HostStep bound outside (with_hosts hosts old) first (with_hosts hosts new) second
  step-over (of.goes is paid left same) = of.goes is paid left refl
  step-over (of.grows is paid left same) = of.grows is paid left refl
  step-over (of.opens is paid left same within) = of.opens is paid left refl within
  step-over (of.calls is paid left answers then) = absurd answers

  pub end-over : {at last : State ⊥} {configuration : Configuration} {ending : Ending} → IsEnd NoHosts bound outside at configuration ending last
      → IsEnd HostStep bound outside (with_hosts hosts at) configuration ending (with_hosts hosts last)
  end-over (of.values_left is e l) = of.values_left is e (ap (with_hosts hosts) l)
  end-over (of.trapped is paid e l) = of.trapped is paid e (ap (with_hosts hosts) l)
  end-over (of.host_trapped is paid left answers e) = absurd answers
  end-over (of.no_fuel lacks e l) = of.no_fuel lacks e (ap (with_hosts hosts) l)
  end-over (of.no_depth is paid past e l) = of.no_depth is paid past e (ap (with_hosts hosts) l)
  end-over (of.no_memory asks within paid e l) = of.no_memory asks within paid e (ap (with_hosts hosts) l)

  pub steps-over : {old new : State ⊥} {first second : Configuration} → Steps NoHosts bound outside old first new second
      → Steps HostStep bound outside (with_hosts hosts old) first (with_hosts hosts new) second
  steps-over of.none = of.none
  steps-over (of.one_more before last) = of.one_more (steps-over before) (step-over last)

  pub run-over : {old last : State ⊥} {configuration : Configuration} {ending : Ending} → Run NoHosts bound outside old configuration ending last
      → Run HostStep bound outside (with_hosts hosts old) configuration ending (with_hosts hosts last)
  run-over (of.end ends) = of.end (end-over ends)
  run-over (of.step first others) = of.step (step-over first) (run-over others)
