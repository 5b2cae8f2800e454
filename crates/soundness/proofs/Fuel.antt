-- Runs spend what they cost, and no command except the one that sets the fuel leaves more than there was.
use Rattle.std.proofs.Common.{◌≡◌, ℕ, ◌+◌, ◌≤◌, ◌-◌, List, Option, Some, None, ap, arith}
use Rattle.std.specs.Prelude.{Result, Ok, Err, slice_get}
use Rattle.core_types.specs.declared.module.Module.{Module}
use Rattle.core_types.specs.declared.outcome.Extern.{Extern}
use Rattle.core_types.specs.declared.outcome.Val.{Val}
use Rattle.meaning.specs.embedding.Commands.{Command, Load, Link, Register, Call, GetGlobal, SetFuel, Refusal, Reply}
use Rattle.meaning.specs.embedding.Machine.{Applies, CallsAt, Embedding, GetsAt, LinksAt, Loads, Refuses, RegistersAt, as_function, as_global, export_at}
use Rattle.meaning.specs.embedding.Machine as machine
use Rattle.meaning.specs.execution.Configurations.{Configuration, Frame}
use Rattle.meaning.specs.execution.Modules.{Instantiation, RunTasks, Task, all_done, done, ended}
use Rattle.meaning.specs.execution.Runs.{Answer, Ending, IsEnd, IsStep, Run, State, goes, grows, opens, calls, values_left, trapped, host_trapped, no_fuel, no_depth, no_memory, end, step}
use Rattle.meaning.specs.execution.Store.{ModuleInstance, Store}
use Rattle.soundness.specs.Costs.{cost_of_end, cost_of_link, cost_of_run, cost_of_step, cost_of_tasks}
use Rattle.soundness.specs.Embedding.{Spends}

module _ {H : Type 0} (HostStep : List H → ℕ → Option ℕ → List Val → Store → Answer → Store → List H → Type 0) where
  -- ---- runs

  module _ (bound : ℕ) (outside : Frame) where
    step-costs : {old new : State H} {first then : Configuration} (is : IsStep HostStep bound outside old first new then) → cost_of_step HostStep bound outside is + new.fuel ≡ old.fuel
    step-costs (goes is enough left hosts) = omega (arith, enough, left)
    step-costs (grows is enough left hosts) = omega (arith, enough, left)
    step-costs (opens is enough left hosts within) = omega (arith, enough, left)
    step-costs (calls is enough left told answered) = omega (arith, enough, left)

    nothing-spent : {at last : State H} → last ≡ at → 0 + last.fuel ≡ at.fuel
    nothing-spent last_is = let same = ap (λ (s : State H). s.fuel) last_is in omega (arith, same)

    end-costs : {at last : State H} {c : Configuration} {ending : Ending} (is : IsEnd HostStep bound outside at c ending last) → cost_of_end HostStep bound outside is + last.fuel ≡ at.fuel
    end-costs (values_left is ending_is last_is) = nothing-spent last_is
    end-costs {at} {last} (trapped {cost = cost} is enough ending_is last_is) = let left : last.fuel ≡ at.fuel - cost = ap (λ (s : State H). s.fuel) last_is in omega (arith, enough, left)
    end-costs (host_trapped is enough left told ending_is) = omega (arith, enough, left)
    end-costs (no_fuel little ending_is last_is) = nothing-spent last_is
    end-costs (no_depth is enough deep ending_is last_is) = nothing-spent last_is
    end-costs (no_memory asks within enough ending_is last_is) = nothing-spent last_is

    pub run-costs : {old last : State H} {c : Configuration} {ending : Ending} (run : Run HostStep bound outside old c ending last) → cost_of_run HostStep bound outside run + last.fuel ≡ old.fuel
    run-costs (end is) = end-costs is
    run-costs {old} {last} (step {between = between} first rest) =
        let one = step-costs first in
        let others = run-costs rest in
        omega (arith, one, others)

    pub run-spends : {old last : State H} {c : Configuration} {ending : Ending} → Run HostStep bound outside old c ending last → last.fuel ≤ old.fuel
    run-spends run = let all = run-costs run in omega (arith, all)

  -- ---- links

  tasks-cost : (bound n : ℕ) (i : ModuleInstance) {old last : State H} {tasks : List Task} {ending : Ending}
      (run : RunTasks HostStep bound n i old tasks ending last) → cost_of_tasks HostStep bound run + last.fuel ≡ old.fuel
  tasks-cost bound n i all_done = omega arith
  tasks-cost bound n i {old} {last} (done {between = between} {a = a} is run rest) =
      let one = run-costs bound a.frame run in
      let others = tasks-cost bound n i rest in
      omega (arith, one, others)
  tasks-cost bound n i (ended {a = a} is run none) = run-costs bound a.frame run

  pub link-costs : (bound : ℕ) (m : Module) (given : List Extern) {old new : State H} {ending : Ending}
      (link : Instantiation HostStep bound m given old ending new) → cost_of_link HostStep bound link + new.fuel ≡ old.fuel
  link-costs bound m given link = tasks-cost bound _ _ link.ran

  pub link-spends : (bound : ℕ) (m : Module) (given : List Extern) {old new : State H} {ending : Ending} → Instantiation HostStep bound m given old ending new → new.fuel ≤ old.fuel
  link-spends bound m given link = let all = link-costs bound m given link in omega (arith, all)

  -- ---- commands

  module _ (old new : Embedding H) (reply : Reply) where
    abbrev Less : Type 0
    Less = new.state.fuel ≤ old.state.fuel

    still : new.state.fuel ≡ old.state.fuel → Less
    still same = omega (arith, same)

    refused : {refusal : Refusal} → Refuses old refusal reply new → Less
    refused (reply_is, new_is) = still (ap (λ (e : Embedding H). e.state.fuel) new_is)

    -- The state afterwards is one that a run left.
    left-by : (state : State H) → new.state.fuel ≡ state.fuel → state.fuel ≤ old.state.fuel → Less
    left-by state is less = omega (arith, is, less)

    loads : (bytes : List ℕ) → Loads old bytes reply new → Less
    loads bytes (machine.loaded decoded valid reply_is new_is) = still (ap (λ (e : Embedding H). e.state.fuel) new_is)
    loads bytes (machine.no_module none cause refuses) = refused refuses
    loads bytes (machine.not_valid decoded invalid refuses) = refused refuses
    loads bytes (machine.no_memory refuses) = refused refuses

    links : (found : Option Module) → LinksAt HostStep old found reply new → Less
    links None refuses = refused refuses
    links (Some m) (machine.linked {externs = externs} {state = state} resolved allowed run reply_is new_is) =
        left-by state (ap (λ (e : Embedding H). e.state.fuel) new_is) (link-spends old.setup.depth m externs run)
    links (Some m) (machine.ended {externs = externs} {state = state} resolved allowed run none reply_is new_is) =
        left-by state (ap (λ (e : Embedding H). e.state.fuel) new_is) (link-spends old.setup.depth m externs run)
    links (Some m) (machine.unknown none refuses) = refused refuses
    links (Some m) (machine.incompatible resolved differs refuses) = refused refuses
    links (Some m) (machine.too_large resolved given passes refuses) = refused refuses
    links (Some m) (machine.no_memory refuses) = refused refuses

    registers : (name : List ℕ) (instance : Option ℕ) → RegistersAt old name instance reply new → Less
    registers name None refuses = refused refuses
    registers name (Some instance) (machine.registered free reply_is new_is) = still (ap (λ (e : Embedding H). e.state.fuel) new_is)
    registers name (Some instance) (machine.taken has refuses) = refused refuses
    registers name (Some instance) (machine.no_memory free refuses) = refused refuses

    calls-spend : (arguments : List Val) (found : Result ℕ Refusal) → CallsAt HostStep old found arguments reply new → Less
    calls-spend arguments (Err refusal) refuses = refused refuses
    calls-spend arguments (Ok address) (machine.called {state = state} takes run reply_is new_is) =
        left-by state (ap (λ (e : Embedding H). e.state.fuel) new_is) (run-spends old.setup.depth _ run)
    calls-spend arguments (Ok address) (machine.bad_arguments none refuses) = refused refuses

    gets : (found : Result ℕ Refusal) → GetsAt old found reply new → Less
    gets (Err refusal) refuses = refused refuses
    gets (Ok address) (machine.got there reply_is new_is) = still (ap (λ (e : Embedding H). e.state.fuel) new_is)
    gets (Ok address) (machine.no_memory refuses) = refused refuses

    pub applies-spends : (command : Command) → Applies HostStep old command reply new → Spends command old.state.fuel new.state.fuel
    applies-spends (Load bytes) applies = loads bytes applies
    applies-spends (Link number) applies = links (slice_get old.modules number) applies
    applies-spends (Register number name) applies = registers name (slice_get old.instances number) applies
    applies-spends (Call number name arguments) applies = calls-spend arguments (as_function (export_at old number name)) applies
    applies-spends (GetGlobal number name) applies = gets (as_global (export_at old number name)) applies
    applies-spends (SetFuel fuel) (reply_is, new_is) = ap (λ (e : Embedding H). e.state.fuel) new_is
