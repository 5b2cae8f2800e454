-- Host functions that keep no state do not change, whatever runs.
use Rattle.std.proofs.Common.{◌≡◌, ℕ, zero, suc, List, [], ◌∷◌, Option, Some, ap, refl, subst, sym, ◌∙◌, slice_get, slice_set}
use Rattle.std.specs.List.{All}
use Rattle.core_types.specs.declared.module.Module.{Module}
use Rattle.core_types.specs.declared.outcome.Extern.{Extern}
use Rattle.core_types.specs.declared.outcome.Val.{Val}
use Rattle.core_types.specs.declared.types.FuncType.{FuncType}
use Rattle.meaning.specs.embedding.Commands.{Command, Reply}
use Rattle.meaning.specs.embedding.Machine.{Applies, AppliesAll, Embedding}
use Rattle.meaning.specs.embedding.Machine as machine
use Rattle.meaning.specs.execution.Configurations.{Configuration, Frame}
use Rattle.meaning.specs.execution.Hosts.{IsHostStep}
use Rattle.meaning.specs.execution.Modules.{Instantiation, RunTasks, Task, all_done, done, ended}
use Rattle.meaning.specs.execution.Runs.{Answer, Ending, IsEnd, IsStep, Run, State, goes, grows, opens, calls, values_left, trapped, host_trapped, no_fuel, no_depth, no_memory, end, step}
use Rattle.meaning.specs.execution.Store.{ModuleInstance, Store}
use Rattle.soundness.proofs.Values.{All-at}
use Rattle.isolation.proofs.Changes.{Change, call_run, command-change, fuel_set, link_failed, link_made, modules_loaded, name_registered, nothing_done}

-- Storing an item that was found back in its place changes nothing.
set-back : {X : Type 0} (xs : List X) (k : ℕ) (x : X) → slice_get xs k ≡ Some x → slice_set xs k x ≡ xs
set-back [] k x is = absurd cc
set-back (y ∷ ys) zero x is = let same : y ≡ x = cc in ap (λ (z : _). z ∷ ys) (sym same)
set-back (y ∷ ys) (suc k) x is = ap (λ (zs : List _). y ∷ zs) (set-back ys k x is)

module _ {H : Type 0} (host_type : H → FuncType) (Answers : H → List Val → List ℕ → Answer → List ℕ → H → Type 0) (KeepsStill : H → Type 0)
    (still : (h h' : H) (arguments : List Val) (bytes bytes' : List ℕ) (answer : Answer) → KeepsStill h → Answers h arguments bytes answer bytes' h' → host_type h' ≡ host_type h → h' ≡ h) where
  abbrev HostStep : List H → ℕ → Option ℕ → List Val → Store → Answer → Store → List H → Type 0
  HostStep = IsHostStep host_type Answers

  told-still : (hosts hosts' : List H) (number : ℕ) (lent : Option ℕ) (arguments : List Val) (store store' : Store) (answer : Answer)
      → All KeepsStill hosts → HostStep hosts number lent arguments store answer store' hosts' → hosts' ≡ hosts
  told-still hosts hosts' number lent arguments store store' answer kept (bytes', call, is) =
      let same = still call.host call.host' arguments _ bytes' answer (All-at KeepsStill hosts number call.host call.is kept) call.answers call.same_type in
      call.hosts_are ∙ ap (slice_set hosts number) same ∙ set-back hosts number call.host call.is

  module _ (bound : ℕ) (outside : Frame) where
    step-still : {old new : State H} {first then : Configuration} → All KeepsStill old.hosts → IsStep HostStep bound outside old first new then → new.hosts ≡ old.hosts
    step-still kept (goes is enough left same) = same
    step-still kept (grows is enough left same) = same
    step-still kept (opens is enough left same within) = same
    step-still {old} {new} kept (calls {number = number} {lent = lent} {arguments = arguments} {results = results} is enough left told answered) =
        told-still old.hosts new.hosts number lent arguments old.store new.store _ kept told

    end-still : {at last : State H} {c : Configuration} {ending : Ending} → All KeepsStill at.hosts → IsEnd HostStep bound outside at c ending last → last.hosts ≡ at.hosts
    end-still kept (values_left is e l) = ap (λ (s : State H). s.hosts) l
    end-still kept (trapped is enough e l) = ap (λ (s : State H). s.hosts) l
    end-still {at} {last} kept (host_trapped {number = number} {lent = lent} {arguments = arguments} is enough left told e) = told-still at.hosts
        last.hosts number lent arguments at.store last.store _ kept told
    end-still kept (no_fuel little e l) = ap (λ (s : State H). s.hosts) l
    end-still kept (no_depth is enough deep e l) = ap (λ (s : State H). s.hosts) l
    end-still kept (no_memory asks within enough e l) = ap (λ (s : State H). s.hosts) l

    run-still : {old last : State H} {c : Configuration} {ending : Ending} → All KeepsStill old.hosts → Run HostStep bound outside old c ending last → last.hosts ≡ old.hosts
    run-still kept (end is) = end-still kept is
    run-still kept (step first rest) = let same = step-still kept first in run-still (subst (All KeepsStill) (sym same) kept) rest ∙ same

  tasks-still : (bound n : ℕ) (i : ModuleInstance) {old last : State H} {tasks : List Task} {ending : Ending} → All KeepsStill old.hosts
      → RunTasks HostStep bound n i old tasks ending last → last.hosts ≡ old.hosts
  tasks-still bound n i kept all_done = refl
  tasks-still bound n i kept (done {a = a} is run rest) = let same = run-still bound a.frame kept run in tasks-still bound n i (subst (All KeepsStill) (sym same) kept) rest ∙ same
  tasks-still bound n i kept (ended {a = a} is run empty) = run-still bound a.frame kept run

  link-still : (bound : ℕ) (m : Module) (given : List Extern) {old new : State H} {ending : Ending} → All KeepsStill old.hosts
      → Instantiation HostStep bound m given old ending new → new.hosts ≡ old.hosts
  link-still bound m given kept link = tasks-still bound _ _ kept link.ran

  change-still : {old new : Embedding H} {command : Command} {reply : Reply} → All KeepsStill old.state.hosts → Change HostStep old command reply new → new.state.hosts ≡ old.state.hosts
  change-still kept (nothing_done r n) = ap (λ (e : Embedding H). e.state.hosts) n
  change-still kept (modules_loaded r n) = ap (λ (e : Embedding H). e.state.hosts) n
  change-still kept (name_registered c r n) = ap (λ (e : Embedding H). e.state.hosts) n
  change-still kept (fuel_set r n) = ap (λ (e : Embedding H). e.state.hosts) n
  change-still kept (call_run arguments run r n) = ap (λ (e : Embedding H). e.state.hosts) n ∙ run-still _ _ kept run
  change-still kept (link_made {m = m} {given = given} link c r n) = ap (λ (e : Embedding H). e.state.hosts) n ∙ link-still _ m given kept link
  change-still kept (link_failed {m = m} {given = given} link r n) = ap (λ (e : Embedding H). e.state.hosts) n ∙ link-still _ m given kept link

  pub command-still : (old new : Embedding H) (command : Command) (reply : Reply) → All KeepsStill old.state.hosts → Applies HostStep old command reply new → new.state.hosts ≡ old.state.hosts
  command-still old new command reply kept applies = change-still kept (command-change HostStep old new reply command applies)

  pub list-still : {old last : Embedding H} {commands : List Command} {replies : List Reply} → All KeepsStill old.state.hosts
      → AppliesAll HostStep old commands replies last → last.state.hosts ≡ old.state.hosts
  list-still kept machine.none = refl
  list-still {old} kept (machine.then_on {between = between} {command = command} {reply = reply} first rest) =
      let same = command-still old between command reply kept first in
      list-still (subst (All KeepsStill) (sym same) kept) rest ∙ same
