-- If host functions answer by a narrower relation as long as each keeps its own condition, a run of commands is a run over the narrower
-- relation.
use Rattle.std.proofs.Common.{◌≡◌, ℕ, List, ◌∷◌, ap, refl, subst, sym, slice_get}
use Rattle.std.specs.List.{All}
use Rattle.std.specs.Prelude.{Option, Some, None, Result, Ok, Err}
use Rattle.core_types.specs.declared.module.Module.{Module}
use Rattle.core_types.specs.declared.outcome.Extern.{Extern}
use Rattle.core_types.specs.declared.outcome.Val.{Val}
use Rattle.core_types.specs.declared.types.FuncType.{FuncType}
use Rattle.meaning.specs.embedding.Commands.{Command, Load, Link, Register, Call, GetGlobal, SetFuel, Refusal, Reply}
use Rattle.meaning.specs.embedding.Machine.{Applies, AppliesAll, CallsAt, Embedding, GetsAt, LinksAt, Loads, Refuses, RegistersAt, as_function, as_global, export_at}
use Rattle.meaning.specs.embedding.Machine as machine
use Rattle.meaning.specs.execution.Configurations.{Configuration, Frame}
use Rattle.meaning.specs.execution.Hosts.{IsHostCall, IsHostStep}
use Rattle.meaning.specs.execution.Modules.{Instantiation, RunTasks, Task, all_done, done, ended}
use Rattle.meaning.specs.execution.Runs.{Answer, Ending, IsEnd, IsStep, Run, State, goes, grows, opens, calls, values_left, trapped, host_trapped, no_fuel, no_depth, no_memory, end, step}
use Rattle.meaning.specs.execution.Store.{ModuleInstance, Store}
use Rattle.soundness.specs.Headline.{states_of}
use Rattle.soundness.proofs.Values.{All-at}
use Rattle.soundness.proofs.Writes.{All-set}

module _ {H : Type 0} (host_type : H → FuncType) (Answers Own : H → List Val → List ℕ → Answer → List ℕ → H → Type 0) (Keeps : H → Type 0)
    (narrow : (h h' : H) (arguments : List Val) (bytes bytes' : List ℕ) (answer : Answer) → Keeps h → Answers h arguments bytes answer bytes' h'
    → host_type h' ≡ host_type h → Own h arguments bytes answer bytes' h' × Keeps h') where
  abbrev Wide : List H → ℕ → Option ℕ → List Val → Store → Answer → Store → List H → Type 0
  Wide = IsHostStep host_type Answers

  abbrev Narrow : List H → ℕ → Option ℕ → List Val → Store → Answer → Store → List H → Type 0
  Narrow = IsHostStep host_type Own

  -- ---- host functions

  call-of-own : (hosts hosts' : List H) (number : ℕ) (arguments : List Val) (bytes bytes' : List ℕ) (answer : Answer) → All Keeps hosts
      → IsHostCall host_type Answers hosts number arguments bytes answer bytes' hosts'
      → IsHostCall host_type Own hosts number arguments bytes answer bytes' hosts' × All Keeps hosts'
  call-of-own hosts hosts' number arguments bytes bytes' answer kept call =
      let (own, keeps) = narrow call.host call.host' arguments bytes bytes' answer (All-at Keeps hosts number call.host call.is kept) call.answers call.same_type in (
        record {
          host = call.host;
          host' = call.host';
          is = call.is;
          answers = own;
          typed = call.typed;
          same_type = call.same_type;
          same_length = call.same_length;
          are_bytes = call.are_bytes;
          hosts_are = call.hosts_are;
        },
        subst (All Keeps) (sym call.hosts_are) (All-set Keeps hosts number call.host' kept keeps),
      )

  told-own : (hosts hosts' : List H) (number : ℕ) (lent : Option ℕ) (arguments : List Val) (store store' : Store) (answer : Answer) → All Keeps hosts
      → Wide hosts number lent arguments store answer store' hosts'
      → Narrow hosts number lent arguments store answer store' hosts' × All Keeps hosts'
  told-own hosts hosts' number lent arguments store store' answer kept (bytes, call, is) =
      let (own, keeps) = call-of-own hosts hosts' number arguments _ bytes answer kept call in ((bytes, own, is), keeps)

  -- ---- runs

  module _ (bound : ℕ) (outside : Frame) where
    step-of-own : {old new : State H} {first then : Configuration} → All Keeps old.hosts → IsStep Wide bound outside old first new then
        → IsStep Narrow bound outside old first new then × All Keeps new.hosts
    step-of-own kept (goes is enough left same) = (goes is enough left same, subst (All Keeps) (sym same) kept)
    step-of-own kept (grows is enough left same) = (grows is enough left same, subst (All Keeps) (sym same) kept)
    step-of-own kept (opens is enough left same within) = (opens is enough left same within, subst (All Keeps) (sym same) kept)
    step-of-own {old} {new} kept (calls is enough left told then) =
        let (own, keeps) = told-own old.hosts new.hosts _ _ _ old.store new.store _ kept told in (calls is enough left own then, keeps)

    stays-kept : {at last : State H} → All Keeps at.hosts → last ≡ at → All Keeps last.hosts
    stays-kept kept is = subst (λ (s : State H). All Keeps s.hosts) (sym is) kept

    end-of-own : {at last : State H} {reached : Configuration} {ending : Ending} → All Keeps at.hosts
        → IsEnd Wide bound outside at reached ending last → IsEnd Narrow bound outside at reached ending last × All Keeps last.hosts
    end-of-own kept (values_left is ending_is last_is) = (values_left is ending_is last_is, stays-kept kept last_is)
    end-of-own kept (trapped is enough ending_is last_is) = (trapped is enough ending_is last_is, subst (λ (s : State H). All Keeps s.hosts) (sym last_is) kept)
    end-of-own {at} {last} kept (host_trapped is enough left told ending_is) =
        let (own, keeps) = told-own at.hosts last.hosts _ _ _ at.store last.store _ kept told in (host_trapped is enough left own ending_is, keeps)
    end-of-own kept (no_fuel little ending_is last_is) = (no_fuel little ending_is last_is, stays-kept kept last_is)
    end-of-own kept (no_depth is enough deep ending_is last_is) = (no_depth is enough deep ending_is last_is, stays-kept kept last_is)
    end-of-own kept (no_memory asks within enough ending_is last_is) = (no_memory asks within enough ending_is last_is, stays-kept kept last_is)

    pub calls-of-own : {old last : State H} {first : Configuration} {ending : Ending} → All Keeps old.hosts
        → Run Wide bound outside old first ending last → Run Narrow bound outside old first ending last × All Keeps last.hosts
    calls-of-own kept (end is) = let (own, keeps) = end-of-own kept is in (end own, keeps)
    calls-of-own kept (step first rest) =
        let (own, keeps) = step-of-own kept first in
        let (others, kept_then) = calls-of-own keeps rest in
        (step own others, kept_then)

  -- ---- links

  tasks-of-own : (bound n : ℕ) (i : ModuleInstance) {old last : State H} {tasks : List Task} {ending : Ending} → All Keeps old.hosts → RunTasks Wide bound n i old tasks ending last
      → RunTasks Narrow bound n i old tasks ending last × All Keeps last.hosts
  tasks-of-own bound n i kept all_done = (all_done, kept)
  tasks-of-own bound n i kept (done {a = a} is run rest) =
      let (own, keeps) = calls-of-own bound a.frame kept run in
      let (others, kept_then) = tasks-of-own bound n i keeps rest in
      (done is own others, kept_then)
  tasks-of-own bound n i kept (ended {a = a} is run none) =
      let (own, keeps) = calls-of-own bound a.frame kept run in (ended is own none, keeps)

  pub link-of-own : (bound : ℕ) (m : Module) (given : List Extern) (old new : State H) (ending : Ending) → All Keeps old.hosts → Instantiation Wide bound m given old ending new
      → Instantiation Narrow bound m given old ending new × All Keeps new.hosts
  link-of-own bound m given old new ending kept link =
      let (own, keeps) = tasks-of-own bound _ _ kept link.ran in (record { objects = link.objects; allocated = link.allocated; ran = own }, keeps)

  -- ---- commands

  module _ (old new : Embedding H) (reply : Reply) (kept : All Keeps old.state.hosts) where
    still : new.state ≡ old.state → All Keeps new.state.hosts
    still same = subst (λ (s : State H). All Keeps s.hosts) (sym same) kept

    refused : {refusal : Refusal} → Refuses old refusal reply new → All Keeps new.state.hosts
    refused (reply_is, new_is) = subst (λ (e : Embedding H). All Keeps e.state.hosts) (sym new_is) kept

    loads-keeps : (bytes : List ℕ) → Loads old bytes reply new → All Keeps new.state.hosts
    loads-keeps bytes (machine.loaded decoded valid reply_is new_is) = subst (λ (e : Embedding H). All Keeps e.state.hosts) (sym new_is) kept
    loads-keeps bytes (machine.no_module none cause refuses) = refused refuses
    loads-keeps bytes (machine.not_valid decoded invalid refuses) = refused refuses
    loads-keeps bytes (machine.no_memory refuses) = refused refuses

    registers-keeps : (name : List ℕ) (instance : Option ℕ) → RegistersAt old name instance reply new → All Keeps new.state.hosts
    registers-keeps name None refuses = refused refuses
    registers-keeps name (Some instance) (machine.registered free reply_is new_is) = subst (λ (e : Embedding H). All Keeps e.state.hosts) (sym new_is) kept
    registers-keeps name (Some instance) (machine.taken has refuses) = refused refuses
    registers-keeps name (Some instance) (machine.no_memory free refuses) = refused refuses

    gets-keeps : (found : Result ℕ Refusal) → GetsAt old found reply new → All Keeps new.state.hosts
    gets-keeps (Err refusal) refuses = refused refuses
    gets-keeps (Ok address) (machine.got there reply_is new_is) = subst (λ (e : Embedding H). All Keeps e.state.hosts) (sym new_is) kept
    gets-keeps (Ok address) (machine.no_memory refuses) = refused refuses

    links-of-own : (found : Option Module) → LinksAt Wide old found reply new → LinksAt Narrow old found reply new × All Keeps new.state.hosts
    links-of-own None refuses = (refuses, refused refuses)
    links-of-own (Some m) (machine.linked {externs = externs} {state = state} resolved allowed run reply_is new_is) =
        let (own, keeps) = link-of-own old.setup.depth m externs old.state state _ kept run in
        (machine.linked resolved allowed own reply_is new_is, subst (λ (e : Embedding H). All Keeps e.state.hosts) (sym new_is) keeps)
    links-of-own (Some m) (machine.ended {externs = externs} {state = state} resolved allowed run none reply_is new_is) =
        let (own, keeps) = link-of-own old.setup.depth m externs old.state state _ kept run in
        (machine.ended resolved allowed own none reply_is new_is, subst (λ (e : Embedding H). All Keeps e.state.hosts) (sym new_is) keeps)
    links-of-own (Some m) (machine.unknown none refuses) = (machine.unknown none refuses, refused refuses)
    links-of-own (Some m) (machine.incompatible resolved differs refuses) = (machine.incompatible resolved differs refuses, refused refuses)
    links-of-own (Some m) (machine.too_large resolved given passes refuses) = (machine.too_large resolved given passes refuses, refused refuses)
    links-of-own (Some m) (machine.no_memory refuses) = (machine.no_memory refuses, refused refuses)

    call-command-of-own : (arguments : List Val) (found : Result ℕ Refusal) → CallsAt Wide old found arguments reply new → CallsAt Narrow old found arguments reply new × All Keeps new.state.hosts
    call-command-of-own arguments (Err refusal) refuses = (refuses, refused refuses)
    call-command-of-own arguments (Ok address) (machine.called takes run reply_is new_is) =
        let (own, keeps) = calls-of-own old.setup.depth _ kept run in
        (machine.called takes own reply_is new_is, subst (λ (e : Embedding H). All Keeps e.state.hosts) (sym new_is) keeps)
    call-command-of-own arguments (Ok address) (machine.bad_arguments none refuses) = (machine.bad_arguments none refuses, refused refuses)

    pub command-of-own : (command : Command) → Applies Wide old command reply new → Applies Narrow old command reply new × All Keeps new.state.hosts
    command-of-own (Load bytes) applies = (applies, loads-keeps bytes applies)
    command-of-own (Link number) applies = links-of-own (slice_get old.modules number) applies
    command-of-own (Register number name) applies = (applies, registers-keeps name (slice_get old.instances number) applies)
    command-of-own (Call number name arguments) applies = call-command-of-own arguments (as_function (export_at old number name)) applies
    command-of-own (GetGlobal number name) applies = (applies, gets-keeps (as_global (export_at old number name)) applies)
    command-of-own (SetFuel fuel) applies = (applies, subst (λ (e : Embedding H). All Keeps e.state.hosts) (sym applies.1) kept)

  -- The narrower run leads to the same embeddings.
  pub run-of-own : {old last : Embedding H} {commands : List Command} {replies : List Reply} → All Keeps old.state.hosts → (run : AppliesAll Wide old commands replies last)
      → (own : AppliesAll Narrow old commands replies last) × (states_of Narrow own ≡ states_of Wide run) × All Keeps last.state.hosts
  run-of-own kept machine.none = (machine.none, refl, kept)
  run-of-own {old} kept (machine.then_on {between = between} {command = command} {reply = reply} first rest) =
      let (own, keeps) = command-of-own old between reply kept command first in
      let (others, same, kept_then) = run-of-own keeps rest in
      (machine.then_on own others, ap (λ (states : List (Embedding H)). between ∷ states) same, kept_then)
