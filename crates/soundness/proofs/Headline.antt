-- The headline, for any host functions.
use Rattle.std.proofs.Common.{◌≡◌, ◌⊎◌, inl, inr, ℕ, ◌<◌, ◌≤◌, List, [], ◌∷◌, ◌∙◌, length, reverse, refl, ap, sym, subst, arith, slice_get}
use Rattle.std.proofs.lemmas.Option.{same_Some}
use Rattle.std.specs.List.{All}
use Rattle.std.specs.Prelude.{Option, Some, None, Result}
use Rattle.core_types.specs.declared.module.Module.{Module}
use Rattle.core_types.specs.declared.outcome.Extern.{Extern}
use Rattle.core_types.specs.declared.outcome.Val.{Val}
use Rattle.core_types.specs.declared.types.FuncType.{FuncType}
use Rattle.core_types.specs.declared.types.ValType.{ValType}
use Rattle.meaning.proofs.lemmas.Runs.{Steps-join}
use Rattle.meaning.specs.embedding.Commands.{Command, Load, Link, Register, Call, GetGlobal, SetFuel, Refusal, Reply}
use Rattle.meaning.specs.embedding.Machine.{Applies, AppliesAll, Calls, CallsAt, Embedding, Links, LinksAt, Refuses, as_function, export_at, resolve_imports}
use Rattle.meaning.specs.embedding.Commands as commands
use Rattle.meaning.specs.embedding.Machine as machine
use Rattle.meaning.specs.execution.Configurations.{Configuration, Frame, Invoking, depth, no_frame}
use Rattle.meaning.specs.execution.Hosts.{IsHostStep}
use Rattle.meaning.specs.execution.Instructions.{Next, Opens, next}
use Rattle.meaning.specs.execution.Modules.{AreGiven, HasNoValues, Instantiation, IsAllowed, RunTasks, Task, all_done, done, ended, new_instance}
use Rattle.meaning.specs.execution.Runs.{Answer, Ending, WithValues, WithTrap, OutOfFuel, OutOfDepth, OutOfMemory, IsEnd, IsWithinBound, Run, State, Steps}
use Rattle.meaning.specs.execution.Runs.{none, one_more, values_left, trapped, host_trapped, no_fuel, no_depth, no_memory, end, step}
use Rattle.meaning.specs.execution.Store.{ModuleInstance, Store}
use Rattle.meaning.specs.soundness.Values.{TakesArguments}
use Rattle.meaning.specs.structure.Bodies.{Body, body_of, writing}
use Rattle.soundness.specs.Configurations.{ConfigurationHasType}
use Rattle.soundness.specs.Embedding.{IsSound, LinksSoundModule, LoadsBytes}
use Rattle.soundness.specs.Headline.{AllAreAsSaid, CallIsAsSaid, CallLeadsTo, EndsAsSaid, Headline, IsAsSaid, LinkIsAsSaid, TasksLeadTo, WouldAskForMemory}
use Rattle.soundness.specs.Headline.{WouldPassDepth, WouldPassFuel, by_steps, later, with_values_of_its_result_types, with_a_named_trap, out_of_fuel}
use Rattle.soundness.specs.Headline.{out_of_depth, out_of_memory, reply_to_link}
use Rattle.soundness.specs.Hosts.{AreReady}
use Rattle.soundness.specs.Links.{IsSoundModule}
use Rattle.soundness.specs.Places.{outermost}
use Rattle.soundness.specs.Runs.{EndsWell}
use Rattle.soundness.proofs.Creation.{fresh-sound}
use Rattle.soundness.proofs.Decoded.{All-behind}
use Rattle.soundness.proofs.Embedding.{goes-well, links-linkable, modules-after, one-of}
use Rattle.soundness.proofs.Fuel.{link-costs, run-costs}
use Rattle.soundness.proofs.Hosts.{hosts-answer-well, ready-linked, ready-still}
use Rattle.soundness.proofs.Links.{ends-anyway, links-never-stuck}
use Rattle.soundness.proofs.Objects.{All-none}
use Rattle.soundness.proofs.Runs.{never-goes-wrong, never-stuck, out}
use Rattle.soundness.proofs.Values.{values-reversed}

-- ---- how a run ends

module _ {H : Type 0} (HostStep : List H → ℕ → Option ℕ → List Val → Store → Answer → Store → List H → Type 0) (bound : ℕ) where
  -- A run is steps, and then an end.
  record Reaches (outside : Frame) (old : State H) (first : Configuration) (ending : Ending) (last : State H) : Type 0 where
    at : State H
    reached : Configuration
    steps : Steps HostStep bound outside old first at reached
    ends : IsEnd HostStep bound outside at reached ending last

  reaches : {outside : Frame} {old last : State H} {first : Configuration} {ending : Ending} → Run HostStep bound outside old first ending last → Reaches outside old first ending last
  reaches {outside} {old} {last} {first} (end is) = record { at = old; reached = first; steps = none; ends = is }
  reaches {outside} (step next_step rest) =
      let then = reaches rest in
      record { at = then.at; reached = then.reached; steps = Steps-join HostStep bound outside (one_more none next_step) then.steps; ends = then.ends }

  passes : (n : Next) (frames : ℕ) {cost : ℕ} {store : Store} {c : Configuration} → n ≡ Opens cost store c → bound ≤ frames → IsWithinBound bound frames n → ⊥
  passes n frames is deep within = let less : frames < bound = subst (IsWithinBound bound frames) is within in omega (arith, less, deep)

  module _ (outside : Frame) (results : List ValType) (LeadsTo : State H → Frame → Configuration → Type 0) where
    module _ (at last : State H) (reached : Configuration) (leads : LeadsTo at outside reached) where
      leads-to-last : last ≡ at → LeadsTo last outside reached
      leads-to-last last_is = subst (λ (s : State H). LeadsTo s outside reached) (sym last_is) leads

      end-is-said : {ending : Ending} → EndsWell last.store results ending → IsEnd HostStep bound outside at reached ending last → EndsAsSaid bound results LeadsTo ending last
      end-is-said well (values_left is ending_is last_is) = with_values_of_its_result_types ending_is (subst (EndsWell last.store results) ending_is well)
      end-is-said well (trapped is enough ending_is last_is) = with_a_named_trap ending_is
      end-is-said well (host_trapped is enough left told ending_is) = with_a_named_trap ending_is
      end-is-said well (no_fuel little ending_is last_is) = out_of_fuel ending_is (leads-to-last last_is) (subst (λ (s : State H). WouldPassFuel s outside reached) (sym last_is) little)
      end-is-said well (no_depth is enough deep ending_is last_is) =
          out_of_depth ending_is (leads-to-last last_is)
          (subst (λ (s : State H). WouldPassDepth bound s outside reached) (sym last_is) (passes (next at.store outside reached) (depth reached) is deep))
      end-is-said well (no_memory asks within enough ending_is last_is) = out_of_memory ending_is (leads-to-last last_is)
          (subst (λ (s : State H). WouldAskForMemory s outside reached) (sym last_is) asks)

    -- The same for a run whose steps lead there.
    run-is-said : {old last : State H} {first : Configuration} {ending : Ending}
        → ((at : State H) (reached : Configuration) → Steps HostStep bound outside old first at reached → LeadsTo at outside reached)
        → EndsWell last.store results ending → Run HostStep bound outside old first ending last → EndsAsSaid bound results LeadsTo ending last
    run-is-said {last = last} leads well run =
        let then = reaches run in
        end-is-said then.at last then.reached (leads then.at then.reached then.steps) well then.ends

-- An ending that is as stated for one relation is as stated for a wider one.
further : {H : Type 0} (bound : ℕ) (results : List ValType) (LeadsTo LeadsFurther : State H → Frame → Configuration → Type 0)
    → ((at : State H) (frame : Frame) (reached : Configuration) → LeadsTo at frame reached → LeadsFurther at frame reached)
    → {ending : Ending} {last : State H} → EndsAsSaid bound results LeadsTo ending last → EndsAsSaid bound results LeadsFurther ending last
further bound results LeadsTo LeadsFurther on (with_values_of_its_result_types is typed) = with_values_of_its_result_types is typed
further bound results LeadsTo LeadsFurther on (with_a_named_trap is) = with_a_named_trap is
further bound results LeadsTo LeadsFurther on (out_of_fuel is leads passes) = out_of_fuel is (on _ _ _ leads) passes
further bound results LeadsTo LeadsFurther on (out_of_depth is leads passes) = out_of_depth is (on _ _ _ leads) passes
further bound results LeadsTo LeadsFurther on (out_of_memory is leads asks) = out_of_memory is (on _ _ _ leads) asks

-- ---- how a link ends

module _ {H : Type 0} (HostStep : List H → ℕ → Option ℕ → List Val → Store → Answer → Store → List H → Type 0) (bound instance : ℕ) (i : ModuleInstance) where
  abbrev Leads : State H → List Task → State H → Frame → Configuration → Type 0
  Leads old tasks at frame reached = TasksLeadTo HostStep bound instance i at frame reached old tasks

  tasks-are-said : {old last : State H} {tasks : List Task} {ending : Ending} → RunTasks HostStep bound instance i old tasks ending last → EndsAsSaid bound [] (Leads old tasks) ending last
  tasks-are-said all_done = with_values_of_its_result_types refl tt
  tasks-are-said {old} {last} {tasks = task ∷ tasks} (done {between = between} is run rest) =
      further bound [] (Leads between tasks) (Leads old (task ∷ tasks)) (λ at frame reached leads. later is run leads) (tasks-are-said rest)
  tasks-are-said {old} {last} {tasks = task ∷ tasks} {ending} (ended {a = a} is run no_values) =
      run-is-said HostStep bound a.frame [] (Leads old (task ∷ tasks)) (λ at reached steps. by_steps is refl steps) (ends-anyway last.store [] ending no_values) run

-- The reply to a link that ended without values.
ended-so : (number : ℕ) (ending : Ending) → HasNoValues ending → commands.Ended ending ≡ reply_to_link number ending
ended-so number (WithValues values) no_values = absurd no_values
ended-so number (WithTrap trap) no_values = refl
ended-so number OutOfFuel no_values = refl
ended-so number OutOfDepth no_values = refl
ended-so number OutOfMemory no_values = refl

-- ---- calls and links

module _ {H : Type 0} (host_type : H → FuncType) (Answers : H → List Val → List ℕ → Answer → List ℕ → H → Type 0) where
  abbrev HostStep : List H → ℕ → Option ℕ → List Val → Store → Answer → Store → List H → Type 0
  HostStep = IsHostStep host_type Answers

  module _ (old : Embedding H) (sound : IsSound host_type old) (address : ℕ) (arguments : List Val) where
    call-is-said : {ending : Ending} {last : State H} → TakesArguments old.state.store address arguments
        → Run HostStep old.setup.depth no_frame old.state (Invoking (reverse arguments) address) ending last
        → CallIsAsSaid HostStep old.setup.depth old.state address arguments ending last
    call-is-said {ending} {last} (f, there, typed) run =
        let first = Invoking (reverse arguments) address in
        let starts : ConfigurationHasType old.state.store outermost first f.ty.results = (f, there, values-reversed old.state.store arguments f.ty.params typed, refl) in
        let ended = never-goes-wrong HostStep (AreReady host_type) (ready-still host_type) (hosts-answer-well host_type Answers) old.setup.depth no_frame outermost old.state last
        first f.ty.results ending out sound.valid sound.ready starts run in
        record {
          by_the_reduction = run;
          spends_at_most_its_fuel = run-costs HostStep old.setup.depth no_frame run;
          never_goes_wrong = never-stuck HostStep (AreReady host_type) (ready-still host_type) (hosts-answer-well host_type Answers) old.setup.depth no_frame outermost old.state
              first f.ty.results out sound.valid sound.ready starts;
          ends = rw there (run-is-said HostStep old.setup.depth no_frame f.ty.results (CallLeadsTo HostStep old.setup.depth old.state first) (λ at reached steps. (refl, steps)) ended.ends run);
        }

    calls-are-said : (reply : Reply) (new : Embedding H) → TakesArguments old.state.store address arguments → Calls HostStep old address arguments reply new
        → (ending : Ending) × (reply ≡ commands.Ended ending) × CallIsAsSaid HostStep old.setup.depth old.state address arguments ending new.state
    calls-are-said reply new takes (machine.called {ending = ending} {state = state} fit run reply_is new_is) = (
      ending,
      reply_is,
      subst (λ (s : State H). CallIsAsSaid HostStep old.setup.depth old.state address arguments ending s)
          (sym (ap (λ (e : Embedding H). e.state) new_is)) (call-is-said takes run),
    )
    calls-are-said reply new takes (machine.bad_arguments untyped refuses) = absurd (untyped takes)

  module _ (read : (b : Body) → body_of (writing b) ≡ b) (old : Embedding H) (sound : IsSound host_type old) (m : Module) (sound_module : IsSoundModule m) (given : List Extern)
      (resolved : resolve_imports old.state.store old.names m.imports ≡ Some given) (allowed : IsAllowed old.state.store m given) where
    link-is-said : {ending : Ending} {last : State H} → Instantiation HostStep old.setup.depth m given old.state ending last → LinkIsAsSaid HostStep old.setup.depth old.state m given ending last
    link-is-said link =
        let linkable = links-linkable old.state.store old.names m sound_module given resolved allowed in
        let number = length old.state.store.instances in
        let i = new_instance old.state.store m given in
        record {
          by_the_reduction = link;
          spends_at_most_its_fuel = link-costs HostStep old.setup.depth m given link;
          never_goes_wrong = links-never-stuck read HostStep (AreReady host_type) (ready-still host_type) (ready-linked host_type)
              (hosts-answer-well host_type Answers) old.setup.depth m given old.state link.objects
              sound.valid sound.ready linkable link.allocated;
          ends = tasks-are-said HostStep old.setup.depth number i link.ran;
        }

    links-are-said : (reply : Reply) (new : Embedding H) → Links HostStep old m reply new
        → Refuses old commands.OutOfMemory reply new
        ⊎ ((ending : Ending) × (reply ≡ reply_to_link (length old.instances) ending)
        × LinkIsAsSaid HostStep old.setup.depth old.state m given ending new.state)
    links-are-said reply new (machine.linked {externs = externs} {state = state} resolved_too allowed_too link reply_is new_is) =
        let same : externs ≡ given = same_Some externs given (sym resolved_too ∙ resolved) in
        let said = link-is-said (subst (λ (es : List Extern). Instantiation HostStep old.setup.depth m es old.state (WithValues []) state) same link) in
        inr (WithValues [], reply_is, subst (λ (s : State H). LinkIsAsSaid HostStep old.setup.depth old.state m given (WithValues []) s) (sym (ap (λ (e : Embedding H). e.state) new_is)) said)
    links-are-said reply new (machine.ended {externs = externs} {ending = ending} {state = state} resolved_too allowed_too link no_values reply_is new_is) =
        let same : externs ≡ given = same_Some externs given (sym resolved_too ∙ resolved) in
        let said = link-is-said (subst (λ (es : List Extern). Instantiation HostStep old.setup.depth m es old.state ending state) same link) in
        inr (
          ending,
          reply_is ∙ ended-so (length old.instances) ending no_values,
          subst (λ (s : State H). LinkIsAsSaid HostStep old.setup.depth old.state m given ending s) (sym (ap (λ (e : Embedding H). e.state) new_is)) said,
        )
    links-are-said reply new (machine.unknown nothing refuses) = absurd (let wrong = sym nothing ∙ resolved in cc)
    links-are-said reply new (machine.incompatible {externs = externs} resolved_too differs refuses) =
        absurd (differs (subst (λ (es : List Extern). AreGiven old.state.store m m.imports es) (same_Some given externs (sym resolved ∙ resolved_too)) allowed.given))
    links-are-said reply new (machine.too_large resolved_too fits too_large refuses) = absurd (too_large allowed.within)
    links-are-said reply new (machine.no_memory refuses) = inl refuses

  -- ---- commands

  pub is-said : ((b : Body) → body_of (writing b) ≡ b) → (old new : Embedding H) → IsSound host_type old → (command : Command)
      → LinksSoundModule old command → (reply : Reply) → Applies HostStep old command reply new
      → IsAsSaid HostStep old command reply new
  is-said read old new sound (Load bytes) linkable reply applies = tt
  is-said read old new sound (Link number) linkable reply applies =
      λ m given there resolved allowed.
      links-are-said read old sound m (linkable m there) given resolved allowed reply new
      (subst (λ (found : Option Module). LinksAt HostStep old found reply new) there applies)
  is-said read old new sound (Register number name) linkable reply applies = tt
  is-said read old new sound (Call number name arguments) linkable reply applies =
      λ address is takes. calls-are-said old sound address arguments reply new takes (subst (λ (found : Result ℕ Refusal). CallsAt HostStep old found arguments reply new) is applies)
  is-said read old new sound (GetGlobal number name) linkable reply applies = tt
  is-said read old new sound (SetFuel fuel) linkable reply applies = tt

  all-are-said : ((b : Body) → body_of (writing b) ≡ b) → (old last : Embedding H) (commands : List Command) (replies : List Reply) (run : AppliesAll HostStep old commands replies last)
      → IsSound host_type old → All IsSoundModule old.modules → All LoadsBytes commands → AllAreAsSaid HostStep run
  all-are-said read old last commands replies machine.none sound linkable bytes = tt
  all-are-said read old last (command ∷ commands) (reply ∷ replies) (machine.then_on {between = between} first rest) sound linkable bytes =
      let (well, then) = goes-well host_type Answers old between sound reply read command (one-of old command linkable) first in
      let now = modules-after HostStep old between command reply (bytes 0 command (omega (arith))) first linkable in (
        is-said read old between sound command (one-of old command linkable) reply first,
        all-are-said read between last commands replies rest then now (All-behind LoadsBytes (command ∷ []) commands bytes),
      )

  pub headline : ((b : Body) → body_of (writing b) ≡ b) → Headline host_type Answers
  headline read setup definitions at last commands replies few created bytes run =
      all-are-said read at last commands replies run (fresh-sound host_type setup definitions at few created)
      (subst (All IsSoundModule) (sym (ap (λ (e : Embedding H). e.modules) created.1)) (All-none IsSoundModule)) bytes
