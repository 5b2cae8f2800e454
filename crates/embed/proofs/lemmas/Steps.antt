-- Steps of the embedding machine, by the results of the layers below.
use Rattle.std.proofs.Common.{◌≡◌, ℕ, zero, suc, List, [], ◌∷◌, ◌++◌, length, arith, refl, sym, subst, ap, ◌∙◌}
use Rattle.std.proofs.lemmas.Option.{same_Some, slice_get-map}
use Rattle.std.specs.Prelude.{Option, Some, Result, Ok, Err, option_map, reverse, slice_get}
use Rattle.std.proofs.lemmas.List.{map-append, length-map}
use Rattle.std.proofs.Math.Seq.{take-length}
use Rattle.std.specs.declared.rc.Rc.{Rc}
use Rattle.core_types.specs.declared.module.Import.{Import}
use Rattle.core_types.specs.declared.module.Module.{Module}
use Rattle.core_types.specs.declared.outcome.Extern.{Extern}
use Rattle.core_types.specs.declared.outcome.Val.{Val}
use Rattle.meaning.proofs.lemmas.Lists.{map_all-length}
use Rattle.meaning.specs.embedding.Commands as machine
use Rattle.meaning.specs.embedding.Machine.{CallsAt, Embedding, GetsAt, IsDecoded, Links, Loads, called, ended, got, incompatible, linked, loaded, no_module, not_valid, resolve_imports, too_large}
use Rattle.meaning.specs.embedding.Machine as of
use Rattle.meaning.specs.embedding.Names.{resolve_name}
use Rattle.meaning.specs.execution.Configurations.{Invoking, no_frame}
use Rattle.meaning.specs.execution.Modules.{AreGiven, Instantiation, IsGiven, import_type}
use Rattle.meaning.specs.execution.Runs.{Answer, Ending, Run, State, WithValues}
use Rattle.meaning.specs.execution.Store.{GlobalInstance, Store}
use Rattle.meaning.specs.soundness.Values.{TakesArguments}
use Rattle.meaning.specs.validation.Modules.{IsValid}
use Rattle.exec.specs.Endings.{ending_of}
use Rattle.exec.specs.declared.outcome.Outcome.{Outcome}
use Rattle.instantiate.specs.Links.{IsCause, IsEnded, IsLinked, IsRefused, given_to}
use Rattle.instantiate.specs.declared.link_end.LinkRefusal.{LinkRefusal}
use Rattle.instantiate.specs.declared.link_end.LinkRefusal.TheVariants as reason
use Rattle.embed.specs.Causes.{IsFirstAtFault, IsUnresolved, RefusesBytes, link_refusal}
use Rattle.embed.specs.Causes as cause
use Rattle.store.specs.Loaded.{LoadedContents}
use Rattle.embed.specs.Contents.{modules_in}
use Rattle.embed.specs.Replies.{refusal_of}
use Rattle.embed.specs.declared.refusals.Refusal.{Refusal}

-- If one import is given a value that does not match, not every import is given what it requires.
not-given : (store : Store) (m : Module) (imports : List Import) (externs : List Extern) (index : ℕ) (wanted : Import) (given : Extern)
    → slice_get imports index ≡ Some wanted → slice_get externs index ≡ Some given
    → (IsGiven store given (import_type m wanted.desc) → ⊥) → AreGiven store m imports externs → ⊥
not-given store m [] externs index wanted given wanted_is given_is differs all = absurd cc
not-given store m (i ∷ imports) [] index wanted given wanted_is given_is differs all = all
not-given store m (i ∷ imports) (e ∷ externs) zero wanted given wanted_is given_is differs all =
    let asked : i ≡ wanted = same_Some i wanted wanted_is in
    let is : e ≡ given = same_Some e given given_is in
    differs (subst (λ (x : Extern). IsGiven store x (import_type m wanted.desc)) is (subst (λ (j : Import). IsGiven store e (import_type m j.desc)) asked all.0))
not-given store m (i ∷ imports) (e ∷ externs) (suc index) wanted given wanted_is given_is differs all = not-given store m imports externs index wanted given wanted_is given_is differs all.1

module _ {H : Type 0} where
  -- The embedding with these modules.
  abbrev pub with_modules : Embedding H → List Module → Embedding H
  with_modules old modules = record old { modules = modules }

  -- The embedding with this state of runs.
  abbrev pub with_state : Embedding H → State H → Embedding H
  with_state old state = record old { state = state }

  pub load-next : {Z : Type 0} (old : Embedding H) (shared : List (Rc LoadedContents Z)) (next : Rc LoadedContents Z) (bytes : List ℕ) → old.modules
      ≡ modules_in shared → IsDecoded bytes next.value.source → IsValid next.value.source
      → Loads old bytes (machine.Loaded (length shared)) (with_modules old (modules_in (shared ++ next ∷ [])))
  load-next old shared next bytes has decoded valid =
      let count : length old.modules ≡ length shared = ap length has ∙ length-map shared (λ (r : Rc LoadedContents _). r.value.source) in
      let more : modules_in (shared ++ next ∷ [])
      ≡ old.modules ++ next.value.source ∷ [] = map-append (λ (r : Rc LoadedContents _). r.value.source) shared (next ∷ []) ∙ ap
      (λ (ms : List Module). ms ++ next.value.source ∷ []) (sym has) in
      loaded decoded valid (ap machine.Loaded (sym count)) (ap (with_modules old) more)

  pub load-refused : (old : Embedding H) (bytes : List ℕ) (refusal : Refusal) → RefusesBytes bytes refusal → Loads old bytes (machine.Refused (refusal_of refusal)) old
  load-refused old bytes refusal (cause.malformed offset none is) = rw is (no_module none of.malformed (refl, refl))
  load-refused old bytes refusal (cause.unsupported offset none is) = rw is (no_module none of.unsupported (refl, refl))
  load-refused old bytes refusal (cause.limit none is) = rw is (no_module none of.limit (refl, refl))
  load-refused old bytes refusal (cause.invalid place m decoded invalid is) = rw is (not_valid decoded invalid (refl, refl))
  load-refused old bytes refusal (cause.no_memory is) = rw is (of.no_memory (refl, refl))

  pub get-value : (old : Embedding H) (found : Result ℕ machine.Refusal) (address : ℕ) (g : GlobalInstance) (v : Val) → Ok address ≡ found
      → slice_get old.state.store.globals address ≡ Some g → v ≡ g.value → GetsAt old found (machine.Ended (WithValues (v ∷ []))) old
  get-value old found address g v is there has = rw (← is) (got there (ap (λ (u : Val). machine.Ended (WithValues (u ∷ []))) has) refl)

  -- A value that was read may still be refused, if memory ran out.
  pub get-refused : (old : Embedding H) (found : Result ℕ machine.Refusal) (ending : Ending) → GetsAt old found (machine.Ended ending) old → GetsAt old found (machine.Refused machine.OutOfMemory) old
  get-refused old (Ok address) ending gets = of.no_memory (refl, refl)
  get-refused old (Err refusal) ending gets = absurd (let wrong = gets.0 in cc)

module _ {H : Type 0} (HostStep : List H → ℕ → Option ℕ → List Val → Store → Answer → Store → List H → Type 0) where
  pub call-ended : (old : Embedding H) (state : State H) (bound address : ℕ) (arguments : List Val) (ending : Ending) (reply : machine.Reply) (found : Result ℕ machine.Refusal)
      → Ok address ≡ found → bound ≡ old.setup.depth → TakesArguments old.state.store address arguments
      → Run HostStep bound no_frame old.state (Invoking (reverse arguments) address) ending state
      → reply ≡ machine.Ended ending → CallsAt HostStep old found arguments reply (with_state old state)
  call-ended old state bound address arguments ending reply found is bound_is takes run reply_is =
      rw (← is) (called takes (subst (λ (b : ℕ). Run HostStep b no_frame old.state (Invoking (reverse arguments) address) ending state) bound_is run) reply_is refl)

  module _ (old : Embedding H) (state : State H) (bound : ℕ) (m : Module) (externs : List Extern)
      (resolved : resolve_imports old.state.store old.names m.imports ≡ Some externs) where
    all_given : given_to m externs ≡ externs
    all_given = rw (sym (map_all-length (λ (i : Import). resolve_name old.state.store old.names i.module_name i.name) m.imports externs resolved)) (take-length externs)

    module _ (bound_is : bound ≡ old.setup.depth) where
      instantiated : (ending : Ending) → Instantiation HostStep bound m (given_to m externs) old.state ending state → Instantiation HostStep old.setup.depth m externs old.state ending state
      instantiated ending run =
          subst (λ (b : ℕ). Instantiation HostStep b m externs old.state ending state) bound_is
          (subst (λ (given : List Extern). Instantiation HostStep bound m given old.state ending state) all_given run)

      pub link-linked : (address : ℕ) → IsLinked HostStep address bound m externs old.state state
          → Links HostStep old m (machine.Linked (length old.instances)) (record old { instances = old.instances ++ address ∷ []; state = state })
      link-linked address done =
          linked resolved done.allowed (instantiated (WithValues []) done.run) refl (ap (λ (a : ℕ). record old { instances = old.instances ++ a ∷ []; state = state }) done.number_is)

      pub link-ended : (o : Outcome) (reply : machine.Reply) → IsEnded HostStep o bound m externs old.state state
          → reply ≡ machine.Ended (ending_of o) → Links HostStep old m reply (with_state old state)
      link-ended o reply end reply_is = ended resolved end.allowed (instantiated (ending_of o) end.run) end.no_values reply_is refl

    cause-refuses : (why : LinkRefusal) → IsCause why old.state.store m externs → Links HostStep old m (machine.Refused (refusal_of (link_refusal why))) old
    cause-refuses (reason.UnknownImport index) why =
        absurd (let same = map_all-length (λ (i : Import). resolve_name old.state.store old.names i.module_name i.name) m.imports externs resolved in omega (arith, same, why.0))
    cause-refuses (reason.IncompatibleImport index) why = incompatible resolved
        (not-given old.state.store m m.imports externs index why.1.wanted why.1.given why.1.wanted_is why.1.given_is why.1.differs) (refl, refl)
    cause-refuses reason.Limit why = too_large resolved why.0 why.1 (refl, refl)
    cause-refuses reason.OutOfMemory why = of.no_memory (refl, refl)

    pub link-refused : (why : LinkRefusal) → IsRefused why m externs old.state state → Links HostStep old m (machine.Refused (refusal_of (link_refusal why))) (with_state old state)
    link-refused why refused =
        subst (λ (s : State H). Links HostStep old m (machine.Refused (refusal_of (link_refusal why))) (with_state old s)) (sym refused.unchanged) (cause-refuses why refused.cause)

pub module-of : {Z : Type 0} (shared : List (Rc LoadedContents Z)) (number : ℕ) (r : Rc LoadedContents Z) → slice_get shared number ≡ Some r
    → slice_get (modules_in shared) number ≡ Some r.value.source
module-of shared number r there = slice_get-map (λ (s : Rc LoadedContents _). s.value.source) shared number ∙ ap (option_map (λ (s : Rc LoadedContents _). s.value.source)) there

-- ---- the first import at fault

module _ {H : Type 0} (old : Embedding H) (number : ℕ) (m : Module) (there : slice_get old.modules number ≡ Some m) where
  pub unresolved-at-fault : (refusal : Refusal) → IsUnresolved old.state.store old.names m.imports refusal → IsFirstAtFault old number refusal
  unresolved-at-fault refusal (cause.missing index unknown none is) = rw is (m, there, unknown)
  unresolved-at-fault refusal (cause.no_memory is) = rw is tt

  pub mismatched-at-fault : (given : List Extern) → resolve_imports old.state.store old.names m.imports ≡ Some given → (why : LinkRefusal)
      → IsCause why old.state.store m given → IsFirstAtFault old number (link_refusal why)
  mismatched-at-fault given resolved (reason.UnknownImport index) why =
      absurd (let same = map_all-length (λ (i : Import). resolve_name old.state.store old.names i.module_name i.name) m.imports given resolved in omega (arith, same, why.0))
  mismatched-at-fault given resolved (reason.IncompatibleImport index) why = (m, there, given, resolved, why.1)
  mismatched-at-fault given resolved reason.Limit why = tt
  mismatched-at-fault given resolved reason.OutOfMemory why = tt
