-- Replies are a function of the commands.
use Rattle.std.proofs.Common.{◌≡◌, ℕ, List, [], ◌∷◌, ◌++◌, length, reverse, Option, Some, None, refl, ap, sym, subst, ◌∙◌, inl, inr, arith, slice_get, slice_set}
use Rattle.std.specs.List.{All}
use Rattle.std.specs.Prelude.{Result, Ok, Err}
use Rattle.core_types.specs.declared.module.Module.{Module}
use Rattle.core_types.specs.declared.outcome.Extern.{Extern}
use Rattle.core_types.specs.declared.outcome.Val.{Val}
use Rattle.core_types.specs.declared.types.FuncType.{FuncType}
use Rattle.meaning.proofs.lemmas.Runs.{AnswersInOneWay, Runs-agree}
use Rattle.meaning.specs.binary.Modules.{SpellsModule}
use Rattle.meaning.specs.embedding.Commands.{Command, Load, Link, Register, Call, GetGlobal, SetFuel, Reply, Refusal, Ended, Refused}
use Rattle.meaning.specs.embedding.Commands as refusal
use Rattle.meaning.specs.embedding.Machine.{Applies, AppliesAll, Calls, CallsAt, Embedding, Gets, GetsAt, Links, LinksAt, Loads, Refuses, Registers}
use Rattle.meaning.specs.embedding.Machine.{RegistersAt, as_function, as_global, export_at, resolve_imports}
use Rattle.meaning.specs.embedding.Machine as machine
use Rattle.meaning.specs.validation.Modules.{IsValid}
use Rattle.meaning.specs.execution.Configurations.{Invoking, no_frame}
use Rattle.meaning.specs.execution.Hosts.{IsHostCall, IsHostStep, lent_bytes, with_lent_bytes}
use Rattle.meaning.specs.execution.Modules.{Activity, AreGiven, HasNoValues, Instantiation, RunOf, RunTasks, Task, activity, all_done, done, ended, new_instance, tasks_of, with_module}
use Rattle.meaning.specs.execution.Runs.{Answer, Ending, WithValues, OutOfMemory, State}
use Rattle.meaning.specs.execution.Store.{GlobalInstance, ModuleInstance, ObjectLists, Store}
use Rattle.isolation.proofs.Bounds.{behind}
use Rattle.isolation.specs.Determinism.{AllAreFunctions, AreSameReplies, CommandListsAreFunctions, CommandsAreFunctions, EmbeddingsAreFunctions, HadMemory}
use Rattle.isolation.specs.Determinism.{HostsAreFunctions, IsSameReply, LinksAreFunctions, RunsAreFunctions, refused}

-- ---- host functions

module _ {H : Type 0} (host_type : H → FuncType) (Answers : H → List Val → List ℕ → Answer → List ℕ → H → Type 0) (functions : HostsAreFunctions host_type Answers) where
  calls-agree : (hosts : List H) (number : ℕ) (arguments : List Val) (bytes : List ℕ) (a b : Answer) (bytes_a bytes_b : List ℕ) (hosts_a hosts_b : List H)
      → IsHostCall host_type Answers hosts number arguments bytes a bytes_a hosts_a → IsHostCall host_type Answers hosts number arguments bytes b bytes_b hosts_b
      → (a ≡ b) × (bytes_a ≡ bytes_b) × (hosts_a ≡ hosts_b)
  calls-agree hosts number arguments bytes a b bytes_a bytes_b hosts_a hosts_b first second =
      let one : second.host ≡ first.host = (let both : Some second.host ≡ Some first.host = sym second.is ∙ first.is in cc) in
      let answers = subst (λ (h : H). Answers h arguments bytes b bytes_b second.host') one second.answers in
      let (same, same_bytes, then) = functions first.host arguments bytes a b bytes_a bytes_b first.host' second.host' first.same_type (second.same_type ∙ ap host_type one) first.answers answers in
      (same, same_bytes, first.hosts_are ∙ ap (slice_set hosts number) then ∙ sym second.hosts_are)

  pub steps-agree : AnswersInOneWay (IsHostStep host_type Answers) 0 no_frame
  steps-agree hosts number lent arguments store a b s t hs gs (bytes_a, first, s_is) (bytes_b, second, t_is) =
      let (same, same_bytes, then) = calls-agree hosts number arguments (lent_bytes store lent) a b bytes_a bytes_b hs gs first second in
      (same, s_is ∙ ap (with_lent_bytes store lent) same_bytes ∙ sym t_is, then)

-- ---- runs and links

module _ {H : Type 0} (HostStep : List H → ℕ → Option ℕ → List Val → Store → Answer → Store → List H → Type 0) (one : AnswersInOneWay HostStep 0 no_frame) where
  abbrev Agree : Ending → Ending → State H → State H → Type 0
  Agree e f s t = (e ≡ f) × (s ≡ t)

  pub runs-agree : RunsAreFunctions HostStep
  runs-agree bound outside old a b configuration e f first second some_a some_b = elim (Runs-agree HostStep bound outside one first second) [
    | inl wants ↦ absurd (some_a wants)
    | inr (inl wants) ↦ absurd (some_b wants)
    | inr (inr same) ↦ same
  ]

  with-values : {values : List Val} → WithValues values ≡ OutOfMemory → ⊥
  with-values wants = cc

  no-values : (e : Ending) {values : List Val} → e ≡ WithValues values → HasNoValues e → ⊥
  no-values e {values} is none = let wrong : HasNoValues (WithValues values) = subst HasNoValues is none in wrong

  module _ (bound n : ℕ) (i : ModuleInstance) where
    activities-agree : (store : Store) (task : Task) {a b : Activity} → activity store n i task ≡ Some a → activity store n i task ≡ Some b → b ≡ a
    activities-agree store task is is' = let both : Some _ ≡ Some _ = sym is' ∙ is in cc

    tasks-agree : {old a b : State H} {tasks : List Task} {e f : Ending} → RunTasks HostStep bound n i old tasks e a → RunTasks HostStep bound n i old tasks f b
        → (e ≡ OutOfMemory → ⊥) → (f ≡ OutOfMemory → ⊥) → Agree e f a b
    tasks-agree all_done all_done some_a some_b = (refl, refl)
    tasks-agree {old} {a} {b} {e = e} {f = f} (done {between = between} {task = task} {a = x} {values = values} is run rest)
        (done {between = other} {a = y} {values = values'} is' run' rest') some_a some_b =
        let same = activities-agree old.store task is is' in
        let (endings, states) = runs-agree bound x.frame old between other x.configuration (WithValues values) (WithValues values') run
        (subst (λ (z : Activity). RunOf HostStep bound old z (WithValues values') other) same run') with-values with-values in
        tasks-agree rest (rw states rest') some_a some_b
    tasks-agree {old} {a} {b} {e = e} {f = f} (done {between = between} {task = task} {a = x} {values = values} is run rest) (ended {a = y} is' run' none) some_a some_b =
        let same = activities-agree old.store task is is' in
        let (endings, states) = runs-agree bound x.frame old between b x.configuration (WithValues values) f run
        (subst (λ (z : Activity). RunOf HostStep bound old z f b) same run') with-values some_b in
        absurd (no-values f (sym endings) none)
    tasks-agree {old} {a} {b} {e = e} {f = f} (ended {task = task} {a = x} is run none) (done {between = other} {a = y} {values = values'} is' run' rest') some_a some_b =
        let same = activities-agree old.store task is is' in
        let (endings, states) = runs-agree bound x.frame old a other x.configuration e (WithValues values') run
        (subst (λ (z : Activity). RunOf HostStep bound old z (WithValues values') other) same run') some_a with-values in
        absurd (no-values e endings none)
    tasks-agree {old} {a} {b} {e = e} {f = f} (ended {task = task} {a = x} is run none) (ended {a = y} is' run' none') some_a some_b =
        let same = activities-agree old.store task is is' in
        runs-agree bound x.frame old a b x.configuration e f run (subst (λ (z : Activity). RunOf HostStep bound old z f b) same run') some_a some_b

  pub links-agree : LinksAreFunctions HostStep
  links-agree bound m given old a b e f first second some_a some_b =
      let same : second.objects ≡ first.objects = (let both : Some second.objects ≡ Some first.objects = sym second.allocated ∙ first.allocated in cc) in
      tasks-agree bound (length old.store.instances) (new_instance old.store m given) first.ran
      (subst (λ (objects : ObjectLists).
      RunTasks HostStep bound (length old.store.instances) (new_instance old.store m given)
      (record old { store = with_module old.store (new_instance old.store m given) m objects }) (tasks_of m) f b) same second.ran) some_a some_b

  -- ---- commands

  module _ (spelt : (bytes : List ℕ) (m n : Module) → SpellsModule bytes m → SpellsModule bytes n → m ≡ n) (old a b : Embedding H) (reply_a reply_b : Reply)
      (had_a : HadMemory reply_a) (had_b : HadMemory reply_b) where
    abbrev Alike : Type 0
    Alike = (reply_a ≡ reply_b) × (a ≡ b)

    refused-alike : {why why' : Refusal} → why ≡ why' → Refuses old why reply_a a → Refuses old why' reply_b b → Alike
    refused-alike same (r, n) (r', n') = (r ∙ ap Refused same ∙ sym r', n ∙ sym n')

    wanted-a : Refuses old refusal.OutOfMemory reply_a a → ⊥
    wanted-a refuses = had_a.command refuses.0

    wanted-b : Refuses old refusal.OutOfMemory reply_b b → ⊥
    wanted-b refuses = had_b.command refuses.0

    loads-alike : (bytes : List ℕ) → Loads old bytes reply_a a → Loads old bytes reply_b b → IsSameReply (Load bytes) reply_a reply_b × (a ≡ b)
    loads-alike bytes (machine.loaded {m = m} decoded valid r n) (machine.loaded {m = m'} decoded' valid' r' n') =
        (inl (r ∙ sym r'), n ∙ ap (λ (z : Module). record old { modules = old.modules ++ (z ∷ []) }) (spelt bytes m m' decoded.spelt decoded'.spelt) ∙ sym n')
    loads-alike bytes (machine.loaded {m = m} decoded valid r n) (machine.no_module none of refuses) = absurd (none m decoded)
    loads-alike bytes (machine.loaded {m = m} decoded valid r n) (machine.not_valid {m = m'} decoded' invalid refuses) =
        absurd (invalid (subst IsValid (spelt bytes m m' decoded.spelt decoded'.spelt) valid))
    loads-alike bytes (machine.no_module none of refuses) (machine.loaded {m = m} decoded valid r n) = absurd (none m decoded)
    loads-alike bytes (machine.no_module none of refuses) (machine.no_module none' of' refuses') = (inr (refused of refuses.0, refused of' refuses'.0), refuses.1 ∙ sym refuses'.1)
    loads-alike bytes (machine.no_module none of refuses) (machine.not_valid {m = m} decoded invalid refuses') = absurd (none m decoded)
    loads-alike bytes (machine.not_valid {m = m} decoded invalid refuses) (machine.loaded {m = m'} decoded' valid r n) =
        absurd (invalid (subst IsValid (spelt bytes m' m decoded'.spelt decoded.spelt) valid))
    loads-alike bytes (machine.not_valid {m = m} decoded invalid refuses) (machine.no_module none of refuses') = absurd (none m decoded)
    loads-alike bytes (machine.not_valid decoded invalid refuses) (machine.not_valid decoded' invalid' refuses') = (inl (refuses.0 ∙ sym refuses'.0), refuses.1 ∙ sym refuses'.1)
    loads-alike bytes (machine.no_memory refuses) other = absurd (wanted-a refuses)
    loads-alike bytes other (machine.no_memory refuses) = absurd (wanted-b refuses)

    names-agree : (m : Module) {xs ys : List Extern} → resolve_imports old.state.store old.names m.imports ≡ Some xs → resolve_imports old.state.store old.names m.imports ≡ Some ys → ys ≡ xs
    names-agree m {xs} {ys} named named' = let both : Some ys ≡ Some xs = sym named' ∙ named in cc

    nameless : (m : Module) {xs : List Extern} → resolve_imports old.state.store old.names m.imports ≡ Some xs → resolve_imports old.state.store old.names m.imports ≡ None → ⊥
    nameless m {xs} named none = let both : Some xs ≡ None = sym named ∙ none in cc

    links-alike : (m : Module) → Links HostStep old m reply_a a → Links HostStep old m reply_b b → Alike
    links-alike m (machine.linked {externs = xs} {state = s} named allowed link r n) (machine.linked {externs = ys} {state = t} named' allowed' link' r' n') =
        let same = names-agree m named named' in
        let (endings, states) = links-agree old.setup.depth m xs old.state s t (WithValues []) (WithValues []) link
        (subst (λ (zs : List Extern). Instantiation HostStep old.setup.depth m zs old.state (WithValues []) t) same link') with-values with-values in
        (r ∙ sym r', n ∙ ap (λ (z : State H). record old { instances = old.instances ++ (length old.state.store.instances ∷ []); state = z }) states ∙ sym n')
    links-alike m (machine.linked {externs = xs} {state = s} named allowed link r n) (machine.ended {externs = ys} {ending = f} {state = t} named' allowed' link' none r' n') =
        let same = names-agree m named named' in
        let (endings, states) = links-agree old.setup.depth m xs old.state s t (WithValues []) f link
        (subst (λ (zs : List Extern). Instantiation HostStep old.setup.depth m zs old.state f t) same link') with-values
        (λ wants. had_b.run (r' ∙ ap Ended wants)) in
        absurd (no-values f (sym endings) none)
    links-alike m (machine.linked named allowed link r n) (machine.unknown none refuses) = absurd (nameless m named none)
    links-alike m (machine.linked named allowed link r n) (machine.incompatible named' misfit refuses) = absurd
        (misfit (subst (AreGiven old.state.store m m.imports) (sym (names-agree m named named')) allowed.given))
    links-alike m (machine.linked named allowed link r n) (machine.too_large named' given large refuses) = absurd (large allowed.within)
    links-alike m (machine.ended {externs = xs} {ending = e} {state = s} named allowed link none r n) (machine.linked {externs = ys} {state = t} named' allowed' link' r' n') =
        let same = names-agree m named named' in
        let (endings, states) = links-agree old.setup.depth m xs old.state s t e (WithValues []) link
        (subst (λ (zs : List Extern). Instantiation HostStep old.setup.depth m zs old.state (WithValues []) t) same link')
        (λ wants. had_a.run (r ∙ ap Ended wants)) with-values in
        absurd (no-values e endings none)
    links-alike m (machine.ended {externs = xs} {ending = e} {state = s} named allowed link none r n) (machine.ended {externs = ys} {ending = f} {state = t} named' allowed' link' none' r' n') =
        let same = names-agree m named named' in
        let (endings, states) = links-agree old.setup.depth m xs old.state s t e f link
        (subst (λ (zs : List Extern). Instantiation HostStep old.setup.depth m zs old.state f t) same link')
        (λ wants. had_a.run (r ∙ ap Ended wants)) (λ wants. had_b.run (r' ∙ ap Ended wants)) in
        (r ∙ ap Ended endings ∙ sym r', n ∙ ap (λ (z : State H). record old { state = z }) states ∙ sym n')
    links-alike m (machine.ended named allowed link none r n) (machine.unknown nameless' refuses) = absurd (nameless m named nameless')
    links-alike m (machine.ended named allowed link none r n) (machine.incompatible named' misfit refuses) = absurd
        (misfit (subst (AreGiven old.state.store m m.imports) (sym (names-agree m named named')) allowed.given))
    links-alike m (machine.ended named allowed link none r n) (machine.too_large named' given large refuses) = absurd (large allowed.within)
    links-alike m (machine.unknown none refuses) (machine.linked named allowed link r n) = absurd (nameless m named none)
    links-alike m (machine.unknown none refuses) (machine.ended named allowed link none' r n) = absurd (nameless m named none)
    links-alike m (machine.unknown none refuses) (machine.unknown none' refuses') = refused-alike refl refuses refuses'
    links-alike m (machine.unknown none refuses) (machine.incompatible named misfit refuses') = absurd (nameless m named none)
    links-alike m (machine.unknown none refuses) (machine.too_large named given large refuses') = absurd (nameless m named none)
    links-alike m (machine.incompatible named' misfit refuses) (machine.linked named allowed link r n) = absurd
        (misfit (subst (AreGiven old.state.store m m.imports) (sym (names-agree m named named')) allowed.given))
    links-alike m (machine.incompatible named' misfit refuses) (machine.ended named allowed link none r n) = absurd
        (misfit (subst (AreGiven old.state.store m m.imports) (sym (names-agree m named named')) allowed.given))
    links-alike m (machine.incompatible named misfit refuses) (machine.unknown none refuses') = absurd (nameless m named none)
    links-alike m (machine.incompatible named misfit refuses) (machine.incompatible named' misfit' refuses') = refused-alike refl refuses refuses'
    links-alike m (machine.incompatible named' misfit refuses) (machine.too_large named given large refuses') = absurd
        (misfit (subst (AreGiven old.state.store m m.imports) (sym (names-agree m named named')) given))
    links-alike m (machine.too_large named' given large refuses) (machine.linked named allowed link r n) = absurd (large allowed.within)
    links-alike m (machine.too_large named' given large refuses) (machine.ended named allowed link none r n) = absurd (large allowed.within)
    links-alike m (machine.too_large named given large refuses) (machine.unknown none refuses') = absurd (nameless m named none)
    links-alike m (machine.too_large named given large refuses) (machine.incompatible named' misfit refuses') = absurd
        (misfit (subst (AreGiven old.state.store m m.imports) (names-agree m named' named) given))
    links-alike m (machine.too_large named given large refuses) (machine.too_large named' given' large' refuses') = refused-alike refl refuses refuses'
    links-alike m (machine.no_memory refuses) other = absurd (wanted-a refuses)
    links-alike m other (machine.no_memory refuses) = absurd (wanted-b refuses)

    calls-alike : (address : ℕ) (arguments : List Val) → Calls HostStep old address arguments reply_a a → Calls HostStep old address arguments reply_b b → Alike
    calls-alike address arguments (machine.called {ending = e} {state = s} takes run r n) (machine.called {ending = f} {state = t} takes' run' r' n') =
        let (endings, states) = runs-agree old.setup.depth no_frame old.state s t (Invoking (reverse arguments) address) e f run run'
        (λ wants. had_a.run (r ∙ ap Ended wants)) (λ wants. had_b.run (r' ∙ ap Ended wants)) in
        (r ∙ ap Ended endings ∙ sym r', n ∙ ap (λ (z : State H). record old { state = z }) states ∙ sym n')
    calls-alike address arguments (machine.called takes run r n) (machine.bad_arguments misfit refuses) = absurd (misfit takes)
    calls-alike address arguments (machine.bad_arguments misfit refuses) (machine.called takes run r n) = absurd (misfit takes)
    calls-alike address arguments (machine.bad_arguments misfit refuses) (machine.bad_arguments misfit' refuses') = refused-alike refl refuses refuses'

    registers-alike : (name : List ℕ) (instance : ℕ) → Registers old name instance reply_a a → Registers old name instance reply_b b → Alike
    registers-alike name instance (machine.registered free r n) (machine.registered free' r' n') = (r ∙ sym r', n ∙ sym n')
    registers-alike name instance (machine.registered free r n) (machine.taken there refuses) = absurd (free there)
    registers-alike name instance (machine.taken there refuses) (machine.registered free r n) = absurd (free there)
    registers-alike name instance (machine.taken there refuses) (machine.taken there' refuses') = refused-alike refl refuses refuses'
    registers-alike name instance (machine.no_memory free refuses) other = absurd (wanted-a refuses)
    registers-alike name instance other (machine.no_memory free refuses) = absurd (wanted-b refuses)

    gets-alike : (address : ℕ) → Gets old address reply_a a → Gets old address reply_b b → Alike
    gets-alike address (machine.got {g = g} is r n) (machine.got {g = h} is' r' n') =
        let same : g ≡ h = (let both : Some g ≡ Some h = sym is ∙ is' in cc) in
        (r ∙ ap (λ (z : GlobalInstance). Ended (WithValues (z.value ∷ []))) same ∙ sym r', n ∙ sym n')
    gets-alike address (machine.no_memory refuses) other = absurd (wanted-a refuses)
    gets-alike address other (machine.no_memory refuses) = absurd (wanted-b refuses)

    links-at-alike : (found : Option Module) → LinksAt HostStep old found reply_a a → LinksAt HostStep old found reply_b b → Alike
    links-at-alike None first second = refused-alike refl first second
    links-at-alike (Some m) first second = links-alike m first second

    registers-at-alike : (name : List ℕ) (found : Option ℕ) → RegistersAt old name found reply_a a → RegistersAt old name found reply_b b → Alike
    registers-at-alike name None first second = refused-alike refl first second
    registers-at-alike name (Some instance) first second = registers-alike name instance first second

    calls-at-alike : (found : Result ℕ Refusal) (arguments : List Val) → CallsAt HostStep old found arguments reply_a a → CallsAt HostStep old found arguments reply_b b → Alike
    calls-at-alike (Ok address) arguments first second = calls-alike address arguments first second
    calls-at-alike (Err why) arguments first second = refused-alike refl first second

    gets-at-alike : (found : Result ℕ Refusal) → GetsAt old found reply_a a → GetsAt old found reply_b b → Alike
    gets-at-alike (Ok address) first second = gets-alike address first second
    gets-at-alike (Err why) first second = refused-alike refl first second

    command-alike : (command : Command) → Applies HostStep old command reply_a a → Applies HostStep old command reply_b b → IsSameReply command reply_a reply_b × (a ≡ b)
    command-alike (Load bytes) first second = loads-alike bytes first second
    command-alike (Link number) first second = links-at-alike (slice_get old.modules number) first second
    command-alike (Register number name) first second = registers-at-alike name (slice_get old.instances number) first second
    command-alike (Call number name arguments) first second = calls-at-alike (as_function (export_at old number name)) arguments first second
    command-alike (GetGlobal number name) first second = gets-at-alike (as_global (export_at old number name)) first second
    command-alike (SetFuel fuel) first second = (first.0 ∙ sym second.0, first.1 ∙ sym second.1)

  module _ (spelt : (bytes : List ℕ) (m n : Module) → SpellsModule bytes m → SpellsModule bytes n → m ≡ n) where
    pub commands-agree : CommandsAreFunctions HostStep
    commands-agree old a b command reply_a reply_b first second had_a had_b = command-alike spelt old a b reply_a reply_b had_a had_b command first second

    lists-alike : {old a b : Embedding H} {commands : List Command} {replies_a replies_b : List Reply} → AppliesAll HostStep old commands replies_a a → AppliesAll HostStep old commands replies_b b
        → All HadMemory replies_a → All HadMemory replies_b → AreSameReplies commands replies_a replies_b × (a ≡ b)
    lists-alike machine.none machine.none had_a had_b = (tt, refl)
    lists-alike {old} {a} {b} (machine.then_on {between = s} {command = command} {commands = commands} {reply = reply_a} {replies = others} first
        rest) (machine.then_on {between = t} {reply = reply_b} {replies = more} second rest') had_a had_b =
        let (same, states) = commands-agree old s t command reply_a reply_b first second (had_a 0 reply_a (omega arith)) (had_b 0 reply_b (omega arith)) in
        let (replies, last) = lists-alike rest (rw states rest') (behind HadMemory reply_a others had_a) (behind HadMemory reply_b more had_b) in
        ((same, replies), last)

    pub lists-agree : CommandListsAreFunctions HostStep
    lists-agree old a b commands replies_a replies_b first second had_a had_b = lists-alike first second had_a had_b

module _ {H : Type 0} (host_type : H → FuncType) (Answers : H → List Val → List ℕ → Answer → List ℕ → H → Type 0) (functions : HostsAreFunctions host_type Answers)
    (spelt : (bytes : List ℕ) (m n : Module) → SpellsModule bytes m → SpellsModule bytes n → m ≡ n) where
  pub embeddings-agree : EmbeddingsAreFunctions host_type Answers
  embeddings-agree setup definitions fresh_a fresh_b a b commands replies_a replies_b created_a created_b first second had_a had_b =
      lists-agree (IsHostStep host_type Answers) (steps-agree host_type Answers functions) spelt fresh_a a b commands replies_a replies_b first
      (subst (λ (z : Embedding H). AppliesAll (IsHostStep host_type Answers) z commands replies_b b) (created_b.1 ∙ sym created_a.1) second) had_a had_b

  pub all-agree : AllAreFunctions host_type Answers
  all-agree = record {
    runs = runs-agree (IsHostStep host_type Answers) (steps-agree host_type Answers functions);
    links = links-agree (IsHostStep host_type Answers) (steps-agree host_type Answers functions);
    commands = commands-agree (IsHostStep host_type Answers) (steps-agree host_type Answers functions) spelt;
    command_lists = lists-agree (IsHostStep host_type Answers) (steps-agree host_type Answers functions) spelt;
    embeddings = embeddings-agree;
  }
