-- With less fuel, links and commands are the same, or end out of fuel.
use Rattle.std.proofs.Common.{◌≡◌, ℕ, ◌+◌, ◌⊎◌, inl, inr, List, [], ◌∷◌, ◌++◌, length, Option, Some, None, refl, ap, sym, subst, ◌∙◌, arith, slice_get}
use Rattle.std.specs.List.{All}
use Rattle.std.specs.Prelude.{Result, Ok, Err}
use Rattle.core_types.specs.declared.module.Module.{Module}
use Rattle.core_types.specs.declared.outcome.Extern.{Extern}
use Rattle.core_types.specs.declared.outcome.Val.{Val}
use Rattle.meaning.specs.embedding.Commands.{Command, Load, Link, Register, Call, GetGlobal, SetFuel, Refusal, Reply, Ended}
use Rattle.meaning.specs.embedding.Machine.{Applies, AppliesAll, CallsAt, Embedding, GetsAt, LinksAt, Loads, Refuses, RegistersAt, as_function, as_global, export_at}
use Rattle.meaning.specs.embedding.Machine as machine
use Rattle.meaning.specs.execution.Configurations.{no_frame}
use Rattle.meaning.specs.execution.Modules.{Instantiation, RunTasks, Task, all_done, done, ended}
use Rattle.meaning.specs.execution.Runs.{Answer, Ending, OutOfFuel, State, WithValues}
use Rattle.meaning.specs.execution.Store.{ModuleInstance, Store}
use Rattle.isolation.specs.Determinism.{CommandsAreFunctions, HadMemory, IsSameReply, LinksAreFunctions, refused}
use Rattle.isolation.specs.Fuel.{AgreeUntilOutOfFuel, CommandListsAllEndEarly, CommandListsEndEarly, LinksAllEndEarly, LinksEndEarly, SameUntilOutOfFuel}
use Rattle.isolation.specs.Fuel.{SetsNoFuel, all_same, fuelled, out_of_fuel, same, with_more}
use Rattle.isolation.proofs.Bounds.{behind}
use Rattle.isolation.proofs.Fuel.{run-less, with-fuel-left}

module _ {H : Type 0} (HostStep : List H → ℕ → Option ℕ → List Val → Store → Answer → Store → List H → Type 0) where
  -- ---- links

  module _ (bound n : ℕ) (i : ModuleInstance) where
    abbrev TasksEnd : (old : State H) (tasks : List Task) (ending : Ending) → Type 0
    TasksEnd old tasks ending = (last : State H) × RunTasks HostStep bound n i old tasks ending last

    abbrev TasksFit : (old : State H) (tasks : List Task) (ending : Ending) (last : State H) (less : ℕ) → Type 0
    TasksFit old tasks ending last less = (last' : State H) × RunTasks HostStep bound n i old tasks ending last' × (last ≡ with_more last' less)

    tasks-less : {old last : State H} {tasks : List Task} {ending : Ending} → RunTasks HostStep bound n i old tasks ending last → (fuel less : ℕ) → old.fuel ≡ fuel + less
        → TasksFit (record old { fuel = fuel }) tasks ending last less ⊎ TasksEnd (record old { fuel = fuel }) tasks OutOfFuel
    tasks-less {old} all_done fuel less is = inl (record old { fuel = fuel }, all_done, with-fuel-left old fuel less is)
    tasks-less {old} {last} (done {between = between} {task = task} {tasks = tasks} {a = a} {ending = ending} active run rest) fuel less is = elim (run-less HostStep bound a.frame run fuel less is) [
      | inl fits ↦
          let left = fits.0 in
          let fuel_left : between.fuel ≡ left.fuel + less = ap (λ (s : State H). s.fuel) fits.2 in
          let between_is : record between { fuel = left.fuel } ≡ left = ap (λ (s : State H). record s { fuel = left.fuel }) fits.2 in
          elim (tasks-less rest left.fuel less fuel_left) [
            | inl others ↦ inl (others.0, done active fits.1 (subst (λ (s : State H). RunTasks HostStep bound n i s tasks ending others.0) between_is others.1), others.2)
            | inr early ↦ inr (early.0, done active fits.1 (subst (λ (s : State H). RunTasks HostStep bound n i s tasks OutOfFuel early.0) between_is early.1))
          ]
      | inr early ↦ inr (early.at, ended active early.ends tt)
    ]
    tasks-less (ended {a = a} active run empty) fuel less is = elim (run-less HostStep bound a.frame run fuel less is) [
      | inl fits ↦ inl (fits.0, ended active fits.1 empty, fits.2)
      | inr early ↦ inr (early.at, ended active early.ends tt)
    ]

  abbrev LinkFits : (bound : ℕ) (m : Module) (given : List Extern) (old : State H) (ending : Ending) (last : State H) (less : ℕ) → Type 0
  LinkFits bound m given old ending last less = (last' : State H) × Instantiation HostStep bound m given old ending last' × (last ≡ with_more last' less)

  link-less : (bound : ℕ) (m : Module) (given : List Extern) (old last : State H) (ending : Ending) (less : ℕ) → Instantiation HostStep bound m given (with_more old less) ending last
      → LinkFits bound m given old ending last less ⊎ ((at : State H) × Instantiation HostStep bound m given old OutOfFuel at)
  link-less bound m given old last ending less link = elim (tasks-less bound _ _ link.ran old.fuel less refl) [
    | inl fits ↦ inl (fits.0, record { objects = link.objects; allocated = link.allocated; ran = fits.1 }, fits.2)
    | inr early ↦ inr (early.0, record { objects = link.objects; allocated = link.allocated; ran = early.1 })
  ]

  pub links-end-early : LinksEndEarly HostStep
  links-end-early bound m given old last ending less link little = elim (link-less bound m given old last ending less link) [
    | inl fits ↦ (let left : last.fuel ≡ fits.0.fuel + less = ap (λ (s : State H). s.fuel) fits.2 in absurd (let wrong : ⊥ = omega (arith, left, little) in wrong))
    | inr early ↦ early
  ]

  pub links-all-end-early : LinksAreFunctions HostStep → LinksAllEndEarly HostStep
  links-all-end-early agree bound m given old last last' ending ending' less link little other some =
      let early = links-end-early bound m given old last ending less link little in
      (agree bound m given old last' early.0 ending' OutOfFuel other early.1 some (λ wants. cc)).0

  -- ---- commands

  abbrev Early : Embedding H → Command → Type 0
  Early old command = (at : Embedding H) × Applies HostStep old command (Ended OutOfFuel) at

  module _ (less : ℕ) (old new : Embedding H) (reply : Reply) where
    abbrev CommandFits : Command → Type 0
    CommandFits command = (new' : Embedding H) × Applies HostStep old command reply new' × (new ≡ fuelled new' less)

    loads-less : (bytes : List ℕ) → Loads (fuelled old less) bytes reply new → CommandFits (Load bytes)
    loads-less bytes (machine.loaded {m = m} decoded valid r n) = (_, machine.loaded decoded valid r refl, n)
    loads-less bytes (machine.no_module missing cause (r, n)) = (old, machine.no_module missing cause (r, refl), n)
    loads-less bytes (machine.not_valid decoded invalid (r, n)) = (old, machine.not_valid decoded invalid (r, refl), n)
    loads-less bytes (machine.no_memory (r, n)) = (old, machine.no_memory (r, refl), n)

    registers-less : (name : List ℕ) (found : Option ℕ) → RegistersAt (fuelled old less) name found reply new → (new' : Embedding H) × RegistersAt old name found reply new' × (new ≡ fuelled new' less)
    registers-less name None (r, n) = (old, (r, refl), n)
    registers-less name (Some instance) (machine.registered unused r n) = (_, machine.registered unused r refl, n)
    registers-less name (Some instance) (machine.taken has (r, n)) = (old, machine.taken has (r, refl), n)
    registers-less name (Some instance) (machine.no_memory unused (r, n)) = (old, machine.no_memory unused (r, refl), n)

    gets-less : (found : Result ℕ Refusal) → GetsAt (fuelled old less) found reply new → (new' : Embedding H) × GetsAt old found reply new' × (new ≡ fuelled new' less)
    gets-less (Err why) (r, n) = (old, (r, refl), n)
    gets-less (Ok address) (machine.got there r n) = (old, machine.got there r refl, n)
    gets-less (Ok address) (machine.no_memory (r, n)) = (old, machine.no_memory (r, refl), n)

    links-less : (found : Option Module) → LinksAt HostStep (fuelled old less) found reply new
        → ((new' : Embedding H) × LinksAt HostStep old found reply new' × (new ≡ fuelled new' less)) ⊎ ((at : Embedding H) × LinksAt HostStep old found (Ended OutOfFuel) at)
    links-less None (r, n) = inl (old, (r, refl), n)
    links-less (Some m) (machine.linked {externs = externs} {state = state} named allowed link r n) = elim (link-less old.setup.depth m externs old.state state (WithValues []) less link) [
      | inl fits ↦ inl (_, machine.linked named allowed fits.1 r refl, n ∙ ap (λ (s : State H). record old { instances = old.instances ++ (length old.state.store.instances ∷ []); state = s }) fits.2)
      | inr early ↦ inr (_, machine.ended named allowed early.1 tt refl refl)
    ]
    links-less (Some m) (machine.ended {externs = externs} {ending = ending} {state = state} named allowed link empty r n) = elim
        (link-less old.setup.depth m externs old.state state ending less link) [
          | inl fits ↦ inl (_, machine.ended named allowed fits.1 empty r refl, n ∙ ap (λ (s : State H). record old { state = s }) fits.2)
          | inr early ↦ inr (_, machine.ended named allowed early.1 tt refl refl)
        ]
    links-less (Some m) (machine.unknown nameless (r, n)) = inl (old, machine.unknown nameless (r, refl), n)
    links-less (Some m) (machine.incompatible named misfit (r, n)) = inl (old, machine.incompatible named misfit (r, refl), n)
    links-less (Some m) (machine.too_large named given large (r, n)) = inl (old, machine.too_large named given large (r, refl), n)
    links-less (Some m) (machine.no_memory (r, n)) = inl (old, machine.no_memory (r, refl), n)

    calls-less : (arguments : List Val) (found : Result ℕ Refusal) → CallsAt HostStep (fuelled old less) found arguments reply new
        → ((new' : Embedding H) × CallsAt HostStep old found arguments reply new' × (new ≡ fuelled new' less)) ⊎ ((at : Embedding H) × CallsAt HostStep old found arguments (Ended OutOfFuel) at)
    calls-less arguments (Err why) (r, n) = inl (old, (r, refl), n)
    calls-less arguments (Ok address) (machine.called takes run r n) = elim (run-less HostStep old.setup.depth no_frame run old.state.fuel less refl) [
      | inl fits ↦ inl (_, machine.called takes fits.1 r refl, n ∙ ap (λ (s : State H). record old { state = s }) fits.2)
      | inr early ↦ inr (_, machine.called takes early.ends refl refl)
    ]
    calls-less arguments (Ok address) (machine.bad_arguments misfit (r, n)) = inl (old, machine.bad_arguments misfit (r, refl), n)

    command-less : (command : Command) → SetsNoFuel command → Applies HostStep (fuelled old less) command reply new → CommandFits command ⊎ Early old command
    command-less (Load bytes) sets applies = inl (loads-less bytes applies)
    command-less (Link number) sets applies = links-less (slice_get old.modules number) applies
    command-less (Register number name) sets applies = inl (registers-less name (slice_get old.instances number) applies)
    command-less (Call number name arguments) sets applies = calls-less arguments (as_function (export_at old number name)) applies
    command-less (GetGlobal number name) sets applies = inl (gets-less (as_global (export_at old number name)) applies)
    command-less (SetFuel fuel) sets applies = absurd sets

  -- ---- consecutive commands

  list-less : (less : ℕ) {with_more last : Embedding H} {commands : List Command} {replies : List Reply}
      → AppliesAll HostStep with_more commands replies last → (old : Embedding H) → with_more ≡ fuelled old less
      → All SetsNoFuel commands → SameUntilOutOfFuel HostStep less old commands replies last
  list-less less machine.none old is sets = subst (λ (e : Embedding H). SameUntilOutOfFuel HostStep less old [] [] e) (sym is) all_same
  list-less less (machine.then_on {between = between} {command = command} {commands = commands} {reply = reply} first rest) old is sets =
      elim (command-less less old between reply command (sets 0 command (omega arith)) (subst (λ (e : Embedding H). Applies HostStep e command reply between) is first)) [
        | inl fits ↦ same fits.1 (list-less less rest fits.0 fits.2 (behind SetsNoFuel command commands sets))
        | inr early ↦ out_of_fuel early.0 early.1
      ]

  pub lists-end-early : CommandListsEndEarly HostStep
  lists-end-early old last commands replies less sets run = list-less less run old refl sets

  -- If commands are functions, each list ends early like this.
  module _ (agree : CommandsAreFunctions HostStep) where
    out-of-fuel-alone : (command : Command) (reply : Reply) → IsSameReply command (Ended OutOfFuel) reply → reply ≡ Ended OutOfFuel
    out-of-fuel-alone (Load bytes) reply (inl is) = sym is
    out-of-fuel-alone (Load bytes) reply (inr (refused why is, other)) = absurd cc
    out-of-fuel-alone (Link number) reply is = sym is
    out-of-fuel-alone (Register number name) reply is = sym is
    out-of-fuel-alone (Call number name arguments) reply is = sym is
    out-of-fuel-alone (GetGlobal number name) reply is = sym is
    out-of-fuel-alone (SetFuel fuel) reply is = sym is

    had-memory : HadMemory (Ended OutOfFuel)
    had-memory = record { run = λ is. cc; command = λ is. cc }

    lists-cut : (less : ℕ) {with_more old last last' : Embedding H} {commands : List Command} {replies replies' : List Reply}
        → AppliesAll HostStep with_more commands replies last → AppliesAll HostStep old commands replies' last' → with_more ≡ fuelled old less
        → All SetsNoFuel commands → All HadMemory replies → All HadMemory replies' → AgreeUntilOutOfFuel commands replies replies'
    lists-cut less machine.none machine.none is sets had had' = tt
    lists-cut less {old = old} (machine.then_on {between = between} {command = command} {commands = commands} {reply = reply} {replies = others} first
        rest) (machine.then_on {between = between'} {reply = reply'} {replies = others'} first' rest') is sets had had' =
        elim (command-less less old between reply command (sets 0 command (omega arith)) (subst (λ (e : Embedding H). Applies HostStep e command reply between) is first)) [
          | inl fits ↦
              let one = agree old fits.0 between' command reply reply' fits.1 first' (had 0 reply (omega arith)) (had' 0 reply' (omega arith)) in
              inr (
                one.0,
                lists-cut less rest rest' (fits.2 ∙ ap (λ (e : Embedding H). fuelled e less) one.1)
                    (behind SetsNoFuel command commands sets) (behind HadMemory reply others had) (behind HadMemory reply' others' had'),
              )
          | inr early ↦ inl (out-of-fuel-alone command reply' (agree old early.0 between' command (Ended OutOfFuel) reply' early.1 first' had-memory (had' 0 reply' (omega arith))).0)
        ]

    pub lists-all-end-early : CommandListsAllEndEarly HostStep
    lists-all-end-early old last last' commands replies replies' less sets run run' had had' = lists-cut less run run' refl sets had had'
