-- More fuel, and a larger bound on open frames, for links and all commands.
use Rattle.std.proofs.Common.{◌≡◌, ℕ, suc, ◌≤◌, List, [], ◌∷◌, Option, Some, None, ap, ◌∙◌, arith, slice_get}
use Rattle.std.specs.List.{All}
use Rattle.std.specs.Prelude.{Result, Ok, Err}
use Rattle.core_types.specs.declared.module.Module.{Module}
use Rattle.core_types.specs.declared.outcome.Extern.{Extern}
use Rattle.core_types.specs.declared.outcome.Val.{Val}
use Rattle.meaning.specs.embedding.Commands.{Command, Load, Link, Register, Call, GetGlobal, SetFuel, Refusal, Reply, Ended}
use Rattle.meaning.specs.embedding.Machine.{Applies, AppliesAll, Embedding, GetsAt, LinksAt, Loads, RegistersAt, as_global, export_at}
use Rattle.meaning.specs.embedding.Machine as machine
use Rattle.meaning.specs.execution.Modules.{Instantiation, RunTasks, Task, all_done, done, ended}
use Rattle.meaning.specs.execution.Runs.{Answer, Ending, OutOfFuel, OutOfDepth, State, WithValues}
use Rattle.meaning.specs.execution.Store.{ModuleInstance, Store}
use Rattle.isolation.specs.Fuel.{CommandListsNeedNoDeeper, CommandListsNeedNoMore, CommandsNeedNoDeeper, CommandsNeedNoMore, SetsNoFuel, bounded, fuelled, with_more}
use Rattle.isolation.proofs.Fuel.{calls-deeper, calls-more, runs-deeper, runs-more}

pub behind : {X : Type 0} (P : X → Type 0) (x : X) (xs : List X) → All P (x ∷ xs) → All P xs
behind P x xs all k d inside = all (suc k) d (omega (arith, inside))

module _ {H : Type 0} (HostStep : List H → ℕ → Option ℕ → List Val → Store → Answer → Store → List H → Type 0) where
  -- ---- more fuel

  module _ (more bound n : ℕ) (i : ModuleInstance) where
    tasks-more : {old last : State H} {tasks : List Task} {ending : Ending} → RunTasks HostStep bound n i old tasks ending last
        → (ending ≡ OutOfFuel → ⊥) → RunTasks HostStep bound n i (with_more old more) tasks ending (with_more last more)
    tasks-more all_done enough = all_done
    tasks-more {old} (done {between = between} {a = a} {values = values} is run rest) enough = done is
        (runs-more HostStep bound a.frame old between a.configuration (WithValues values) more run (λ e. cc)) (tasks-more rest enough)
    tasks-more {old} {last} {ending = ending} (ended {a = a} is run empty) enough = ended is (runs-more HostStep bound a.frame old last a.configuration ending more run enough) empty

  link-more : (more bound : ℕ) (m : Module) (given : List Extern) (old new : State H) (ending : Ending)
      → Instantiation HostStep bound m given old ending new → (ending ≡ OutOfFuel → ⊥)
      → Instantiation HostStep bound m given (with_more old more) ending (with_more new more)
  link-more more bound m given old new ending link enough = record { objects = link.objects; allocated = link.allocated; ran = tasks-more more bound _ _ link.ran enough }

  module _ (more : ℕ) (old new : Embedding H) (reply : Reply) (enough : reply ≡ Ended OutOfFuel → ⊥) where
    loads-more : (bytes : List ℕ) → Loads old bytes reply new → Loads (fuelled old more) bytes reply (fuelled new more)
    loads-more bytes (machine.loaded decoded valid r n) = machine.loaded decoded valid r (ap (λ (z : Embedding H). fuelled z more) n)
    loads-more bytes (machine.no_module missing cause (r, n)) = machine.no_module missing cause (r, ap (λ (z : Embedding H). fuelled z more) n)
    loads-more bytes (machine.not_valid decoded invalid (r, n)) = machine.not_valid decoded invalid (r, ap (λ (z : Embedding H). fuelled z more) n)
    loads-more bytes (machine.no_memory (r, n)) = machine.no_memory (r, ap (λ (z : Embedding H). fuelled z more) n)

    links-more : (found : Option Module) → LinksAt HostStep old found reply new → LinksAt HostStep (fuelled old more) found reply (fuelled new more)
    links-more None (r, n) = (r, ap (λ (z : Embedding H). fuelled z more) n)
    links-more (Some m) (machine.linked {externs = externs} {state = state} named allowed link r n) = machine.linked named allowed
        (link-more more old.setup.depth m externs old.state state (WithValues []) link (λ e. cc)) r (ap (λ (z : Embedding H). fuelled z more) n)
    links-more (Some m) (machine.ended {externs = externs} {ending = ending} {state = state} named allowed link empty r n) = machine.ended named
        allowed (link-more more old.setup.depth m externs old.state state ending link (λ e. enough (r ∙ ap Ended e))) empty r
        (ap (λ (z : Embedding H). fuelled z more) n)
    links-more (Some m) (machine.unknown nameless (r, n)) = machine.unknown nameless (r, ap (λ (z : Embedding H). fuelled z more) n)
    links-more (Some m) (machine.incompatible named misfit (r, n)) = machine.incompatible named misfit (r, ap (λ (z : Embedding H). fuelled z more) n)
    links-more (Some m) (machine.too_large named given large (r, n)) = machine.too_large named given large (r, ap (λ (z : Embedding H). fuelled z more) n)
    links-more (Some m) (machine.no_memory (r, n)) = machine.no_memory (r, ap (λ (z : Embedding H). fuelled z more) n)

    registers-more : (name : List ℕ) (found : Option ℕ) → RegistersAt old name found reply new → RegistersAt (fuelled old more) name found reply (fuelled new more)
    registers-more name None (r, n) = (r, ap (λ (z : Embedding H). fuelled z more) n)
    registers-more name (Some instance) (machine.registered unused r n) = machine.registered unused r (ap (λ (z : Embedding H). fuelled z more) n)
    registers-more name (Some instance) (machine.taken has (r, n)) = machine.taken has (r, ap (λ (z : Embedding H). fuelled z more) n)
    registers-more name (Some instance) (machine.no_memory unused (r, n)) = machine.no_memory unused (r, ap (λ (z : Embedding H). fuelled z more) n)

    gets-more : (found : Result ℕ Refusal) → GetsAt old found reply new → GetsAt (fuelled old more) found reply (fuelled new more)
    gets-more (Err why) (r, n) = (r, ap (λ (z : Embedding H). fuelled z more) n)
    gets-more (Ok address) (machine.got is r n) = machine.got is r (ap (λ (z : Embedding H). fuelled z more) n)
    gets-more (Ok address) (machine.no_memory (r, n)) = machine.no_memory (r, ap (λ (z : Embedding H). fuelled z more) n)

  pub commands-more : CommandsNeedNoMore HostStep
  commands-more old new (Load bytes) reply more sets applies enough = loads-more more old new reply enough bytes applies
  commands-more old new (Link number) reply more sets applies enough = links-more more old new reply enough (slice_get old.modules number) applies
  commands-more old new (Register number name) reply more sets applies enough = registers-more more old new reply enough name (slice_get old.instances number) applies
  commands-more old new (Call number name arguments) reply more sets applies enough = calls-more HostStep old new number name arguments reply more applies enough
  commands-more old new (GetGlobal number name) reply more sets applies enough = gets-more more old new reply enough (as_global (export_at old number name)) applies
  commands-more old new (SetFuel fuel) reply more sets applies enough = absurd sets

  list-more : (more : ℕ) {old last : Embedding H} {commands : List Command} {replies : List Reply} → AppliesAll HostStep old commands replies last
      → All SetsNoFuel commands → All (λ reply. reply ≡ Ended OutOfFuel → ⊥) replies
      → AppliesAll HostStep (fuelled old more) commands replies (fuelled last more)
  list-more more machine.none sets enough = machine.none
  list-more more {old} (machine.then_on {between = between} {command = command} {commands = commands} {reply = reply} {replies = replies} first rest) sets enough =
      machine.then_on (commands-more old between command reply more (sets 0 command (omega arith)) first (enough 0 reply (omega arith)))
      (list-more more rest (behind SetsNoFuel command commands sets) (behind (λ (r : Reply). r ≡ Ended OutOfFuel → ⊥) reply replies enough))

  pub lists-more : CommandListsNeedNoMore HostStep
  lists-more old last commands replies more sets run enough = list-more more run sets enough

  -- ---- a larger bound

  module _ (bound deeper : ℕ) (larger : bound ≤ deeper) (n : ℕ) (i : ModuleInstance) where
    tasks-deeper : {old last : State H} {tasks : List Task} {ending : Ending} → RunTasks HostStep bound n i old tasks ending last
        → (ending ≡ OutOfDepth → ⊥) → RunTasks HostStep deeper n i old tasks ending last
    tasks-deeper all_done enough = all_done
    tasks-deeper {old} (done {between = between} {a = a} {values = values} is run rest) enough = done is
        (runs-deeper HostStep bound deeper a.frame old between a.configuration (WithValues values) larger run (λ e. cc)) (tasks-deeper rest enough)
    tasks-deeper {old} {last} {ending = ending} (ended {a = a} is run empty) enough = ended is (runs-deeper HostStep bound deeper a.frame old last a.configuration ending larger run enough) empty

  link-deeper : (bound deeper : ℕ) → bound ≤ deeper → (m : Module) (given : List Extern) (old new : State H) (ending : Ending)
      → Instantiation HostStep bound m given old ending new → (ending ≡ OutOfDepth → ⊥) → Instantiation HostStep deeper m given old ending new
  link-deeper bound deeper larger m given old new ending link enough = record { objects = link.objects; allocated = link.allocated; ran = tasks-deeper bound deeper larger _ _ link.ran enough }

  module _ (deeper : ℕ) (old new : Embedding H) (reply : Reply) (larger : old.setup.depth ≤ deeper) (enough : reply ≡ Ended OutOfDepth → ⊥) where
    loads-deeper : (bytes : List ℕ) → Loads old bytes reply new → Loads (bounded old deeper) bytes reply (bounded new deeper)
    loads-deeper bytes (machine.loaded decoded valid r n) = machine.loaded decoded valid r (ap (λ (z : Embedding H). bounded z deeper) n)
    loads-deeper bytes (machine.no_module missing cause (r, n)) = machine.no_module missing cause (r, ap (λ (z : Embedding H). bounded z deeper) n)
    loads-deeper bytes (machine.not_valid decoded invalid (r, n)) = machine.not_valid decoded invalid (r, ap (λ (z : Embedding H). bounded z deeper) n)
    loads-deeper bytes (machine.no_memory (r, n)) = machine.no_memory (r, ap (λ (z : Embedding H). bounded z deeper) n)

    links-deeper : (found : Option Module) → LinksAt HostStep old found reply new → LinksAt HostStep (bounded old deeper) found reply (bounded new deeper)
    links-deeper None (r, n) = (r, ap (λ (z : Embedding H). bounded z deeper) n)
    links-deeper (Some m) (machine.linked {externs = externs} {state = state} named allowed link r n) = machine.linked named allowed
        (link-deeper old.setup.depth deeper larger m externs old.state state (WithValues []) link (λ e. cc)) r (ap (λ (z : Embedding H). bounded z deeper) n)
    links-deeper (Some m) (machine.ended {externs = externs} {ending = ending} {state = state} named allowed link empty r n) = machine.ended named
        allowed (link-deeper old.setup.depth deeper larger m externs old.state state ending link (λ e. enough (r ∙ ap Ended e))) empty r
        (ap (λ (z : Embedding H). bounded z deeper) n)
    links-deeper (Some m) (machine.unknown nameless (r, n)) = machine.unknown nameless (r, ap (λ (z : Embedding H). bounded z deeper) n)
    links-deeper (Some m) (machine.incompatible named misfit (r, n)) = machine.incompatible named misfit (r, ap (λ (z : Embedding H). bounded z deeper) n)
    links-deeper (Some m) (machine.too_large named given large (r, n)) = machine.too_large named given large (r, ap (λ (z : Embedding H). bounded z deeper) n)
    links-deeper (Some m) (machine.no_memory (r, n)) = machine.no_memory (r, ap (λ (z : Embedding H). bounded z deeper) n)

    registers-deeper : (name : List ℕ) (found : Option ℕ) → RegistersAt old name found reply new → RegistersAt (bounded old deeper) name found reply (bounded new deeper)
    registers-deeper name None (r, n) = (r, ap (λ (z : Embedding H). bounded z deeper) n)
    registers-deeper name (Some instance) (machine.registered unused r n) = machine.registered unused r (ap (λ (z : Embedding H). bounded z deeper) n)
    registers-deeper name (Some instance) (machine.taken has (r, n)) = machine.taken has (r, ap (λ (z : Embedding H). bounded z deeper) n)
    registers-deeper name (Some instance) (machine.no_memory unused (r, n)) = machine.no_memory unused (r, ap (λ (z : Embedding H). bounded z deeper) n)

    gets-deeper : (found : Result ℕ Refusal) → GetsAt old found reply new → GetsAt (bounded old deeper) found reply (bounded new deeper)
    gets-deeper (Err why) (r, n) = (r, ap (λ (z : Embedding H). bounded z deeper) n)
    gets-deeper (Ok address) (machine.got is r n) = machine.got is r (ap (λ (z : Embedding H). bounded z deeper) n)
    gets-deeper (Ok address) (machine.no_memory (r, n)) = machine.no_memory (r, ap (λ (z : Embedding H). bounded z deeper) n)

  pub commands-deeper : CommandsNeedNoDeeper HostStep
  commands-deeper old new (Load bytes) reply deeper larger applies enough = loads-deeper deeper old new reply larger enough bytes applies
  commands-deeper old new (Link number) reply deeper larger applies enough = links-deeper deeper old new reply larger enough (slice_get old.modules number) applies
  commands-deeper old new (Register number name) reply deeper larger applies enough = registers-deeper deeper old new reply larger enough name (slice_get old.instances number) applies
  commands-deeper old new (Call number name arguments) reply deeper larger applies enough = calls-deeper HostStep old new number name arguments reply deeper larger applies enough
  commands-deeper old new (GetGlobal number name) reply deeper larger applies enough = gets-deeper deeper old new reply larger enough (as_global (export_at old number name)) applies
  commands-deeper old new (SetFuel fuel) reply deeper larger applies enough = (applies.0, ap (λ (z : Embedding H). bounded z deeper) applies.1)

  list-deeper : (deeper : ℕ) {old last : Embedding H} {commands : List Command} {replies : List Reply} → AppliesAll HostStep old commands replies last
      → old.setup.depth ≤ deeper → (numbers : (a b : Embedding H) (command : Command) (reply : Reply) → Applies HostStep a command reply b → b.setup ≡ a.setup)
      → All (λ reply. reply ≡ Ended OutOfDepth → ⊥) replies → AppliesAll HostStep (bounded old deeper) commands replies (bounded last deeper)
  list-deeper deeper machine.none larger setup enough = machine.none
  list-deeper deeper {old} (machine.then_on {between = between} {command = command} {commands = commands} {reply = reply} {replies = replies} first rest) larger setup enough =
      let same = ap (λ (s : machine.Setup). s.depth) (setup old between command reply first) in
      machine.then_on (commands-deeper old between command reply deeper larger first (enough 0 reply (omega arith)))
      (list-deeper deeper rest (omega (arith, same, larger)) setup (behind (λ (r : Reply). r ≡ Ended OutOfDepth → ⊥) reply replies enough))

  pub lists-deeper : ((a b : Embedding H) (command : Command) (reply : Reply) → Applies HostStep a command reply b → b.setup ≡ a.setup) → CommandListsNeedNoDeeper HostStep
  lists-deeper setup old last commands replies deeper larger run enough = list-deeper deeper run larger setup enough
