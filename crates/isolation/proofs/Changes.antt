-- What a command changes of an embedding, whatever it reaches.
use Rattle.std.proofs.Common.{◌≡◌, ℕ, zero, suc, List, [], ◌∷◌, ◌++◌, length, reverse, Option, Some, None, refl, ap, sym, ◌∙◌, slice_get, ◌⊎◌, inl, inr}
use Rattle.std.specs.Prelude.{Result, Ok, Err}
use Rattle.core_types.specs.declared.module.Module.{Module}
use Rattle.core_types.specs.declared.outcome.Extern.{Extern}
use Rattle.core_types.specs.declared.outcome.Val.{Val}
use Rattle.meaning.specs.embedding.Commands.{Command, Load, Link, Register, Call, GetGlobal, SetFuel, Refusal, Reply, Linked}
use Rattle.meaning.specs.embedding.Machine.{Applies, CallsAt, Embedding, GetsAt, LinksAt, Loads, Refuses, RegistersAt, as_function, as_global, export_at, with_fuel}
use Rattle.meaning.specs.embedding.Machine as machine
use Rattle.meaning.specs.embedding.Names.{NamesContents}
use Rattle.meaning.specs.execution.Configurations.{Invoking, no_frame}
use Rattle.meaning.specs.execution.Modules.{Instantiation}
use Rattle.meaning.specs.execution.Runs.{Answer, Ending, Run, State, WithValues}
use Rattle.meaning.specs.execution.Store.{Store}
use Rattle.soundness.proofs.Appends.{append-at}

abbrev pub IsNoLink : Reply → Type 0
IsNoLink reply = (number : ℕ) → reply ≡ Linked number → ⊥

is-other : {reply other : Reply} → reply ≡ other → IsNoLink other → IsNoLink reply
is-other same none number linked = none number (sym same ∙ linked)

-- What is found in a list with one more item is found in the list, or is that item.
pub append-last : {X : Type 0} (xs : List X) (y : X) (k : ℕ) (x : X) → slice_get (xs ++ (y ∷ [])) k ≡ Some x → (slice_get xs k ≡ Some x) ⊎ ((k ≡ length xs) × (x ≡ y))
append-last [] y zero x is = inr (refl, cc)
append-last [] y (suc k) x is = absurd cc
append-last (z ∷ xs) y zero x is = inl is
append-last (z ∷ xs) y (suc k) x is = elim (append-last xs y k x is) [
  | inl before ↦ inl before
  | inr last ↦ inr (ap suc last.0, last.1)
]

-- The command linked an instance of this number, which is at this address.
abbrev pub IsMade : {H : Type 0} → (old : Embedding H) (command : Command) (reply : Reply) (k x : ℕ) → Type 0
IsMade old command reply k x = (reply ≡ Linked k) × (x ≡ length old.state.store.instances) × ((number : ℕ) × (command ≡ Link number))

number-kept : {old new : List ℕ} (k : ℕ) {x : ℕ} → new ≡ old → slice_get old k ≡ Some x → slice_get new k ≡ Some x
number-kept k same is = ap (λ (is : List ℕ). slice_get is k) same ∙ is

module _ {H : Type 0} (HostStep : List H → ℕ → Option ℕ → List Val → Store → Answer → Store → List H → Type 0) where
  -- A command adds modules or names, sets the fuel, runs a call or a link, or changes nothing.
  pub data Change (old : Embedding H) (command : Command) (reply : Reply) (new : Embedding H) : Type 0 where
    nothing_done : IsNoLink reply → new ≡ old → Change old command reply new
    modules_loaded : {modules : List Module} → IsNoLink reply → new ≡ record old { modules = modules } → Change old command reply new
    name_registered : {number : ℕ} {name : List ℕ} {names : NamesContents} → command ≡ Register number name → IsNoLink reply → new ≡ record old { names = names } → Change old command reply new
    fuel_set : {fuel : ℕ} → IsNoLink reply → new ≡ with_fuel old fuel → Change old command reply new
    call_run : (arguments : List Val) {address : ℕ} {ending : Ending} {state : State H} → Run HostStep old.setup.depth no_frame old.state (Invoking (reverse arguments) address) ending state
        → IsNoLink reply → new ≡ record old { state = state } → Change old command reply new
    link_made : {number : ℕ} {m : Module} {given : List Extern} {state : State H} → Instantiation HostStep old.setup.depth m given old.state (WithValues []) state
        → command ≡ Link number → reply ≡ Linked (length old.instances)
        → new ≡ record old { instances = old.instances ++ (length old.state.store.instances ∷ []); state = state } → Change old command reply new
    link_failed : {m : Module} {given : List Extern} {ending : Ending} {state : State H} → Instantiation HostStep old.setup.depth m given old.state ending state
        → IsNoLink reply → new ≡ record old { state = state } → Change old command reply new

  module _ (old new : Embedding H) (reply : Reply) where
    refused : (command : Command) {why : Refusal} → Refuses old why reply new → Change old command reply new
    refused command (r, n) = nothing_done (is-other r (λ number linked. cc)) n

    load-change : (bytes : List ℕ) → Loads old bytes reply new → Change old (Load bytes) reply new
    load-change bytes (machine.loaded decoded valid r n) = modules_loaded (is-other r (λ number linked. cc)) n
    load-change bytes (machine.no_module missing cause refuses) = refused (Load bytes) refuses
    load-change bytes (machine.not_valid decoded invalid refuses) = refused (Load bytes) refuses
    load-change bytes (machine.no_memory refuses) = refused (Load bytes) refuses

    link-change : (number : ℕ) (found : Option Module) → LinksAt HostStep old found reply new → Change old (Link number) reply new
    link-change number None refuses = refused (Link number) refuses
    link-change number (Some m) (machine.linked named allowed link r n) = link_made link refl r n
    link-change number (Some m) (machine.ended named allowed link empty r n) = link_failed link (is-other r (λ number linked. cc)) n
    link-change number (Some m) (machine.unknown nameless refuses) = refused (Link number) refuses
    link-change number (Some m) (machine.incompatible named misfit refuses) = refused (Link number) refuses
    link-change number (Some m) (machine.too_large named given large refuses) = refused (Link number) refuses
    link-change number (Some m) (machine.no_memory refuses) = refused (Link number) refuses

    register-change : (number : ℕ) (name : List ℕ) (found : Option ℕ) → RegistersAt old name found reply new → Change old (Register number name) reply new
    register-change number name None refuses = refused (Register number name) refuses
    register-change number name (Some instance) (machine.registered unused r n) = name_registered refl (is-other r (λ number linked. cc)) n
    register-change number name (Some instance) (machine.taken has refuses) = refused (Register number name) refuses
    register-change number name (Some instance) (machine.no_memory unused refuses) = refused (Register number name) refuses

    call-change : (command : Command) (arguments : List Val) (found : Result ℕ Refusal) → CallsAt HostStep old found arguments reply new → Change old command reply new
    call-change command arguments (Err why) refuses = refused command refuses
    call-change command arguments (Ok address) (machine.called takes run r n) = call_run arguments run (is-other r (λ number linked. cc)) n
    call-change command arguments (Ok address) (machine.bad_arguments misfit refuses) = refused command refuses

    get-change : (command : Command) (found : Result ℕ Refusal) → GetsAt old found reply new → Change old command reply new
    get-change command (Err why) refuses = refused command refuses
    get-change command (Ok address) (machine.got there r n) = nothing_done (is-other r (λ number linked. cc)) n
    get-change command (Ok address) (machine.no_memory refuses) = refused command refuses

    pub command-change : (command : Command) → Applies HostStep old command reply new → Change old command reply new
    command-change (Load bytes) applies = load-change bytes applies
    command-change (Link number) applies = link-change number (slice_get old.modules number) applies
    command-change (Register number name) applies = register-change number name (slice_get old.instances number) applies
    command-change (Call number name arguments) applies = call-change (Call number name arguments) arguments (as_function (export_at old number name)) applies
    command-change (GetGlobal number name) applies = get-change (GetGlobal number name) (as_global (export_at old number name)) applies
    command-change (SetFuel fuel) applies = fuel_set (is-other applies.0 (λ number linked. cc)) applies.1

  -- ---- what each command keeps

  module _ {old new : Embedding H} {command : Command} {reply : Reply} where
    pub setup-kept : Change old command reply new → new.setup ≡ old.setup
    setup-kept (nothing_done r n) = ap (λ (e : Embedding H). e.setup) n
    setup-kept (modules_loaded r n) = ap (λ (e : Embedding H). e.setup) n
    setup-kept (name_registered c r n) = ap (λ (e : Embedding H). e.setup) n
    setup-kept (fuel_set r n) = ap (λ (e : Embedding H). e.setup) n
    setup-kept (call_run arguments run r n) = ap (λ (e : Embedding H). e.setup) n
    setup-kept (link_made link c r n) = ap (λ (e : Embedding H). e.setup) n
    setup-kept (link_failed link r n) = ap (λ (e : Embedding H). e.setup) n

    pub numbers-kept : Change old command reply new → (k x : ℕ) → slice_get old.instances k ≡ Some x → slice_get new.instances k ≡ Some x
    numbers-kept (nothing_done r n) k x is = number-kept k (ap (λ (e : Embedding H). e.instances) n) is
    numbers-kept (modules_loaded r n) k x is = number-kept k (ap (λ (e : Embedding H). e.instances) n) is
    numbers-kept (name_registered c r n) k x is = number-kept k (ap (λ (e : Embedding H). e.instances) n) is
    numbers-kept (fuel_set r n) k x is = number-kept k (ap (λ (e : Embedding H). e.instances) n) is
    numbers-kept (call_run arguments run r n) k x is = number-kept k (ap (λ (e : Embedding H). e.instances) n) is
    numbers-kept (link_made link c r n) k x is = ap (λ (e : Embedding H). slice_get e.instances k) n ∙ append-at old.instances (length old.state.store.instances ∷ []) k x is
    numbers-kept (link_failed link r n) k x is = number-kept k (ap (λ (e : Embedding H). e.instances) n) is

    -- Each instance that has a number had it before, or is made.
    pub numbers-before : Change old command reply new → (k x : ℕ) → slice_get new.instances k ≡ Some x → (slice_get old.instances k ≡ Some x) ⊎ IsMade old command reply k x
    numbers-before (nothing_done r n) k x is = inl (number-kept k (sym (ap (λ (e : Embedding H). e.instances) n)) is)
    numbers-before (modules_loaded r n) k x is = inl (number-kept k (sym (ap (λ (e : Embedding H). e.instances) n)) is)
    numbers-before (name_registered c r n) k x is = inl (number-kept k (sym (ap (λ (e : Embedding H). e.instances) n)) is)
    numbers-before (fuel_set r n) k x is = inl (number-kept k (sym (ap (λ (e : Embedding H). e.instances) n)) is)
    numbers-before (call_run arguments run r n) k x is = inl (number-kept k (sym (ap (λ (e : Embedding H). e.instances) n)) is)
    numbers-before (link_made {number = number} link c r n) k x is =
        elim (append-last old.instances (length old.state.store.instances) k x (ap (λ (e : Embedding H). slice_get e.instances k) (sym n) ∙ is)) [
          | inl before ↦ inl before
          | inr last ↦ inr (r ∙ ap Linked (sym last.0), last.1, (number, c))
        ]
    numbers-before (link_failed link r n) k x is = inl (number-kept k (sym (ap (λ (e : Embedding H). e.instances) n)) is)

    -- Only the reply to a link has the number of an instance.
    pub links-alone : Change old command reply new → ((number : ℕ) → command ≡ Link number → ⊥) → IsNoLink reply
    links-alone (nothing_done r n) other = r
    links-alone (modules_loaded r n) other = r
    links-alone (name_registered c r n) other = r
    links-alone (fuel_set r n) other = r
    links-alone (call_run arguments run r n) other = r
    links-alone (link_made {number = number} link c r n) other = absurd (other number c)
    links-alone (link_failed link r n) other = r
