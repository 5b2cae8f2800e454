-- Tasks of a link that go well, and what they leave.
use Rattle.std.proofs.Common.{◌≡◌, ℕ, List, [], ◌∷◌, ◌++◌, ◌≤◌, length, take, Result, Ok, Err, refl, ap, sym, subst, append_assoc, arith}
use Rattle.std.specs.List.{All}
use Rattle.std.proofs.lemmas.List.{append-nil, length-take-le}
use Rattle.std.specs.Prelude.{Option, Some, None}
use Rattle.core_types.specs.declared.module.Import.{Import}
use Rattle.core_types.specs.declared.module.Module.{Module}
use Rattle.core_types.specs.declared.outcome.Extern.{Extern}
use Rattle.meaning.specs.execution.Modules.{AreGiven, Instantiation, IsAllowed, RunTasks, Task, all_done}
use Rattle.meaning.specs.execution.Runs.{Ending, NoHosts, State, WithValues}
use Rattle.meaning.specs.execution.Store.{ModuleInstance, Store}
use Rattle.soundness.specs.Links.{InstanceStays, IsLinkable, IsSoundModule, TaskIsGood, TasksAreGood}
use Rattle.soundness.specs.Progress.{TasksGetStuck}
use Rattle.soundness.specs.Stores.{Extends, StoreIsValid}
use Rattle.soundness.proofs.Decoded.{All-before}
use Rattle.soundness.proofs.Effects.{Extends-same}
use Rattle.meaning.specs.structure.Bodies.{Body, body_of, writing}
use Rattle.exec.specs.Endings.{ending_of}
use Rattle.soundness.proofs.Fuel.{link-spends}
use Rattle.soundness.proofs.Hosts.{ready-linked, ready-still}
use Rattle.soundness.proofs.Links.{links-never-go-wrong, tasks-end-alone, tasks-never-stuck, tasks-never-stuck-alone}
use Rattle.hostfunc.specs.Boxes.{HaveHosts, HostStep, IfHostsKeep, KeepsItsType, OwnHostStep, type_of_host}
use Rattle.hostfunc.specs.declared.host_function.HostFn.{Ghosts}
use Rattle.hostfunc.specs.declared.host_object.HostObject.{HostObject}
use Rattle.hostfunc.proofs.Fitting.{boxes-answer-well}
use Rattle.hostfunc.proofs.Own.{own-link}
use Rattle.instantiate.specs.Links.{LeavesInstance, Links, given_to}
use Rattle.instantiate.specs.declared.link_end.LinkEnd.{LinkEnd}
use Rattle.instantiate.specs.declared.link_end.LinkEnd.TheVariants.{Ended, Refused}
use Rattle.instantiate.specs.declared.link_end.TaskEnd.{TaskEnd}
use Rattle.instantiate.specs.declared.link_end.TaskEnd.TheVariants.{Stuck}
use Rattle.instantiate.proofs.lemmas.Links.{given-enough}
use Rattle.instantiate.specs.Tasks.{EndedTasks, RanTasks, TasksRunOn, ending_in}

-- The first of good tasks are good.
pub good-part : (store : Store) (n : ℕ) (i : ModuleInstance) (first second third : List Task) → TasksAreGood store n i (first ++ (second ++ third)) → TasksAreGood store n i (first ++ second)
good-part store n i first second third good at valid more =
    All-before (TaskIsGood at n i) (first ++ second) third (subst (All (TaskIsGood at n i)) (sym (append_assoc first second third)) (good at valid more))

-- Values after the last import can be left out.
pub given-taken : (store : Store) (m : Module) (imports : List Import) (externs : List Extern) → AreGiven store m imports externs → AreGiven store m imports (take (length imports) externs)
given-taken store m [] externs given = tt
given-taken store m (i ∷ imports) [] given = absurd given
given-taken store m (i ∷ imports) (e ∷ externs) given = (given.0, given-taken store m imports externs given.1)

-- A loaded module can be linked with what is given for its imports.
pub is-linkable : (store : Store) (m : Module) (externs : List Extern) (n : ℕ) → n ≡ length m.imports → IsSoundModule m → IsAllowed store m externs → IsLinkable store m (take n externs)
is-linkable store m externs n count sound allowed =
    let enough = given-enough store m m.imports externs allowed.given in
    rw count (record { sound = sound; within = allowed.within; count = length-take-le (length m.imports) externs enough; fits = given-taken store m m.imports externs allowed.given })

-- Good tasks that ran without host functions leave a valid store.
on-valid : (ending : Option Ending) (bound n : ℕ) (i : ModuleInstance) (old new : State ⊥) (tasks : List Task) → StoreIsValid old.store
    → TasksAreGood old.store n i tasks → TasksRunOn NoHosts bound n i old (tasks ++ []) ending new → StoreIsValid new.store
on-valid (Some ending) bound n i old new tasks valid good ran =
    (tasks-end-alone bound old.store n i tasks good valid (Extends-same old.store) (subst (λ (ts : List Task). RunTasks NoHosts bound n i old ts ending new) (append-nil tasks) ran)).valid
on-valid None bound n i old new tasks valid good ran =
    absurd (tasks-never-stuck-alone bound old.store n i tasks good valid (Extends-same old.store) (subst (λ (ts : List Task). TasksGetStuck NoHosts bound n i old ts) (append-nil tasks) ran))

pub ran-valid : {U : Type 0} (r : Result U TaskEnd) (bound n : ℕ) (i : ModuleInstance) (old new : State ⊥) (tasks : List Task)
    → StoreIsValid old.store → TasksAreGood old.store n i tasks → RanTasks NoHosts r bound n i old tasks new → StoreIsValid new.store
ran-valid (Ok u) bound n i old new tasks valid good ran = on-valid (Some (WithValues [])) bound n i old new tasks valid good (ran [] (Some (WithValues [])) new all_done)
ran-valid (Err o) bound n i old new tasks valid good ran = on-valid (ending_in o) bound n i old new tasks valid good (ran.ended [])

-- Good tasks never get stuck.
pub never-stuck-tasks : {I : Type 0} {F : I → Type 0} (members : (i : I) → Ghosts (F i)) (bound n : ℕ) (i : ModuleInstance) (old new : State (HostObject I F)) (tasks : List Task)
    → StoreIsValid old.store → HaveHosts old.store old.hosts → TasksAreGood old.store n i tasks → EndedTasks (HostStep members) bound n i old tasks Stuck new → ⊥
never-stuck-tasks members bound n i old new tasks valid ready good ran =
    tasks-never-stuck (HostStep members) HaveHosts (ready-still type_of_host) (boxes-answer-well members) bound old.store n i tasks good valid ready (Extends-same old.store)
    (subst (λ (ts : List Task). TasksGetStuck (HostStep members) bound n i old ts) (append-nil tasks) (ran.ended []))

-- What a link of a loaded module leaves, however it ends.
pub record LeftWell {H : Type 0} (r : Result ℕ LinkEnd) (m : Module) (externs : List Extern) (old new : State H) : Type 0 where
  pub extends : Extends old.store new.store
  pub instance_stays : LeavesInstance r m externs old.store new.store
  pub spends : new.fuel ≤ old.fuel

module _ (read : (b : Body) → body_of (writing b) ≡ b) {I : Type 0} {F : I → Type 0} (members : (i : I) → Ghosts (F i)) where
  ran-leaves : (bound : ℕ) (m : Module) (externs : List Extern) (old new : State (HostObject I F)) (ending : Ending) → StoreIsValid old.store → HaveHosts old.store old.hosts → IsSoundModule m
      → IsAllowed old.store m externs → Instantiation (HostStep members) bound m (given_to m externs) old ending new
      → Extends old.store new.store × InstanceStays old.store new.store m (given_to m externs) × (new.fuel ≤ old.fuel)
  ran-leaves bound m externs old new ending valid ready sound allowed run =
      let linkable = is-linkable old.store m externs (length m.imports) refl sound allowed in
      let (ended, stays) = links-never-go-wrong read (HostStep members) HaveHosts (ready-still type_of_host) (ready-linked type_of_host)
      (boxes-answer-well members) bound m (given_to m externs) old new ending valid ready linkable run in
      (ended.extends, stays, link-spends (HostStep members) bound m (given_to m externs) run)

  pub link-leaves : (r : Result ℕ LinkEnd) (bound : ℕ) (m : Module) (externs : List Extern) (old new : State (HostObject I F))
      → StoreIsValid old.store → HaveHosts old.store old.hosts → IsSoundModule m
      → Links (HostStep members) r bound m externs old new → LeftWell r m externs old new
  link-leaves (Ok number) bound m externs old new valid ready sound linked =
      let (extends, stays, spends) = ran-leaves bound m externs old new (WithValues []) valid ready sound linked.allowed linked.run in
      record { extends = extends; instance_stays = stays; spends = spends }
  link-leaves (Err (Ended o)) bound m externs old new valid ready sound linked =
      let (extends, stays, spends) = ran-leaves bound m externs old new (ending_of o) valid ready sound linked.allowed linked.run in
      record { extends = extends; instance_stays = stays; spends = spends }
  link-leaves (Err (Refused refusal)) bound m externs old new valid ready sound linked =
      let same : new.fuel ≡ old.fuel = ap (λ (s : State (HostObject I F)). s.fuel) linked.unchanged in
      record {
        extends = subst (λ (s : State (HostObject I F)). Extends old.store s.store) (sym linked.unchanged) (Extends-same old.store);
        instance_stays = tt;
        spends = omega (arith, same);
      }

-- ---- host functions that keep their types

module _ {I : Type 0} {F : I → Type 0} (members : (i : I) → Ghosts (F i)) where
  pub links-own : (r : Result ℕ LinkEnd) (bound : ℕ) (m : Module) (externs : List Extern) (old new : State (HostObject I F)) → Links (HostStep members) r bound m externs old new
      → IfHostsKeep members old.hosts new.hosts (Links (OwnHostStep members) r bound m externs old new)
  links-own (Ok number) bound m externs old new linked kept =
      let (own, keeps) = own-link members bound m (given_to m externs) old new (WithValues []) linked.run kept in
      (record { allowed = linked.allowed; number_is = linked.number_is; run = own }, keeps)
  links-own (Err (Ended o)) bound m externs old new linked kept =
      let (own, keeps) = own-link members bound m (given_to m externs) old new (ending_of o) linked.run kept in
      (record { allowed = linked.allowed; no_values = linked.no_values; run = own }, keeps)
  links-own (Err (Refused refusal)) bound m externs old new linked kept =
      (linked, subst (λ (s : State (HostObject I F)). All (KeepsItsType members) s.hosts) (sym linked.unchanged) kept)
