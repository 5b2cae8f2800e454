-- A link of a module without a start function calls no host function.
use Rattle.std.proofs.Common.{◌≡◌, ℕ, ◌%◌, ◌^◌, suc, List, [], ◌∷◌, ◌++◌, Option, Some, None, refl, ap, sym, subst, ◌∙◌, option_map}
use Rattle.core_types.specs.declared.module.DataMode.{DataMode}
use Rattle.core_types.specs.declared.module.DataMode.TheVariants as data_mode
use Rattle.core_types.specs.declared.module.ElementItems.{ElementItems}
use Rattle.core_types.specs.declared.module.ElementMode.{ElementMode}
use Rattle.core_types.specs.declared.module.ElementMode.TheVariants.{Passive, Active, Declarative}
use Rattle.core_types.specs.declared.module.Module.{Module}
use Rattle.core_types.specs.declared.op.PlainOp.{PlainOp}
use Rattle.core_types.specs.declared.op.PlainOp.TheVariants.{Memory, Table}
use Rattle.core_types.specs.declared.outcome.Val.{Val}
use Rattle.core_types.specs.declared.outcome.Val.TheVariants.{I32}
use Rattle.meaning.specs.structure.Bodies.{Body, Empty, Then, Nested, IfElse}
use Rattle.meaning.specs.execution.Configurations.{Configuration, Frame, InFrame, InLabel, Invoking, Running}
use Rattle.meaning.specs.execution.Effects.{Effect, Done, Grown, Fails, Lacks, effect}
use Rattle.meaning.specs.execution.Instructions.{Next, Goes, Grows, Opens, CallsHost, Traps, Branches, Returns, TailCalls, Over, NotReady, continue_after, next}
use Rattle.meaning.specs.execution.Modules.{Activity, Copies, Drops, Starts, RunTasks, Task, activity, all_done, constant_value, data_task, data_tasks, done}
use Rattle.meaning.specs.execution.Modules.{element_task, element_tasks, ended, in_instance, start_task, tasks_by, tasks_of}
use Rattle.meaning.specs.execution.Runs.{Answer, Ending, IsEnd, IsStep, Run, State, goes, grows, opens, calls, values_left, trapped, host_trapped, no_fuel, no_depth, no_memory, end, step}
use Rattle.meaning.specs.execution.Store.{ModuleInstance, Store}
use Rattle.isolation.specs.Isolation.{LinksWithoutStart}
use Rattle.isolation.proofs.Constants.{OfEach}

-- ---- bodies of instructions on tables, memories and segments

abbrev IsPlainOp : PlainOp → Type 0
IsPlainOp (Table op) = Unit {0}
IsPlainOp (Memory op) = Unit {0}
IsPlainOp op = ⊥

abbrev IsPlain : Body → Type 0
IsPlain Empty = Unit {0}
IsPlain (Then op rest) = IsPlainOp op × IsPlain rest
IsPlain (Nested kind type inner rest) = ⊥
IsPlain (IfElse type inner other rest) = ⊥

abbrev RunsPlain : Configuration → Type 0
RunsPlain (Running values rest) = IsPlain rest
RunsPlain (InLabel label inside) = ⊥
RunsPlain (InFrame activation frame inside) = ⊥
RunsPlain (Invoking arguments address) = ⊥

abbrev NextIsPlain : Next → Type 0
NextIsPlain (Goes cost store frame c) = RunsPlain c
NextIsPlain (Grows cost store frame c) = RunsPlain c
NextIsPlain (Opens cost store c) = ⊥
NextIsPlain (CallsHost cost number lent arguments c) = ⊥
NextIsPlain (Traps cost trap) = Unit {0}
NextIsPlain (Branches label values) = Unit {0}
NextIsPlain (Returns values) = Unit {0}
NextIsPlain (TailCalls lent f values) = Unit {0}
NextIsPlain (Over values) = Unit {0}
NextIsPlain NotReady = Unit {0}

after-plain : (frame : Frame) (e : Effect) (rest : Body) → IsPlain rest → NextIsPlain (continue_after frame e rest)
after-plain frame (Done cost store locals values) rest plain = plain
after-plain frame (Grown cost store locals values) rest plain = plain
after-plain frame (Fails trap) rest plain = tt
after-plain frame Lacks rest plain = tt

next-plain : (store : Store) (frame : Frame) (c : Configuration) → RunsPlain c → NextIsPlain (next store frame c)
next-plain store frame (Running values Empty) plain = tt
next-plain store frame (Running values (Then (Table op) rest)) plain = after-plain frame (effect store frame (Table op) values) rest plain.1
next-plain store frame (Running values (Then (Memory op) rest)) plain = after-plain frame (effect store frame (Memory op) values) rest plain.1
next-plain store frame (Running values (Then op rest)) plain = absurd plain.0
next-plain store frame (Running values (Nested kind type inner rest)) plain = absurd plain
next-plain store frame (Running values (IfElse type inner other rest)) plain = absurd plain
next-plain store frame (InLabel label inside) plain = absurd plain
next-plain store frame (InFrame activation own inside) plain = absurd plain
next-plain store frame (Invoking arguments address) plain = absurd plain

module _ {H : Type 0} (HostStep : List H → ℕ → Option ℕ → List Val → Store → Answer → Store → List H → Type 0) where
  -- ---- runs

  module _ (bound : ℕ) (outside : Frame) where
    module _ (old : State H) (c : Configuration) (plain : RunsPlain c) where
      at : (n : Next) → next old.store outside c ≡ n → NextIsPlain n
      at n is = subst NextIsPlain is (next-plain old.store outside c plain)

      step-plain : {new : State H} {c' : Configuration} → IsStep HostStep bound outside old c new c' → (new.hosts ≡ old.hosts) × RunsPlain c'
      step-plain (goes is enough left hosts) = (hosts, at _ is)
      step-plain (grows is enough left hosts) = (hosts, at _ is)
      step-plain (opens is enough left hosts within) = absurd (at _ is)
      step-plain (calls is enough left told then) = absurd (at _ is)

      end-plain : {last : State H} {ending : Ending} → IsEnd HostStep bound outside old c ending last → last.hosts ≡ old.hosts
      end-plain (values_left is e l) = ap (λ (s : State H). s.hosts) l
      end-plain (trapped is le e l) = ap (λ (s : State H). s.hosts) l
      end-plain (host_trapped is le left told e) = absurd (at _ is)
      end-plain (no_fuel little e l) = ap (λ (s : State H). s.hosts) l
      end-plain (no_depth is le deep e l) = ap (λ (s : State H). s.hosts) l
      end-plain (no_memory asks within le e l) = ap (λ (s : State H). s.hosts) l

    run-plain : {old last : State H} {c : Configuration} {ending : Ending} → Run HostStep bound outside old c ending last → RunsPlain c → last.hosts ≡ old.hosts
    run-plain {old} {last} {c} (end is) plain = end-plain old c plain is
    run-plain {old} {last} {c} (step first rest) plain = let (same, then) = step-plain old c plain first in run-plain rest then ∙ same

  -- ---- tasks

  abbrev StartsNothing : Task → Type 0
  StartsNothing (Copies offset count init drop) = IsPlainOp init × IsPlainOp drop
  StartsNothing (Drops drop) = IsPlainOp drop
  StartsNothing (Starts x) = ⊥

  activity-plain : (store : Store) (n : ℕ) (i : ModuleInstance) (task : Task) (a : Activity) → activity store n i task ≡ Some a → StartsNothing task → RunsPlain a.configuration
  activity-plain store n i (Copies offset count init drop) a is plain = go (constant_value store i offset) is
    where
      go : (o : Option Val) → option_map (λ (v : Val). in_instance n (Running (I32 (count % 2 ^ 32) ∷ (I32 0 ∷ (v ∷ []))) (Then init (Then drop Empty)))) o ≡ Some a → RunsPlain a.configuration
      go None same = absurd cc
      go (Some v) same =
          let one : in_instance n (Running (I32 (count % 2 ^ 32) ∷ (I32 0 ∷ (v ∷ []))) (Then init (Then drop Empty))) ≡ a = cc in
          subst (λ (x : Activity). RunsPlain x.configuration) one (plain.0, (plain.1, tt))
  activity-plain store n i (Drops drop) a is plain =
      let one : in_instance n (Running [] (Then drop Empty)) ≡ a = cc in
      subst (λ (x : Activity). RunsPlain x.configuration) one (plain, tt)
  activity-plain store n i (Starts x) a is plain = absurd plain

  tasks-plain : (bound n : ℕ) (i : ModuleInstance) {old last : State H} {tasks : List Task} {ending : Ending}
      → RunTasks HostStep bound n i old tasks ending last → OfEach StartsNothing tasks → last.hosts ≡ old.hosts
  tasks-plain bound n i all_done each = refl
  tasks-plain bound n i {old} (done {task = task} {a = a} is run rest) each =
      tasks-plain bound n i rest each.1 ∙ run-plain bound a.frame run (activity-plain old.store n i task a is each.0)
  tasks-plain bound n i {old} (ended {task = task} {a = a} is run none) each = run-plain bound a.frame run (activity-plain old.store n i task a is each.0)

  append-each : (xs ys : List Task) → OfEach StartsNothing xs → OfEach StartsNothing ys → OfEach StartsNothing (xs ++ ys)
  append-each [] ys first second = second
  append-each (x ∷ xs) ys first second = (first.0, append-each xs ys first.1 second)

  by-items : {A : Type 0} (task : ℕ → A → List Task) → ((x : ℕ) (item : A) → OfEach StartsNothing (task x item)) → (x : ℕ) (items : List A) → OfEach StartsNothing (tasks_by task x items)
  by-items task each x [] = tt
  by-items task each x (item ∷ items) = append-each (task x item) (tasks_by task (suc x) items) (each x item) (by-items task each (suc x) items)

  of-element : (x : ℕ) (items : ElementItems) (mode : ElementMode) → OfEach StartsNothing (element_task x items mode)
  of-element x items Passive = tt
  of-element x items Declarative = (tt, tt)
  of-element x items (Active table offset) = ((tt, tt), tt)

  of-data : (x : ℕ) (bytes : List ℕ) (mode : DataMode) → OfEach StartsNothing (data_task x bytes mode)
  of-data x bytes data_mode.Passive = tt
  of-data x bytes (data_mode.Active memory offset) = ((tt, tt), tt)

  none-starts : (m : Module) → m.start ≡ None → OfEach StartsNothing (tasks_of m)
  none-starts m none_is =
      append-each (element_tasks m.elements) _ (by-items _ (λ x e. of-element x e.items e.mode) 0 m.elements)
      (append-each (data_tasks m.datas) (start_task m.start) (by-items _ (λ x d. of-data x d.bytes d.mode) 0 m.datas) (subst (λ (o : Option ℕ). OfEach StartsNothing (start_task o)) (sym none_is) tt))

  pub links-without-start : LinksWithoutStart HostStep
  links-without-start bound m given old new ending none_is link = tasks-plain bound _ _ link.ran (none-starts m none_is)
