-- Calls from outside, from their start to their end.
use Rattle.std.proofs.Common.{◌≡◌, ℕ, ◌≤◌, List, [], ◌++◌, length, map, reverse, take, drop, true, refl, ap, sym, subst, ◌∙◌, arith}
use Rattle.std.proofs.lemmas.List.{append-nil, drop_all, length-map, length-reverse, reverse-reverse, take_all}
use Rattle.std.specs.Prelude.{Option, Some, None, slice_get}
use Rattle.core_types.specs.declared.outcome.Trap.TheVariants.{Host}
use Rattle.core_types.specs.declared.outcome.Val.{Val}
use Rattle.core_types.specs.declared.types.FuncType.{FuncType}
use Rattle.meaning.specs.structure.Bodies.{Empty}
use Rattle.meaning.specs.execution.Configurations.{Configuration, Invoking, Running, no_frame}
use Rattle.meaning.specs.execution.Hosts.{IsHostCall, IsHostStep}
use Rattle.meaning.specs.execution.Instructions.{CallsHost, Next, NotReady, call_function, call_host, next}
use Rattle.meaning.specs.execution.Runs.{Answer, AsksForMemory, Ending, HostTrap, IsWithinBound, OutOfDepth, OutOfMemory, Results, Run, State, WithTrap}
use Rattle.meaning.specs.execution.Runs.{WithValues, calls, end, host_trapped, no_depth, no_memory, price, step, values_left}
use Rattle.meaning.specs.execution.Store.{FunctionInstance, Store}
use Rattle.meaning.specs.execution.Values.{type_of}
use Rattle.meaning.specs.validation.Types.{are_same_types}
use Rattle.meaning.proofs.lemmas.Hosts.{steps-over}
use Rattle.meaning.proofs.lemmas.Layers.{if-at-most}
use Rattle.meaning.proofs.lemmas.Runs.{Steps-run}
use Rattle.meaning.proofs.lemmas.SameTypes.{types_decided}
use Rattle.store.specs.Contents.{host_function, store_with}
use Rattle.store.specs.declared.instances.ModuleFunction.{ModuleFunction}
use Rattle.interpreter.specs.Whole.{whole}
use Rattle.exec.specs.Endings.{run_state}
use Rattle.exec.specs.Starting.{Begins, FunctionAddress, Takes}
use Rattle.exec.specs.declared.call.Call.{Call}
use Rattle.exec.proofs.Beginning.{opens-first}

-- ---- functions of modules

module _ {H : Type 0} (HostStep : List H → ℕ → Option ℕ → List Val → Store → Answer → Store → List H → Type 0) (hosts : List H) (depth fuel : ℕ)
    (a : FunctionAddress) (f : ModuleFunction) (arguments : List Val) (takes : Takes a f arguments) where
  abbrev at : State H
  at = run_state (store_with a.code a.state) hosts fuel

  abbrev invoking : Configuration
  invoking = Invoking (reverse arguments) a.address

  -- No frame may be open.
  pub too-deep : depth ≡ 0 → Run HostStep depth no_frame at invoking OutOfDepth at
  too-deep is = end (no_depth (opens-first a f arguments takes) (omega arith) (omega (arith, is)) refl refl)

  -- Memory for the frame or for the results ran out.
  pub lacks-first : 1 ≤ depth → Run HostStep depth no_frame at invoking OutOfMemory at
  lacks-first some =
      end
      (no_memory
      (subst AsksForMemory (sym (opens-first a f arguments takes)) tt)
      (subst (λ (n : Next). IsWithinBound depth 0 n) (sym (opens-first a f arguments takes)) (omega (arith, some)))
      (subst (λ (n : Next). price n ≤ fuel) (sym (opens-first a f arguments takes)) (omega arith))
      refl refl)

  pub begun-runs : (bound : ℕ) → bound ≡ depth → (call : Call) (b : Begins bound a f arguments fuel call) (ending : Ending) (last : State H)
      → Run HostStep bound no_frame (run_state (store_with a.code a.state) hosts call.position.fuel) (whole b.new) ending last → Run HostStep depth no_frame at invoking ending last
  begun-runs bound same call b ending last runs =
      subst (λ (d : ℕ). Run HostStep d no_frame at invoking ending last) same
      (Steps-run HostStep bound no_frame (steps-over HostStep hosts bound no_frame b.steps)
      (subst (λ (n : ℕ). Run HostStep bound no_frame (run_state (store_with a.code a.state) hosts n) (whole b.new) ending last) b.left runs))

-- ---- host functions

module _ {H : Type 0} (host_type : H → FuncType) (Answers : H → List Val → List ℕ → Answer → List ℕ → H → Type 0) (store : Store)
    (hosts hosts' : List H) (number : ℕ) (args : List Val) (bytes' : List ℕ) (bound fuel address : ℕ) (t : FuncType)
    (is : slice_get store.functions address ≡ Some (host_function number t)) (typed : map type_of args ≡ t.params) where
  abbrev Called : Answer → Type 0
  Called answer = IsHostCall host_type Answers hosts number args [] answer bytes' hosts'

  abbrev RunsTo : Ending → List H → Type 0
  RunsTo ending after = Run (IsHostStep host_type Answers) bound no_frame (run_state store hosts fuel) (Invoking (reverse args) address) ending (run_state store after fuel)

  -- The host function borrows no bytes.
  host-next : next store no_frame (Invoking (reverse args) address) ≡ CallsHost 0 number None args (Running [] Empty)
  host-next =
      let count : length t.params ≡ length (reverse args) = ap length (sym typed) ∙ length-map args type_of ∙ sym (length-reverse args) in
      let all : take (length t.params) (reverse args) ≡ reverse args = take_all (length t.params) (reverse args) (omega arith) in
      let rest : drop (length t.params) (reverse args) ≡ [] = drop_all (length t.params) (reverse args) (omega arith) in
      let same : are_same_types (map type_of args) t.params ≡ true = types_decided true (map type_of args) t.params (λ _. typed, λ _. refl) in
      let calls_it : next store no_frame (Invoking (reverse args) address) ≡ call_host 0 number None t (reverse args) Empty =
      ap (λ (g : Option FunctionInstance). call_function 0 store None g (reverse args) Empty) is ∙ if-at-most (length t.params) (length (reverse args)) _ NotReady (omega arith) in
      rw (all, rest, reverse-reverse args, same) at calls_it

  pub host-results : (results : List Val) → Called (Results results) → RunsTo (WithValues results) hosts'
  host-results results done =
      let back : reverse (reverse results ++ []) ≡ results = ap reverse (append-nil (reverse results)) ∙ reverse-reverse results in
      step (calls host-next (omega arith) (omega arith) (bytes', done, refl) refl) (end (values_left refl (ap WithValues (sym back)) refl))

  pub host-traps-alone : (code : ℕ) → Called (HostTrap code) → RunsTo (WithTrap (Host code)) hosts'
  host-traps-alone code done = end (host_trapped host-next (omega arith) (omega arith) (bytes', done, refl) refl)

  pub host-lacks : RunsTo OutOfMemory hosts
  host-lacks =
      end
      (no_memory
      (subst AsksForMemory (sym host-next) tt)
      (subst (λ (n : Next). IsWithinBound bound 0 n) (sym host-next) tt)
      (subst (λ (n : Next). price n ≤ fuel) (sym host-next) (omega arith))
      refl refl)
