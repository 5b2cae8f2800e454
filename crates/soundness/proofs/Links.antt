-- Links of modules in valid stores never go wrong.
use Rattle.std.proofs.Common.{◌≡◌, ℕ, suc, ◌%◌, ◌<◌, ◌^◌, List, [], ◌∷◌, ◌++◌, length, map, reverse, Option, Some, None, refl, ap, subst, sym, ◌∙◌, arith, get_or, slice_get, option_map, unwrap_or}
use Rattle.std.proofs.lemmas.List.{length-map}
use Rattle.std.proofs.lemmas.Option.{slice_get-get_or}
use Rattle.std.specs.List.{All}
use Rattle.core_types.specs.declared.module.ElementItems.{ElementItems}
use Rattle.core_types.specs.declared.module.ElementItems.TheVariants.{Functions, Expressions}
use Rattle.core_types.specs.declared.module.Global.{Global}
use Rattle.core_types.specs.declared.module.Module.{Module}
use Rattle.core_types.specs.declared.op.Op.{Op}
use Rattle.core_types.specs.declared.op.PlainOp.TheVariants.{Reference}
use Rattle.core_types.specs.declared.op.ReferenceOp.TheVariants as reference
use Rattle.core_types.specs.declared.outcome.Extern.{Extern}
use Rattle.core_types.specs.declared.outcome.Val.{Val}
use Rattle.core_types.specs.declared.outcome.Val.TheVariants.{I32, FuncRef}
use Rattle.core_types.specs.declared.types.FuncType.{FuncType}
use Rattle.core_types.specs.declared.types.GlobalType.{GlobalType}
use Rattle.core_types.specs.declared.types.RefType.{RefType}
use Rattle.core_types.specs.declared.types.ValType.{ValType}
use Rattle.core_types.specs.declared.types.ValType.TheVariants as ty
use Rattle.meaning.specs.structure.Bodies.{Body, Empty, Then, body_of, writing}
use Rattle.meaning.specs.execution.Configurations.{Invoking, Running, no_frame}
use Rattle.meaning.specs.execution.Memories.{new_memory}
use Rattle.meaning.specs.execution.Modules.{Activity, Copies, Drops, HasNoValues, RunOf, RunTasks, Starts, Task, activity, constant, constant_value, done}
use Rattle.meaning.specs.execution.Modules.{ended, all_done, in_instance, map_all, new_data, new_elements, new_global, new_instance, new_objects, references}
use Rattle.meaning.specs.execution.Modules.{tasks_of, with_module}
use Rattle.meaning.specs.execution.Runs.{Answer, Ending, NoHosts, WithValues, WithTrap, OutOfFuel, OutOfDepth, OutOfMemory, State}
use Rattle.meaning.specs.execution.Store.{FunctionInstance, GlobalInstance, ModuleInstance, ObjectLists, Store, instance_of, item_at, item_of, no_instance}
use Rattle.meaning.specs.execution.Tables.{ElementInstance, new_table}
use Rattle.meaning.specs.soundness.Values.{ValueHasType, ValuesHaveTypes}
use Rattle.meaning.specs.validation.ContextExtension.{Carries}
use Rattle.meaning.specs.validation.Instructions.{HasType, known}
use Rattle.meaning.specs.validation.Modules.{HasItemsOfType, IsConstantExpression, constant_context, function_indices, functions_of, globals_of, imported_globals, module_context, type_at}
use Rattle.meaning.specs.validation.Types.{function_type, reference_type}
use Rattle.meaning.proofs.lemmas.Contexts.{HasType-extension}
use Rattle.soundness.specs.Links.{InstanceStays, IsLinkable, LinksNeverGoWrong, RunsTyped, TaskIsGood, TasksAreGood}
use Rattle.soundness.specs.Places.{Place, RunsOn, context_at, instance_context, outermost}
use Rattle.soundness.specs.Progress.{TasksGetStuck, later, not_there, stuck}
use Rattle.soundness.specs.Runs.{EndsTyped, EndsWell, HostsAnswerWell, NoConditions}
use Rattle.soundness.specs.Stores.{Extends, GlobalIsValid, InstanceIsValid, StoreIsValid}
use Rattle.soundness.proofs.Allocation.{allocation-keeps-valid, constant-there, extends, function-given, functions-are, globals-are, module-carried, store-valid}
use Rattle.soundness.proofs.Appends.{append-at, append-first}
use Rattle.soundness.proofs.Constants.{constant-found}
use Rattle.soundness.proofs.Effects.{Extends-same}
use Rattle.soundness.proofs.Extension.{RunsOn-extended, functions-more, instance-valid, types-found}
use Rattle.soundness.proofs.Objects.{all-found, objects-found, objects-made}
use Rattle.soundness.proofs.Runs.{Extends-through, never-goes-wrong, never-stuck}
use Rattle.soundness.proofs.Tasks.{TaskIsTyped, tasks-typed, three}
use Rattle.soundness.proofs.Values.{All-at}

-- ---- objects are found

module _ (old : Store) (m : Module) (given : List Extern) (linkable : IsLinkable old m given) (valid : StoreIsValid old) where
  abbrev instance : ModuleInstance
  instance = new_instance old m given

  value-found : (ops : List Op) (t : ValType) → IsConstantExpression (constant_context m) ops t → (v : Val) × (constant_value old instance ops ≡ Some v)
  value-found ops t expression = let (v, is, typed) = constant-there old m given linkable [] [] valid ops t expression in (v, is)

  globals-found : (gs : List GlobalInstance) × (map_all (new_global old instance) m.globals ≡ Some gs)
  globals-found = all-found (new_global old instance) m.globals (λ k d inside.
      let g = get_or m.globals k d in
      let (v, is) = value-found g.init g.ty.value (linkable.sound.valid.globals k d inside) in
      (record { ty = g.ty; value = v }, ap (option_map (λ (v : Val). record { ty = g.ty; value = v })) is))

  references-found : (t : RefType) (items : ElementItems) → HasItemsOfType m t items → (vs : List Val) × (references old instance items ≡ Some vs)
  references-found t (Functions indices) (functions, inside) = all-found (λ (x : ℕ). constant old instance (Reference (reference.Func x))) indices (λ k d there.
      let x = get_or indices k d in
      let (a, at) = function-given old m given linkable [] [] x (get_or (functions_of m) x (function_type [] []))
      (slice_get-get_or (functions_of m) x (function_type [] [])
      (let below = inside k d there in omega (arith, below, length-map (function_indices m) (type_at m.types)))) in
      (FuncRef (Some a), ap (option_map (λ (a : ℕ). FuncRef (Some a))) at))
  references-found t (Expressions expressions) all = all-found (constant_value old instance) expressions (λ k d there. value-found (get_or expressions k d) (reference_type t) (all k d there))

  elements-found : (es : List ElementInstance) × (map_all (new_elements old instance) m.elements ≡ Some es)
  elements-found = all-found (new_elements old instance) m.elements (λ k d inside.
      let e = get_or m.elements k d in
      let (vs, is) = references-found e.ty e.items (linkable.sound.valid.elements k d inside).items in
      (record { ty = e.ty; references = vs }, ap (option_map (λ (vs : List Val). record { ty = e.ty; references = vs })) is))

-- ---- what is run is typed

module _ (old : Store) (m : Module) (given : List Extern) (linkable : IsLinkable old m given) (gs : List GlobalInstance) (es : List ElementInstance)
    (globals_made : map_all (new_global old (new_instance old m given)) m.globals ≡ Some gs) (elements_made : map_all (new_elements old (new_instance old m given)) m.elements ≡ Some es)
    (made : ObjectLists) (made_is : made ≡ record { tables = map new_table m.tables; memories = map new_memory m.memories; globals = gs; elements = es; datas = map new_data m.datas })
    (new_valid : StoreIsValid (with_module old (new_instance old m given) m made)) where
  abbrev i : ModuleInstance
  i = new_instance old m given

  abbrev new : Store
  new = with_module old i m made

  instance-is : instance_of new (Some (length old.instances)) ≡ i
  instance-is = ap (λ (o : Option ModuleInstance). unwrap_or o no_instance) (append-first old.instances [] i)

  i-valid : InstanceIsValid new i
  i-valid = rw instance-is at (instance-valid new new_valid (Some (length old.instances)))

  functions-same : (instance_context new i).functions ≡ functions_of m
  functions-same = functions-are old m given linkable gs es

  globals-same : (instance_context new i).globals ≡ globals_of m
  globals-same = rw made_is (globals-are old m given linkable gs es globals_made elements_made)

  carries : (place : Place) → place.instance ≡ Some (length old.instances)
      → Carries (record (module_context m) { locals = place.locals; labels = place.labels; results = place.results }) (context_at new place)
  carries place is = rw made_is (module-carried old m given linkable gs es globals_made elements_made place is)

  -- In a store that extends the one in which the module was allocated.
  module _ (at : Store) (valid : StoreIsValid at) (more : Extends new at) where
    global-now : (x : ℕ) (t : GlobalType) → slice_get (imported_globals m.imports) x ≡ Some t → (g : GlobalInstance) × (item_at at.globals i.globals x ≡ Some g) × ValueHasType at g.value t.value
    global-now x t is =
        let in_all : slice_get (globals_of m) x ≡ Some t = append-at (imported_globals m.imports) (map (λ (g : Global). g.ty) m.globals) x t is in
        let (address, g, here, found, type) = types-found (λ (g : GlobalInstance). g.ty) _ new.globals i.globals x t i-valid.globals
        (ap (λ (ts : List GlobalType). slice_get ts x) globals-same ∙ in_all) in
        let (h, there, stays) = more.globals address g found in
        (h, ap (item_of at.globals) here ∙ there, subst (λ (u : GlobalType). ValueHasType at h.value u.value) (sym stays.0 ∙ type) (All-at (GlobalIsValid at) at.globals address h there valid.globals))

    constant-now : (ops : List Op) (t : ValType) → IsConstantExpression (constant_context m) ops t → (v : Val) × (constant_value at i ops ≡ Some v) × ValueHasType at v t
    constant-now = constant-found at at m i there global-now
      where
        there : (x : ℕ) (f : FuncType) → slice_get (functions_of m) x ≡ Some f → (a : ℕ) × (slice_get i.functions x ≡ Some a) × (a < length at.functions)
        there x f is =
            let (a, found) = function-given old m given linkable [] [] x f is in
            let below = All-at (λ (b : ℕ). b < length new.functions) i.functions x a found i-valid.functions in
            let longer = functions-more new at new_valid more in
            (a, found, omega (arith, below, longer))

    abbrev own_place : Place
    own_place = record { instance = Some (length old.instances); locals = []; labels = []; results = None }

    body-now : (body : Body) (stack : List ValType) → HasType (module_context m) body (known (reverse stack)) [] → RunsOn at own_place body stack []
    body-now body stack typed =
        RunsOn-extended new at new_valid more own_place body stack []
        (HasType-extension (module_context m) (context_at new own_place) (carries own_place refl) body (known (reverse stack)) [] typed)

    task-now : (task : Task) → TaskIsTyped m task → (a : Activity) × (activity at (length old.instances) i task ≡ Some a) × RunsTyped at a
    task-now (Copies offset count init drop) (expression, typed) =
        let (v, is, v_typed) = constant-now offset ty.I32 expression in (
          _,
          ap (option_map (λ (v : Val). in_instance (length old.instances) (Running (I32 (count % 2 ^ 32) ∷ (I32 0 ∷ (v ∷ []))) (Then init (Then drop Empty))))) is,
          record {
            place = own_place;
            results = [];
            outside = record { instance = refl; frame_locals = refl; locals = refl; labels = refl; results = refl };
            typed = (three, ((refl, omega (arith)), ((refl, omega (arith)), (v_typed, tt))), body-now (Then init (Then drop Empty)) three typed);
          },
        )
    task-now (Drops drop) typed = (
      _,
      refl,
      record {
        place = own_place;
        results = [];
        outside = record { instance = refl; frame_locals = refl; locals = refl; labels = refl; results = refl };
        typed = ([], tt, body-now (Then drop Empty) [] typed);
      },
    )
    task-now (Starts x) there =
        let (address, f, here, found, type) = types-found (λ (f : FunctionInstance). f.ty) _ new.functions i.functions x (function_type [] [])
        i-valid.functions (ap (λ (ts : List FuncType). slice_get ts x) functions-same ∙ there) in
        let (g, there_now, stays) = more.functions address f found in
        let type_now : g.ty ≡ function_type [] [] = sym (ap (λ (h : FunctionInstance). h.ty) stays) ∙ type in (
          record { frame = no_frame; configuration = Invoking [] address },
          ap (option_map (λ (address : ℕ). record { frame = no_frame; configuration = Invoking [] address })) here,
          record {
            place = outermost;
            results = [];
            outside = record { instance = refl; frame_locals = refl; locals = refl; labels = refl; results = refl };
            typed = (g, there_now, subst (λ (t : FuncType). ValuesHaveTypes at [] (reverse t.params)) (sym type_now) tt, sym (ap (λ (t : FuncType). t.results) type_now));
          },
        )

-- ---- consecutive tasks

no-value : {A : Type 0} {a : A} → None ≡ Some a → ⊥
no-value is = absurd cc

-- An ending without values ends well for any results.
pub ends-anyway : (store : Store) (results : List ValType) (ending : Ending) → HasNoValues ending → EndsWell store results ending
ends-anyway store results (WithValues values) none = absurd none
ends-anyway store results (WithTrap trap) none = tt
ends-anyway store results OutOfFuel none = tt
ends-anyway store results OutOfDepth none = tt
ends-anyway store results OutOfMemory none = tt

module _ {H : Type 0} (HostStep : List H → ℕ → Option ℕ → List Val → Store → Answer → Store → List H → Type 0) (HaveHosts : Store → List H → Type 0)
    (kept : (old new : Store) (hosts : List H) → new.functions ≡ old.functions → HaveHosts old hosts → HaveHosts new hosts)
    (well : HostsAnswerWell HostStep HaveHosts) (bound : ℕ) where
  activity-typed : (a : Activity) (old last : State H) (ending : Ending) → StoreIsValid old.store → HaveHosts old.store old.hosts
      → (runs : RunsTyped old.store a) → RunOf HostStep bound old a ending last
      → EndsTyped HostStep HaveHosts runs.results old ending last
  activity-typed a old last ending valid there runs run = never-goes-wrong HostStep HaveHosts kept well bound a.frame runs.place old last
      a.configuration runs.results ending runs.outside valid there runs.typed run

  -- Tasks, each of which is found and typed in every store that extends this one.
  module _ (start : Store) (n : ℕ) (i : ModuleInstance) (P : Task → Type 0)
      (each : (at : Store) → StoreIsValid at → Extends start at → (task : Task) → P task → (a : Activity) × (activity at n i task ≡ Some a) × RunsTyped at a) where
    tasks-run : (tasks : List Task) → All P tasks → {old last : State H} {ending : Ending} → StoreIsValid old.store → HaveHosts old.store old.hosts → Extends start old.store
        → RunTasks HostStep bound n i old tasks ending last → EndsTyped HostStep HaveHosts [] old ending last
    tasks-run [] all {old} {last} valid there more all_done = record { extends = Extends-same old.store; valid = valid; there = there; ends = tt }
    tasks-run (task ∷ tasks) all {old} {last} {ending} valid there more (done {between = between} {a = a} {values = values} is run rest) =
        let (found, here, runs) = each old.store valid more task (all 0 task (omega (arith))) in
        let same : found ≡ a = cc in
        let ran = activity-typed a old between (WithValues values) valid there (subst (λ (z : Activity). RunsTyped old.store z) same runs) run in
        let others = tasks-run tasks (λ k d inside. all (suc k) d (omega (arith, inside))) ran.valid ran.there (Extends-through start old.store between.store more ran.extends) rest in
        record { extends = Extends-through old.store between.store last.store ran.extends others.extends; valid = others.valid; there = others.there; ends = others.ends }
    tasks-run (task ∷ tasks) all {old} {last} {ending} valid there more (ended {a = a} is run none) =
        let (found, here, runs) = each old.store valid more task (all 0 task (omega (arith))) in
        let same : found ≡ a = cc in
        let typed = subst (λ (z : Activity). RunsTyped old.store z) same runs in
        let ran = activity-typed a old last ending valid there typed run in
        record { extends = ran.extends; valid = ran.valid; there = ran.there; ends = ends-anyway last.store [] ending none }

    tasks-go-on : (tasks : List Task) → All P tasks → {old : State H} → StoreIsValid old.store → HaveHosts old.store old.hosts
        → Extends start old.store → TasksGetStuck HostStep bound n i old tasks → ⊥
    tasks-go-on [] all valid there more getting = elim getting [ ]
    tasks-go-on (task ∷ tasks) all {old} valid there more (not_there is) =
        let (found, here, runs) = each old.store valid more task (all 0 task (omega (arith))) in absurd (let wrong : None ≡ Some found = sym is ∙ here in no-value wrong)
    tasks-go-on (task ∷ tasks) all {old} valid there more (stuck {a = a} is gets) =
        let (found, here, runs) = each old.store valid more task (all 0 task (omega (arith))) in
        let same : found ≡ a = cc in
        let typed = subst (λ (z : Activity). RunsTyped old.store z) same runs in
        gets.stuck (never-stuck HostStep HaveHosts kept well bound a.frame typed.place old a.configuration typed.results typed.outside valid there typed.typed gets.at gets.reached gets.steps)
    tasks-go-on (task ∷ tasks) all {old} valid there more (later {between = between} {a = a} {values = values} is run rest) =
        let (found, here, runs) = each old.store valid more task (all 0 task (omega (arith))) in
        let same : found ≡ a = cc in
        let ran = activity-typed a old between (WithValues values) valid there (subst (λ (z : Activity). RunsTyped old.store z) same runs) run in
        tasks-go-on tasks (λ k d inside. all (suc k) d (omega (arith, inside))) ran.valid ran.there (Extends-through start old.store between.store more ran.extends) rest

-- ---- the parts of a link, one after the other

-- The constants of a linked module have values.
pub objects-there : (old : Store) (m : Module) (given : List Extern) → StoreIsValid old → IsLinkable old m given → new_objects old (new_instance old m given) m ≡ None → ⊥
objects-there old m given valid linkable none =
    let (gs, first) = globals-found old m given linkable valid in
    let (es, second) = elements-found old m given linkable valid in
    objects-found m _ _ gs es first second none

-- What the link runs exists, and is typed, whatever runs before.
pub tasks-good : ((b : Body) → body_of (writing b) ≡ b) → (old : Store) (m : Module) (given : List Extern) (made : ObjectLists) → StoreIsValid old
    → IsLinkable old m given → new_objects old (new_instance old m given) m ≡ Some made
    → TasksAreGood (with_module old (new_instance old m given) m made) (length old.instances) (new_instance old m given) (tasks_of m)
tasks-good read old m given made valid linkable made_is =
    let (gs, es, globals_made, elements_made, same) = objects-made m (map_all (new_global old (new_instance old m given)) m.globals)
    (map_all (new_elements old (new_instance old m given)) m.elements) made made_is in
    let now_valid : StoreIsValid (with_module old (new_instance old m given) m made) = rw same (store-valid old m given linkable gs es globals_made elements_made valid read) in
    λ at at_valid more. λ k d inside. task-now old m given linkable gs es globals_made elements_made made same now_valid at at_valid more _ (tasks-typed m linkable.sound.valid k d inside)

module _ {H : Type 0} (HostStep : List H → ℕ → Option ℕ → List Val → Store → Answer → Store → List H → Type 0) (HaveHosts : Store → List H → Type 0)
    (kept : (old new : Store) (hosts : List H) → new.functions ≡ old.functions → HaveHosts old hosts → HaveHosts new hosts)
    (well : HostsAnswerWell HostStep HaveHosts) (bound : ℕ) where
  -- Good tasks never go wrong.
  pub tasks-end : (start : Store) (n : ℕ) (i : ModuleInstance) (tasks : List Task) → TasksAreGood start n i tasks
      → {old last : State H} {ending : Ending} → StoreIsValid old.store → HaveHosts old.store old.hosts → Extends start old.store
      → RunTasks HostStep bound n i old tasks ending last → EndsTyped HostStep HaveHosts [] old ending last
  tasks-end start n i tasks good valid there more run =
      tasks-run HostStep HaveHosts kept well bound start n i (λ (task : Task). (at : Store) → StoreIsValid at → Extends start at → TaskIsGood at n i task)
      (λ at at_valid onward task holds. holds at at_valid onward) tasks (λ k d inside. λ at at_valid onward. good at at_valid onward k d inside) valid there more run

  -- Nor do they get stuck.
  pub tasks-never-stuck : (start : Store) (n : ℕ) (i : ModuleInstance) (tasks : List Task) → TasksAreGood start n i tasks → {old : State H}
      → StoreIsValid old.store → HaveHosts old.store old.hosts → Extends start old.store
      → TasksGetStuck HostStep bound n i old tasks → ⊥
  tasks-never-stuck start n i tasks good valid there more getting =
      tasks-go-on HostStep HaveHosts kept well bound start n i (λ (task : Task). (at : Store) → StoreIsValid at → Extends start at → TaskIsGood at n i task)
      (λ at at_valid onward task holds. holds at at_valid onward) tasks (λ k d inside. λ at at_valid onward. good at at_valid onward k d inside) valid there more getting

-- The same without host functions.
pub tasks-end-alone : (bound : ℕ) (start : Store) (n : ℕ) (i : ModuleInstance) (tasks : List Task) → TasksAreGood start n i tasks
    → {old last : State ⊥} {ending : Ending} → StoreIsValid old.store → Extends start old.store
    → RunTasks NoHosts bound n i old tasks ending last → EndsTyped NoHosts NoConditions [] old ending last
tasks-end-alone bound start n i tasks good valid more run = tasks-end NoHosts NoConditions (λ old new hosts same there. tt)
    (λ hosts hosts' number address lent arguments old new answer t valid there is typed told. absurd told) bound start n i tasks good valid tt more run

pub tasks-never-stuck-alone : (bound : ℕ) (start : Store) (n : ℕ) (i : ModuleInstance) (tasks : List Task) → TasksAreGood start n i tasks
    → {old : State ⊥} → StoreIsValid old.store → Extends start old.store → TasksGetStuck NoHosts bound n i old tasks → ⊥
tasks-never-stuck-alone bound start n i tasks good valid more getting =
    tasks-never-stuck NoHosts NoConditions (λ old new hosts same there. tt)
    (λ hosts hosts' number address lent arguments old new answer t valid there is typed told. absurd told) bound start n i tasks good valid tt more getting

-- ---- links

instance-stays : (old now new : Store) (m : Module) (given : List Extern) → now.instances ≡ old.instances ++ new_instance old m given ∷ []
    → Extends now new → StoreIsValid new → InstanceStays old new m given
instance-stays old now new m given added more valid =
    let i = new_instance old m given in
    let first = ap (λ (is : List ModuleInstance). slice_get is (length old.instances)) added ∙ append-first old.instances [] i in
    let (j, found, same) = more.instances (length old.instances) i first in
    let there = found ∙ ap Some (sym same) in
    record { there = there; valid = All-at (InstanceIsValid new) new.instances (length old.instances) i there valid.instances }

module _ (read : (b : Body) → body_of (writing b) ≡ b)
    {H : Type 0} (HostStep : List H → ℕ → Option ℕ → List Val → Store → Answer → Store → List H → Type 0) (HaveHosts : Store → List H → Type 0)
    (kept : (old new : Store) (hosts : List H) → new.functions ≡ old.functions → HaveHosts old hosts → HaveHosts new hosts)
    (linked : (old : Store) (m : Module) (i : ModuleInstance) (made : ObjectLists) (hosts : List H) → HaveHosts old hosts → HaveHosts (with_module old i m made) hosts)
    (well : HostsAnswerWell HostStep HaveHosts) where
  module _ (bound : ℕ) (m : Module) (given : List Extern) (old : State H) (made : ObjectLists) (valid : StoreIsValid old.store)
      (there : HaveHosts old.store old.hosts) (linkable : IsLinkable old.store m given)
      (made_is : new_objects old.store (new_instance old.store m given) m ≡ Some made) where
    abbrev now : Store
    now = with_module old.store (new_instance old.store m given) m made

    now-extends : Extends old.store now
    now-extends = (allocation-keeps-valid read old.store m given made valid linkable made_is).0

    now-valid : StoreIsValid now
    now-valid = (allocation-keeps-valid read old.store m given made valid linkable made_is).1

    links-end : (ending : Ending) (last : State H) → RunTasks HostStep bound (length old.store.instances) (new_instance old.store m given) (record old { store = now }) (tasks_of m) ending last
        → EndsTyped HostStep HaveHosts [] (record old { store = now }) ending last
    links-end ending last run =
        tasks-end HostStep HaveHosts kept well bound now (length old.store.instances) (new_instance old.store m given) (tasks_of m) (tasks-good read old.store m given made valid linkable made_is)
        now-valid (linked old.store m (new_instance old.store m given) made old.hosts there) (Extends-same now) run

    -- No task of a link gets stuck.
    pub links-never-stuck : TasksGetStuck HostStep bound (length old.store.instances) (new_instance old.store m given) (record old { store = now }) (tasks_of m) → ⊥
    links-never-stuck =
        tasks-never-stuck HostStep HaveHosts kept well bound now (length old.store.instances) (new_instance old.store m given) (tasks_of m)
        (tasks-good read old.store m given made valid linkable made_is)
        now-valid (linked old.store m (new_instance old.store m given) made old.hosts there) (Extends-same now)

  -- A link never goes wrong if host functions answer by their types, and a link keeps their conditions.
  pub links-never-go-wrong : LinksNeverGoWrong HostStep HaveHosts
  links-never-go-wrong bound m given old new ending valid there linkable link =
      let ran = links-end bound m given old link.objects valid there linkable link.allocated ending new link.ran in
      let grown = now-extends bound m given old link.objects valid there linkable link.allocated in
      let start = now bound m given old link.objects valid there linkable link.allocated in (
        record { extends = Extends-through old.store start new.store grown ran.extends; valid = ran.valid; there = ran.there; ends = ran.ends },
        instance-stays old.store start new.store m given refl ran.extends ran.valid,
      )
