-- Links keep to the region of what is given to them, and cannot tell what is outside of it.
use Rattle.std.proofs.Common.{◌≡◌, ℕ, zero, suc, ◌%◌, ◌^◌, ◌≤◌, List, [], ◌∷◌, ◌++◌, length, map, Option, Some, None, refl, ap, ap₂, sym, subst, ◌∙◌, arith, slice_get, option_map}
use Rattle.std.proofs.lemmas.List.{length-append}
use Rattle.std.proofs.lemmas.List.Elements.{All-append}
use Rattle.std.specs.List.{All}
use Rattle.core_types.specs.declared.module.Func.{Func as Function}
use Rattle.core_types.specs.declared.module.Module.{Module}
use Rattle.core_types.specs.declared.outcome.Extern.{Extern}
use Rattle.core_types.specs.declared.outcome.Extern.TheVariants as value
use Rattle.core_types.specs.declared.outcome.Val.{Val}
use Rattle.core_types.specs.declared.outcome.Val.TheVariants.{I32}
use Rattle.core_types.specs.declared.types.FuncType.{FuncType}
use Rattle.core_types.specs.declared.types.TableType.{TableType}
use Rattle.meaning.specs.structure.Bodies.{Empty, Then}
use Rattle.meaning.specs.execution.Configurations.{Invoking, Running, no_frame}
use Rattle.meaning.specs.execution.Hosts.{IsHostStep}
use Rattle.meaning.specs.execution.Memories.{new_memory}
use Rattle.meaning.specs.execution.Modules.{Activity, Copies, Drops, Starts, Instantiation, RunTasks, Task, activity, all_done, before, consecutive}
use Rattle.meaning.specs.execution.Modules.{constant_value, done, ended, function_address, given_addresses, global_address, in_instance, map_all}
use Rattle.meaning.specs.execution.Modules.{memory_address, new_data, new_elements, new_function, new_global, new_instance, new_objects, objects_with}
use Rattle.meaning.specs.execution.Modules.{table_address, tasks_of, with_module}
use Rattle.meaning.specs.execution.Runs.{Answer, Ending, State}
use Rattle.meaning.specs.execution.Store.{FunctionInstance, GlobalInstance, ModuleInstance, ObjectLists, Store}
use Rattle.meaning.specs.execution.Tables.{ElementInstance, TableInstance, new_table}
use Rattle.soundness.proofs.Appends.{same-below}
use Rattle.soundness.proofs.Objects.{All-first, All-none, objects-made}
use Rattle.soundness.proofs.Values.{All-at}
use Rattle.soundness.specs.Hosts.{GivesNoFuncref}
use Rattle.isolation.specs.Isolation.{KeepsTo, LinkKeepsTo, LinksCannotTell, LinksKeepTo, LookAlike}
use Rattle.isolation.specs.Regions.{AgreeWithin, ConfigurationIsWithin, ElementIsWithin, ExternIsWithin, ExternsAreWithin, FrameIsWithin, FunctionIsWithin}
use Rattle.isolation.specs.Regions.{GlobalIsWithin, Has, HaveSameCounts, InstanceIsWithin, IsClosed, LeavesOutside, Region, TableIsWithin, ValueIsWithin}
use Rattle.isolation.specs.Regions.{and_from, with_new}
use Rattle.isolation.proofs.Constants.{OfEach, OfSome, all-elements-agree, all-globals-agree, each-at, values-agree}
use Rattle.isolation.proofs.Larger.{function-larger, instance-larger, value-larger, values-larger}
use Rattle.isolation.proofs.Moves.{AllocatesNothing-same, LeavesOutside-same, LeavesOutside-through}
use Rattle.isolation.proofs.New.{agree-more, append-agrees, append-leads, append-outside, came, closed-more, had, part-of-more}
use Rattle.isolation.proofs.Runs.{Keeps-through, looks-like-itself, run-alike}
use Rattle.isolation.proofs.Within.{null-within, replicate-within}

-- ---- the new instance

given-within : (region : Region) (address_of : Extern → Option ℕ) (addresses : ℕ → Type 0) → ((e : Extern) (x : ℕ) → address_of e ≡ Some x → ExternIsWithin region e → Has addresses x)
    → (given : List Extern) → ExternsAreWithin region given → All (Has addresses) (given_addresses address_of given)
given-within region address_of addresses each [] within = All-none (Has addresses)
given-within region address_of addresses each (e ∷ given) within = go (address_of e) refl (given-within region address_of addresses each given within.1)
  where
    go : (o : Option ℕ) → address_of e ≡ o → All (Has addresses) (given_addresses address_of given) → All (Has addresses) (before o (given_addresses address_of given))
    go None is others = others
    go (Some x) is others = All-first (Has addresses) x (given_addresses address_of given) (each e x is within.0) others

consecutive-within : (addresses : ℕ → Type 0) (first start count : ℕ) → first ≤ start → All (Has (and_from addresses first)) (consecutive start count)
consecutive-within addresses first start zero past = All-none (Has (and_from addresses first))
consecutive-within addresses first start (suc count) past =
    All-first (Has (and_from addresses first)) start (consecutive (suc start) count) (came addresses first start past) (consecutive-within addresses first (suc start) count (omega (arith, past)))

all-had : (addresses : ℕ → Type 0) (first : ℕ) (list : List ℕ) → All (Has addresses) list → All (Has (and_from addresses first)) list
all-had addresses first list all k d inside = had addresses first _ (all k d inside)

module _ (region : Region) where
  of-functions : (e : Extern) (x : ℕ) → function_address e ≡ Some x → ExternIsWithin region e → Has region.functions x
  of-functions (value.Func y) x is within = let same : y ≡ x = cc in subst (Has region.functions) same within
  of-functions (value.Table y) x is within = absurd cc
  of-functions (value.Memory y) x is within = absurd cc
  of-functions (value.Global y) x is within = absurd cc

  of-tables : (e : Extern) (x : ℕ) → table_address e ≡ Some x → ExternIsWithin region e → Has region.tables x
  of-tables (value.Func y) x is within = absurd cc
  of-tables (value.Table y) x is within = let same : y ≡ x = cc in subst (Has region.tables) same within
  of-tables (value.Memory y) x is within = absurd cc
  of-tables (value.Global y) x is within = absurd cc

  of-memories : (e : Extern) (x : ℕ) → memory_address e ≡ Some x → ExternIsWithin region e → Has region.memories x
  of-memories (value.Func y) x is within = absurd cc
  of-memories (value.Table y) x is within = absurd cc
  of-memories (value.Memory y) x is within = let same : y ≡ x = cc in subst (Has region.memories) same within
  of-memories (value.Global y) x is within = absurd cc

  of-globals : (e : Extern) (x : ℕ) → global_address e ≡ Some x → ExternIsWithin region e → Has region.globals x
  of-globals (value.Func y) x is within = absurd cc
  of-globals (value.Table y) x is within = absurd cc
  of-globals (value.Memory y) x is within = absurd cc
  of-globals (value.Global y) x is within = let same : y ≡ x = cc in subst (Has region.globals) same within

  module _ (a : Store) (m : Module) (given : List Extern) (within : ExternsAreWithin region given) where
    abbrev more : Region
    more = with_new region a

    has-new : InstanceIsWithin more (new_instance a m given)
    has-new = record {
      functions = All-append (Has more.functions) (given_addresses function_address given) (consecutive (length a.functions) (length m.funcs))
          (all-had region.functions (length a.functions) _ (given-within region function_address region.functions of-functions given within))
          (consecutive-within region.functions (length a.functions) _ (length m.funcs) (omega arith));
      tables = All-append (Has more.tables) (given_addresses table_address given) (consecutive (length a.tables) (length m.tables))
          (all-had region.tables (length a.tables) _ (given-within region table_address region.tables of-tables given within))
          (consecutive-within region.tables (length a.tables) _ (length m.tables) (omega arith));
      memories = All-append (Has more.memories) (given_addresses memory_address given) (consecutive (length a.memories) (length m.memories))
          (all-had region.memories (length a.memories) _ (given-within region memory_address region.memories of-memories given within))
          (consecutive-within region.memories (length a.memories) _ (length m.memories) (omega arith));
      globals = All-append (Has more.globals) (given_addresses global_address given) (consecutive (length a.globals) (length m.globals))
          (all-had region.globals (length a.globals) _ (given-within region global_address region.globals of-globals given within))
          (consecutive-within region.globals (length a.globals) _ (length m.globals) (omega arith));
      elements = consecutive-within region.elements (length a.elements) _ (length m.elements) (omega arith);
      datas = consecutive-within region.datas (length a.datas) _ (length m.datas) (omega arith);
    }

    -- ---- allocation

    functions-new : (fs : List Function) (k : ℕ) (f : FunctionInstance) → slice_get (map (new_function (length a.instances) m) fs) k ≡ Some f → FunctionIsWithin more f
    functions-new [] k f is = absurd cc
    functions-new (g ∷ fs) zero f is =
        let same : new_function (length a.instances) m g ≡ f = cc in
        subst (FunctionIsWithin more) same (came region.instances (length a.instances) (length a.instances) (omega arith))
    functions-new (g ∷ fs) (suc k) f is = functions-new fs k f is

    tables-new : (ts : List TableType) (k : ℕ) (t : TableInstance) → slice_get (map new_table ts) k ≡ Some t → TableIsWithin more t
    tables-new [] k t is = absurd cc
    tables-new (ty ∷ ts) zero t is =
        let same : new_table ty ≡ t = cc in
        subst (TableIsWithin more) same (replicate-within more ty.limits.min _ (null-within more ty.element))
    tables-new (ty ∷ ts) (suc k) t is = tables-new ts k t is

    only-one : (k : ℕ) (i : ModuleInstance) → slice_get (new_instance a m given ∷ []) k ≡ Some i → InstanceIsWithin more i
    only-one zero i is = let same : new_instance a m given ≡ i = cc in subst (InstanceIsWithin more) same has-new
    only-one (suc k) i is = absurd cc

    module _ (closed : IsClosed region a) (gs : List GlobalInstance) (es : List ElementInstance) (gs_within : OfEach (GlobalIsWithin more) gs) (es_within : OfEach (ElementIsWithin more) es) where
      abbrev made : ObjectLists
      made = record { tables = map new_table m.tables; memories = map new_memory m.memories; globals = gs; elements = es; datas = map new_data m.datas }

      closed-new : IsClosed more (with_module a (new_instance a m given) m made)
      closed-new = record {
        functions = append-leads region region.functions a.functions (map (new_function (length a.instances) m) m.funcs) (FunctionIsWithin region)
            (FunctionIsWithin more) (function-larger region more (part-of-more region a)) closed.functions (functions-new m.funcs);
        instances = append-leads region region.instances a.instances (new_instance a m given ∷ []) (InstanceIsWithin region) (InstanceIsWithin more)
            (instance-larger region more (part-of-more region a)) closed.instances only-one;
        tables = append-leads region region.tables a.tables (map new_table m.tables) (TableIsWithin region) (TableIsWithin more)
            (λ t. values-larger region more (part-of-more region a) t.entries) closed.tables (tables-new m.tables);
        globals = append-leads region region.globals a.globals gs (GlobalIsWithin region) (GlobalIsWithin more)
            (λ g. value-larger region more (part-of-more region a) g.value) closed.globals (each-at (GlobalIsWithin more) gs gs_within);
        elements = append-leads region region.elements a.elements es (ElementIsWithin region) (ElementIsWithin more)
            (λ e. values-larger region more (part-of-more region a) e.references) closed.elements (each-at (ElementIsWithin more) es es_within);
      }

      outside-new : LeavesOutside more a (with_module a (new_instance a m given) m made)
      outside-new = record {
        functions = append-outside region region.functions a.functions _;
        instances = append-outside region region.instances a.instances _;
        tables = append-outside region region.tables a.tables _;
        memories = append-outside region region.memories a.memories _;
        globals = append-outside region region.globals a.globals _;
        elements = append-outside region region.elements a.elements _;
        datas = append-outside region region.datas a.datas _;
        pages = refl;
        entries = refl;
      }

    -- ---- two stores

    module _ (b : Store) (closed : IsClosed region a) (agree : AgreeWithin region a b) (counts : HaveSameCounts a b) where
      instance-alike : new_instance b m given ≡ new_instance a m given
      instance-alike = rw (counts.functions, counts.tables, counts.memories, counts.globals, counts.elements, counts.datas) refl

      agree-new : (i : ModuleInstance) (objects : ObjectLists) → AgreeWithin more (with_module a i m objects) (with_module b i m objects)
      agree-new i objects = record {
        functions = subst (λ (n : ℕ). (k : ℕ) → Has more.functions k → slice_get (b.functions ++ map (new_function n m) m.funcs) k
            ≡ slice_get (a.functions ++ map (new_function (length a.instances) m) m.funcs) k) (sym counts.instances)
            (append-agrees region region.functions a.functions b.functions _ counts.functions agree.functions);
        instances = append-agrees region region.instances a.instances b.instances _ counts.instances agree.instances;
        tables = append-agrees region region.tables a.tables b.tables _ counts.tables agree.tables;
        memories = append-agrees region region.memories a.memories b.memories _ counts.memories agree.memories;
        globals = append-agrees region region.globals a.globals b.globals _ counts.globals agree.globals;
        elements = append-agrees region region.elements a.elements b.elements _ counts.elements agree.elements;
        datas = append-agrees region region.datas a.datas b.datas _ counts.datas agree.datas;
        pages = agree.pages;
        entries = agree.entries;
      }

      abbrev own : ModuleInstance
      own = new_instance a m given

      objects-alike : new_objects b own m ≡ new_objects a own m
      objects-alike =
          let (globals, fits) = all-globals-agree more a b (closed-more region a closed) (agree-more region a b counts agree) own has-new m.globals in
          let (elements, fit) = all-elements-agree more a b (closed-more region a closed) (agree-more region a b counts agree) own has-new m.elements in
          ap₂ (objects_with m) globals elements

      -- The objects of the module lead to nothing outside.
      objects-within : (objects : ObjectLists) → new_objects a own m ≡ Some objects → IsClosed more (with_module a own m objects) × LeavesOutside more a (with_module a own m objects)
      objects-within objects is =
          let (globals, fits) = all-globals-agree more a b (closed-more region a closed) (agree-more region a b counts agree) own has-new m.globals in
          let (elements, fit) = all-elements-agree more a b (closed-more region a closed) (agree-more region a b counts agree) own has-new m.elements in
          let (gs, es, gs_are, es_are, same) = objects-made m (map_all (new_global a own) m.globals) (map_all (new_elements a own) m.elements) objects is in
          let gs_within = subst (OfSome (OfEach (GlobalIsWithin more))) gs_are fits in
          let es_within = subst (OfSome (OfEach (ElementIsWithin more))) es_are fit in
          subst (λ (o : ObjectLists). IsClosed more (with_module a own m o) × LeavesOutside more a (with_module a own m o)) (sym same)
          (closed-new closed gs es gs_within es_within, outside-new closed gs es gs_within es_within)

-- ---- tasks

module _ {H : Type 0} (host_type : H → FuncType) (Answers : H → List Val → List ℕ → Answer → List ℕ → H → Type 0) (region : Region) (bound n : ℕ) (i : ModuleInstance)
    (there : Has region.instances n) (has : InstanceIsWithin region i) where
  abbrev HostStep : List H → ℕ → Option ℕ → List Val → Store → Answer → Store → List H → Type 0
  HostStep = IsHostStep host_type Answers

  abbrev ActivityIsWithin : Activity → Type 0
  ActivityIsWithin x = FrameIsWithin region x.frame × ConfigurationIsWithin region x.configuration

  module _ (a b : Store) (closed : IsClosed region a) (agree : AgreeWithin region a b) where
    activities-agree : (task : Task) → (activity b n i task ≡ activity a n i task) × OfSome ActivityIsWithin (activity a n i task)
    activities-agree (Copies offset count init drop) =
        let (same, fits) = values-agree region a b closed agree i has offset in
        (ap (option_map (λ (v : Val). in_instance n (Running (I32 (count % 2 ^ 32) ∷ (I32 0 ∷ (v ∷ []))) (Then init (Then drop Empty))))) same, go (constant_value a i offset) fits)
      where
        go : (o : Option Val) → OfSome (ValueIsWithin region) o
            → OfSome ActivityIsWithin (option_map
            (λ (v : Val). in_instance n (Running (I32 (count % 2 ^ 32) ∷ (I32 0 ∷ (v ∷ []))) (Then init (Then drop Empty)))) o)
        go None fits = tt
        go (Some v) fits = (record { instance = there; locals = tt }, (tt, (tt, (fits, tt))))
    activities-agree (Drops drop) = (refl, (record { instance = there; locals = tt }, tt))
    activities-agree (Starts x) = (refl, go (slice_get i.functions x) refl)
      where
        go : (o : Option ℕ) → slice_get i.functions x ≡ o → OfSome ActivityIsWithin (option_map (λ (address : ℕ). record { frame = no_frame; configuration = Invoking [] address }) o)
        go None is = tt
        go (Some address) is = (record { instance = tt; locals = tt }, (tt, All-at (Has region.functions) i.functions x address is has.functions))

  record TasksAlike (a b : State H) (tasks : List Task) (ending : Ending) (last : State H) : Type 0 where
    last' : State H
    runs : RunTasks HostStep bound n i b tasks ending last'
    look : LookAlike region last last'
    keeps : KeepsTo host_type region a last

  tasks-alike : {a last : State H} {tasks : List Task} {ending : Ending} → RunTasks HostStep bound n i a tasks ending last → (b : State H)
      → IsClosed region a.store → All (GivesNoFuncref host_type) a.hosts → LookAlike region a b
      → TasksAlike a b tasks ending last
  tasks-alike {a} all_done b closed free look = record {
    last' = b;
    runs = all_done;
    look = look;
    keeps = record { closed = closed; no_funcrefs = free; outside = LeavesOutside-same region a.store; nothing_new = AllocatesNothing-same a.store; hosts = λ number not. refl };
  }
  tasks-alike {a} {last} (done {between = between} {task = task} {a = x} {values = values} is run rest) b closed free look =
      let (same, fits) = activities-agree a.store b.store closed look.stores task in
      let within : ActivityIsWithin x = subst (OfSome ActivityIsWithin) is fits in
      let alike = run-alike host_type Answers region bound x.frame run b (record { closed = closed; no_funcrefs = free; frame = within.0; within = within.1 }) look in
      let others = tasks-alike rest alike.last' alike.keeps.closed alike.keeps.no_funcrefs alike.look in
      record {
        last' = others.last';
        runs = done (same ∙ is) alike.runs others.runs;
        look = others.look;
        keeps = Keeps-through host_type Answers region a between last alike.keeps others.keeps;
      }
  tasks-alike {a} {last} {ending = ending} (ended {task = task} {a = x} is run free_of_values) b closed free look =
      let (same, fits) = activities-agree a.store b.store closed look.stores task in
      let within : ActivityIsWithin x = subst (OfSome ActivityIsWithin) is fits in
      let alike = run-alike host_type Answers region bound x.frame run b (record { closed = closed; no_funcrefs = free; frame = within.0; within = within.1 }) look in
      record {
        last' = alike.last';
        runs = ended (same ∙ is) alike.runs free_of_values;
        look = alike.look;
        keeps = alike.keeps;
      }

-- ---- the laws

module _ {H : Type 0} (host_type : H → FuncType) (Answers : H → List Val → List ℕ → Answer → List ℕ → H → Type 0) where
  record LinkAlike (region : Region) (bound : ℕ) (m : Module) (given : List Extern) (a b : State H) (ending : Ending) (last : State H) : Type 0 where
    last' : State H
    links : Instantiation (IsHostStep host_type Answers) bound m given b ending last'
    look : LookAlike (with_new region a.store) last last'
    keeps : LinkKeepsTo host_type Answers region a last

  module _ (region : Region) (bound : ℕ) (m : Module) (given : List Extern) (a b last : State H) (ending : Ending) (closed : IsClosed region a.store) (free : All (GivesNoFuncref host_type) a.hosts)
      (within : ExternsAreWithin region given) (look : LookAlike region a b) (counts : HaveSameCounts a.store b.store)
      (link : Instantiation (IsHostStep host_type Answers) bound m given a ending last) where
    abbrev i : ModuleInstance
    i = new_instance a.store m given

    abbrev linked : State H → State H
    linked s = record s { store = with_module s.store i m link.objects }

    allocated : IsClosed (with_new region a.store) (linked a).store × LeavesOutside (with_new region a.store) a.store (linked a).store
    allocated = objects-within region a.store m given within b.store closed look.stores counts link.objects link.allocated

    looks : LookAlike (with_new region a.store) (linked a) (linked b)
    looks = record {
      stores = agree-new region a.store m given within b.store closed look.stores counts i link.objects;
      hosts = look.hosts;
      fuel = look.fuel;
    }

    tasks : TasksAlike host_type Answers (with_new region a.store) bound (length a.store.instances) i
        (came region.instances (length a.store.instances) (length a.store.instances) (omega arith)) (has-new region a.store m given within)
        (linked a) (linked b) (tasks_of m) ending last
    tasks = tasks-alike host_type Answers (with_new region a.store) bound (length a.store.instances) i
        (came region.instances (length a.store.instances) (length a.store.instances) (omega arith)) (has-new region a.store m given within)
        link.ran (linked b) allocated.0 free looks

    same-instance : i ≡ new_instance b.store m given
    same-instance = sym (instance-alike region a.store m given within b.store closed look.stores counts)

    link-alike : LinkAlike region bound m given a b ending last
    link-alike = record {
      last' = tasks.last';
      links = record {
        objects = link.objects;
        allocated = subst (λ (j : ModuleInstance). new_objects b.store j m ≡ Some link.objects) same-instance
            (objects-alike region a.store m given within b.store closed look.stores counts ∙ link.allocated);
        ran = subst (λ (j : ModuleInstance).
            RunTasks (IsHostStep host_type Answers) bound (length b.store.instances) j (record b { store = with_module b.store j m link.objects })
            (tasks_of m) ending tasks.last') same-instance
            (subst (λ (k : ℕ). RunTasks (IsHostStep host_type Answers) bound k i (linked b) (tasks_of m) ending tasks.last') (sym counts.instances) tasks.runs);
      };
      look = tasks.look;
      keeps = record {
        closed = tasks.keeps.closed;
        no_funcrefs = tasks.keeps.no_funcrefs;
        outside = LeavesOutside-through (with_new region a.store) a.store (linked a).store last.store allocated.1 tasks.keeps.outside;
        code = record {
          functions = λ address inside. ap (λ (fs : List FunctionInstance). slice_get fs address) tasks.keeps.nothing_new.functions ∙ same-below a.store.functions _ address inside;
          instances = λ address inside. ap (λ (is : List ModuleInstance). slice_get is address) tasks.keeps.nothing_new.instances ∙ same-below a.store.instances _ address inside;
        };
        hosts = tasks.keeps.hosts;
        one_more = let count = ap (λ (is : List ModuleInstance). length is) tasks.keeps.nothing_new.instances in omega (arith, count, length-append a.store.instances (i ∷ []));
      };
    }

  same-counts : (store : Store) → HaveSameCounts store store
  same-counts store = record { functions = refl; instances = refl; tables = refl; memories = refl; globals = refl; elements = refl; datas = refl }

  pub links-keep-to : (region : Region) → LinksKeepTo host_type Answers region
  links-keep-to region bound m given old new ending closed free within link =
      (link-alike region bound m given old old new ending closed free within (looks-like-itself region old) (same-counts old.store) link).keeps

  pub links-cannot-tell : (region : Region) → LinksCannotTell host_type Answers region
  links-cannot-tell region bound m given a b last ending closed free within look counts link =
      let alike = link-alike region bound m given a b last ending closed free within look counts link in
      (alike.last', alike.links, alike.look)
