-- A valid module whose imports are given is allocated in a valid store. The new store is valid, and extends the one before.
use Rattle.std.proofs.Common.{◌≡◌, ℕ, zero, suc, ◌*◌, ◌<◌, ◌≤◌, ◌^◌, List, [], ◌∷◌, ◌++◌, length, map, Option, Some, refl, ap, ap₂, subst, sym, ◌∙◌, arith}
use Rattle.std.proofs.Common.{slice_get, get_or, option_map, unwrap_or, inl, inr, Bool, true, false}
use Rattle.std.proofs.Math.Seq.{drop-append_seam}
use Rattle.std.proofs.lemmas.List.{length-append, length-map, length-replicate, map-append}
use Rattle.std.proofs.lemmas.List.Elements.{All-append, All-drop, All-replicate}
use Rattle.std.proofs.lemmas.Option.{slice_get-get_or, slice_get-map, slice_get_within}
use Rattle.std.proofs.lemmas.Bool.{leb-false, leb-true}
use Rattle.std.specs.List.{All}
use Rattle.std.specs.Prelude.{nat_le}
use Rattle.core_types.specs.declared.module.DataSegment.{DataSegment}
use Rattle.core_types.specs.declared.module.ElementItems.{ElementItems}
use Rattle.core_types.specs.declared.module.ElementItems.TheVariants.{Functions, Expressions}
use Rattle.core_types.specs.declared.module.ElementSegment.{ElementSegment}
use Rattle.core_types.specs.declared.module.ExportDesc.{ExportDesc}
use Rattle.core_types.specs.declared.module.ExportDesc.TheVariants as export
use Rattle.core_types.specs.declared.module.Func.{Func as Function}
use Rattle.core_types.specs.declared.module.Global.{Global}
use Rattle.core_types.specs.declared.module.Module.{Module}
use Rattle.core_types.specs.declared.op.Op.{Op}
use Rattle.core_types.specs.declared.op.PlainOp.TheVariants.{Reference}
use Rattle.core_types.specs.declared.op.ReferenceOp.TheVariants as reference
use Rattle.core_types.specs.declared.outcome.Extern.{Extern}
use Rattle.core_types.specs.declared.outcome.Val.{Val}
use Rattle.core_types.specs.declared.outcome.Val.TheVariants.{FuncRef}
use Rattle.core_types.specs.declared.types.FuncType.{FuncType}
use Rattle.core_types.specs.declared.types.GlobalType.{GlobalType}
use Rattle.core_types.specs.declared.types.Limits.{Limits}
use Rattle.core_types.specs.declared.types.RefType.{RefType}
use Rattle.core_types.specs.declared.types.RefType.TheVariants as ref
use Rattle.core_types.specs.declared.types.TableType.{TableType}
use Rattle.core_types.specs.declared.types.ValType.{ValType}
use Rattle.core_types.specs.declared.types.Mutability.TheVariants.{Const}
use Rattle.core_types.specs.declared.types.ValType.TheVariants as ty
use Rattle.meaning.specs.structure.Bodies.{Body, body_of, writing}
use Rattle.meaning.specs.execution.Memories.{new_memory, page_size}
use Rattle.meaning.specs.execution.Modules.{code_of, consecutive, constant, constant_value, map_all, function_address, given_addresses, global_address}
use Rattle.meaning.specs.execution.Modules.{memory_address, new_data, new_elements, new_function, new_global, new_instance, references, table_address}
use Rattle.meaning.specs.execution.Modules.{with_module}
use Rattle.meaning.specs.execution.Storage.{AreBytes}
use Rattle.meaning.specs.execution.Store.{FunctionInstance, GlobalInstance, ModuleInstance, ObjectLists, Store, instance_of, item_at, item_of, no_instance}
use Rattle.meaning.specs.execution.Tables.{ElementInstance, TableInstance, most_entries, new_table}
use Rattle.meaning.specs.execution.Values.{null_of}
use Rattle.meaning.specs.validation.Modules.{Exists, HasItemsOfType, IsConstantExpression, IsValidElement, IsValidFunction, body_context, constant_context}
use Rattle.meaning.specs.validation.Modules.{function_indices, module_context, functions_of, globals_of, imported_functions, imported_globals}
use Rattle.meaning.specs.validation.Modules.{imported_memories, imported_tables, memories_of, tables_of, type_at}
use Rattle.meaning.specs.validation.ContextExtension.{Carries}
use Rattle.meaning.specs.validation.Instructions.{HasMemory, IsNamed, IsTable, known}
use Rattle.meaning.specs.validation.Types.{AreFewPages, AreOrdered, function_type, reference_type}
use Rattle.meaning.specs.soundness.Values.{ValueHasType}
use Rattle.meaning.proofs.lemmas.Contexts.{HasType-extension}
use Rattle.meaning.proofs.lemmas.Lists.{map_all-length}
use Rattle.soundness.specs.Links.{AllocationKeepsValid, ContextHasModuleTypes, IsLinkable}
use Rattle.soundness.specs.Places.{Place, below, context_at, instance_context, no_limits, types_at}
use Rattle.soundness.specs.Stores.{AreThere, DataIsValid, InstanceIsValid, DataStays, ElementIsValid, ElementStays, ExportIsThere, GlobalIsValid, body_place}
use Rattle.soundness.specs.Stores.{Extends, FunctionIsValid, GlobalStays, HasFewObjects, MemoryIsValid, MemoryStays, SizeIsValid, StoreIsValid, TableIsValid}
use Rattle.soundness.specs.Stores.{TableStays}
use Rattle.soundness.proofs.Appends.{Keeps-append, append-at, append-first, consecutive-length, there-append, types-appended}
use Rattle.soundness.proofs.Imports.{AreAllThere, functions-given, given-there, globals-given, mapped, memories-given, tables-given}
use Rattle.soundness.proofs.Objects.{All-map, All-none, made-all, made-same, objects-made}
use Rattle.soundness.proofs.Writes.{elements-still, functions-still, globals-still, instances-still, tables-still}
use Rattle.soundness.proofs.Constants.{constant-found, constant-typed}
use Rattle.soundness.proofs.Extension.{Keeps-length, types-found}
use Rattle.soundness.proofs.Values.{All-at, default-typed, value-extended}

-- Each number below another is among those below it.
named-below : (x n : ℕ) → x < n → IsNamed x (below n)
named-below x zero inside = let wrong : ⊥ = omega (arith, inside) in absurd wrong
named-below x (suc n) inside = by (nat_le n x) refl (λ less. named-below x n less)
  where
    by : (b : Bool) → nat_le n x ≡ b → (x < n → IsNamed x (below n)) → IsNamed x (below (suc n))
    by true is rest = let past = leb-true n x is in inl (omega (arith, past, inside))
    by false is rest = inr (rest (leb-false n x is))

module _ (old : Store) (m : Module) (given : List Extern) (linkable : IsLinkable old m given) (gs : List GlobalInstance) (es : List ElementInstance) where
  abbrev pub instance : ModuleInstance
  instance = new_instance old m given

  abbrev pub made : ObjectLists
  made = record { tables = map new_table m.tables; memories = map new_memory m.memories; globals = gs; elements = es; datas = map new_data m.datas }

  abbrev pub new : Store
  new = with_module old instance m made

  pub extends : Extends old new
  extends = record {
    functions = Keeps-append (λ (f g : FunctionInstance). f ≡ g) (λ f. refl) old.functions _;
    instances = Keeps-append (λ (i j : ModuleInstance). i ≡ j) (λ i. refl) old.instances _;
    tables = Keeps-append TableStays (λ t. (refl, (omega (arith), refl))) old.tables _;
    memories = Keeps-append MemoryStays (λ m. (omega (arith), refl)) old.memories _;
    globals = Keeps-append GlobalStays (λ g. (refl, λ constant. refl)) old.globals gs;
    elements = Keeps-append ElementStays (λ e. (refl, inl refl)) old.elements es;
    datas = Keeps-append DataStays (λ d. inl refl) old.datas _;
    pages = refl;
    entries = refl;
  }

  -- ---- the types that the instance has are those of the module

  there : AreAllThere old m given
  there = given-there old m m.imports given linkable.fits linkable.count

  pub functions-are : (instance_context new instance).functions ≡ functions_of m
  functions-are =
      types-appended (λ (f : FunctionInstance). f.ty) (function_type [] []) old.functions (map (new_function (length old.instances) m) m.funcs)
      (given_addresses function_address given) (length m.funcs) there.functions
      (length-map m.funcs _)
      ∙ ap₂ (λ (a b : List FuncType). a ++ b) (functions-given old m (function_type [] []) m.imports given linkable.fits linkable.count) (own-types m.funcs)
      ∙ sym (map-append (type_at m.types) (imported_functions m.imports) (map (λ (f : Function). f.ty) m.funcs))
    where
      own-types : (fs : List Function) → map (λ (f : FunctionInstance). f.ty) (map (new_function (length old.instances) m) fs) ≡ map (type_at m.types) (map (λ (f : Function). f.ty) fs)
      own-types [] = refl
      own-types (f ∷ fs) = ap (λ (ts : List FuncType). type_at m.types f.ty ∷ ts) (own-types fs)

  pub elements-of-tables : map (λ (t : TableType). t.element) (instance_context new instance).tables ≡ map (λ (t : TableType). t.element) (tables_of m)
  elements-of-tables =
      let missing : TableType = record { element = ref.FuncRef; limits = no_limits } in
      let all = types-appended (λ (t : TableInstance). t.ty) missing old.tables (map new_table m.tables) (given_addresses table_address given) (length m.tables) there.tables (length-map m.tables _) in
      ap (λ (ts : List TableType). map (λ (t : TableType). t.element) ts) all
      ∙ map-append (λ (t : TableType). t.element) (types_at (λ (t : TableInstance). t.ty) missing old.tables (given_addresses table_address given))
      (map (λ (t : TableInstance). t.ty) (map new_table m.tables))
      ∙ ap₂ (λ (a b : List RefType). a ++ b) (tables-given old m missing m.imports given linkable.fits linkable.count) (own-types m.tables)
      ∙ sym (map-append (λ (t : TableType). t.element) (imported_tables m.imports) m.tables)
    where
      own-types : (ts : List TableType) → map (λ (t : TableType). t.element) (map (λ (t : TableInstance). t.ty) (map new_table ts)) ≡ map (λ (t : TableType). t.element) ts
      own-types [] = refl
      own-types (t ∷ ts) = ap (λ (es : List RefType). t.element ∷ es) (own-types ts)

  pub memories-are-as-many : length (instance_context new instance).memories ≡ length (memories_of m)
  memories-are-as-many =
      length-map instance.memories _ ∙ length-append (given_addresses memory_address given) _
      ∙ omega (
        arith,
        memories-given old m m.imports given linkable.fits linkable.count,
        consecutive-length (length old.memories) (length m.memories),
        length-append (imported_memories m.imports) m.memories,
      )

  pub global-given : (x : ℕ) (t : GlobalType) → slice_get (imported_globals m.imports) x ≡ Some t
      → (address : ℕ) × (g : GlobalInstance) × (slice_get instance.globals x ≡ Some address) × (slice_get old.globals address ≡ Some g) × (g.ty ≡ t)
  global-given x t is =
      let missing : GlobalType = record { value = ty.I32; mutability = Const } in
      let same = globals-given old m missing m.imports given linkable.fits linkable.count in
      let (address, g, at, found, type) = types-found (λ (g : GlobalInstance). g.ty) missing old.globals (given_addresses global_address given) x t
      there.globals (ap (λ (ts : List GlobalType). slice_get ts x) same ∙ is) in
      (address, g, append-at (given_addresses global_address given) (consecutive (length old.globals) (length m.globals)) x address at, found, type)

  pub function-given : (x : ℕ) (f : FuncType) → slice_get (functions_of m) x ≡ Some f → (a : ℕ) × (slice_get instance.functions x ≡ Some a)
  function-given x f is =
      let inside = slice_get_within (functions_of m) x f is in
      let same : length instance.functions ≡ length (functions_of m) = sym (length-map instance.functions _) ∙ ap (λ (fs : List FuncType). length fs) functions-are in
      (get_or instance.functions x 0, slice_get-get_or instance.functions x 0 (omega (arith, inside, same)))

  -- ---- values of constant expressions

  held : (v : Val) (t : ValType) → ValueHasType old v t → ValueHasType new v t
  held = value-extended old new (Keeps-length (λ (f g : FunctionInstance). f ≡ g) old.functions new.functions extends.functions)

  instance-there : AreThere new.functions instance.functions
  instance-there = there-append old.functions (map (new_function (length old.instances) m) m.funcs) (given_addresses function_address given) (length m.funcs) there.functions (length-map m.funcs _)

  module _ (valid : StoreIsValid old) where
    global-there : (x : ℕ) (t : GlobalType) → slice_get (imported_globals m.imports) x ≡ Some t → (g : GlobalInstance)
        × (item_at old.globals instance.globals x ≡ Some g) × ValueHasType new g.value t.value
    global-there x t is =
        let (address, g, at, found, type) = global-given x t is in (
          g,
          ap (item_of old.globals) at ∙ found,
          held g.value t.value (subst (λ (u : GlobalType). ValueHasType old g.value u.value) type
              (All-at (GlobalIsValid old) old.globals address g found valid.globals)),
        )

    function-there : (x : ℕ) (f : FuncType) → slice_get (functions_of m) x ≡ Some f → (a : ℕ) × (slice_get instance.functions x ≡ Some a) × (a < length new.functions)
    function-there x f is =
        let (a, at) = function-given x f is in
        (a, at, All-at (λ (b : ℕ). b < length new.functions) instance.functions x a at instance-there)

    pub constant-there : (ops : List Op) (t : ValType) → IsConstantExpression (constant_context m) ops t → (v : Val) × (constant_value old instance ops ≡ Some v) × ValueHasType new v t
    constant-there = constant-found old new m instance function-there global-there

    constant-held : (ops : List Op) (t : ValType) (v : Val) → IsConstantExpression (constant_context m) ops t → constant_value old instance ops ≡ Some v → ValueHasType new v t
    constant-held = constant-typed old new m instance function-there global-there

  module _ (globals_made : map_all (new_global old instance) m.globals ≡ Some gs) (elements_made : map_all (new_elements old instance) m.elements ≡ Some es) where
    pub globals-are : (instance_context new instance).globals ≡ globals_of m
    globals-are =
        let missing : GlobalType = record { value = ty.I32; mutability = Const } in
        types-appended (λ (g : GlobalInstance). g.ty) missing old.globals gs (given_addresses global_address given) (length m.globals) there.globals
        (map_all-length (new_global old instance) m.globals gs globals_made)
        ∙ ap₂ (λ (a b : List GlobalType). a ++ b) (globals-given old m missing m.imports given linkable.fits linkable.count)
        (made-same (new_global old instance) (λ (g : GlobalInstance). g.ty) (λ (g : Global). g.ty) typed m.globals gs globals_made)
      where
        typed : (g : Global) (made : GlobalInstance) → new_global old instance g ≡ Some made → made.ty ≡ g.ty
        typed g made is =
            let (v, value, same) = mapped (λ (v : Val). record { ty = g.ty; value = v }) (constant_value old instance g.init) made is in
            sym (ap (λ (h : GlobalInstance). h.ty) same)

    pub elements-are : (instance_context new instance).elements ≡ map (λ (e : ElementSegment). e.ty) m.elements
    elements-are =
        types-appended (λ (e : ElementInstance). e.ty) ref.FuncRef old.elements es [] (length m.elements)
        (All-none (λ (a : ℕ). a < length old.elements)) (map_all-length (new_elements old instance) m.elements es elements_made)
        ∙ made-same (new_elements old instance) (λ (e : ElementInstance). e.ty) (λ (e : ElementSegment). e.ty) typed m.elements es elements_made
      where
        typed : (e : ElementSegment) (made : ElementInstance) → new_elements old instance e ≡ Some made → made.ty ≡ e.ty
        typed e made is =
            let (vs, value, same) = mapped (λ (vs : List Val). record { ty = e.ty; references = vs }) (references old instance e.items) made is in
            sym (ap (λ (h : ElementInstance). h.ty) same)

    -- ---- what is typed in the module is typed in the instance

    tables-carried : (x : ℕ) (t : RefType) → IsTable (module_context m) x t → IsTable (instance_context new instance) x t
    tables-carried x t (type, is, element) =
        let same : option_map (λ (t : TableType). t.element) (slice_get (instance_context new instance).tables x) ≡ Some type.element =
        sym (slice_get-map (λ (t : TableType). t.element) (instance_context new instance).tables x)
        ∙ ap (λ (es : List RefType). slice_get es x) elements-of-tables
        ∙ slice_get-map (λ (t : TableType). t.element) (tables_of m) x ∙ ap (option_map (λ (t : TableType). t.element)) is in
        let (type', is', element') = mapped (λ (t : TableType). t.element) (slice_get (instance_context new instance).tables x) type.element same in
        (type', is', element' ∙ element)

    memory-carried : HasMemory (module_context m) → HasMemory (instance_context new instance)
    memory-carried (limits, is) =
        let inside = slice_get_within (memories_of m) 0 limits is in
        let there_too : 0 < length (instance_context new instance).memories = omega (arith, inside, memories-are-as-many) in
        (get_or (instance_context new instance).memories 0 no_limits, slice_get-get_or (instance_context new instance).memories 0 no_limits there_too)

    datas-carried : length m.datas ≤ length instance.datas
    datas-carried = omega (arith, consecutive-length (length old.datas) (length m.datas))

    functions-carried : (x : ℕ) (f : FuncType) → slice_get (functions_of m) x ≡ Some f → slice_get (instance_context new instance).functions x ≡ Some f
    functions-carried x f is = ap (λ (fs : List FuncType). slice_get fs x) functions-are ∙ is

    named-carried : (x : ℕ) (f : FuncType) → slice_get (functions_of m) x ≡ Some f → IsNamed x (below (length instance.functions))
    named-carried x f is =
        let inside = slice_get_within (instance_context new instance).functions x f (functions-carried x f is) in
        let same : length (instance_context new instance).functions ≡ length instance.functions = length-map instance.functions _ in
        named-below x (length instance.functions) (omega (arith, inside, same))

    place-is : (place : Place) → place.instance ≡ Some (length old.instances) → instance_of new place.instance ≡ instance
    place-is place is = ap (instance_of new) is ∙ ap (λ (o : Option ModuleInstance). unwrap_or o no_instance) (append-first old.instances [] instance)

    pub module-carried : (place : Place) → place.instance ≡ Some (length old.instances)
        → Carries (record (module_context m) { locals = place.locals; labels = place.labels; results = place.results }) (context_at new place)
    module-carried place is = rw (place-is place is) (record {
      types = λ x t is. is;
      functions = functions-carried;
      tables = tables-carried;
      memory = memory-carried;
      globals = λ x g is. ap (λ (gs : List GlobalType). slice_get gs x) globals-are ∙ is;
      elements = λ x t is. ap (λ (ts : List RefType). slice_get ts x) elements-are ∙ is;
      datas = datas-carried;
      locals = λ x t is. is;
      labels = λ x ts is. is;
      results = λ ts is. is;
      references = λ x f is named. named-carried x f is;
    })

    -- ---- objects with the values of constant expressions

    module _ (valid : StoreIsValid old) where
      global-made : (g : Global) (made : GlobalInstance) → IsConstantExpression (constant_context m) g.init g.ty.value → new_global old instance g ≡ Some made → GlobalIsValid new made
      global-made g made expression is =
          let (v, value, same) = mapped (λ (v : Val). record { ty = g.ty; value = v }) (constant_value old instance g.init) made is in
          subst (GlobalIsValid new) same (constant-held valid g.init g.ty.value v expression value)

      referred : (x : ℕ) (v : Val) → x < length (function_indices m) → constant old instance (Reference (reference.Func x)) ≡ Some v → ValueHasType new v ty.FuncRef
      referred x v inside is =
          let (a, at, value_is) = mapped (λ (a : ℕ). FuncRef (Some a)) (slice_get instance.functions x) v is in
          subst (λ (w : Val). ValueHasType new w ty.FuncRef) value_is (refl, All-at (λ (b : ℕ). b < length new.functions) instance.functions x a at instance-there)

      references-held : (t : RefType) (items : ElementItems) (vs : List Val) → HasItemsOfType m t items → references old instance items ≡ Some vs
          → All (λ (v : Val). ValueHasType new v (reference_type t)) vs
      references-held t (Functions indices) vs (functions, inside) is =
          made-all (λ (x : ℕ). constant old instance (Reference (reference.Func x))) (λ (v : Val). ValueHasType new v (reference_type t)) (λ (x : ℕ). x < length (function_indices m))
          (λ x v below made. subst (λ (r : RefType). ValueHasType new v (reference_type r)) (sym functions) (referred x v below made)) indices vs inside is
      references-held t (Expressions expressions) vs all is =
          made-all (constant_value old instance) (λ (v : Val). ValueHasType new v (reference_type t)) (λ (ops : List Op). IsConstantExpression (constant_context m) ops (reference_type t))
          (λ ops v expression made. constant-held valid ops (reference_type t) v expression made) expressions vs all is

      elements-made-valid : (e : ElementSegment) (made : ElementInstance) → IsValidElement m e → new_elements old instance e ≡ Some made → ElementIsValid new made
      elements-made-valid e made valid_element is =
          let (vs, value, same) = mapped (λ (vs : List Val). record { ty = e.ty; references = vs }) (references old instance e.items) made is in
          subst (ElementIsValid new) same (references-held e.ty e.items vs valid_element.items value)

      -- ---- functions, tables and memories

      module _ (read : (b : Body) → body_of (writing b) ≡ b) where
        function-made : (f : Function) → IsValidFunction m f → FunctionIsValid new (new_function (length old.instances) m f)
        function-made f valid_function =
            let type_is : type_at m.types f.ty ≡ valid_function.ty = ap (λ (o : Option FuncType). unwrap_or o (function_type [] [])) valid_function.has_type in
            let body_is : body_of f.body ≡ valid_function.body = ap body_of valid_function.written ∙ read valid_function.body in
            let there_now : length old.instances < length new.instances = omega (arith, length-append old.instances (instance ∷ [])) in
            let place = body_place valid_function.ty (length old.instances) (code_of f) in
            let typed = HasType-extension (body_context m valid_function.ty f.locals) (context_at new place) (module-carried place refl)
            valid_function.body [] (known valid_function.ty.results) valid_function.typed in
            (there_now, rw (type_is, body_is) typed)

        table-made : (t : TableType) → SizeIsValid t.limits old.entries most_entries → TableIsValid new (new_table t)
        table-made t size = record {
          size = size;
          entries_are = length-replicate t.limits.min (null_of t.element);
          entries = All-replicate (λ (v : Val). ValueHasType new v (reference_type t.element)) t.limits.min (null_of t.element) (default-typed new (reference_type t.element));
        }

        memory-made : (l : Limits) → AreOrdered l × AreFewPages l × (l.min ≤ old.pages) → MemoryIsValid old.pages (new_memory l)
        memory-made l (ordered, few, bounded) = record {
          size = record { bounded = bounded; few = (let most = few.0 in omega (arith, most)); ordered = ordered };
          bytes_are = length-replicate {A = ℕ} (page_size * l.min) 0;
          bytes = All-replicate (λ (b : ℕ). b < 2 ^ 8) (page_size * l.min) 0 (omega (arith));
        }

        of-own : {X : Type 0} (P : X → Type 0) (imported owns : List X) → All P (imported ++ owns) → All P owns
        of-own P imported owns all = rw (drop-append_seam imported owns) at (All-drop P (length imported) (imported ++ owns) all)

        export-there : (desc : ExportDesc) → Exists m desc → ExportIsThere instance desc
        export-there (export.Func x) inside =
            let all : length (instance_context new instance).functions ≡ length instance.functions = length-map instance.functions _ in
            let same = ap (λ (fs : List FuncType). length fs) functions-are in
            omega (arith, inside, all, same, length-map (function_indices m) (type_at m.types))
        export-there (export.Table x) inside =
            let all : length (instance_context new instance).tables ≡ length instance.tables = length-map instance.tables _ in
            let same = ap (λ (es : List RefType). length es) elements-of-tables in
            omega (arith, inside, all, same, length-map (instance_context new instance).tables (λ (t : TableType). t.element), length-map (tables_of m) (λ (t : TableType). t.element))
        export-there (export.Memory x) inside =
            let all : length (instance_context new instance).memories ≡ length instance.memories = length-map instance.memories _ in
            omega (arith, inside, all, memories-are-as-many)
        export-there (export.Global x) inside =
            let all : length (instance_context new instance).globals ≡ length instance.globals = length-map instance.globals _ in
            let same = ap (λ (gs : List GlobalType). length gs) globals-are in
            omega (arith, inside, all, same)

        instance-valid-now : InstanceIsValid new instance
        instance-valid-now = record {
          functions = instance-there;
          tables = there-append old.tables (map new_table m.tables) (given_addresses table_address given) (length m.tables) there.tables (length-map m.tables new_table);
          memories = there-append old.memories (map new_memory m.memories) (given_addresses memory_address given) (length m.memories) there.memories (length-map m.memories new_memory);
          globals = there-append old.globals gs (given_addresses global_address given) (length m.globals) there.globals (map_all-length (new_global old instance) m.globals gs globals_made);
          elements = there-append old.elements es [] (length m.elements) (All-none (λ (a : ℕ). a < length old.elements)) (map_all-length (new_elements old instance) m.elements es elements_made);
          datas = there-append old.datas (map new_data m.datas) [] (length m.datas) (All-none (λ (a : ℕ). a < length old.datas)) (length-map m.datas new_data);
          exports = λ k e inside. export-there _ (linkable.sound.valid.exports k e inside);
        }

        few-now : HasFewObjects new
        few-now =
            let room = linkable.within.room in
            record {
              functions = omega (arith, room.functions, length-append old.functions (map (new_function (length old.instances) m) m.funcs), length-map m.funcs (new_function (length old.instances) m));
              instances = omega (arith, room.instances, length-append old.instances (instance ∷ []));
              tables = omega (arith, room.tables, length-append old.tables (map new_table m.tables), length-map m.tables new_table);
              memories = omega (arith, room.memories, length-append old.memories (map new_memory m.memories), length-map m.memories new_memory);
              globals = omega (arith, room.globals, length-append old.globals gs, map_all-length (new_global old instance) m.globals gs globals_made);
              elements = omega (arith, room.elements, length-append old.elements es, map_all-length (new_elements old instance) m.elements es elements_made);
              datas = omega (arith, room.datas, length-append old.datas (map new_data m.datas), length-map m.datas new_data);
            }

        pub store-valid : StoreIsValid new
        store-valid = record {
          functions = All-append (FunctionIsValid new) old.functions (map (new_function (length old.instances) m) m.funcs) (functions-still old new valid extends old.functions valid.functions)
              (All-map (FunctionIsValid new) (IsValidFunction m) (new_function (length old.instances) m) function-made m.funcs linkable.sound.valid.bodies);
          instances = All-append (InstanceIsValid new) old.instances (instance ∷ [])
              (instances-still old new valid extends old.instances valid.instances) (All-replicate (InstanceIsValid new) 1 instance instance-valid-now);
          tables = All-append (TableIsValid new) old.tables (map new_table m.tables) (tables-still old new valid extends old.tables valid.tables)
              (All-map (TableIsValid new) (λ (t : TableType). SizeIsValid t.limits old.entries most_entries) new_table table-made m.tables (λ k d inside. record {
                bounded = linkable.within.few_entries k d inside;
                few = linkable.sound.few_entries k d inside;
                ordered = of-own (λ (t : TableType). AreOrdered t.limits) (imported_tables m.imports) m.tables linkable.sound.valid.table_limits k d inside;
              }));
          memories = All-append (MemoryIsValid old.pages) old.memories (map new_memory m.memories) valid.memories
              (All-map (MemoryIsValid old.pages) (λ (l : Limits). AreOrdered l × AreFewPages l × (l.min ≤ old.pages)) new_memory memory-made m.memories (λ k d inside. (
                of-own AreOrdered (imported_memories m.imports) m.memories linkable.sound.valid.memory_limits k d inside,
                of-own AreFewPages (imported_memories m.imports) m.memories linkable.sound.valid.memory_pages k d inside,
                linkable.within.few_pages k d inside,
              )));
          globals = All-append (GlobalIsValid new) old.globals gs (globals-still old new valid extends old.globals valid.globals)
              (made-all (new_global old instance) (GlobalIsValid new) (λ (g : Global). IsConstantExpression (constant_context m) g.init g.ty.value)
              global-made m.globals gs linkable.sound.valid.globals globals_made);
          elements = All-append (ElementIsValid new) old.elements es (elements-still old new valid extends old.elements valid.elements)
              (made-all (new_elements old instance) (ElementIsValid new) (IsValidElement m) elements-made-valid m.elements es linkable.sound.valid.elements elements_made);
          datas = All-append DataIsValid old.datas (map new_data m.datas) valid.datas
              (All-map DataIsValid (λ (d : DataSegment). AreBytes d.bytes) new_data (λ d bytes. bytes) m.datas linkable.sound.bytes);
          few = few-now;
        }

pub allocation-keeps-valid : ((b : Body) → body_of (writing b) ≡ b) → AllocationKeepsValid
allocation-keeps-valid read old m given objects valid linkable made_is =
    let (gs, es, globals_made, elements_made, same) = objects-made m (map_all (new_global old (new_instance old m given)) m.globals)
    (map_all (new_elements old (new_instance old m given)) m.elements) objects made_is in
    rw same (extends old m given linkable gs es, store-valid old m given linkable gs es globals_made elements_made valid read)

pub context-has-module-types : ContextHasModuleTypes
context-has-module-types old m given objects linkable = (refl, functions-are old m given linkable objects.globals objects.elements)
