-- The objects of a module.
use Rattle.std.proofs.Common.{◌≡◌, ℕ, ◌+◌, ◌<◌, ◌≤◌, List, [], ◌∷◌, ◌++◌, length, get_or, map, take, refl, ap, subst, ◌∙◌}
use Rattle.std.specs.Prelude.{Option, Some, None, Err, option_map}
use Rattle.std.specs.List.{All}
use Rattle.std.proofs.lemmas.List.{drop_at}
use Rattle.std.proofs.lemmas.List.Elements.{All-drop, All-weaker}
use Rattle.std.proofs.lemmas.Option.{slice_get-get_or}
use Rattle.core_types.specs.declared.module.DataMode.TheVariants.{Passive}
use Rattle.core_types.specs.declared.module.DataSegment.{DataSegment}
use Rattle.core_types.specs.declared.module.ElementSegment.{ElementSegment}
use Rattle.core_types.specs.declared.module.Module.{Module}
use Rattle.core_types.specs.declared.outcome.Val.{Val}
use Rattle.core_types.specs.declared.types.Limits.{Limits}
use Rattle.meaning.proofs.lemmas.Lists.{map-next}
use Rattle.meaning.specs.validation.Modules.{IsValid, imported_memories}
use Rattle.meaning.specs.validation.Types.{AreFewPages}
use Rattle.meaning.specs.execution.Memories.{MemoryInstance, new_memory}
use Rattle.meaning.specs.execution.Modules.{map_all, new_data, new_elements, new_global, new_objects, objects_with, references}
use Rattle.meaning.specs.execution.Store.{DataInstance, GlobalInstance, ModuleInstance, Store}
use Rattle.meaning.specs.execution.Tables.{ElementInstance, TableInstance, new_table}
use Rattle.store.specs.Segments.{bytes_at, segment_bytes}
use Rattle.instantiate.specs.declared.objects.ObjectFault.{ObjectFault}
use Rattle.instantiate.specs.declared.objects.ObjectFault.TheVariants.{NoValue, Memory}
use Rattle.instantiate.specs.Objects.{OnNoValue}

-- ---- faults

-- If one object is missing, another one is.
pub fault-passed : {X Y : Type 0} (fault : ObjectFault) (o : Option X) (p : Option Y) → (o ≡ None → p ≡ None) → OnNoValue {T = Unit {0}} (Err fault) o → OnNoValue {T = Unit {0}} (Err fault) p
fault-passed NoValue o p none missing = none missing
fault-passed Memory o p none missing = tt

-- ---- one object

pub few_pages-valid : (m : Module) → IsValid m → All (λ (l : Limits). l.min ≤ 65536) m.memories
few_pages-valid m valid =
    let imported = imported_memories m.imports in
    let few : All AreFewPages m.memories = subst (All AreFewPages) (drop_at imported m.memories (length imported) refl)
    (All-drop AreFewPages (length imported) (imported ++ m.memories) valid.memory_pages) in
    All-weaker AreFewPages (λ (l : Limits). l.min ≤ 65536) (λ l pages. pages.0) m.memories few

pub datas-next : (m : Module) (k : ℕ) (so_far after : List DataInstance) (new : DataInstance) → k < length m.datas → so_far
    ≡ map new_data (take k m.datas) → new.bytes ≡ bytes_at m k → after ≡ so_far ++ new ∷ [] → after ≡ map new_data (take (k + 1) m.datas)
datas-next m k so_far after new inside had bytes pushed =
    let d : DataSegment = record { bytes = []; mode = Passive } in
    let with_bytes : List ℕ → DataInstance = λ bs. record { bytes = bs } in
    let is : new ≡ new_data (get_or m.datas k d) = ap with_bytes (bytes ∙ ap segment_bytes (slice_get-get_or m.datas k d inside)) in
    pushed ∙ rw (had, is) (map-next new_data m.datas k d inside)

module _ (store : Store) (i : ModuleInstance) (e : ElementSegment) where
  abbrev with_references : List Val → ElementInstance
  with_references vs = record { ty = e.ty; references = vs }

  pub new_elements-none : references store i e.items ≡ None → new_elements store i e ≡ None
  new_elements-none none = ap (option_map with_references) none

  pub new_elements-some : (vs : List Val) → references store i e.items ≡ Some vs → new_elements store i e ≡ Some (with_references vs)
  new_elements-some vs some = ap (option_map with_references) some

-- ---- all objects

module _ (store : Store) (i : ModuleInstance) (m : Module) where
  pub objects-no_globals : map_all (new_global store i) m.globals ≡ None → new_objects store i m ≡ None
  objects-no_globals none = ap (λ (gs : Option (List GlobalInstance)). objects_with m gs (map_all (new_elements store i) m.elements)) none

  with-no_elements : (globals : Option (List GlobalInstance)) → objects_with m globals None ≡ None
  with-no_elements None = refl
  with-no_elements (Some globals) = refl

  pub objects-no_elements : map_all (new_elements store i) m.elements ≡ None → new_objects store i m ≡ None
  objects-no_elements none =
      ap (objects_with m (map_all (new_global store i) m.globals)) none ∙ with-no_elements (map_all (new_global store i) m.globals)

  pub objects-made : (tables : List TableInstance) (memories : List MemoryInstance) (globals : List GlobalInstance) (elements : List ElementInstance)
      (datas : List DataInstance) → tables ≡ map new_table m.tables → memories ≡ map new_memory m.memories → map_all (new_global store i) m.globals
      ≡ Some globals → map_all (new_elements store i) m.elements ≡ Some elements → datas ≡ map new_data m.datas → new_objects store i m
      ≡ Some (record { tables = tables; memories = memories; globals = globals; elements = elements; datas = datas })
  objects-made tables memories globals elements datas tables_are memories_are have_globals have_elements datas_are =
      rw (tables_are, memories_are, datas_are)
      (ap (λ (gs : Option (List GlobalInstance)). objects_with m gs (map_all (new_elements store i) m.elements)) have_globals ∙ ap
      (objects_with m (Some globals)) have_elements)
