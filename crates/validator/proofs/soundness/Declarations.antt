-- The rules on each index space, from those on what is imported and those on the module's own definitions.
use Rattle.std.proofs.Common.{ℕ, ◌<◌, List, [], ◌∷◌, ◌++◌, length, map, subst}
use Rattle.std.proofs.lemmas.List.Elements.{All-nil, All-cons, All-head, All-tail, All-append, All-map, All-weaker}
use Rattle.std.specs.List.{filter_map, cons_option}
use Rattle.std.specs.Prelude.{All, Option, Some, None, IfSome}
use Rattle.core_types.specs.declared.module.Func.{Func}
use Rattle.core_types.specs.declared.module.Import.{Import}
use Rattle.core_types.specs.declared.module.ImportDesc.TheVariants as import
use Rattle.core_types.specs.declared.module.ImportDesc.{ImportDesc}
use Rattle.core_types.specs.declared.module.Module.{Module}
use Rattle.core_types.specs.declared.types.TableType.{TableType}
use Rattle.meaning.specs.validation.Modules.{imported_functions, imported_memories, imported_tables, IsValid, IsValidFunction}
use Rattle.meaning.specs.validation.Types.{AreFewPages, AreOrdered}
use Rattle.index_spaces.specs.IndexSpaces.{function_of, table_of, memory_of}
use Rattle.validator.specs.Modules.{IsValidImport, IsValidMemory, HasValidDeclarations, HasValidParts}
use Rattle.index_spaces.proofs.lemmas.IndexSpaces.{functions_imported, tables_imported, memories_imported}

All-filter_map : {A B : Type 0} (P : A → Type 0) (Q : B → Type 0) (h : A → Option B) → ((x : A) → P x → IfSome (h x) Q) → (xs : List A) → All P xs → All Q (filter_map h xs)
All-filter_map P Q h gives [] all = All-nil Q
All-filter_map {B = B} P Q h gives (x ∷ xs) all = with_first (h x) (filter_map h xs) (gives x (All-head P x xs all)) (All-filter_map P Q h gives xs (All-tail P x xs all))
  where
    with_first : (o : Option B) (ys : List B) → IfSome o Q → All Q ys → All Q (cons_option o ys)
    with_first None ys here others = others
    with_first (Some y) ys here others = All-cons Q y ys here others

module _ {m : Module} (declarations : HasValidDeclarations m) where
  imported_typed : (d : ImportDesc) → IsValidImport (length m.types) d → IfSome (function_of d) (λ x. x < length m.types)
  unfolding function_of
  imported_typed (import.Func x) h = h
  imported_typed (import.Table t) h = tt
  imported_typed (import.Memory l) h = tt
  imported_typed (import.Global g) h = tt

  imported_ordered : (d : ImportDesc) → IsValidImport (length m.types) d → IfSome (table_of d) (λ t. AreOrdered t.limits)
  unfolding table_of
  imported_ordered (import.Func x) h = tt
  imported_ordered (import.Table t) h = h
  imported_ordered (import.Memory l) h = tt
  imported_ordered (import.Global g) h = tt

  imported_memory : (d : ImportDesc) → IsValidImport (length m.types) d → IfSome (memory_of d) IsValidMemory
  unfolding memory_of
  imported_memory (import.Func x) h = tt
  imported_memory (import.Table t) h = tt
  imported_memory (import.Memory l) h = h
  imported_memory (import.Global g) h = tt

  abbrev AreImports : {B : Type 0} → (B → Type 0) → (ImportDesc → Option B) → Type 0
  AreImports Q h = All Q (filter_map (λ (i : Import). h i.desc) m.imports)

  imports_are : {B : Type 0} (Q : B → Type 0) (h : ImportDesc → Option B) → ((d : ImportDesc) → IsValidImport (length m.types) d → IfSome (h d) Q) → AreImports Q h
  imports_are Q h gives = All-filter_map (λ (i : Import). IsValidImport (length m.types) i.desc) Q (λ (i : Import). h i.desc) (λ i. gives i.desc) m.imports declarations.imports

  pub functions_typed : All (λ (x : ℕ). x < length m.types) (imported_functions m.imports ++ map (λ (f : Func). f.ty) m.funcs)
  functions_typed =
      let IsTyped = λ (x : ℕ). x < length m.types in
      All-append IsTyped (imported_functions m.imports) (map (λ (f : Func). f.ty) m.funcs)
      (subst (All IsTyped) (functions_imported m.imports) (imports_are IsTyped function_of imported_typed))
      (All-map IsTyped (λ (f : Func). f.ty) m.funcs declarations.functions)

  memories_valid : All IsValidMemory (imported_memories m.imports ++ m.memories)
  memories_valid = All-append IsValidMemory (imported_memories m.imports) m.memories
      (subst (All IsValidMemory) (memories_imported m.imports) (imports_are IsValidMemory memory_of imported_memory)) declarations.memories

  pub module_valid : HasValidParts m → All (IsValidFunction m) m.funcs → IsValid m
  module_valid parts bodies =
      let IsOrdered = λ (t : TableType). AreOrdered t.limits in
      let memories = imported_memories m.imports ++ m.memories in
      record {
        function_types = functions_typed;
        bodies = bodies;
        table_limits = All-append IsOrdered (imported_tables m.imports) m.tables
            (subst (All IsOrdered) (tables_imported m.imports) (imports_are IsOrdered table_of imported_ordered)) declarations.tables;
        memory_limits = All-weaker IsValidMemory AreOrdered (λ l h. h.0) memories memories_valid;
        memory_pages = All-weaker IsValidMemory AreFewPages (λ l h. h.1) memories memories_valid;
        one_memory = parts.one_memory;
        globals = parts.globals;
        elements = parts.elements;
        datas = parts.datas;
        start = parts.start;
        exports = parts.exports;
        names_differ = parts.names_differ;
      }
