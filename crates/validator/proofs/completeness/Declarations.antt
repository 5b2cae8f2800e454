-- What a valid module shows of its imports and of its own declarations.
use Rattle.std.proofs.Common.{ℕ, ◌<◌, List, [], ◌∷◌, ◌++◌, length, map, sym, subst}
use Rattle.std.proofs.lemmas.List.Elements.{All-nil, All-cons, All-head, All-tail}
use Rattle.std.specs.List.{filter_map, cons_option}
use Rattle.std.specs.Prelude.{All, Option, Some, None, IfSome}
use Rattle.core_types.specs.declared.module.Func.{Func}
use Rattle.core_types.specs.declared.module.Import.{Import}
use Rattle.core_types.specs.declared.module.ImportDesc.TheVariants as import
use Rattle.core_types.specs.declared.module.ImportDesc.{ImportDesc}
use Rattle.core_types.specs.declared.module.Module.{Module}
use Rattle.core_types.specs.declared.types.TableType.{TableType}
use Rattle.meaning.specs.validation.Modules.{imported_functions, imported_memories, imported_tables, IsValid, memories_of}
use Rattle.meaning.specs.validation.Types.{AreOrdered}
use Rattle.index_spaces.specs.IndexSpaces.{function_of, table_of, memory_of}
use Rattle.validator.specs.Modules.{IsValidImport, IsValidMemory, HasValidDeclarations}
use Rattle.index_spaces.proofs.lemmas.IndexSpaces.{functions_imported, tables_imported, memories_imported}

module _ {A : Type 0} (P : A → Type 0) where
  All-split : (xs ys : List A) → All P (xs ++ ys) → All P xs × All P ys
  All-split [] ys all = (All-nil P, all)
  All-split (x ∷ xs) ys all =
      let others = All-split xs ys (All-tail P x (xs ++ ys) all) in
      (All-cons P x xs (All-head P x (xs ++ ys) all) others.0, others.1)

  All-option : (o : Option A) (xs : List A) → All P (cons_option o xs) → IfSome o P × All P xs
  All-option None xs all = (tt, all)
  All-option (Some x) xs all = (All-head P x xs all, All-tail P x xs all)

All-unmap : {A B : Type 0} (P : B → Type 0) (f : A → B) (xs : List A) → All P (map f xs) → All (λ (x : A). P (f x)) xs
All-unmap P f [] all = All-nil (λ x. P (f x))
All-unmap P f (x ∷ xs) all = All-cons (λ x. P (f x)) x xs (All-head P (f x) (map f xs) all) (All-unmap P f xs (All-tail P (f x) (map f xs) all))

module _ (types : ℕ) where
  abbrev IsTyped : ℕ → Type 0
  IsTyped x = x < types

  abbrev IsOrdered : TableType → Type 0
  IsOrdered t = AreOrdered t.limits

  import_valid : (d : ImportDesc) → IfSome (function_of d) IsTyped → IfSome (table_of d) IsOrdered → IfSome (memory_of d) IsValidMemory → IsValidImport types d
  unfolding function_of table_of memory_of
  import_valid (import.Func x) typed ordered memory = typed
  import_valid (import.Table t) typed ordered memory = ordered
  import_valid (import.Memory l) typed ordered memory = memory
  import_valid (import.Global g) typed ordered memory = tt

  imports_valid : (is : List Import) → All IsTyped (filter_map (λ (i : Import). function_of i.desc) is) → All IsOrdered (filter_map (λ (i : Import). table_of i.desc) is)
      → All IsValidMemory (filter_map (λ (i : Import). memory_of i.desc) is) → All (λ (i : Import). IsValidImport types i.desc) is
  imports_valid [] typed ordered memories = All-nil (λ (i : Import). IsValidImport types i.desc)
  imports_valid (i ∷ is) typed ordered memories =
      let function = All-option IsTyped (function_of i.desc) (filter_map (λ (i : Import). function_of i.desc) is) typed in
      let table = All-option IsOrdered (table_of i.desc) (filter_map (λ (i : Import). table_of i.desc) is) ordered in
      let memory = All-option IsValidMemory (memory_of i.desc) (filter_map (λ (i : Import). memory_of i.desc) is) memories in
      All-cons (λ (i : Import). IsValidImport types i.desc) i is (import_valid i.desc function.0 table.0 memory.0) (imports_valid is function.1 table.1 memory.1)

module _ {m : Module} (valid : IsValid m) where
  pub declarations_valid : HasValidDeclarations m
  declarations_valid =
      let types = length m.types in
      let both : All IsValidMemory (memories_of m) = λ k d lt. (valid.memory_limits k d lt, valid.memory_pages k d lt) in
      let functions = All-split (IsTyped types) (imported_functions m.imports) (map (λ (f : Func). f.ty) m.funcs) valid.function_types in
      let tables = All-split (IsOrdered types) (imported_tables m.imports) m.tables valid.table_limits in
      let memories = All-split IsValidMemory (imported_memories m.imports) m.memories both in
      record {
        imports = imports_valid types m.imports (subst (All (IsTyped types)) (sym (functions_imported m.imports)) functions.0)
            (subst (All (IsOrdered types)) (sym (tables_imported m.imports)) tables.0)
            (subst (All IsValidMemory) (sym (memories_imported m.imports)) memories.0);
        functions = All-unmap (IsTyped types) (λ (f : Func). f.ty) m.funcs functions.1;
        tables = tables.1;
        memories = memories.1;
      }
