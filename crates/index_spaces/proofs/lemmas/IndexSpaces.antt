-- The index spaces, from what each import adds.
use Rattle.std.proofs.Common.{◌≡◌, ℕ, List, [], ◌∷◌, refl, ap}
use Rattle.std.specs.List.{filter_map, cons_option}
use Rattle.core_types.specs.declared.module.Import.{Import}
use Rattle.core_types.specs.declared.module.ImportDesc.TheVariants as import
use Rattle.core_types.specs.declared.module.ImportDesc.{ImportDesc}
use Rattle.core_types.specs.declared.types.GlobalType.{GlobalType}
use Rattle.core_types.specs.declared.types.Limits.{Limits}
use Rattle.core_types.specs.declared.types.TableType.{TableType}
use Rattle.meaning.specs.validation.Modules.{imported_functions, imported_tables, imported_memories, imported_globals}
use Rattle.index_spaces.specs.IndexSpaces.{function_of, table_of, memory_of, global_of}

pub functions_imported : (is : List Import) → filter_map (λ (i : Import). function_of i.desc) is ≡ imported_functions is
unfolding function_of
functions_imported [] = refl
functions_imported (i ∷ is) = first i.desc (functions_imported is)
  where
    first : (d : ImportDesc) {xs ys : List ℕ} → xs ≡ ys → cons_option (function_of d) xs ≡ elim d [ import.Func x ↦ x ∷ ys | import.Table t ↦ ys | import.Memory l ↦ ys | import.Global g ↦ ys ]
    first (import.Func x) e = ap (λ (xs : List ℕ). x ∷ xs) e
    first (import.Table t) e = e
    first (import.Memory l) e = e
    first (import.Global g) e = e

pub tables_imported : (is : List Import) → filter_map (λ (i : Import). table_of i.desc) is ≡ imported_tables is
unfolding table_of
tables_imported [] = refl
tables_imported (i ∷ is) = first i.desc (tables_imported is)
  where
    first : (d : ImportDesc) {xs ys : List TableType} → xs ≡ ys → cons_option (table_of d) xs ≡ elim d [ import.Func x ↦ ys | import.Table t ↦ t ∷ ys | import.Memory l ↦ ys | import.Global g ↦ ys ]
    first (import.Func x) e = e
    first (import.Table t) e = ap (λ (xs : List TableType). t ∷ xs) e
    first (import.Memory l) e = e
    first (import.Global g) e = e

pub memories_imported : (is : List Import) → filter_map (λ (i : Import). memory_of i.desc) is ≡ imported_memories is
unfolding memory_of
memories_imported [] = refl
memories_imported (i ∷ is) = first i.desc (memories_imported is)
  where
    first : (d : ImportDesc) {xs ys : List Limits} → xs ≡ ys → cons_option (memory_of d) xs ≡ elim d [ import.Func x ↦ ys | import.Table t ↦ ys | import.Memory l ↦ l ∷ ys | import.Global g ↦ ys ]
    first (import.Func x) e = e
    first (import.Table t) e = e
    first (import.Memory l) e = ap (λ (xs : List Limits). l ∷ xs) e
    first (import.Global g) e = e

pub globals_imported : (is : List Import) → filter_map (λ (i : Import). global_of i.desc) is ≡ imported_globals is
unfolding global_of
globals_imported [] = refl
globals_imported (i ∷ is) = first i.desc (globals_imported is)
  where
    first : (d : ImportDesc) {xs ys : List GlobalType} → xs ≡ ys → cons_option (global_of d) xs ≡ elim d [ import.Func x ↦ ys | import.Table t ↦ ys | import.Memory l ↦ ys | import.Global g ↦ g ∷ ys ]
    first (import.Func x) e = e
    first (import.Table t) e = e
    first (import.Memory l) e = e
    first (import.Global g) e = ap (λ (xs : List GlobalType). g ∷ xs) e
