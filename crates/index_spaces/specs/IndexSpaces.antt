-- The index spaces of a module, and what one import adds to each.
use Rattle.std.specs.Prelude.{◌≡◌, ◌++◌, ℕ, List, Option, None, Some, map}
use Rattle.std.specs.List.{filter_map}
use Rattle.core_types.specs.declared.module.Func.{Func}
use Rattle.core_types.specs.declared.module.Global.{Global}
use Rattle.core_types.specs.declared.module.Import.{Import}
use Rattle.core_types.specs.declared.module.ImportDesc.{ImportDesc}
use Rattle.core_types.specs.declared.module.ImportDesc.TheVariants as import
use Rattle.core_types.specs.declared.module.Module.{Module}
use Rattle.core_types.specs.declared.types.GlobalType.{GlobalType}
use Rattle.core_types.specs.declared.types.Limits.{Limits}
use Rattle.core_types.specs.declared.types.TableType.{TableType}
use Rattle.meaning.specs.validation.Modules.{function_indices, globals_of, memories_of, tables_of}
use Rattle.index_spaces.specs.declared.IndexSpaces.{IndexSpaces}

unfoldable pub function_of : ImportDesc → Option ℕ
function_of (import.Func x) = Some x
function_of (import.Table t) = None
function_of (import.Memory l) = None
function_of (import.Global g) = None

unfoldable pub table_of : ImportDesc → Option TableType
table_of (import.Func x) = None
table_of (import.Table t) = Some t
table_of (import.Memory l) = None
table_of (import.Global g) = None

unfoldable pub memory_of : ImportDesc → Option Limits
memory_of (import.Func x) = None
memory_of (import.Table t) = None
memory_of (import.Memory l) = Some l
memory_of (import.Global g) = None

unfoldable pub global_of : ImportDesc → Option GlobalType
global_of (import.Func x) = None
global_of (import.Table t) = None
global_of (import.Memory l) = None
global_of (import.Global g) = Some g

-- Each index space, imports first.
abbrev pub functions_in : List Import → List Func → List ℕ
functions_in imports funcs =
    filter_map (λ (i : Import). function_of i.desc) imports ++ map (λ (f : Func). f.ty) funcs

abbrev pub tables_in : List Import → List TableType → List TableType
tables_in imports tables = filter_map (λ (i : Import). table_of i.desc) imports ++ tables

abbrev pub memories_in : List Import → List Limits → List Limits
memories_in imports memories = filter_map (λ (i : Import). memory_of i.desc) imports ++ memories

abbrev pub globals_in : List Import → List Global → List GlobalType
globals_in imports globals =
    filter_map (λ (i : Import). global_of i.desc) imports ++ map (λ (g : Global). g.ty) globals

-- The index spaces are those of the module.
pub record AreIndexSpaces (m : Module) (s : IndexSpaces) : Type 0 where
  pub functions : s.functions.items ≡ function_indices m
  pub tables : s.tables.items ≡ tables_of m
  pub memories : s.memories.items ≡ memories_of m
  pub globals : s.globals.items ≡ globals_of m
