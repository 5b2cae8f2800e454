-- What lists of imports and exports contain: the names and the type of each. The types are in a separate list.
use Rattle.std.specs.Prelude.{◌≡◌, ℕ, List, Option, Some, filter_map, option_map, slice_get, string_bytes}
use Rattle.std.specs.List.{AllZip}
use Rattle.core_types.specs.declared.module.Export.{Export}
use Rattle.core_types.specs.declared.module.ExportDesc.{ExportDesc}
use Rattle.core_types.specs.declared.module.Import.{Import}
use Rattle.core_types.specs.declared.module.Module.{Module}
use Rattle.core_types.specs.declared.types.ExternType.{ExternType}
use Rattle.core_types.specs.declared.types.FuncType.{FuncType}
use Rattle.meaning.specs.execution.Modules.{import_type}
use Rattle.interface.specs.Types.{export_type, type_among}
use Rattle.interface.specs.declared.exports.ExportType.{ExportType}
use Rattle.interface.specs.declared.exports.Exports.{Exports}
use Rattle.interface.specs.declared.imports.ImportType.{ImportType}
use Rattle.interface.specs.declared.imports.Imports.{Imports}
use Rattle.index_spaces.specs.declared.IndexSpaces.{IndexSpaces}

-- ---- exports

-- The name of an export, and its type.
abbrev pub NamedExport : Type 0
NamedExport = List ℕ × ExternType

-- An export has this name and this type.
pub record IsExport (types : List ExternType) (export : ExportType) (expected : NamedExport)
    : Type 0 where
  pub name : string_bytes export.name ≡ expected.0
  pub ty : slice_get types export.ty ≡ Some expected.1

-- The exports have these names and types, in this order.
abbrev pub AreExports : Exports → List NamedExport → Type 0
AreExports found expected = AllZip (IsExport found.types.items) found.exports.items expected

-- Each type keeps its place.
abbrev pub KeepsTypes : (old new : List ExternType) → Type 0
KeepsTypes old new = (index : ℕ) (ty : ExternType) → slice_get old index ≡ Some ty
    → slice_get new index ≡ Some ty

-- The name and the type of an export, by a function that gives the type, if there is one.
abbrev pub named_export : (ExportDesc → Option ExternType) → Export → Option NamedExport
named_export type_of e = option_map (λ (ty : ExternType). (e.name, ty)) (type_of e.desc)

-- The same in these index spaces.
abbrev pub typed_export : List FuncType → IndexSpaces → Export → Option NamedExport
typed_export types s e = named_export
    (type_among types s.functions.items s.tables.items s.memories.items s.globals.items) e

-- What a module exports, in order: each name with its type.
abbrev pub exports_with_types : Module → List NamedExport
exports_with_types m = filter_map (λ (e : Export). named_export (export_type m) e) m.exports

-- ---- imports

-- The name of a module, the name in it, and the type of an import.
abbrev pub NamedImport : Type 0
NamedImport = (List ℕ × List ℕ) × ExternType

abbrev pub named_import : Import → ExternType → NamedImport
named_import i ty = ((i.module_name, i.name), ty)

-- An import has these names and this type.
pub record IsImport (types : List ExternType) (import : ImportType) (expected : NamedImport)
    : Type 0 where
  pub module_name : string_bytes import.module_name ≡ expected.0.0
  pub name : string_bytes import.name ≡ expected.0.1
  pub ty : slice_get types import.ty ≡ Some expected.1

-- The imports have these names and types, in this order.
abbrev pub AreImports : Imports → List NamedImport → Type 0
AreImports found expected = AllZip (IsImport found.types.items) found.imports.items expected

-- The names of an import and the type that it requires, if that exists.
abbrev pub typed_import : Module → Import → Option NamedImport
typed_import m i = option_map (named_import i) (import_type m i.desc)

-- What a module imports, in order: each pair of names with the type that is required.
abbrev pub imports_with_types : Module → List NamedImport
imports_with_types m = filter_map (typed_import m) m.imports
