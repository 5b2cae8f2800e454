-- The types of what a module imports and exports.
use Rattle.std.specs.Prelude.{ℕ, List, Option, option_and_then, option_map, slice_get}
use Rattle.core_types.specs.declared.module.ExportDesc.{ExportDesc}
use Rattle.core_types.specs.declared.module.ExportDesc.TheVariants as export
use Rattle.core_types.specs.declared.module.Module.{Module}
use Rattle.core_types.specs.declared.types.ExternType.{ExternType}
use Rattle.core_types.specs.declared.types.ExternType.TheVariants as type
use Rattle.core_types.specs.declared.types.FuncType.{FuncType}
use Rattle.core_types.specs.declared.types.GlobalType.{GlobalType}
use Rattle.core_types.specs.declared.types.Limits.{Limits}
use Rattle.core_types.specs.declared.types.TableType.{TableType}
use Rattle.meaning.specs.validation.Modules.{function_indices, globals_of, memories_of, tables_of}

-- The type of a function whose type has this index, if there is one.
abbrev pub function_at : List FuncType → ℕ → Option ExternType
function_at types x = option_map (λ (t : FuncType). type.Func t) (slice_get types x)

-- The type of what an export refers to in these index spaces, if it exists.
abbrev pub type_among : List FuncType → (functions : List ℕ) → List TableType → List Limits
    → List GlobalType → ExportDesc → Option ExternType
type_among types functions tables memories globals (export.Func x) =
    option_and_then (function_at types) (slice_get functions x)
type_among types functions tables memories globals (export.Table x) =
    option_map (λ (t : TableType). type.Table t) (slice_get tables x)
type_among types functions tables memories globals (export.Memory x) =
    option_map (λ (l : Limits). type.Memory l) (slice_get memories x)
type_among types functions tables memories globals (export.Global x) =
    option_map (λ (g : GlobalType). type.Global g) (slice_get globals x)

-- The type of what an export of a module refers to, if it exists (Validation, Modules, Exports).
abbrev pub export_type : Module → ExportDesc → Option ExternType
export_type m desc =
    type_among m.types (function_indices m) (tables_of m) (memories_of m) (globals_of m) desc
