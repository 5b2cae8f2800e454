-- How messages encode what is exported and imported.
use Rattle.std.specs.Prelude.{ℕ, List, ◌++◌, Option, Some, None, flat_map, length, string_bytes}
use Rattle.core_types.specs.declared.types.ExternType.{ExternType}
use Rattle.core_types.specs.declared.types.ExternType.TheVariants.{Func, Table, Memory, Global}
use Rattle.core_types.specs.declared.types.Limits.{Limits}
use Rattle.core_types.specs.declared.types.Mutability.{Mutability}
use Rattle.core_types.specs.declared.types.Mutability.TheVariants.{Const, Var}
use Rattle.core_types.specs.declared.types.RefType.{RefType}
use Rattle.core_types.specs.declared.types.RefType.TheVariants as reference
use Rattle.core_types.specs.declared.types.ValType.TheVariants as value
use Rattle.interface.specs.declared.exports.ExportType.{ExportType}
use Rattle.interface.specs.declared.exports.Exports.{Exports}
use Rattle.interface.specs.declared.imports.ImportType.{ImportType}
use Rattle.interface.specs.declared.imports.Imports.{Imports}
use Rattle.messages.specs.Numbers.{number_bytes, text_bytes}
use Rattle.messages.specs.Types.{type_bytes, types_bytes}

abbrev pub reference_bytes : RefType → List ℕ
reference_bytes reference.FuncRef = type_bytes value.FuncRef
reference_bytes reference.ExternRef = type_bytes value.ExternRef

-- A maximum is one and a number, or two zeros.
abbrev pub maximum_bytes : Option ℕ → List ℕ
maximum_bytes None = number_bytes 0 ++ number_bytes 0
maximum_bytes (Some max) = number_bytes 1 ++ number_bytes max

abbrev pub limits_bytes : Limits → List ℕ
limits_bytes limits = number_bytes limits.min ++ maximum_bytes limits.max

abbrev pub mutability_number : Mutability → ℕ
mutability_number Const = 0
mutability_number Var = 1

-- The kinds of exports have the numbers of the binary format (Binary Format, Modules, Export Section).
abbrev pub extern_bytes : ExternType → List ℕ
extern_bytes (Func t) = number_bytes 0 ++ (types_bytes t.params ++ types_bytes t.results)
extern_bytes (Table t) = number_bytes 1 ++ (reference_bytes t.element ++ limits_bytes t.limits)
extern_bytes (Memory limits) = number_bytes 2 ++ limits_bytes limits
extern_bytes (Global t) =
    number_bytes 3 ++ (type_bytes t.value ++ number_bytes (mutability_number t.mutability))

-- An export is its name, and the index of its type in the list of types before it.
abbrev pub export_bytes : ExportType → List ℕ
export_bytes e = text_bytes (string_bytes e.name) ++ number_bytes e.ty

abbrev pub exports_bytes : Exports → List ℕ
exports_bytes found = number_bytes (length found.types.items)
    ++ (flat_map extern_bytes found.types.items ++ flat_map export_bytes found.exports.items)

-- An import is its two names, and the index of its type in the list of types before it.
abbrev pub import_bytes : ImportType → List ℕ
import_bytes i = text_bytes (string_bytes i.module_name)
    ++ (text_bytes (string_bytes i.name) ++ number_bytes i.ty)

abbrev pub imports_bytes : Imports → List ℕ
imports_bytes found = number_bytes (length found.types.items)
    ++ (flat_map extern_bytes found.types.items ++ flat_map import_bytes found.imports.items)
