-- The rules for a part of a module, in the terms of its index spaces.
use Rattle.std.specs.Prelude.{◌<◌, length, ◌≡◌, ℕ, List, [], Option, Some, None, slice_get, All}
use Rattle.core_types.specs.declared.module.DataMode.TheVariants as data_mode
use Rattle.core_types.specs.declared.module.DataMode.{DataMode}
use Rattle.core_types.specs.declared.module.ElementItems.TheVariants.{Functions, Expressions}
use Rattle.core_types.specs.declared.module.ElementItems.{ElementItems}
use Rattle.core_types.specs.declared.module.ElementMode.TheVariants.{Passive, Active, Declarative}
use Rattle.core_types.specs.declared.module.ElementMode.{ElementMode}
use Rattle.core_types.specs.declared.module.ElementSegment.{ElementSegment}
use Rattle.core_types.specs.declared.module.ExportDesc.TheVariants.{Func, Table, Memory, Global}
use Rattle.core_types.specs.declared.module.ExportDesc.{ExportDesc}
use Rattle.core_types.specs.declared.op.Op.{Op}
use Rattle.core_types.specs.declared.types.FuncType.{FuncType}
use Rattle.core_types.specs.declared.types.RefType.TheVariants.{FuncRef}
use Rattle.core_types.specs.declared.types.RefType.{RefType}
use Rattle.core_types.specs.declared.types.TableType.{TableType}
use Rattle.core_types.specs.declared.types.ValType.TheVariants.{I32}
use Rattle.meaning.specs.validation.Types.{reference_type}
use Rattle.validator.specs.declared.constants.ConstantContext.{ConstantContext}
use Rattle.index_spaces.specs.declared.IndexSpaces.{IndexSpaces}
use Rattle.validator.specs.Constants.{IsConstantIn}

abbrev pub ExistsIn : IndexSpaces → ExportDesc → Type 0
ExistsIn s (Func x) = x < length s.functions.items
ExistsIn s (Table x) = x < length s.tables.items
ExistsIn s (Memory x) = x < length s.memories.items
ExistsIn s (Global x) = x < length s.globals.items

-- The type of this index exists, and is that of functions that take and give nothing.
abbrev pub IsEmptyTypeAt : List FuncType → ℕ → Type 0
IsEmptyTypeAt types x = slice_get types x ≡ Some (record { params = []; results = [] })

-- The function exists, and takes and gives nothing.
unfoldable pub IsStartIn : List FuncType → IndexSpaces → Option ℕ → Type 0
IsStartIn types s None = Unit {0}
IsStartIn types s (Some x) =
    (type : ℕ) × (slice_get s.functions.items x ≡ Some type) × IsEmptyTypeAt types type

unfoldable pub AreItemsIn : IndexSpaces → ConstantContext → RefType → ElementItems → Type 0
AreItemsIn s context t (Functions indices) =
    (t ≡ FuncRef) × All (λ (x : ℕ). x < length s.functions.items) indices
AreItemsIn s context t (Expressions expressions) =
    All (λ (ops : List Op). IsConstantIn context ops (reference_type t)) expressions

unfoldable pub IsElementModeIn : IndexSpaces → ConstantContext → RefType → ElementMode → Type 0
IsElementModeIn s context t Passive = Unit {0}
IsElementModeIn s context t Declarative = Unit {0}
IsElementModeIn s context t (Active x offset) =
    (ty : TableType) × (slice_get s.tables.items x ≡ Some ty) × (ty.element ≡ t) ×
    IsConstantIn context offset I32

abbrev pub IsElementIn : IndexSpaces → ConstantContext → ElementSegment → Type 0
IsElementIn s context e = AreItemsIn s context e.ty e.items × IsElementModeIn s context e.ty e.mode

unfoldable pub IsDataModeIn : IndexSpaces → ConstantContext → DataMode → Type 0
IsDataModeIn s context data_mode.Passive = Unit {0}
IsDataModeIn s context (data_mode.Active x offset) =
    (x < length s.memories.items) × IsConstantIn context offset I32
