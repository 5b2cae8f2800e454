-- Reading types.
use Rattle.std.specs.Prelude.{List, None, Some, ℕ}
use Rattle.core_types.specs.declared.types.FuncType.{FuncType}
use Rattle.core_types.specs.declared.types.GlobalType.{GlobalType}
use Rattle.core_types.specs.declared.types.Limits.{Limits}
use Rattle.core_types.specs.declared.types.Mutability.{Mutability}
use Rattle.core_types.specs.declared.types.Mutability.TheVariants.{Const, Var}
use Rattle.core_types.specs.declared.types.RefType.{RefType}
use Rattle.core_types.specs.declared.types.TableType.{TableType}
use Rattle.core_types.specs.declared.types.ValType.{ValType}
use Rattle.core_types.specs.reading.Conventions.{Reading, bare_at, case_at, chosen_at, mapped_at, no_case, pair_at}
use Rattle.core_types.specs.reading.Values.{byte_at, unsigned_at, vector_at}
use Rattle.core_types.specs.reading.Types.{ref_type_at, val_type_at}

abbrev pub func_type : List ValType × List ValType → FuncType
func_type lists = record { params = lists.0; results = lists.1 }

unfoldable pub func_type_at : Reading FuncType
func_type_at bytes =
    chosen_at byte_at
    (case_at 0x60 (mapped_at func_type (pair_at (vector_at val_type_at) (vector_at val_type_at)))
    no_case) bytes

abbrev pub from_least : ℕ → Limits
from_least min = record { min = min; max = None }

abbrev pub between : ℕ × ℕ → Limits
between bounds = record { min = bounds.0; max = Some bounds.1 }

abbrev pub limits_case : ℕ → Reading Limits
limits_case =
    case_at 0x00 (mapped_at from_least (unsigned_at 32))
    (case_at 0x01 (mapped_at between (pair_at (unsigned_at 32) (unsigned_at 32))) no_case)

unfoldable pub limits_at : Reading Limits
limits_at bytes = chosen_at byte_at limits_case bytes

abbrev pub table_type : RefType × Limits → TableType
table_type parts = record { element = parts.0; limits = parts.1 }

unfoldable pub table_type_at : Reading TableType
table_type_at bytes = mapped_at table_type (pair_at ref_type_at limits_at) bytes

abbrev pub mutability_case : ℕ → Reading Mutability
mutability_case = case_at 0x00 (bare_at Const) (case_at 0x01 (bare_at Var) no_case)

unfoldable pub mutability_at : Reading Mutability
mutability_at bytes = chosen_at byte_at mutability_case bytes

abbrev pub global_type : ValType × Mutability → GlobalType
global_type parts = record { value = parts.0; mutability = parts.1 }

unfoldable pub global_type_at : Reading GlobalType
global_type_at bytes = mapped_at global_type (pair_at val_type_at mutability_at) bytes
