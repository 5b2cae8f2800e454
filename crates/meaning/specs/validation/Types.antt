-- Types (Validation, Types): block types, limits and memory types, and the types that the definitions share.
use Rattle.std.specs.Prelude.{◌≤◌, ℕ, List, [], ◌∷◌, Option, Some, None, slice_get, Bool, true, false, ◌&&◌}
use Rattle.core_types.specs.declared.op.BlockType.{BlockType}
use Rattle.core_types.specs.declared.op.BlockType.TheVariants as block
use Rattle.core_types.specs.declared.types.FuncType.{FuncType}
use Rattle.core_types.specs.declared.types.Limits.{Limits}
use Rattle.core_types.specs.declared.types.RefType.{RefType}
use Rattle.core_types.specs.declared.types.RefType.TheVariants as ref
use Rattle.core_types.specs.declared.types.ValType.{ValType}
use Rattle.core_types.specs.declared.types.ValType.TheVariants.{I32, I64, FuncRef, ExternRef}
use Rattle.meaning.specs.structure.Bodies.{Kind, BlockKind, LoopKind, IfKind}

-- A type of functions from the parameters to the results.
abbrev pub function_type : List ValType → List ValType → FuncType
function_type params results = record { params = params; results = results }

abbrev pub reference_type : RefType → ValType
reference_type ref.FuncRef = FuncRef
reference_type ref.ExternRef = ExternRef

-- Whether two types of functions are the same, which is decided by their structure (Function Types).
abbrev pub is_same_type : ValType → ValType → Bool
is_same_type I32 I32 = true
is_same_type I64 I64 = true
is_same_type FuncRef FuncRef = true
is_same_type ExternRef ExternRef = true
is_same_type t u = false

abbrev pub are_same_types : List ValType → List ValType → Bool
are_same_types [] [] = true
are_same_types (t ∷ ts) (u ∷ us) = is_same_type t u && are_same_types ts us
are_same_types ts us = false

abbrev pub is_same_function_type : FuncType → FuncType → Bool
is_same_function_type t u = are_same_types t.params u.params && are_same_types t.results u.results

-- The type of a block (Block Types): no parameters and at most one result, or a type of the module.
abbrev pub block_type : List FuncType → BlockType → Option FuncType
block_type types block.Empty = Some (function_type [] [])
block_type types (block.Value t) = Some (function_type [] (t ∷ []))
block_type types (block.Index x) = slice_get types x

-- The types that a branch to the label of an instruction with a body carries: the results, or the parameters for a loop.
abbrev pub label_types : Kind → FuncType → List ValType
label_types BlockKind type = type.results
label_types LoopKind type = type.params
label_types IfKind type = type.results

-- The maximum, if there is one, is at least the minimum (Limits).
abbrev pub AreOrdered : Limits → Type 0
AreOrdered limits = elim limits.max [ None ↦ Unit {0} | Some max ↦ limits.min ≤ max ]

-- The most pages that a memory may have (Memory Types).
abbrev pub most_pages : ℕ
most_pages = 65536

abbrev pub AreFewPages : Limits → Type 0
AreFewPages limits =
    (limits.min ≤ most_pages) × elim limits.max [ None ↦ Unit {0} | Some max ↦ max ≤ most_pages ]
