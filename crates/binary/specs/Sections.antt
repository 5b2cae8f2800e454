-- Reading sections and their contents.
use Rattle.std.specs.Prelude.{Bool, List, None, Option, Some, [], drop, get_or, if◌then◌else◌, length, nat_lt, replicate, suc, take, zero, ℕ, ◌++◌, ◌+◌, ◌-◌, ◌==◌, ◌^◌, ◌∷◌}
use Rattle.core_types.specs.declared.module.DataMode.TheVariants as data_mode
use Rattle.core_types.specs.declared.module.DataSegment.{DataSegment}
use Rattle.core_types.specs.declared.module.ElementItems.TheVariants.{Expressions, Functions}
use Rattle.core_types.specs.declared.module.ElementMode.TheVariants.{Active, Declarative, Passive}
use Rattle.core_types.specs.declared.module.ElementSegment.{ElementSegment}
use Rattle.core_types.specs.declared.module.Export.{Export}
use Rattle.core_types.specs.declared.module.ExportDesc.{ExportDesc}
use Rattle.core_types.specs.declared.module.ExportDesc.TheVariants as export
use Rattle.core_types.specs.declared.module.Func.{Func as Function}
use Rattle.core_types.specs.declared.module.Global.{Global}
use Rattle.core_types.specs.declared.module.Import.{Import}
use Rattle.core_types.specs.declared.module.ImportDesc.{ImportDesc}
use Rattle.core_types.specs.declared.module.ImportDesc.TheVariants as import
use Rattle.core_types.specs.declared.op.Op.{Op}
use Rattle.core_types.specs.declared.types.GlobalType.{GlobalType}
use Rattle.core_types.specs.declared.types.RefType.{RefType}
use Rattle.core_types.specs.declared.types.RefType.TheVariants.{FuncRef}
use Rattle.core_types.specs.declared.types.ValType.{ValType}
use Rattle.meaning.specs.binary.Modules.{data_segment, element}
use Rattle.core_types.specs.reading.Bodies.{operations_of}
use Rattle.core_types.specs.reading.Conventions.{Cases, Reading, case_at, chosen_at, mapped_at, no_case, pair_at, up_to, ◌>>=◌}
use Rattle.binary.specs.Expressions.{expression_at}
use Rattle.std.specs.List.{list_any}
use Rattle.meaning.specs.binary.Modules.{names_data}
use Rattle.core_types.specs.reading.Types.{ref_type_at, val_type_at}
use Rattle.binary.specs.Types.{global_type_at, limits_at, table_type_at}
use Rattle.core_types.specs.reading.Values.{begins_with, byte_at, index_at, unsigned_at, vector_at}
use Rattle.binary.specs.Values.{name_at, part_at, sized_at}

unfoldable pub local_group_at : Reading (ℕ × ValType)
local_group_at bytes = do
  count ← unsigned_at 32 bytes
  ty ← val_type_at count.1
  Some ((count.0, ty.0), ty.1)

-- A number of groups of locals, after the locals that were read before.
unfoldable pub groups_at : ℕ → List ValType → Reading (List ValType)
groups_at zero locals bytes = Some (locals, bytes)
groups_at (suc count) locals bytes = do
  group ← local_group_at bytes
  if nat_lt (length locals + group.0.0) (2 ^ 32)
      then groups_at count (locals ++ replicate group.0.0 group.0.1) group.1
      else None

unfoldable pub locals_at : Reading (List ValType)
locals_at bytes = do
  count ← unsigned_at 32 bytes
  groups_at count.0 [] count.1

-- All bytes but the last, which is an end, as a body.
unfoldable pub cut_body_at : Reading (List Op)
cut_body_at bytes =
    if get_or bytes (length bytes - 1) 0 == 0x0B
    then Some (operations_of (take (length bytes - 1) bytes), []) else None

-- The locals and the body of a function whose type has this index.
unfoldable pub function_content_at : Reading (List Op) → ℕ → Reading Function
function_content_at body_at ty bytes = do
  locals ← locals_at bytes
  body ← body_at locals.1
  Some (record { ty = ty; locals = locals.0; body = body.0 }, body.1)

unfoldable pub code_at : Reading (List Op) → ℕ → Reading Function
code_at body_at ty bytes = sized_at (function_content_at body_at ty) bytes

-- The functions whose types have these indices, after those that were read before.
unfoldable pub codes_at : Reading (List Op) → List ℕ → List Function → Reading (List Function)
codes_at body_at [] funcs bytes = Some (funcs, bytes)
codes_at body_at (ty ∷ types) funcs bytes = do
  f ← code_at body_at ty bytes
  codes_at body_at types (funcs ++ f.0 ∷ []) f.1

-- A count, which is that of the indices, and that many functions.
unfoldable pub functions_at : Reading (List Op) → List ℕ → Reading (List Function)
functions_at body_at types bytes = do
  count ← unsigned_at 32 bytes
  if count.0 == length types then codes_at body_at types [] count.1 else None

abbrev pub import_desc_case : Cases ImportDesc
import_desc_case =
    case_at 0x00 (mapped_at import.Func index_at)
    (case_at 0x01 (mapped_at import.Table table_type_at)
    (case_at 0x02 (mapped_at import.Memory limits_at)
    (case_at 0x03 (mapped_at import.Global global_type_at) no_case)))

unfoldable pub import_desc_at : Reading ImportDesc
import_desc_at bytes = chosen_at byte_at import_desc_case bytes

abbrev pub import_of : (List ℕ × List ℕ) × ImportDesc → Import
import_of parts = record { module_name = parts.0.0; name = parts.0.1; desc = parts.1 }

unfoldable pub import_at : Reading Import
import_at bytes = mapped_at import_of (pair_at (pair_at name_at name_at) import_desc_at) bytes

abbrev pub global_of : GlobalType × List Op → Global
global_of parts = record { ty = parts.0; init = parts.1 }

unfoldable pub global_at : Reading Global
global_at bytes = mapped_at global_of (pair_at global_type_at expression_at) bytes

abbrev pub export_desc_case : Cases ExportDesc
export_desc_case =
    case_at 0x00 (mapped_at export.Func index_at)
    (case_at 0x01 (mapped_at export.Table index_at)
    (case_at 0x02 (mapped_at export.Memory index_at)
    (case_at 0x03 (mapped_at export.Global index_at) no_case)))

unfoldable pub export_desc_at : Reading ExportDesc
export_desc_at bytes = chosen_at byte_at export_desc_case bytes

abbrev pub export_of : List ℕ × ExportDesc → Export
export_of parts = record { name = parts.0; desc = parts.1 }

unfoldable pub export_at : Reading Export
export_at bytes = mapped_at export_of (pair_at name_at export_desc_at) bytes

-- The kind funcref, and function indices.
unfoldable pub kind_functions_at : Reading (List ℕ)
kind_functions_at bytes =
    chosen_at byte_at
    (case_at 0x00 (mapped_at (λ (indices : List ℕ). indices) (vector_at index_at)) no_case) bytes

-- A reference type, and expressions.
unfoldable pub references_at : Reading (RefType × List (List Op))
references_at bytes = pair_at ref_type_at (vector_at expression_at) bytes

-- An index, and an expression.
unfoldable pub target_at : Reading (ℕ × List Op)
target_at bytes = pair_at index_at expression_at bytes

-- An element segment of function indices, after the number of its form.
unfoldable pub functions_form_at : Cases ElementSegment
functions_form_at form bytes =
    (case_at 0
    (mapped_at (λ x. element FuncRef (Functions x.1) (Active 0 x.0))
    (pair_at expression_at (vector_at index_at)))
    (case_at 1
    (mapped_at (λ x. element FuncRef (Functions x) Passive) kind_functions_at)
    (case_at 2
    (mapped_at (λ x. element FuncRef (Functions x.1) (Active x.0.0 x.0.1))
    (pair_at target_at kind_functions_at))
    (case_at 3
    (mapped_at (λ x. element FuncRef (Functions x) Declarative) kind_functions_at)
    no_case)))) form bytes

-- An element segment of expressions, after the number of its form.
unfoldable pub expressions_form_at : Cases ElementSegment
expressions_form_at form bytes =
    (case_at 4
    (mapped_at (λ x. element FuncRef (Expressions x.1) (Active 0 x.0))
    (pair_at expression_at (vector_at expression_at)))
    (case_at 5
    (mapped_at (λ x. element x.0 (Expressions x.1) Passive) references_at)
    (case_at 6
    (mapped_at (λ x. element x.1.0 (Expressions x.1.1) (Active x.0.0 x.0.1))
    (pair_at target_at references_at))
    (case_at 7
    (mapped_at (λ x. element x.0 (Expressions x.1) Declarative) references_at)
    no_case)))) form bytes

-- An element segment, after the number of its form.
unfoldable pub element_form_at : Cases ElementSegment
element_form_at form bytes = (up_to 3 functions_form_at expressions_form_at) form bytes

unfoldable pub element_at : Reading ElementSegment
element_at bytes = chosen_at (unsigned_at 32) element_form_at bytes

-- A data segment, after the number of its form.
unfoldable pub data_form_at : Cases DataSegment
data_form_at form bytes =
    (case_at 0
    (mapped_at (λ x. data_segment x.1 (data_mode.Active 0 x.0)) (pair_at expression_at part_at))
    (case_at 1
    (mapped_at (λ x. data_segment x data_mode.Passive) part_at)
    (case_at 2
    (mapped_at (λ x. data_segment x.1 (data_mode.Active x.0.0 x.0.1)) (pair_at target_at part_at))
    no_case))) form bytes

unfoldable pub data_at : Reading DataSegment
data_at bytes = chosen_at (unsigned_at 32) data_form_at bytes

-- ---- sections

-- The content of a custom section, after its size: a name, and anything.
unfoldable pub custom_at : Reading (Unit {0})
custom_at bytes = do
  part ← part_at bytes
  name ← name_at part.0
  Some (tt, part.1)

-- Custom sections, in a limited number of steps.
unfoldable pub customs_at : ℕ → Reading (Unit {0})
customs_at zero bytes = Some (tt, bytes)
customs_at (suc steps) bytes =
    if begins_with 0 bytes
    then (custom_at (drop 1 bytes) >>= λ custom. customs_at steps custom.1)
    else Some (tt, bytes)

-- What follows custom sections. Each of them takes at least one byte.
unfoldable pub after_customs : Reading (Unit {0})
after_customs bytes = customs_at (length bytes) bytes

-- A section with this id after custom sections, or the value of its absence.
unfoldable pub section_at : {V : Type 0} → ℕ → Reading V → Option V → Reading V
section_at id read absent bytes = do
  customs ← after_customs bytes
  if begins_with id customs.1 then sized_at read (drop 1 customs.1)
      else (absent >>= λ v. Some (v, customs.1))

-- A section with a vector. If it is absent, the vector is empty.
abbrev pub vector_section_at : {V : Type 0} → ℕ → Reading V → Reading (List V)
vector_section_at id read bytes = section_at id (vector_at read) (Some []) bytes

-- A section with one value. If it is absent, there is no value.
abbrev pub value_section_at : {V : Type 0} → ℕ → Reading V → Reading (Option V)
value_section_at id read bytes = section_at id (mapped_at Some read) (Some None) bytes

-- The code section, which may be absent if there are no indices.
abbrev pub code_section_at : Reading (List Op) → List ℕ → Reading (List Function)
code_section_at body_at types bytes =
    section_at 10 (functions_at body_at types) (if length types == 0 then Some [] else None) bytes

-- Custom sections, and then nothing.
unfoldable pub end_at : Reading (Unit {0})
end_at bytes = do
  customs ← after_customs bytes
  if length customs.1 == 0 then Some (tt, customs.1) else None

-- Whether the code of a function names a data segment.
abbrev pub name_data : List Function → Bool
name_data funcs = list_any (λ (f : Function). list_any names_data f.body) funcs
