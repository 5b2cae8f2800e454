-- Reading modules.
use Rattle.std.specs.Prelude.{List, Option, Some, [], ℕ, ◌∷◌}
use Rattle.core_types.specs.declared.module.DataSegment.{DataSegment}
use Rattle.core_types.specs.declared.module.ElementSegment.{ElementSegment}
use Rattle.core_types.specs.declared.module.Export.{Export}
use Rattle.core_types.specs.declared.module.Func.{Func as Function}
use Rattle.core_types.specs.declared.module.Global.{Global}
use Rattle.core_types.specs.declared.module.Import.{Import}
use Rattle.core_types.specs.declared.module.Module.{Module}
use Rattle.core_types.specs.declared.op.Op.{Op}
use Rattle.core_types.specs.declared.types.FuncType.{FuncType}
use Rattle.core_types.specs.declared.types.Limits.{Limits}
use Rattle.core_types.specs.declared.types.TableType.{TableType}
use Rattle.core_types.specs.reading.Conventions.{Reading, mapped_at, ◌>>=◌}
use Rattle.binary.specs.Sections.{code_section_at, data_at, element_at, end_at, export_at, global_at, import_at, value_section_at, vector_section_at}
use Rattle.binary.specs.Types.{func_type_at, limits_at, table_type_at}
use Rattle.core_types.specs.reading.Values.{expected_at, unsigned_at}
use Rattle.binary.specs.declared.modules.Contents.{Contents}
use Rattle.binary.specs.declared.modules.Definitions.{Definitions}

-- The magic number and the version.
abbrev pub header : List ℕ
header = 0x00 ∷ 0x61 ∷ 0x73 ∷ 0x6D ∷ 0x01 ∷ 0x00 ∷ 0x00 ∷ 0x00 ∷ []

-- One part, and the part after it, which may depend on it.
abbrev pub then_at : {A B : Type 0} → Reading A → (A → Reading B) → Reading (A × B)
then_at read next bytes = read bytes >>= λ a. next a.0 a.1 >>= λ b. Some ((a.0, b.0), b.1)

-- The contents of the start, element, data count, code and data sections, as a record.
abbrev pub contents_of : Option ℕ ×
    (List ElementSegment × (Option ℕ × (List Function × (List DataSegment × Unit {0})))) → Contents
contents_of w =
    record {
      start = w.0;
      elements = w.1.0;
      count = w.1.1.0;
      funcs = w.1.1.1.0;
      datas = w.1.1.1.1.0;
    }

-- The sections from the start section on, for functions whose types have these indices.
unfoldable pub contents_at : Reading (List Op) → List ℕ → Reading Contents
contents_at body_at indices bytes =
    mapped_at contents_of
    (then_at (value_section_at 8 (unsigned_at 32)) (λ start.
    then_at (vector_section_at 9 element_at) (λ elements.
    then_at (value_section_at 12 (unsigned_at 32)) (λ count.
    then_at (code_section_at body_at indices) (λ funcs.
    then_at (vector_section_at 11 data_at) (λ datas. end_at)))))) bytes

-- The contents of the table, memory, global and export sections, and of those after them, as a record.
abbrev pub definitions_of : List TableType ×
    (List Limits × (List Global × (List Export × Contents))) → Definitions
definitions_of w =
    record {
      tables = w.0;
      memories = w.1.0;
      globals = w.1.1.0;
      exports = w.1.1.1.0;
      contents = w.1.1.1.1;
    }

-- The sections from the table section on, for functions whose types have these indices.
unfoldable pub definitions_at : Reading (List Op) → List ℕ → Reading Definitions
definitions_at body_at indices bytes =
    mapped_at definitions_of
    (then_at (vector_section_at 4 table_type_at) (λ tables.
    then_at (vector_section_at 5 limits_at) (λ memories.
    then_at (vector_section_at 6 global_at) (λ globals.
    then_at (vector_section_at 7 export_at) (λ exports. contents_at body_at indices))))) bytes

-- The contents of all sections, in their order: types, imports, type indices of functions, and the others.
abbrev pub Sections : Type 0
Sections = List FuncType × (List Import × (List ℕ × Definitions))

unfoldable pub sections_at : Reading (List Op) → Reading Sections
sections_at body_at bytes =
    (then_at (vector_section_at 1 func_type_at) (λ types.
    then_at (vector_section_at 2 import_at) (λ imports.
    then_at (vector_section_at 3 (unsigned_at 32)) (λ indices. definitions_at body_at indices)))) bytes

abbrev pub module_from : List FuncType → List Import → Definitions → Module
module_from types imports d = record {
  types = types;
  imports = imports;
  funcs = d.contents.funcs;
  tables = d.tables;
  memories = d.memories;
  globals = d.globals;
  exports = d.exports;
  start = d.contents.start;
  elements = d.contents.elements;
  datas = d.contents.datas;
}

abbrev pub module_of : Sections → Module
module_of w = module_from w.0 w.1.0 w.1.1.1

abbrev pub count_of : Sections → Option ℕ
count_of w = w.1.1.1.contents.count

-- A module, and its data count.
unfoldable pub module_at : Reading (List Op) → Reading (Module × Option ℕ)
module_at body_at bytes = do
  start ← expected_at header bytes
  sections ← sections_at body_at start.1
  Some ((module_of sections.0, count_of sections.0), sections.1)
