-- The encoding of a module, section by section (Binary Format, Modules).
use Rattle.std.specs.Prelude.{◌≡◌, ℕ, ◌<◌, ◌^◌, ◌⊎◌, List, [], ◌∷◌, ◌++◌, length, map, replicate, All, Bool, true, false, Option, Some, None}
use Rattle.core_types.specs.declared.types.RefType.{RefType}
use Rattle.core_types.specs.declared.types.RefType.TheVariants.{FuncRef}
use Rattle.core_types.specs.declared.types.ValType.{ValType}
use Rattle.core_types.specs.declared.module.DataMode.{DataMode}
use Rattle.core_types.specs.declared.module.DataMode.TheVariants as data_mode
use Rattle.core_types.specs.declared.module.DataSegment.{DataSegment}
use Rattle.core_types.specs.declared.module.ElementItems.{ElementItems}
use Rattle.core_types.specs.declared.module.ElementItems.TheVariants.{Functions, Expressions}
use Rattle.core_types.specs.declared.module.ElementMode.{ElementMode}
use Rattle.core_types.specs.declared.module.ElementMode.TheVariants.{Passive, Active, Declarative}
use Rattle.core_types.specs.declared.module.ElementSegment.{ElementSegment}
use Rattle.core_types.specs.declared.module.ExportDesc.{ExportDesc}
use Rattle.core_types.specs.declared.module.ExportDesc.TheVariants as export
use Rattle.core_types.specs.declared.module.Export.{Export}
use Rattle.core_types.specs.declared.module.Func.{Func as Function}
use Rattle.core_types.specs.declared.module.Global.{Global}
use Rattle.core_types.specs.declared.module.Import.{Import}
use Rattle.core_types.specs.declared.module.ImportDesc.{ImportDesc}
use Rattle.core_types.specs.declared.module.ImportDesc.TheVariants as import
use Rattle.core_types.specs.declared.module.Module.{Module}
use Rattle.core_types.specs.declared.op.MemoryOp.TheVariants.{Init, DataDrop}
use Rattle.core_types.specs.declared.op.Op.{Op}
use Rattle.core_types.specs.declared.op.Op.TheVariants.{Plain}
use Rattle.core_types.specs.declared.op.PlainOp.TheVariants.{Memory}
use Rattle.meaning.specs.binary.Values.{SpellsUnsigned, SpellsByte, SpellsIndex, SpellsName, SpellsSized, SpellsVector}
use Rattle.meaning.specs.binary.Conventions.{SpellsBoth, SpellsEach, SpellsPair, SpellsTagged}
use Rattle.meaning.specs.binary.Types.{SpellsFuncType, SpellsGlobalType, SpellsLimits, SpellsRefType, SpellsTableType, SpellsValType}
use Rattle.meaning.specs.binary.Instructions.{SpellsFlat}

-- Import Section: what is imported, a function by the index of its type.
abbrev pub SpellsImportDesc : List ℕ → ImportDesc → Type 0
SpellsImportDesc bytes (import.Func x) = SpellsTagged 0x00 SpellsIndex bytes x
SpellsImportDesc bytes (import.Table t) = SpellsTagged 0x01 SpellsTableType bytes t
SpellsImportDesc bytes (import.Memory limits) = SpellsTagged 0x02 SpellsLimits bytes limits
SpellsImportDesc bytes (import.Global t) = SpellsTagged 0x03 SpellsGlobalType bytes t

-- The name of a module, a name in it, and what is imported.
abbrev pub SpellsImport : List ℕ → Import → Type 0
SpellsImport bytes i =
    SpellsBoth (SpellsPair SpellsName SpellsName) SpellsImportDesc bytes (i.module_name, i.name)
    i.desc

-- Global Section: a type, and an expression for the first value.
abbrev pub SpellsGlobal : List ℕ → Global → Type 0
SpellsGlobal bytes g = SpellsBoth SpellsGlobalType SpellsFlat bytes g.ty g.init

-- Export Section: what is exported.
abbrev pub SpellsExportDesc : List ℕ → ExportDesc → Type 0
SpellsExportDesc bytes (export.Func x) = SpellsTagged 0x00 SpellsIndex bytes x
SpellsExportDesc bytes (export.Table x) = SpellsTagged 0x01 SpellsIndex bytes x
SpellsExportDesc bytes (export.Memory x) = SpellsTagged 0x02 SpellsIndex bytes x
SpellsExportDesc bytes (export.Global x) = SpellsTagged 0x03 SpellsIndex bytes x

-- A name, and what is exported under it.
abbrev pub SpellsExport : List ℕ → Export → Type 0
SpellsExport bytes e = SpellsBoth SpellsName SpellsExportDesc bytes e.name e.desc

-- A segment begins with the number of its form, and continues by the form.
abbrev pub SpellsForm : {V : Type 0} → ℕ → (List ℕ → V → Type 0) → List ℕ → V → Type 0
SpellsForm {V} form Spells bytes v = SpellsBoth (SpellsUnsigned 32) Spells bytes form v

-- The byte 00, which is the kind funcref, and function indices.
abbrev pub SpellsFunctions : List ℕ → List ℕ → Type 0
SpellsFunctions bytes indices = SpellsTagged 0x00 (SpellsVector SpellsIndex) bytes indices

-- A reference type, and expressions.
abbrev pub SpellsReferences : List ℕ → RefType × List (List Op) → Type 0
SpellsReferences bytes references =
    SpellsPair SpellsRefType (SpellsVector SpellsFlat) bytes references

abbrev pub element : RefType → ElementItems → ElementMode → ElementSegment
element ty items mode = record { ty = ty; items = items; mode = mode }

-- Element Section: the eight forms. A table that is not named is table 0, and a type that is not named is funcref.
pub data SpellsElement : List ℕ → ElementSegment → Type 0 where
  form_0 : {bytes indices : List ℕ} {offset : List Op}
      → SpellsForm 0 (SpellsPair SpellsFlat (SpellsVector SpellsIndex)) bytes (offset, indices)
      → SpellsElement bytes (element FuncRef (Functions indices) (Active 0 offset))
  form_1 : {bytes indices : List ℕ} → SpellsForm 1 SpellsFunctions bytes indices
      → SpellsElement bytes (element FuncRef (Functions indices) Passive)
  form_2 : {bytes indices : List ℕ} {x : ℕ} {offset : List Op}
      → SpellsForm 2 (SpellsPair (SpellsPair SpellsIndex SpellsFlat) SpellsFunctions) bytes
      ((x, offset), indices)
      → SpellsElement bytes (element FuncRef (Functions indices) (Active x offset))
  form_3 : {bytes indices : List ℕ} → SpellsForm 3 SpellsFunctions bytes indices
      → SpellsElement bytes (element FuncRef (Functions indices) Declarative)
  form_4 : {bytes : List ℕ} {offset : List Op} {expressions : List (List Op)}
      → SpellsForm 4 (SpellsPair SpellsFlat (SpellsVector SpellsFlat)) bytes (offset, expressions)
      → SpellsElement bytes (element FuncRef (Expressions expressions) (Active 0 offset))
  form_5 : {bytes : List ℕ} {ty : RefType} {expressions : List (List Op)}
      → SpellsForm 5 SpellsReferences bytes (ty, expressions)
      → SpellsElement bytes (element ty (Expressions expressions) Passive)
  form_6 : {bytes : List ℕ} {x : ℕ} {offset : List Op} {ty : RefType} {expressions : List (List Op)}
      → SpellsForm 6 (SpellsPair (SpellsPair SpellsIndex SpellsFlat) SpellsReferences) bytes
      ((x, offset), (ty, expressions))
      → SpellsElement bytes (element ty (Expressions expressions) (Active x offset))
  form_7 : {bytes : List ℕ} {ty : RefType} {expressions : List (List Op)}
      → SpellsForm 7 SpellsReferences bytes (ty, expressions)
      → SpellsElement bytes (element ty (Expressions expressions) Declarative)

-- Code Section: a count of locals and their type.
abbrev pub SpellsLocalGroup : List ℕ → ℕ × ValType → Type 0
SpellsLocalGroup bytes group = SpellsBoth (SpellsUnsigned 32) SpellsValType bytes group.0 group.1

-- The types of the locals, one by one.
abbrev pub types_of : List (ℕ × ValType) → List ValType
types_of [] = []
types_of (group ∷ groups) = replicate group.0 group.1 ++ types_of groups

-- Groups of locals, of which there are fewer than 2 ^ 32 in all.
abbrev pub SpellsLocals : List ℕ → List ValType → Type 0
SpellsLocals bytes locals =
    (groups : List (ℕ × ValType)) × SpellsVector SpellsLocalGroup bytes groups ×
    (locals ≡ types_of groups)
    × (length locals < 2 ^ 32)

-- The locals and the body of a function.
abbrev pub SpellsFunctionContent : List ℕ → Function → Type 0
SpellsFunctionContent bytes f = SpellsBoth SpellsLocals SpellsFlat bytes f.locals f.body

-- The same, after its size.
abbrev pub SpellsCode : List ℕ → Function → Type 0
SpellsCode bytes f = SpellsSized SpellsFunctionContent bytes f

abbrev pub data_segment : List ℕ → DataMode → DataSegment
data_segment bytes mode = record { bytes = bytes; mode = mode }

abbrev pub SpellsBytes : List ℕ → List ℕ → Type 0
SpellsBytes bytes content = SpellsVector SpellsByte bytes content

-- Data Section: the three forms. A memory that is not named is memory 0.
pub data SpellsData : List ℕ → DataSegment → Type 0 where
  data_0 : {bytes content : List ℕ} {offset : List Op}
      → SpellsForm 0 (SpellsPair SpellsFlat SpellsBytes) bytes (offset, content)
      → SpellsData bytes (data_segment content (data_mode.Active 0 offset))
  data_1 : {bytes content : List ℕ} → SpellsForm 1 SpellsBytes bytes content
      → SpellsData bytes (data_segment content data_mode.Passive)
  data_2 : {bytes content : List ℕ} {x : ℕ} {offset : List Op}
      → SpellsForm 2 (SpellsPair (SpellsPair SpellsIndex SpellsFlat) SpellsBytes) bytes
      ((x, offset), content)
      → SpellsData bytes (data_segment content (data_mode.Active x offset))

-- A section: its id, its size, and its content (Sections).
abbrev pub SpellsSection : {V : Type 0} → ℕ → (List ℕ → V → Type 0) → List ℕ → V → Type 0
SpellsSection {V} id Spells bytes v = SpellsTagged id (SpellsSized Spells) bytes v

-- The content of a custom section: its name, and any bytes (Custom Section).
abbrev pub SpellsCustom : List ℕ → List ℕ → Type 0
SpellsCustom bytes name = (text unread : List ℕ) × (bytes ≡ text ++ unread) × SpellsName text name

-- Any number of custom sections.
abbrev pub IsCustomSections : List ℕ → Type 0
IsCustomSections bytes =
    (names : List (List ℕ)) × SpellsEach (SpellsSection 0 SpellsCustom) bytes names

-- A section with a vector. An absent section represents the empty vector.
abbrev pub HasVector : {V : Type 0} → ℕ → (List ℕ → V → Type 0) → List V → List ℕ → Type 0
HasVector {V} id Spells vs bytes =
    SpellsSection id (SpellsVector Spells) bytes vs ⊎ ((bytes ≡ []) × (vs ≡ []))

-- A section with one value, or none.
abbrev pub HasValue : {V : Type 0} → ℕ → (List ℕ → V → Type 0) → Option V → List ℕ → Type 0
HasValue {V} id Spells None bytes = bytes ≡ []
HasValue {V} id Spells (Some v) bytes = SpellsSection id Spells bytes v

-- Custom sections, then this section or none, and then what follows.
infixr 5 ◌▷◌
abbrev pub ◌▷◌ : (List ℕ → Type 0) → (List ℕ → Type 0) → List ℕ → Type 0
(Section ▷ Following) bytes =
    (customs section rest : List ℕ) × (bytes ≡ customs ++ (section ++ rest)) ×
    IsCustomSections customs
    × Section section × Following rest

-- The sections in their order. The function section has a type index for each function whose code the code section has.
abbrev pub SpellsSections : List ℕ → Module → Option ℕ → Type 0
SpellsSections bytes m count =
    (HasVector 1 SpellsFuncType m.types
    ▷ HasVector 2 SpellsImport m.imports
    ▷ HasVector 3 SpellsIndex (map (λ (f : Function). f.ty) m.funcs)
    ▷ HasVector 4 SpellsTableType m.tables
    ▷ HasVector 5 SpellsLimits m.memories
    ▷ HasVector 6 SpellsGlobal m.globals
    ▷ HasVector 7 SpellsExport m.exports
    ▷ HasValue 8 SpellsIndex m.start
    ▷ HasVector 9 SpellsElement m.elements
    ▷ HasValue 12 (SpellsUnsigned 32) count
    ▷ HasVector 10 SpellsCode m.funcs
    ▷ HasVector 11 SpellsData m.datas
    ▷ IsCustomSections) bytes

-- The operation names a data segment.
abbrev pub names_data : Op → Bool
names_data (Plain (Memory (Init segment))) = true
names_data (Plain (Memory (DataDrop segment))) = true
names_data op = false

-- The data count is the number of data segments. If it is absent, no code names a data segment (Data Count Section).
abbrev pub IsDataCount : Module → Option ℕ → Type 0
IsDataCount m None = All (λ (f : Function). All (λ (op : Op). names_data op ≡ false) f.body) m.funcs
IsDataCount m (Some n) = n ≡ length m.datas

-- The magic number, the version, and the sections (Modules).
abbrev pub SpellsModule : List ℕ → Module → Type 0
SpellsModule bytes m =
    (sections : List ℕ) × (bytes ≡ 0x00 ∷ 0x61 ∷ 0x73 ∷ 0x6D ∷ 0x01 ∷ 0x00 ∷ 0x00 ∷ 0x00 ∷ sections)
    × ((count : Option ℕ) × SpellsSections sections m count × IsDataCount m count)
