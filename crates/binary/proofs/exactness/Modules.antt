-- A module is read as it is encoded.
use Rattle.std.proofs.Common.{List, [], ap, refl, subst, sym, ℕ, ◌++◌, ◌∙◌, ◌∷◌, ◌≡◌}
use Rattle.std.specs.Prelude.{None, Option, Some}
use Rattle.core_types.specs.declared.module.DataSegment.{DataSegment}
use Rattle.core_types.specs.declared.module.ElementSegment.{ElementSegment}
use Rattle.core_types.specs.declared.module.Export.{Export}
use Rattle.core_types.specs.declared.module.Func.{Func}
use Rattle.core_types.specs.declared.module.Global.{Global}
use Rattle.core_types.specs.declared.module.Module.{Module}
use Rattle.core_types.specs.declared.types.Limits.{Limits}
use Rattle.core_types.specs.declared.types.TableType.{TableType}
use Rattle.meaning.specs.binary.Modules.{IsDataCount, SpellsModule, SpellsSections}
use Rattle.core_types.specs.reading.Conventions.{◌>>=◌}
use Rattle.binary.specs.Errors.{IsNoModule}
use Rattle.binary.specs.Expressions.{expression_at}
use Rattle.binary.specs.Limits.{HasSmallParts}
use Rattle.binary.specs.Modules.{Sections, contents_at, contents_of, count_of, definitions_at, definitions_of, header, module_at, module_of, sections_at}
use Rattle.core_types.specs.reading.Values.{expected_at}
use Rattle.binary.specs.declared.modules.Contents.{Contents}
use Rattle.binary.specs.declared.modules.Definitions.{Definitions}
use Rattle.binary.proofs.exactness.Integers.{unsigned_reader}
use Rattle.binary.proofs.exactness.Readers.{bind_some, found, found-injective}
use Rattle.binary.proofs.exactness.Types.{func_type_reader, limits_reader, table_type_reader}
use Rattle.binary.proofs.exactness.Values.{expected_reader, index_reader}
use Rattle.binary.proofs.exactness.sections.Code.{type_indices}
use Rattle.binary.proofs.exactness.sections.DataSegments.{data_reader}
use Rattle.binary.proofs.exactness.sections.Elements.{element_reader}
use Rattle.binary.proofs.exactness.sections.Exports.{export_reader}
use Rattle.binary.proofs.exactness.sections.Globals.{global_reader}
use Rattle.binary.proofs.exactness.sections.Imports.{import_reader}
use Rattle.binary.proofs.exactness.sections.Order.{SectionsReader, code_section, end_of_module, mapped_sections, section_before, value_section, vector_section}

-- ---- the sections, from the last to the first

abbrev contents_parts : Contents → Option ℕ × (List ElementSegment × (Option ℕ × (List Func × (List DataSegment × Unit {0}))))
contents_parts c = (c.start, (c.elements, (c.count, (c.funcs, (c.datas, tt)))))

abbrev contents : (indices : List ℕ) → SectionsReader (8 ∷ 9 ∷ 12 ∷ 10 ∷ 11 ∷ []) Contents
contents indices =
    mapped_sections contents_of contents_parts (λ w. refl) (λ c. refl)
    (section_before (value_section 8 index_reader) refl refl (λ start.
    section_before (vector_section 9 element_reader) refl refl (λ elements.
    section_before (value_section 12 (unsigned_reader 32)) refl refl (λ count.
    section_before (code_section indices) refl refl (λ funcs.
    section_before (vector_section 11 data_reader) refl refl (λ datas. end_of_module))))))

abbrev definitions_parts : Definitions → List TableType × (List Limits × (List Global × (List Export × Contents)))
definitions_parts d = (d.tables, (d.memories, (d.globals, (d.exports, d.contents))))

abbrev definitions : (indices : List ℕ) → SectionsReader (4 ∷ 5 ∷ 6 ∷ 7 ∷ 8 ∷ 9 ∷ 12 ∷ 10 ∷ 11 ∷ []) Definitions
definitions indices =
    mapped_sections definitions_of definitions_parts (λ w. refl) (λ d. refl)
    (section_before (vector_section 4 table_type_reader) refl refl (λ tables.
    section_before (vector_section 5 limits_reader) refl refl (λ memories.
    section_before (vector_section 6 global_reader) refl refl (λ globals.
    section_before (vector_section 7 export_reader) refl refl (λ exports. contents indices)))))

abbrev sections : SectionsReader (1 ∷ 2 ∷ 3 ∷ 4 ∷ 5 ∷ 6 ∷ 7 ∷ 8 ∷ 9 ∷ 12 ∷ 10 ∷ 11 ∷ []) Sections
sections =
    section_before (vector_section 1 func_type_reader) refl refl (λ types.
    section_before (vector_section 2 import_reader) refl refl (λ imports.
    section_before (vector_section 3 index_reader) refl refl (λ indices. definitions indices)))

spelt_sections : (w : Sections) (bytes : List ℕ) → sections.Spells w bytes → sections.Agrees w
    → SpellsSections bytes (module_of w) (count_of w)
spelt_sections (types, (imports, (indices, d))) bytes spelt agrees =
    let same : type_indices d.contents.funcs ≡ indices = agrees.1.1.1.1.1.1.1.1.1.1.0 in
    subst (λ (is : List ℕ). sections.Spells (types, (imports, (is, d))) bytes) (sym same) spelt

abbrev sections_of : Module → Option ℕ → Sections
sections_of m count =
    let held : Contents =
    record { start = m.start; elements = m.elements; count = count; funcs = m.funcs; datas = m.datas } in
    let defined : Definitions =
    record { tables = m.tables; memories = m.memories; globals = m.globals; exports = m.exports; contents = held } in
    (m.types, (m.imports, (type_indices m.funcs, defined)))

-- ---- the module

-- The header, and the sections.
abbrev SpellsParts : List ℕ → Module → Option ℕ → Type 0
SpellsParts bytes m count = (behind : List ℕ) × (bytes ≡ header ++ behind) × SpellsSections behind m count

pub module_sound : (bytes rest : List ℕ) (m : Module) (count : Option ℕ)
    → module_at expression_at bytes ≡ Some ((m, count), rest) → SpellsParts bytes m count
unfolding module_at sections_at definitions_at contents_at
module_sound bytes rest m count e =
    let start =
    bind_some (expected_at header bytes)
    (λ start. sections_at expression_at start.1 >>= λ w. found (module_of w.0, count_of w.0) w.1) ((m, count), rest) e in
    let read =
    bind_some (sections_at expression_at start.0.1) (λ w. found (module_of w.0, count_of w.0) w.1) ((m, count), rest) start.2 in
    let same = found-injective (module_of read.0.0, count_of read.0.0) (m, count) read.0.1 rest read.2 in
    let front = (expected_reader header).sound bytes start.0.1 start.0.0 start.1 in
    let (spelt, agrees) = sections.sound start.0.1 read.0.1 read.0.0 read.1 in
    let behind = spelt_sections read.0.0 start.0.1 spelt agrees in
    (start.0.1, front.parts ∙ ap (λ (z : List ℕ). z ++ start.0.1) front.spelt, subst (λ (p : Module × Option ℕ). SpellsSections start.0.1 p.0 p.1) same.0 behind)

pub module_complete : (bytes : List ℕ) (m : Module) (count : Option ℕ) → SpellsParts bytes m count
    → module_at expression_at bytes ≡ Some ((m, count), [])
unfolding module_at sections_at definitions_at contents_at
module_complete bytes m count (behind, parts, spelt) =
    let agrees : sections.Agrees (sections_of m count) =
    (tt, (tt, (tt, (tt, (tt, (tt, (tt, (tt, (tt, (tt, (refl, (tt, tt)))))))))))) in
    let reads = sections.complete behind behind (sections_of m count) spelt agrees refl in
    rw (parts, (expected_reader header).complete header behind tt refl, reads) refl

-- Bytes encode at most one module, with one data count.
pub one_module : (bytes rest : List ℕ) (m other : Module) (count n : Option ℕ)
    → module_at expression_at bytes ≡ Some ((m, count), rest) → SpellsParts bytes other n → (m ≡ other) × (count ≡ n)
one_module bytes rest m other count n read spelt =
    let same = found-injective (m, count) (other, n) rest [] (sym read ∙ module_complete bytes other n spelt) in
    let pair : ◌≡◌ {A = Module × Option ℕ} (m, count) (other, n) = same.0 in
    (ap (λ (p : Module × Option ℕ). p.0) pair, ap (λ (p : Module × Option ℕ). p.1) pair)

pub spelt_once : (bytes : List ℕ) (a b : Module) → SpellsModule bytes a → SpellsModule bytes b → a ≡ b
spelt_once bytes a b (behind, parts, (count, spelt, counts)) (other, other_parts, (n, other_spelt, other_counts)) =
    (one_module bytes [] a b count n (module_complete bytes a count (behind, parts, spelt)) (other, other_parts, other_spelt)).0

-- ---- what a refusal states

pub no_module : (bytes : List ℕ) → module_at expression_at bytes ≡ None → IsNoModule bytes
no_module bytes none m (behind, parts, (count, spelt, counts)) within = let read = module_complete bytes m count (behind, parts, spelt) in absurd cc

module _ (bytes rest : List ℕ) (m : Module) (count : Option ℕ) (read : module_at expression_at bytes ≡ Some ((m, count), rest)) where
  pub wrong_count : (IsDataCount m count → ⊥) → IsNoModule bytes
  wrong_count wrong other (behind, parts, (n, spelt, counts)) within =
      let same = one_module bytes rest m other count n read (behind, parts, spelt) in
      wrong (rw (same.0, same.1) counts)

  pub large_module : (HasSmallParts m → ⊥) → IsNoModule bytes
  large_module large other (behind, parts, (n, spelt, counts)) within =
      let same = one_module bytes rest m other count n read (behind, parts, spelt) in
      large (rw same.0 (within.types, within.locals))
