-- Exports are read as they are encoded.
use Rattle.std.proofs.Common.{List, refl, ℕ}
use Rattle.core_types.specs.declared.module.ExportDesc.{ExportDesc}
use Rattle.core_types.specs.declared.module.ExportDesc.TheVariants as export
use Rattle.meaning.specs.binary.Modules.{SpellsExport, SpellsExportDesc}
use Rattle.meaning.specs.binary.Values.{SpellsByte}
use Rattle.binary.specs.Sections.{export_at, export_desc_at, export_desc_case, export_of}
use Rattle.binary.proofs.exactness.Choices.{IsFront, at_byte, byte_reader, case_sound, choice_reader, mapped_reader, no_case_sound, pair_reader, tag_sound}
use Rattle.binary.proofs.exactness.Readers.{IsReader}
use Rattle.binary.proofs.exactness.Values.{index_reader, name_reader}

export_desc_complete : (text rest : List ℕ) (desc : ExportDesc) → SpellsExportDesc text desc
    → IsFront SpellsByte export_desc_case text rest desc
export_desc_complete text rest (export.Func x) (inside, parts, spelt) =
    at_byte 0x00 inside parts (rw (index_reader.complete inside rest x spelt) refl)
export_desc_complete text rest (export.Table x) (inside, parts, spelt) =
    at_byte 0x01 inside parts (rw (index_reader.complete inside rest x spelt) refl)
export_desc_complete text rest (export.Memory x) (inside, parts, spelt) =
    at_byte 0x02 inside parts (rw (index_reader.complete inside rest x spelt) refl)
export_desc_complete text rest (export.Global x) (inside, parts, spelt) =
    at_byte 0x03 inside parts (rw (index_reader.complete inside rest x spelt) refl)

export_desc_reader : IsReader SpellsExportDesc export_desc_at
unfolding export_desc_at
export_desc_reader =
    choice_reader byte_reader
    (case_sound (tag_sound 0x00 export.Func index_reader (λ text a s. s))
    (case_sound (tag_sound 0x01 export.Table index_reader (λ text a s. s))
    (case_sound (tag_sound 0x02 export.Memory index_reader (λ text a s. s))
    (case_sound (tag_sound 0x03 export.Global index_reader (λ text a s. s)) no_case_sound))))
    export_desc_complete

pub export_reader : IsReader SpellsExport export_at
unfolding export_at
export_reader =
    mapped_reader export_of (pair_reader name_reader export_desc_reader) (λ text parts spelt. spelt)
    (λ text e spelt. ((e.name, e.desc), spelt, refl))
