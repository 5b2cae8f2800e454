-- Imports are read as they are encoded.
use Rattle.std.proofs.Common.{List, refl, ℕ}
use Rattle.core_types.specs.declared.module.ImportDesc.{ImportDesc}
use Rattle.core_types.specs.declared.module.ImportDesc.TheVariants as import
use Rattle.meaning.specs.binary.Modules.{SpellsImport, SpellsImportDesc}
use Rattle.meaning.specs.binary.Values.{SpellsByte}
use Rattle.binary.specs.Sections.{import_at, import_desc_at, import_desc_case, import_of}
use Rattle.binary.proofs.exactness.Choices.{IsFront, at_byte, byte_reader, case_sound, choice_reader, mapped_reader, no_case_sound, pair_reader, tag_sound}
use Rattle.binary.proofs.exactness.Readers.{IsReader}
use Rattle.binary.proofs.exactness.Types.{global_type_reader, limits_reader, table_type_reader}
use Rattle.binary.proofs.exactness.Values.{index_reader, name_reader}

import_desc_complete : (text rest : List ℕ) (desc : ImportDesc) → SpellsImportDesc text desc
    → IsFront SpellsByte import_desc_case text rest desc
import_desc_complete text rest (import.Func x) (inside, parts, spelt) =
    at_byte 0x00 inside parts (rw (index_reader.complete inside rest x spelt) refl)
import_desc_complete text rest (import.Table t) (inside, parts, spelt) =
    at_byte 0x01 inside parts (rw (table_type_reader.complete inside rest t spelt) refl)
import_desc_complete text rest (import.Memory limits) (inside, parts, spelt) =
    at_byte 0x02 inside parts (rw (limits_reader.complete inside rest limits spelt) refl)
import_desc_complete text rest (import.Global t) (inside, parts, spelt) =
    at_byte 0x03 inside parts (rw (global_type_reader.complete inside rest t spelt) refl)

import_desc_reader : IsReader SpellsImportDesc import_desc_at
unfolding import_desc_at
import_desc_reader =
    choice_reader byte_reader
    (case_sound (tag_sound 0x00 import.Func index_reader (λ text a s. s))
    (case_sound (tag_sound 0x01 import.Table table_type_reader (λ text a s. s))
    (case_sound (tag_sound 0x02 import.Memory limits_reader (λ text a s. s))
    (case_sound (tag_sound 0x03 import.Global global_type_reader (λ text a s. s)) no_case_sound))))
    import_desc_complete

pub import_reader : IsReader SpellsImport import_at
unfolding import_at
import_reader =
    mapped_reader import_of (pair_reader (pair_reader name_reader name_reader) import_desc_reader)
    (λ text parts spelt. spelt) (λ text i spelt. (((i.module_name, i.name), i.desc), spelt, refl))
