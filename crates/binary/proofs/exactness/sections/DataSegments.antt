-- Data segments are read as they are encoded.
use Rattle.std.proofs.Common.{List, ap, refl, ℕ, ◌++◌, ◌∙◌}
use Rattle.core_types.specs.declared.module.DataMode.TheVariants as data_mode
use Rattle.core_types.specs.declared.module.DataSegment.{DataSegment}
use Rattle.meaning.specs.binary.Conventions.{SpellsPair}
use Rattle.meaning.specs.binary.Instructions.{SpellsFlat}
use Rattle.meaning.specs.binary.Modules.{SpellsBytes, SpellsData, data_0, data_1, data_2, data_segment}
use Rattle.meaning.specs.binary.Values.{SpellsIndex, SpellsUnsigned}
use Rattle.core_types.specs.reading.Conventions.{pair_at}
use Rattle.binary.specs.Expressions.{expression_at}
use Rattle.binary.specs.Sections.{data_at, data_form_at, target_at}
use Rattle.binary.specs.Values.{part_at}
use Rattle.binary.proofs.exactness.Choices.{IsFront, SoundCases, at_number, case_sound, choice_reader, no_case_sound, pair_reader}
use Rattle.binary.proofs.exactness.Expressions.{expression_reader}
use Rattle.binary.proofs.exactness.Integers.{unsigned_reader}
use Rattle.binary.proofs.exactness.Readers.{IsReader, reads_as}
use Rattle.binary.proofs.exactness.Values.{bytes_of_each, each_byte, part_reader}
use Rattle.binary.proofs.exactness.sections.Segments.{form_sound, target_reader}

content_reader : IsReader SpellsBytes part_at
content_reader = record {
  sound =
      λ bytes rest content e.
      reads_as (part_reader.sound bytes rest content e) (λ text (size, parts, counted).
      (size, content, parts, counted, each_byte content));
  complete = λ text rest content (size, inside, parts, counted, each).
      part_reader.complete text rest content
      (size, parts ∙ ap (λ (z : List ℕ). size ++ z) (bytes_of_each inside content each), counted);
}

offset_content_reader : IsReader (SpellsPair SpellsFlat SpellsBytes) (pair_at expression_at part_at)
offset_content_reader = pair_reader expression_reader content_reader

target_content_reader : IsReader (SpellsPair (SpellsPair SpellsIndex SpellsFlat) SpellsBytes) (pair_at target_at part_at)
target_content_reader = pair_reader target_reader content_reader

data_sound : SoundCases (SpellsUnsigned 32) SpellsData data_form_at
unfolding data_form_at
data_sound =
    case_sound (form_sound 0 (λ x. data_segment x.1 (data_mode.Active 0 x.0)) offset_content_reader (λ text x s. data_0 s))
    (case_sound (form_sound 1 (λ x. data_segment x data_mode.Passive) content_reader (λ text x s. data_1 s))
    (case_sound (form_sound 2 (λ x. data_segment x.1 (data_mode.Active x.0.0 x.0.1)) target_content_reader (λ text x s. data_2 s)) no_case_sound))

data_complete : (text rest : List ℕ) (d : DataSegment) → SpellsData text d
    → IsFront (SpellsUnsigned 32) data_form_at text rest d
unfolding data_form_at
data_complete text rest d (data_0 (number, inside, parts, f, s)) =
    at_number 0 number inside f parts (rw (offset_content_reader.complete inside rest _ s) refl)
data_complete text rest d (data_1 (number, inside, parts, f, s)) =
    at_number 1 number inside f parts (rw (content_reader.complete inside rest _ s) refl)
data_complete text rest d (data_2 (number, inside, parts, f, s)) =
    at_number 2 number inside f parts (rw (target_content_reader.complete inside rest _ s) refl)

pub data_reader : IsReader SpellsData data_at
unfolding data_at
data_reader = choice_reader (unsigned_reader 32) data_sound data_complete
