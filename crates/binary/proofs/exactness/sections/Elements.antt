-- Element segments are read as they are encoded.
use Rattle.std.proofs.Common.{List, refl, ℕ}
use Rattle.core_types.specs.declared.module.ElementItems.TheVariants.{Expressions, Functions}
use Rattle.core_types.specs.declared.module.ElementMode.TheVariants.{Active, Declarative, Passive}
use Rattle.core_types.specs.declared.module.ElementSegment.{ElementSegment}
use Rattle.core_types.specs.declared.types.RefType.TheVariants.{FuncRef}
use Rattle.meaning.specs.binary.Conventions.{SpellsPair}
use Rattle.meaning.specs.binary.Instructions.{SpellsFlat}
use Rattle.meaning.specs.binary.Modules.{SpellsElement, SpellsFunctions, SpellsReferences, element, form_0, form_1, form_2, form_3, form_4, form_5, form_6, form_7}
use Rattle.meaning.specs.binary.Values.{SpellsIndex, SpellsUnsigned, SpellsVector}
use Rattle.core_types.specs.reading.Conventions.{pair_at}
use Rattle.binary.specs.Expressions.{expression_at}
use Rattle.binary.specs.Sections.{element_at, element_form_at, expressions_form_at, functions_form_at, kind_functions_at, references_at, target_at}
use Rattle.core_types.specs.reading.Values.{index_at, vector_at}
use Rattle.binary.proofs.exactness.Choices.{IsFront, SoundCases, at_byte, at_number, byte_reader, case_sound, choice_reader, no_case_sound, pair_reader, tag_sound, up_to_sound}
use Rattle.binary.proofs.exactness.Expressions.{expression_reader}
use Rattle.binary.proofs.exactness.Integers.{unsigned_reader}
use Rattle.binary.proofs.exactness.Readers.{IsReader}
use Rattle.binary.proofs.exactness.Types.{ref_type_reader}
use Rattle.binary.proofs.exactness.Values.{index_reader, vector_reader}
use Rattle.binary.proofs.exactness.sections.Segments.{form_sound, target_reader}

indices_reader : IsReader (SpellsVector SpellsIndex) (vector_at index_at)
indices_reader = vector_reader SpellsIndex index_at index_reader

expressions_reader : IsReader (SpellsVector SpellsFlat) (vector_at expression_at)
expressions_reader = vector_reader SpellsFlat expression_at expression_reader

kind_functions_reader : IsReader SpellsFunctions kind_functions_at
unfolding kind_functions_at
kind_functions_reader =
    choice_reader byte_reader
    (case_sound (tag_sound 0x00 (λ (indices : List ℕ). indices) indices_reader (λ text a s. s)) no_case_sound)
    (λ text rest indices (inside, parts, spelt).
    at_byte 0x00 inside parts (rw (indices_reader.complete inside rest indices spelt) refl))

references_reader : IsReader SpellsReferences references_at
unfolding references_at
references_reader = pair_reader ref_type_reader expressions_reader

offset_indices_reader : IsReader (SpellsPair SpellsFlat (SpellsVector SpellsIndex))
    (pair_at expression_at (vector_at index_at))
offset_indices_reader = pair_reader expression_reader indices_reader

target_functions_reader : IsReader (SpellsPair (SpellsPair SpellsIndex SpellsFlat) SpellsFunctions)
    (pair_at target_at kind_functions_at)
target_functions_reader = pair_reader target_reader kind_functions_reader

offset_expressions_reader : IsReader (SpellsPair SpellsFlat (SpellsVector SpellsFlat))
    (pair_at expression_at (vector_at expression_at))
offset_expressions_reader = pair_reader expression_reader expressions_reader

target_references_reader : IsReader (SpellsPair (SpellsPair SpellsIndex SpellsFlat) SpellsReferences)
    (pair_at target_at references_at)
target_references_reader = pair_reader target_reader references_reader

functions_form_sound : SoundCases (SpellsUnsigned 32) SpellsElement functions_form_at
unfolding functions_form_at
functions_form_sound =
    case_sound (form_sound 0 (λ x. element FuncRef (Functions x.1) (Active 0 x.0)) offset_indices_reader (λ text x s. form_0 s))
    (case_sound (form_sound 1 (λ x. element FuncRef (Functions x) Passive) kind_functions_reader (λ text x s. form_1 s))
    (case_sound (form_sound 2 (λ x. element FuncRef (Functions x.1) (Active x.0.0 x.0.1)) target_functions_reader (λ text x s. form_2 s))
    (case_sound (form_sound 3 (λ x. element FuncRef (Functions x) Declarative) kind_functions_reader (λ text x s. form_3 s)) no_case_sound)))

expressions_form_sound : SoundCases (SpellsUnsigned 32) SpellsElement expressions_form_at
unfolding expressions_form_at
expressions_form_sound =
    case_sound (form_sound 4 (λ x. element FuncRef (Expressions x.1) (Active 0 x.0)) offset_expressions_reader (λ text x s. form_4 s))
    (case_sound (form_sound 5 (λ x. element x.0 (Expressions x.1) Passive) references_reader (λ text x s. form_5 s))
    (case_sound (form_sound 6 (λ x. element x.1.0 (Expressions x.1.1) (Active x.0.0 x.0.1)) target_references_reader (λ text x s. form_6 s))
    (case_sound (form_sound 7 (λ x. element x.0 (Expressions x.1) Declarative) references_reader (λ text x s. form_7 s)) no_case_sound)))

element_form_sound : SoundCases (SpellsUnsigned 32) SpellsElement element_form_at
unfolding element_form_at
element_form_sound = up_to_sound 3 functions_form_sound expressions_form_sound

element_complete : (text rest : List ℕ) (e : ElementSegment) → SpellsElement text e
    → IsFront (SpellsUnsigned 32) element_form_at text rest e
unfolding element_form_at functions_form_at expressions_form_at
element_complete text rest e (form_0 (number, inside, parts, f, s)) =
    at_number 0 number inside f parts (rw (offset_indices_reader.complete inside rest _ s) refl)
element_complete text rest e (form_1 (number, inside, parts, f, s)) =
    at_number 1 number inside f parts (rw (kind_functions_reader.complete inside rest _ s) refl)
element_complete text rest e (form_2 (number, inside, parts, f, s)) =
    at_number 2 number inside f parts (rw (target_functions_reader.complete inside rest _ s) refl)
element_complete text rest e (form_3 (number, inside, parts, f, s)) =
    at_number 3 number inside f parts (rw (kind_functions_reader.complete inside rest _ s) refl)
element_complete text rest e (form_4 (number, inside, parts, f, s)) =
    at_number 4 number inside f parts (rw (offset_expressions_reader.complete inside rest _ s) refl)
element_complete text rest e (form_5 (number, inside, parts, f, s)) =
    at_number 5 number inside f parts (rw (references_reader.complete inside rest _ s) refl)
element_complete text rest e (form_6 (number, inside, parts, f, s)) =
    at_number 6 number inside f parts (rw (target_references_reader.complete inside rest _ s) refl)
element_complete text rest e (form_7 (number, inside, parts, f, s)) =
    at_number 7 number inside f parts (rw (references_reader.complete inside rest _ s) refl)

pub element_reader : IsReader SpellsElement element_at
unfolding element_at
element_reader = choice_reader (unsigned_reader 32) element_form_sound element_complete
