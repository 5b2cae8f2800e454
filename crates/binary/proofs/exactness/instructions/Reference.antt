-- Reference instructions are read as they are encoded.
use Rattle.std.proofs.Common.{List, [], refl, ℕ}
use Rattle.core_types.specs.declared.op.Op.TheVariants.{Plain}
use Rattle.core_types.specs.declared.op.PlainOp.TheVariants.{Reference}
use Rattle.core_types.specs.declared.op.ReferenceOp.{ReferenceOp}
use Rattle.core_types.specs.declared.op.ReferenceOp.TheVariants as reference_op
use Rattle.meaning.specs.binary.Instructions.{SpellsReference}
use Rattle.meaning.specs.binary.Values.{SpellsByte}
use Rattle.core_types.specs.reading.Instructions.{group_at, operation_at, plain_at, reference_at}
use Rattle.binary.proofs.exactness.Choices.{IsFront, SoundCases, at_byte, bare_sound, case_sound, no_case_sound, tag_sound}
use Rattle.binary.proofs.exactness.Types.{ref_type_reader}
use Rattle.binary.proofs.exactness.Values.{index_reader}

pub reference_sound : SoundCases SpellsByte SpellsReference reference_at
unfolding reference_at
reference_sound =
    case_sound (tag_sound 0xD0 reference_op.Null ref_type_reader (λ text a s. s))
    (case_sound (bare_sound (λ front f. f))
    (case_sound (tag_sound 0xD2 reference_op.Func index_reader (λ text a s. s)) no_case_sound))

pub reference_complete : (text rest : List ℕ) (op : ReferenceOp) → SpellsReference text op
    → IsFront SpellsByte operation_at text rest (Plain (Reference op))
unfolding operation_at plain_at group_at reference_at
reference_complete text rest (reference_op.Null t) (inside, parts, spelt) =
    at_byte 0xD0 inside parts (rw (ref_type_reader.complete inside rest t spelt) refl)
reference_complete text rest reference_op.IsNull e = at_byte 0xD1 [] e refl
reference_complete text rest (reference_op.Func x) (inside, parts, spelt) =
    at_byte 0xD2 inside parts (rw (index_reader.complete inside rest x spelt) refl)
