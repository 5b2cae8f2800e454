-- Variable instructions are read as they are encoded.
use Rattle.std.proofs.Common.{List, refl, ℕ}
use Rattle.core_types.specs.declared.op.Op.TheVariants.{Plain}
use Rattle.core_types.specs.declared.op.PlainOp.TheVariants.{Variable}
use Rattle.core_types.specs.declared.op.VariableOp.{VariableOp}
use Rattle.core_types.specs.declared.op.VariableOp.TheVariants.{GlobalGet, GlobalSet, LocalGet, LocalSet, LocalTee}
use Rattle.meaning.specs.binary.Instructions.{SpellsVariable}
use Rattle.meaning.specs.binary.Values.{SpellsByte}
use Rattle.core_types.specs.reading.Instructions.{group_at, operation_at, plain_at, variable_at}
use Rattle.binary.proofs.exactness.Choices.{IsFront, SoundCases, at_byte, case_sound, no_case_sound, tag_sound}
use Rattle.binary.proofs.exactness.Values.{index_reader}

pub variable_sound : SoundCases SpellsByte SpellsVariable variable_at
unfolding variable_at
variable_sound =
    case_sound (tag_sound 0x20 LocalGet index_reader (λ text a s. s))
    (case_sound (tag_sound 0x21 LocalSet index_reader (λ text a s. s))
    (case_sound (tag_sound 0x22 LocalTee index_reader (λ text a s. s))
    (case_sound (tag_sound 0x23 GlobalGet index_reader (λ text a s. s))
    (case_sound (tag_sound 0x24 GlobalSet index_reader (λ text a s. s)) no_case_sound))))

pub variable_complete : (text rest : List ℕ) (op : VariableOp) → SpellsVariable text op
    → IsFront SpellsByte operation_at text rest (Plain (Variable op))
unfolding operation_at plain_at group_at variable_at
variable_complete text rest (LocalGet x) (inside, parts, spelt) =
    at_byte 0x20 inside parts (rw (index_reader.complete inside rest x spelt) refl)
variable_complete text rest (LocalSet x) (inside, parts, spelt) =
    at_byte 0x21 inside parts (rw (index_reader.complete inside rest x spelt) refl)
variable_complete text rest (LocalTee x) (inside, parts, spelt) =
    at_byte 0x22 inside parts (rw (index_reader.complete inside rest x spelt) refl)
variable_complete text rest (GlobalGet x) (inside, parts, spelt) =
    at_byte 0x23 inside parts (rw (index_reader.complete inside rest x spelt) refl)
variable_complete text rest (GlobalSet x) (inside, parts, spelt) =
    at_byte 0x24 inside parts (rw (index_reader.complete inside rest x spelt) refl)
