-- Control instructions without a body are read as they are encoded.
use Rattle.std.proofs.Common.{List, [], refl, ℕ}
use Rattle.core_types.specs.declared.op.ControlOp.{ControlOp}
use Rattle.core_types.specs.declared.op.ControlOp.TheVariants.{Br, BrIf, Call, CallIndirect, Nop, Return, ReturnCall, ReturnCallIndirect, Unreachable}
use Rattle.core_types.specs.declared.op.Op.TheVariants.{Plain}
use Rattle.core_types.specs.declared.op.PlainOp.TheVariants.{Control}
use Rattle.meaning.specs.binary.Instructions.{SpellsControl}
use Rattle.meaning.specs.binary.Values.{SpellsByte}
use Rattle.core_types.specs.reading.Instructions.{control_at, group_at, operation_at, plain_at}
use Rattle.binary.proofs.exactness.Choices.{IsFront, SoundCases, at_byte, bare_sound, case_sound, no_case_sound, tag_sound}
use Rattle.binary.proofs.exactness.Values.{index_reader}
use Rattle.binary.proofs.exactness.instructions.Opcodes.{two_indices_reader}

pub control_sound : SoundCases SpellsByte SpellsControl control_at
unfolding control_at
control_sound =
    case_sound (bare_sound (λ front f. f))
    (case_sound (bare_sound (λ front f. f))
    (case_sound (tag_sound 0x0C Br index_reader (λ text a s. s))
    (case_sound (tag_sound 0x0D BrIf index_reader (λ text a s. s))
    (case_sound (bare_sound (λ front f. f))
    (case_sound (tag_sound 0x10 Call index_reader (λ text a s. s))
    (case_sound (tag_sound 0x11 (λ x. CallIndirect x.0 x.1) two_indices_reader (λ text a s. s))
    (case_sound (tag_sound 0x12 ReturnCall index_reader (λ text a s. s))
    (case_sound (tag_sound 0x13 (λ x. ReturnCallIndirect x.0 x.1) two_indices_reader (λ text a s. s))
    no_case_sound))))))))

pub control_complete : (text rest : List ℕ) (op : ControlOp) → SpellsControl text op
    → IsFront SpellsByte operation_at text rest (Plain (Control op))
unfolding operation_at plain_at group_at control_at
control_complete text rest Unreachable e = at_byte 0x00 [] e refl
control_complete text rest Nop e = at_byte 0x01 [] e refl
control_complete text rest (Br x) (inside, parts, spelt) =
    at_byte 0x0C inside parts (rw (index_reader.complete inside rest x spelt) refl)
control_complete text rest (BrIf x) (inside, parts, spelt) =
    at_byte 0x0D inside parts (rw (index_reader.complete inside rest x spelt) refl)
control_complete text rest Return e = at_byte 0x0F [] e refl
control_complete text rest (Call x) (inside, parts, spelt) =
    at_byte 0x10 inside parts (rw (index_reader.complete inside rest x spelt) refl)
control_complete text rest (CallIndirect ty x) (inside, parts, spelt) =
    at_byte 0x11 inside parts (rw (two_indices_reader.complete inside rest (ty, x) spelt) refl)
control_complete text rest (ReturnCall x) (inside, parts, spelt) =
    at_byte 0x12 inside parts (rw (index_reader.complete inside rest x spelt) refl)
control_complete text rest (ReturnCallIndirect ty x) (inside, parts, spelt) =
    at_byte 0x13 inside parts (rw (two_indices_reader.complete inside rest (ty, x) spelt) refl)
