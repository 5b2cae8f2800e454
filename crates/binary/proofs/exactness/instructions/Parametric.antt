-- Parametric instructions are read as they are encoded.
use Rattle.std.proofs.Common.{List, [], refl, ℕ}
use Rattle.core_types.specs.declared.op.Op.TheVariants.{Plain}
use Rattle.core_types.specs.declared.op.ParametricOp.{ParametricOp}
use Rattle.core_types.specs.declared.op.ParametricOp.TheVariants.{DropOperand, Select}
use Rattle.core_types.specs.declared.op.PlainOp.TheVariants.{Parametric}
use Rattle.meaning.specs.binary.Instructions.{SpellsParametric}
use Rattle.meaning.specs.binary.Values.{SpellsByte}
use Rattle.core_types.specs.reading.Instructions.{group_at, operation_at, parametric_at, plain_at}
use Rattle.binary.proofs.exactness.Choices.{IsFront, SoundCases, at_byte, bare_sound, case_sound, no_case_sound}

pub parametric_sound : SoundCases SpellsByte SpellsParametric parametric_at
unfolding parametric_at
parametric_sound =
    case_sound (bare_sound (λ front f. f))
    (case_sound (bare_sound (λ front f. f)) no_case_sound)

pub parametric_complete : (text rest : List ℕ) (op : ParametricOp) → SpellsParametric text op
    → IsFront SpellsByte operation_at text rest (Plain (Parametric op))
unfolding operation_at plain_at group_at parametric_at
parametric_complete text rest DropOperand e = at_byte 0x1A [] e refl
parametric_complete text rest Select e = at_byte 0x1B [] e refl
