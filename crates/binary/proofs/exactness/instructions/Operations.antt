-- Flat operations are read as they are encoded.
use Rattle.std.proofs.Common.{List, [], ap, arith, length, length-append, refl, sym, ℕ, ◌++◌, ◌<◌, ◌∙◌, ◌∷◌, ◌≡◌}
use Rattle.std.specs.Prelude.{Some}
use Rattle.core_types.specs.declared.op.Op.{Op}
use Rattle.core_types.specs.declared.op.Op.TheVariants.{Block, Else, End, If, Loop, Plain}
use Rattle.core_types.specs.declared.op.PlainOp.TheVariants.{BrTable, Control, I32Const, I64Const, Memory, Numeric, Parametric, Reference, SelectTyped, Table, Variable}
use Rattle.meaning.specs.binary.Conventions.{SpellsTagged}
use Rattle.meaning.specs.binary.Instructions.{SpellsBranchTable, SpellsPlain, SpellsStored}
use Rattle.meaning.specs.binary.Types.{SpellsBlockType, SpellsValType}
use Rattle.meaning.specs.binary.Values.{SpellsByte, SpellsIndex, SpellsUnsigned, SpellsVector}
use Rattle.core_types.specs.reading.Conventions.{chosen_at}
use Rattle.core_types.specs.reading.Instructions.{branch_table, branch_table_at, group_at, op_at, operation_at, plain_at, prefixed_at, stored_at}
use Rattle.core_types.specs.reading.Types.{val_type_at}
use Rattle.core_types.specs.reading.Values.{stored, unsigned_at, vector_at}
use Rattle.binary.proofs.exactness.Choices.{IsFront, SoundCase, SoundCases, at_byte, bare_sound, byte_reader, case_sound, choice_reader, mapped_case_sound}
use Rattle.binary.proofs.exactness.Choices.{mapped_reader, pair_reader, tag_sound, up_to_sound}
use Rattle.binary.proofs.exactness.Integers.{signed_reader, unsigned_reader}
use Rattle.binary.proofs.exactness.Readers.{IsReader, bind_some}
use Rattle.binary.proofs.exactness.Types.{block_type_reader, val_type_reader}
use Rattle.binary.proofs.exactness.Values.{index_reader, vector_reader}
use Rattle.binary.proofs.exactness.instructions.Control.{control_complete, control_sound}
use Rattle.binary.proofs.exactness.instructions.Memory.{memory_complete, memory_sound, prefixed_memory_sound}
use Rattle.binary.proofs.exactness.instructions.Numeric.{numeric_complete, numeric_sound}
use Rattle.binary.proofs.exactness.instructions.Parametric.{parametric_complete, parametric_sound}
use Rattle.binary.proofs.exactness.instructions.Reference.{reference_complete, reference_sound}
use Rattle.binary.proofs.exactness.instructions.Table.{prefixed_table_sound, table_complete, table_sound}
use Rattle.binary.proofs.exactness.instructions.Variable.{variable_complete, variable_sound}

-- ---- instructions after the byte FC

prefixed_cases_sound : SoundCases (SpellsUnsigned 32) (λ text op. SpellsPlain (0xFC ∷ text) op) prefixed_at
unfolding prefixed_at
prefixed_cases_sound =
    up_to_sound 11 (mapped_case_sound Memory prefixed_memory_sound (λ text op s. s))
    (mapped_case_sound Table prefixed_table_sound (λ text op s. s))

prefixed_sound : SoundCase SpellsByte SpellsPlain 0xFC (chosen_at (unsigned_at 32) prefixed_at)
prefixed_sound = record {
  sound = λ front bytes rest op f e.
      let number = bind_some (unsigned_at 32 bytes) (λ (n : ℕ × List ℕ). prefixed_at n.0 n.1) (op, rest) e in
      let first = (unsigned_reader 32).sound bytes number.0.1 number.0.0 number.1 in
      let reads = prefixed_cases_sound.sound number.0.0 first.text number.0.1 rest op first.spelt number.2 in
      record {
        text = 0xFC ∷ reads.text;
        spelt = reads.spelt;
        parts = ap (λ (z : List ℕ). z ++ bytes) f ∙ ap (λ (z : List ℕ). 0xFC ∷ z) (first.parts ∙ reads.parts);
      };
}

-- ---- instructions without a body

branch_table_reader : IsReader SpellsBranchTable branch_table_at
unfolding branch_table_at
branch_table_reader =
    mapped_reader branch_table
    (pair_reader (vector_reader SpellsIndex (unsigned_at 32) (unsigned_reader 32)) index_reader)
    (λ text parts spelt. spelt) (λ text t spelt. ((t.labels, t.default), spelt, refl))

stored_reader : (bits : ℕ) → IsReader (SpellsStored bits) (stored_at bits)
stored_reader bits =
    mapped_reader (stored bits) (signed_reader bits) (λ text z s. (z, s, refl))
    (λ text n (z, s, same). (z, s, sym same))

types_reader : IsReader (SpellsVector SpellsValType) (vector_at val_type_at)
types_reader = vector_reader SpellsValType val_type_at val_type_reader

group_sound : SoundCases SpellsByte SpellsPlain group_at
unfolding group_at
group_sound =
    up_to_sound 0x13 (mapped_case_sound Control control_sound (λ text op s. s))
    (up_to_sound 0x1B (mapped_case_sound Parametric parametric_sound (λ text op s. s))
    (up_to_sound 0x24 (mapped_case_sound Variable variable_sound (λ text op s. s))
    (up_to_sound 0x27 (mapped_case_sound Table table_sound (λ text op s. s))
    (up_to_sound 0x40 (mapped_case_sound Memory memory_sound (λ text op s. s))
    (up_to_sound 0xC4 (mapped_case_sound Numeric numeric_sound (λ text op s. s))
    (mapped_case_sound Reference reference_sound (λ text op s. s)))))))

plain_sound : SoundCases SpellsByte SpellsPlain plain_at
unfolding plain_at
plain_sound =
    case_sound (tag_sound 0x0E BrTable branch_table_reader (λ text a s. s))
    (case_sound (tag_sound 0x1C SelectTyped types_reader (λ text a s. s))
    (case_sound (tag_sound 0x41 I32Const (stored_reader 32) (λ text a s. s))
    (case_sound (tag_sound 0x42 I64Const (stored_reader 64) (λ text a s. s))
    (case_sound prefixed_sound group_sound))))

-- ---- flat operations

abbrev pub SpellsOp : List ℕ → Op → Type 0
SpellsOp bytes (Plain op) = SpellsPlain bytes op
SpellsOp bytes (Block t) = SpellsTagged 0x02 SpellsBlockType bytes t
SpellsOp bytes (Loop t) = SpellsTagged 0x03 SpellsBlockType bytes t
SpellsOp bytes (If t) = SpellsTagged 0x04 SpellsBlockType bytes t
SpellsOp bytes Else = bytes ≡ 0x05 ∷ []
SpellsOp bytes End = bytes ≡ 0x0B ∷ []

op_sound : SoundCases SpellsByte SpellsOp operation_at
unfolding operation_at
op_sound =
    case_sound (tag_sound 0x02 Block block_type_reader (λ text t s. s))
    (case_sound (tag_sound 0x03 Loop block_type_reader (λ text t s. s))
    (case_sound (tag_sound 0x04 If block_type_reader (λ text t s. s))
    (case_sound (bare_sound (λ front f. f))
    (case_sound (bare_sound (λ front f. f))
    (mapped_case_sound Plain plain_sound (λ text op s. s))))))

op_complete : (text rest : List ℕ) (op : Op) → SpellsOp text op → IsFront SpellsByte operation_at text rest op
unfolding operation_at plain_at
op_complete text rest (Block t) (inside, parts, spelt) =
    at_byte 0x02 inside parts (rw (block_type_reader.complete inside rest t spelt) refl)
op_complete text rest (Loop t) (inside, parts, spelt) =
    at_byte 0x03 inside parts (rw (block_type_reader.complete inside rest t spelt) refl)
op_complete text rest (If t) (inside, parts, spelt) =
    at_byte 0x04 inside parts (rw (block_type_reader.complete inside rest t spelt) refl)
op_complete text rest Else e = at_byte 0x05 [] e refl
op_complete text rest End e = at_byte 0x0B [] e refl
op_complete text rest (Plain (BrTable t)) (inside, parts, spelt) =
    at_byte 0x0E inside parts (rw (branch_table_reader.complete inside rest t spelt) refl)
op_complete text rest (Plain (SelectTyped types)) (inside, parts, spelt) =
    at_byte 0x1C inside parts (rw (types_reader.complete inside rest types spelt) refl)
op_complete text rest (Plain (I32Const n)) (inside, parts, spelt) =
    at_byte 0x41 inside parts (rw ((stored_reader 32).complete inside rest n spelt) refl)
op_complete text rest (Plain (I64Const n)) (inside, parts, spelt) =
    at_byte 0x42 inside parts (rw ((stored_reader 64).complete inside rest n spelt) refl)
op_complete text rest (Plain (Control op)) spelt = control_complete text rest op spelt
op_complete text rest (Plain (Reference op)) spelt = reference_complete text rest op spelt
op_complete text rest (Plain (Parametric op)) spelt = parametric_complete text rest op spelt
op_complete text rest (Plain (Variable op)) spelt = variable_complete text rest op spelt
op_complete text rest (Plain (Table op)) spelt = table_complete text rest op spelt
op_complete text rest (Plain (Memory op)) spelt = memory_complete text rest op spelt
op_complete text rest (Plain (Numeric op)) spelt = numeric_complete text rest op spelt

pub op_reader : IsReader SpellsOp op_at
unfolding op_at
op_reader = choice_reader byte_reader op_sound op_complete

pub op_has_bytes : (text : List ℕ) (op : Op) → SpellsOp text op → 0 < length text
op_has_bytes text op spelt =
    let is = op_complete text [] op spelt in
    omega (arith, ap length is.parts, length-append is.front is.inside, ap length is.chooses)

pub op_shorter : (bytes rest : List ℕ) (op : Op) → op_at bytes ≡ Some (op, rest) → length rest < length bytes
op_shorter bytes rest op e =
    let reads = op_reader.sound bytes rest op e in
    omega (arith, op_has_bytes reads.text op reads.spelt, ap length reads.parts, length-append reads.text rest)
