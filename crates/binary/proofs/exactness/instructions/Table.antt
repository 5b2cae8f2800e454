-- Table instructions are read as they are encoded.
use Rattle.std.proofs.Common.{List, refl, ℕ, ◌∷◌}
use Rattle.core_types.specs.declared.op.Op.TheVariants.{Plain}
use Rattle.core_types.specs.declared.op.PlainOp.TheVariants.{Table}
use Rattle.core_types.specs.declared.op.TableOp.{TableOp}
use Rattle.core_types.specs.declared.op.TableOp.TheVariants as table
use Rattle.meaning.specs.binary.Instructions.{SpellsTable}
use Rattle.meaning.specs.binary.Values.{SpellsByte, SpellsUnsigned}
use Rattle.core_types.specs.reading.Instructions.{group_at, operation_at, plain_at, prefixed_at, prefixed_table_at, table_at}
use Rattle.binary.proofs.exactness.Choices.{IsFront, SoundCases, at_byte, case_sound, no_case_sound, tag_sound}
use Rattle.binary.proofs.exactness.Values.{index_reader}
use Rattle.binary.proofs.exactness.instructions.Opcodes.{prefix_sound, prefixed_complete, two_indices_reader}

pub table_sound : SoundCases SpellsByte SpellsTable table_at
unfolding table_at
table_sound =
    case_sound (tag_sound 0x25 table.Get index_reader (λ text a s. s))
    (case_sound (tag_sound 0x26 table.Set index_reader (λ text a s. s)) no_case_sound)

pub prefixed_table_sound : SoundCases (SpellsUnsigned 32) (λ text op. SpellsTable (0xFC ∷ text) op) prefixed_table_at
unfolding prefixed_table_at
prefixed_table_sound =
    case_sound (prefix_sound SpellsTable 12 (λ x. table.Init x.0 x.1) two_indices_reader (λ text a s. s))
    (case_sound (prefix_sound SpellsTable 13 table.ElemDrop index_reader (λ text a s. s))
    (case_sound (prefix_sound SpellsTable 14 (λ x. table.Copy x.0 x.1) two_indices_reader (λ text a s. s))
    (case_sound (prefix_sound SpellsTable 15 table.Grow index_reader (λ text a s. s))
    (case_sound (prefix_sound SpellsTable 16 table.Size index_reader (λ text a s. s))
    (case_sound (prefix_sound SpellsTable 17 table.Fill index_reader (λ text a s. s)) no_case_sound)))))

pub table_complete : (text rest : List ℕ) (op : TableOp) → SpellsTable text op
    → IsFront SpellsByte operation_at text rest (Plain (Table op))
unfolding operation_at plain_at group_at table_at prefixed_at prefixed_table_at
table_complete text rest (table.Get x) (inside, parts, spelt) =
    at_byte 0x25 inside parts (rw (index_reader.complete inside rest x spelt) refl)
table_complete text rest (table.Set x) (inside, parts, spelt) =
    at_byte 0x26 inside parts (rw (index_reader.complete inside rest x spelt) refl)
table_complete text rest (table.Init s x) spelt =
    prefixed_complete 12 two_indices_reader (s, x) text rest (λ bytes e. rw e refl) spelt
table_complete text rest (table.ElemDrop x) spelt =
    prefixed_complete 13 index_reader x text rest (λ bytes e. rw e refl) spelt
table_complete text rest (table.Copy t s) spelt =
    prefixed_complete 14 two_indices_reader (t, s) text rest (λ bytes e. rw e refl) spelt
table_complete text rest (table.Grow x) spelt =
    prefixed_complete 15 index_reader x text rest (λ bytes e. rw e refl) spelt
table_complete text rest (table.Size x) spelt =
    prefixed_complete 16 index_reader x text rest (λ bytes e. rw e refl) spelt
table_complete text rest (table.Fill x) spelt =
    prefixed_complete 17 index_reader x text rest (λ bytes e. rw e refl) spelt
