-- Types are read as they are encoded.
use Rattle.std.proofs.Common.{List, [], ap, arith, drop, inl, inr, negsuc, pos, refl, subst, ℕ, ℤ, ◌++◌, ◌<◌, ◌∙◌, ◌∷◌, ◌≡◌, ◌≤◌, ◌⊎◌}
use Rattle.std.specs.Prelude.{None, Option, Some}
use Rattle.std.proofs.lemmas.Bool.{le-leb, le-ltb, lt-leb, ne_eqb}
use Rattle.std.proofs.lemmas.Int.{ints}
use Rattle.core_types.specs.declared.op.BlockType.{BlockType}
use Rattle.core_types.specs.declared.op.BlockType.TheVariants as block
use Rattle.core_types.specs.declared.types.Mutability.{Mutability}
use Rattle.core_types.specs.declared.types.Mutability.TheVariants.{Const, Var}
use Rattle.core_types.specs.declared.types.RefType.{RefType}
use Rattle.core_types.specs.declared.types.RefType.TheVariants as reference
use Rattle.core_types.specs.declared.types.ValType.{ValType}
use Rattle.core_types.specs.declared.types.ValType.TheVariants.{ExternRef, FuncRef, I32, I64}
use Rattle.meaning.specs.binary.Conventions.{Reads, SpellsPair}
use Rattle.meaning.specs.binary.Types.{SpellsBlockType, SpellsBounds, SpellsFuncType, SpellsGlobalType, SpellsLimits, SpellsMutability, SpellsRefType, SpellsTableType, SpellsValType}
use Rattle.meaning.specs.binary.Values.{SpellsByte, SpellsSigned, SpellsUnsigned, SpellsVector}
use Rattle.core_types.specs.reading.Conventions.{mapped_at, pair_at, ◌>>=◌}
use Rattle.core_types.specs.reading.Types.{block_type_at, index_of}
use Rattle.binary.specs.Types.{between, from_least, func_type, func_type_at, global_type, global_type_at, limits_at, limits_case}
use Rattle.core_types.specs.reading.Types.{ref_type_at, ref_type_case, val_type_at, val_type_case}
use Rattle.binary.specs.Types.{mutability_at, mutability_case, table_type, table_type_at}
use Rattle.core_types.specs.reading.Values.{begins_negative, begins_with, signed_at, unsigned_at, vector_at}
use Rattle.binary.proofs.exactness.Choices.{IsFront, at_byte, bare_sound, byte_reader, case_sound, choice_reader, mapped_reader, no_case_sound, pair_reader, tag_sound}
use Rattle.binary.proofs.exactness.Integers.{signed_reader, unsigned_reader}
use Rattle.binary.proofs.exactness.Readers.{IsReader, begins, bind_some, chosen, found, found-injective, mapped_sound}
use Rattle.binary.proofs.exactness.Values.{vector_reader}

val_type_complete : (text rest : List ℕ) (v : ValType) → SpellsValType text v
    → IsFront SpellsByte val_type_case text rest v
val_type_complete text rest I32 e = at_byte 0x7F [] e refl
val_type_complete text rest I64 e = at_byte 0x7E [] e refl
val_type_complete text rest FuncRef e = at_byte 0x70 [] e refl
val_type_complete text rest ExternRef e = at_byte 0x6F [] e refl

pub val_type_reader : IsReader SpellsValType val_type_at
unfolding val_type_at
val_type_reader =
    choice_reader byte_reader
    (case_sound (bare_sound (λ front f. f))
    (case_sound (bare_sound (λ front f. f))
    (case_sound (bare_sound (λ front f. f))
    (case_sound (bare_sound (λ front f. f)) no_case_sound))))
    val_type_complete

ref_type_complete : (text rest : List ℕ) (t : RefType) → SpellsRefType text t
    → IsFront SpellsByte ref_type_case text rest t
ref_type_complete text rest reference.FuncRef e = at_byte 0x70 [] e refl
ref_type_complete text rest reference.ExternRef e = at_byte 0x6F [] e refl

pub ref_type_reader : IsReader SpellsRefType ref_type_at
unfolding ref_type_at
ref_type_reader =
    choice_reader byte_reader
    (case_sound (bare_sound (λ front f. f))
    (case_sound (bare_sound (λ front f. f)) no_case_sound)) ref_type_complete

val_types_reader : IsReader (SpellsVector SpellsValType) (vector_at val_type_at)
val_types_reader = vector_reader SpellsValType val_type_at val_type_reader

lists_reader : IsReader (SpellsPair (SpellsVector SpellsValType) (SpellsVector SpellsValType))
    (pair_at (vector_at val_type_at) (vector_at val_type_at))
lists_reader = pair_reader val_types_reader val_types_reader

pub func_type_reader : IsReader SpellsFuncType func_type_at
unfolding func_type_at
func_type_reader =
    choice_reader byte_reader
    (case_sound (tag_sound 0x60 func_type lists_reader (λ text lists s. s)) no_case_sound)
    (λ text rest t (inside, parts, spelt).
    at_byte 0x60 inside parts (rw (lists_reader.complete inside rest (t.params, t.results) spelt) refl))

bounds_reader : IsReader (SpellsPair (SpellsUnsigned 32) (SpellsUnsigned 32)) (pair_at (unsigned_at 32) (unsigned_at 32))
bounds_reader = pair_reader (unsigned_reader 32) (unsigned_reader 32)

limits_complete : (text rest : List ℕ) (min : ℕ) (max : Option ℕ) → SpellsBounds text min max
    → IsFront SpellsByte limits_case text rest (record { min = min; max = max })
limits_complete text rest min None (inside, parts, spelt) =
    at_byte 0x00 inside parts (rw ((unsigned_reader 32).complete inside rest min spelt) refl)
limits_complete text rest min (Some max) (inside, parts, spelt) =
    at_byte 0x01 inside parts (rw (bounds_reader.complete inside rest (min, max) spelt) refl)

pub limits_reader : IsReader SpellsLimits limits_at
unfolding limits_at
limits_reader =
    choice_reader byte_reader
    (case_sound (tag_sound 0x00 from_least (unsigned_reader 32) (λ text min s. s))
    (case_sound (tag_sound 0x01 between bounds_reader (λ text bounds s. s)) no_case_sound))
    (λ text rest limits spelt. limits_complete text rest limits.min limits.max spelt)

pub table_type_reader : IsReader SpellsTableType table_type_at
unfolding table_type_at
table_type_reader =
    mapped_reader table_type (pair_reader ref_type_reader limits_reader) (λ text parts spelt. spelt)
    (λ text t spelt. ((t.element, t.limits), spelt, refl))

mutability_complete : (text rest : List ℕ) (m : Mutability) → SpellsMutability text m
    → IsFront SpellsByte mutability_case text rest m
mutability_complete text rest Const e = at_byte 0x00 [] e refl
mutability_complete text rest Var e = at_byte 0x01 [] e refl

mutability_reader : IsReader SpellsMutability mutability_at
unfolding mutability_at
mutability_reader =
    choice_reader byte_reader
    (case_sound (bare_sound (λ front f. f))
    (case_sound (bare_sound (λ front f. f)) no_case_sound)) mutability_complete

pub global_type_reader : IsReader SpellsGlobalType global_type_at
unfolding global_type_at
global_type_reader =
    mapped_reader global_type (pair_reader val_type_reader mutability_reader) (λ text parts spelt. spelt)
    (λ text t spelt. ((t.value, t.mutability), spelt, refl))

-- ---- the type of a block

starts_index : (byte x : ℕ) (others : List ℕ) → SpellsSigned 33 (byte ∷ others) (pos x)
    → (byte < 64) ⊎ (128 ≤ byte)
starts_index byte x [] (inl last) = inl (omega arith)
starts_index byte x [] (inr negative) = absurd (omega (arith, ints))
starts_index byte x (next ∷ others) spelt = inr spelt.0

index_complete : (text rest : List ℕ) (x : ℕ) → SpellsSigned 33 text (pos x)
    → block_type_at (text ++ rest) ≡ Some (block.Index x, rest)
unfolding block_type_at
index_complete [] rest x spelt = absurd spelt
index_complete (byte ∷ others) rest x spelt =
    let reads = (signed_reader 33).complete (byte ∷ others) rest (pos x) spelt in
    elim (starts_index byte x others spelt) [
      | inl less ↦ rw (ne_eqb byte 0x40 (λ same. omega arith), lt-leb 0x40 byte less, reads) refl
      | inr more ↦ rw (ne_eqb byte 0x40 (λ same. omega arith), le-leb 0x40 byte (omega arith), le-ltb byte 0x80 more, reads) refl
    ]

block_type_complete : (text rest : List ℕ) (t : BlockType) → SpellsBlockType text t
    → block_type_at (text ++ rest) ≡ Some (t, rest)
unfolding block_type_at val_type_at
block_type_complete text rest block.Empty e = rw e refl
block_type_complete text rest (block.Value I32) e = rw e refl
block_type_complete text rest (block.Value I64) e = rw e refl
block_type_complete text rest (block.Value FuncRef) e = rw e refl
block_type_complete text rest (block.Value ExternRef) e = rw e refl
block_type_complete text rest (block.Index x) spelt = index_complete text rest x spelt

index_sound : (bytes rest after : List ℕ) (z : ℤ) (t : BlockType) → Reads (SpellsSigned 33) bytes z after
    → index_of (z, after) ≡ Some (t, rest) → Reads SpellsBlockType bytes t rest
index_sound bytes rest after (pos x) t reads e =
    let same = found-injective (block.Index x) t after rest e in
    record {
      text = reads.text;
      spelt = subst (λ (t : BlockType). SpellsBlockType reads.text t) same.0 reads.spelt;
      parts = reads.parts ∙ ap (λ (z : List ℕ). reads.text ++ z) same.1;
    }
index_sound bytes rest after (negsuc n) t reads e = absurd cc

block_type_sound : (bytes rest : List ℕ) (t : BlockType) → block_type_at bytes ≡ Some (t, rest)
    → Reads SpellsBlockType bytes t rest
unfolding block_type_at
block_type_sound bytes rest t e =
    elim (chosen (begins_with 0x40 bytes) (found block.Empty (drop 1 bytes)) _ (found t rest) e) [
      | inl empty ↦
          let same = found-injective block.Empty t (drop 1 bytes) rest empty.1 in
          let spelt : SpellsBlockType (0x40 ∷ []) block.Empty = refl in
          record {
            text = 0x40 ∷ [];
            spelt = subst (λ (t : BlockType). SpellsBlockType (0x40 ∷ []) t) same.0 spelt;
            parts = begins 0x40 bytes empty.0 ∙ ap (λ (z : List ℕ). 0x40 ∷ z) same.1;
          }
      | inr other ↦ elim (chosen (begins_negative bytes) (mapped_at block.Value val_type_at bytes) (signed_at 33 bytes >>= index_of) (found t rest) other.1) [
        | inl value ↦
            let (ty, reads, same) = mapped_sound block.Value val_type_reader bytes rest t value.1 in
            record {
              text = reads.text;
              spelt = subst (λ (t : BlockType). SpellsBlockType reads.text t) same reads.spelt;
              parts = reads.parts;
            }
        | inr index ↦
            let z = bind_some (signed_at 33 bytes) index_of (t, rest) index.1 in
            index_sound bytes rest z.0.1 z.0.0 t ((signed_reader 33).sound bytes z.0.1 z.0.0 z.1) z.2
      ]
    ]

pub block_type_reader : IsReader SpellsBlockType block_type_at
block_type_reader = record { sound = block_type_sound; complete = block_type_complete }
