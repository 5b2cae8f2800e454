-- What follows an opcode, or the byte FC and a number, is read as it is encoded.
use Rattle.std.proofs.Common.{List, ap, append_assoc, arith, inl, inr, refl, ℕ, ◌++◌, ◌<◌, ◌∙◌, ◌∷◌, ◌≡◌, ◌≤◌, ◌⊎◌}
use Rattle.std.specs.Prelude.{Some}
use Rattle.std.proofs.lemmas.Bool.{ne_eqb}
use Rattle.core_types.specs.declared.op.Op.TheVariants.{Plain}
use Rattle.core_types.specs.declared.op.PlainOp.{PlainOp}
use Rattle.meaning.specs.binary.Instructions.{SpellsPrefixed, SpellsTwoIndices}
use Rattle.meaning.specs.binary.Values.{SpellsByte, SpellsUnsigned}
use Rattle.core_types.specs.reading.Conventions.{Reading, mapped_at, mapped_case}
use Rattle.core_types.specs.reading.Instructions.{group_at, operation_at, plain_at, prefixed_at, two_indices_at}
use Rattle.binary.proofs.exactness.Choices.{IsFront, SoundCase, at_byte, behind_sound, pair_reader}
use Rattle.binary.proofs.exactness.Integers.{unsigned_reader}
use Rattle.binary.proofs.exactness.Readers.{IsReader, Spelling}
use Rattle.binary.proofs.exactness.Values.{index_reader}

-- a number, and what follows it
pub prefix_sound : {A V : Type 0} {Inner : Spelling A} {read : Reading A} (Spells : Spelling V) (n : ℕ) (into : A → V)
    → IsReader Inner read → ((text : List ℕ) (a : A) → SpellsPrefixed n Inner text a → Spells text (into a))
    → SoundCase (SpellsUnsigned 32) (λ text v. Spells (0xFC ∷ text) v) n (mapped_at into read)
prefix_sound Spells n into reader spelt =
    behind_sound into reader
    (λ front text a f inner. spelt (0xFC ∷ (front ++ text)) a (front ++ text, refl, (front, text, refl, f, inner)))

-- the byte FC, a number, and what follows them
pub prefixed_complete : {A : Type 0} {Inner : Spelling A} {read : Reading A} {op : PlainOp} (n : ℕ)
    → IsReader Inner read → (a : A) (text rest : List ℕ)
    → ((bytes : List ℕ) → read bytes ≡ Some (a, rest) → prefixed_at n bytes ≡ Some (op, rest))
    → SpellsPrefixed n Inner text a → IsFront SpellsByte operation_at text rest (Plain op)
unfolding operation_at plain_at
prefixed_complete n reader a text rest reads (inside, parts, (number, content, within, spelt, more)) =
    let regrouped : inside ++ rest ≡ number ++ (content ++ rest) =
    ap (λ (z : List ℕ). z ++ rest) within ∙ append_assoc number content rest in
    let chosen = (unsigned_reader 32).complete number (content ++ rest) n spelt in
    let read_is = reads (content ++ rest) (reader.complete content rest a more) in
    at_byte 0xFC inside parts (rw (regrouped, chosen, read_is) refl)

pub two_indices_reader : IsReader SpellsTwoIndices two_indices_at
two_indices_reader = pair_reader index_reader index_reader

-- the opcodes from 28 on, except those of constants and the byte FC, are those of groups
pub group_reached : (code : ℕ) (bytes : List ℕ) → 0x28 ≤ code → (code ≤ 0x40) ⊎ ((0x43 ≤ code) × (code < 0xFC))
    → operation_at code bytes ≡ mapped_case Plain group_at code bytes
unfolding operation_at plain_at
group_reached code bytes low (inl below) =
    rw (
      ne_eqb code 0x02 (λ same. omega arith),
      ne_eqb code 0x03 (λ same. omega arith),
      ne_eqb code 0x04 (λ same. omega arith),
      ne_eqb code 0x05 (λ same. omega arith),
      ne_eqb code 0x0B (λ same. omega arith),
      ne_eqb code 0x0E (λ same. omega arith),
      ne_eqb code 0x1C (λ same. omega arith),
      ne_eqb code 0x41 (λ same. omega arith),
      ne_eqb code 0x42 (λ same. omega arith),
      ne_eqb code 0xFC (λ same. omega arith),
    ) refl
group_reached code bytes low (inr (above, below)) =
    rw (
      ne_eqb code 0x02 (λ same. omega arith),
      ne_eqb code 0x03 (λ same. omega arith),
      ne_eqb code 0x04 (λ same. omega arith),
      ne_eqb code 0x05 (λ same. omega arith),
      ne_eqb code 0x0B (λ same. omega arith),
      ne_eqb code 0x0E (λ same. omega arith),
      ne_eqb code 0x1C (λ same. omega arith),
      ne_eqb code 0x41 (λ same. omega arith),
      ne_eqb code 0x42 (λ same. omega arith),
      ne_eqb code 0xFC (λ same. omega arith),
    ) refl
