-- Memory instructions are read as they are spelled.
use Rattle.std.proofs.Common.{List, [], ap, arith, inl, refl, ℕ, ◌++◌, ◌∙◌, ◌∷◌, ◌≡◌, ◌≤◌}
use Rattle.std.specs.Prelude.{Option, Some}
use Rattle.std.proofs.lemmas.Bool.{le-leb, lt-leb}
use Rattle.std.proofs.lemmas.Option.{slice_get_within}
use Rattle.core_types.specs.declared.op.LoadOp.{LoadOp}
use Rattle.core_types.specs.declared.op.MemArg.{MemArg}
use Rattle.core_types.specs.declared.op.MemoryOp.{MemoryOp}
use Rattle.core_types.specs.declared.op.MemoryOp.TheVariants as memory
use Rattle.core_types.specs.declared.op.Op.TheVariants.{Plain}
use Rattle.core_types.specs.declared.op.PlainOp.TheVariants.{Memory}
use Rattle.core_types.specs.declared.op.StoreOp.{StoreOp}
use Rattle.meaning.specs.binary.Conventions.{SpellsPair, SpellsTagged}
use Rattle.core_types.specs.Opcodes.{loads, stores}
use Rattle.meaning.specs.binary.Instructions.{IsOpcode, SpellsExactly, SpellsMemArg, SpellsMemory}
use Rattle.meaning.specs.binary.Values.{SpellsByte, SpellsIndex, SpellsUnsigned}
use Rattle.core_types.specs.reading.Conventions.{mapped_at, mapped_case, pair_at, ◌>>=◌}
use Rattle.core_types.specs.reading.Instructions.{group_at, in_row, load_at, mem_arg, mem_arg_at, memory_at, of_memory, operation_at, plain_at, prefixed_at, prefixed_memory_at, store_at}
use Rattle.core_types.specs.reading.Values.{expected_at, index_at}
use Rattle.binary.proofs.exactness.Choices.{IsFront, SoundCase, SoundCases, at_byte, behind_sound, case_sound, mapped_reader, no_case_sound, pair_reader, tag_sound, up_to_sound}
use Rattle.binary.proofs.exactness.Integers.{unsigned_reader}
use Rattle.binary.proofs.exactness.Readers.{IsReader, bind_some}
use Rattle.binary.proofs.exactness.Values.{expected_reader, index_reader}
use Rattle.binary.proofs.exactness.instructions.Opcodes.{group_reached, prefix_sound, prefixed_complete}
use Rattle.binary.proofs.exactness.instructions.Rows.{in_row_complete, in_row_sound}

mem_arg_reader : IsReader SpellsMemArg mem_arg_at
unfolding mem_arg_at
mem_arg_reader =
    mapped_reader mem_arg (pair_reader (unsigned_reader 32) (unsigned_reader 32)) (λ text parts spelt. spelt)
    (λ text m spelt. ((m.align, m.offset), spelt, refl))

access_sound : {X : Type 0} (first : ℕ) (row : List (Option X)) (into : X → MemArg → MemoryOp)
    → ((text : List ℕ) (x : X) (argument : MemArg) (code : ℕ) → IsOpcode first row x code
    → SpellsTagged code SpellsMemArg text argument → SpellsMemory text (into x argument))
    → SoundCases SpellsByte SpellsMemory (λ code bytes. in_row first row code >>= λ op. mapped_at (into op) mem_arg_at bytes)
access_sound {X} first row into spelt = record {
  sound = λ code front bytes rest v f e.
      let op =
      bind_some (in_row first row code) (λ (op : X). mapped_at (into op) mem_arg_at bytes) (v, rest) e in
      let case : SoundCase SpellsByte SpellsMemory code (mapped_at (into op.0) mem_arg_at) =
      tag_sound code (into op.0) mem_arg_reader
      (λ text argument s. spelt text op.0 argument code (in_row_sound first row code op.0 op.1) s) in
      case.sound front bytes rest v f op.2;
}

load_sound : SoundCases SpellsByte SpellsMemory load_at
unfolding load_at
load_sound = access_sound 0x28 loads memory.Load (λ text op argument code is s. (code, is, s))

store_sound : SoundCases SpellsByte SpellsMemory store_at
unfolding store_at
store_sound = access_sound 0x36 stores memory.Store (λ text op argument code is s. (code, is, s))

zero_reader : IsReader (SpellsExactly (0x00 ∷ [])) (expected_at (0x00 ∷ []))
zero_reader = expected_reader (0x00 ∷ [])

-- an opcode, and the index of the one memory
zero_sound : (code : ℕ) (op : MemoryOp) → ((text : List ℕ) → text ≡ code ∷ 0x00 ∷ [] → SpellsMemory text op)
    → SoundCase SpellsByte SpellsMemory code (of_memory op)
zero_sound code op spelt =
    behind_sound (λ nothing. op) zero_reader (λ front text nothing f s.
    spelt (front ++ text) (ap (λ (z : List ℕ). z ++ text) f ∙ ap (λ (z : List ℕ). code ∷ z) s))

pub memory_sound : SoundCases SpellsByte SpellsMemory memory_at
unfolding memory_at
memory_sound =
    up_to_sound 0x35 load_sound
    (up_to_sound 0x3E store_sound
    (case_sound (zero_sound 0x3F memory.Size (λ text e. e))
    (case_sound (zero_sound 0x40 memory.Grow (λ text e. e)) no_case_sound)))

init_reader : IsReader (SpellsPair SpellsIndex (SpellsExactly (0x00 ∷ []))) (pair_at index_at (expected_at (0x00 ∷ [])))
init_reader = pair_reader index_reader zero_reader

two_zeros_reader : IsReader (SpellsExactly (0x00 ∷ 0x00 ∷ [])) (expected_at (0x00 ∷ 0x00 ∷ []))
two_zeros_reader = expected_reader (0x00 ∷ 0x00 ∷ [])

pub prefixed_memory_sound : SoundCases (SpellsUnsigned 32) (λ text op. SpellsMemory (0xFC ∷ text) op) prefixed_memory_at
unfolding prefixed_memory_at
prefixed_memory_sound =
    case_sound (prefix_sound SpellsMemory 8 (λ x. memory.Init x.0) init_reader (λ text a s. s))
    (case_sound (prefix_sound SpellsMemory 9 memory.DataDrop index_reader (λ text a s. s))
    (case_sound (prefix_sound SpellsMemory 10 (λ nothing. memory.Copy) two_zeros_reader (λ text a s. s))
    (case_sound (prefix_sound SpellsMemory 11 (λ nothing. memory.Fill) zero_reader (λ text a s. s)) no_case_sound)))

-- ---- what has this encoding is read

memory_reached : (code : ℕ) (bytes : List ℕ) → 0x28 ≤ code → code ≤ 0x3E
    → operation_at code bytes ≡ mapped_case Plain (mapped_case Memory memory_at) code bytes
unfolding group_at
memory_reached code bytes low high =
    group_reached code bytes low (inl (omega arith))
    ∙ rw (
      lt-leb code 0x13 (omega arith),
      lt-leb code 0x1B (omega arith),
      lt-leb code 0x24 (omega arith),
      lt-leb code 0x27 (omega arith),
      le-leb code 0x40 (omega arith),
    ) refl

load_complete : (text rest : List ℕ) (op : LoadOp) (argument : MemArg) (code : ℕ) → IsOpcode 0x28 loads op code
    → (inside : List ℕ) → text ≡ code ∷ inside → SpellsMemArg inside argument
    → IsFront SpellsByte operation_at text rest (Plain (Memory (memory.Load op argument)))
unfolding memory_at load_at
load_complete text rest op argument code is inside parts spelt =
    let within = slice_get_within loads is.0 (Some op) is.1 in
    at_byte code inside parts
    (memory_reached code (inside ++ rest) (omega arith) (omega arith)
    ∙ rw (
      le-leb code 0x35 (omega arith),
      in_row_complete 0x28 loads code op is,
      mem_arg_reader.complete inside rest argument spelt,
    ) refl)

store_complete : (text rest : List ℕ) (op : StoreOp) (argument : MemArg) (code : ℕ)
    → IsOpcode 0x36 stores op code → (inside : List ℕ) → text ≡ code ∷ inside → SpellsMemArg inside argument
    → IsFront SpellsByte operation_at text rest (Plain (Memory (memory.Store op argument)))
unfolding memory_at store_at
store_complete text rest op argument code is inside parts spelt =
    let within = slice_get_within stores is.0 (Some op) is.1 in
    at_byte code inside parts
    (memory_reached code (inside ++ rest) (omega arith) (omega arith)
    ∙ rw (
      lt-leb code 0x35 (omega arith),
      le-leb code 0x3E (omega arith),
      in_row_complete 0x36 stores code op is,
      mem_arg_reader.complete inside rest argument spelt,
    ) refl)

pub memory_complete : (text rest : List ℕ) (op : MemoryOp) → SpellsMemory text op
    → IsFront SpellsByte operation_at text rest (Plain (Memory op))
unfolding operation_at plain_at group_at memory_at prefixed_at prefixed_memory_at
memory_complete text rest (memory.Init s) spelt =
    prefixed_complete 8 init_reader (s, tt) text rest (λ bytes e. rw e refl) spelt
memory_complete text rest (memory.DataDrop x) spelt =
    prefixed_complete 9 index_reader x text rest (λ bytes e. rw e refl) spelt
memory_complete text rest memory.Copy spelt =
    prefixed_complete 10 two_zeros_reader tt text rest (λ bytes e. rw e refl) spelt
memory_complete text rest memory.Fill spelt =
    prefixed_complete 11 zero_reader tt text rest (λ bytes e. rw e refl) spelt
memory_complete text rest memory.Size e =
    at_byte 0x3F (0x00 ∷ []) e (rw (zero_reader.complete (0x00 ∷ []) rest tt refl) refl)
memory_complete text rest memory.Grow e =
    at_byte 0x40 (0x00 ∷ []) e (rw (zero_reader.complete (0x00 ∷ []) rest tt refl) refl)
memory_complete text rest (memory.Load op argument) (code, is, (inside, parts, spelt)) =
    load_complete text rest op argument code is inside parts spelt
memory_complete text rest (memory.Store op argument) (code, is, (inside, parts, spelt)) =
    store_complete text rest op argument code is inside parts spelt
