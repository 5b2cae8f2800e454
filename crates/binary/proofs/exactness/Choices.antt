-- Readers that select by a number at the start.
use Rattle.std.proofs.Common.{List, [], ap, append_assoc, eqb, inl, inr, leb, refl, subst, sym, ℕ, ◌++◌, ◌∙◌, ◌∷◌, ◌≡◌}
use Rattle.std.specs.Prelude.{Some}
use Rattle.std.proofs.lemmas.Bool.{eqb-true}
use Rattle.meaning.specs.binary.Conventions.{Reads, SpellsPair, SpellsTagged}
use Rattle.meaning.specs.binary.Values.{SpellsByte, SpellsUnsigned}
use Rattle.core_types.specs.reading.Conventions.{Cases, Reading, bare_at, case_at, chosen_at, mapped_at, mapped_case, no_case, pair_at, up_to}
use Rattle.core_types.specs.reading.Values.{byte_at}
use Rattle.binary.proofs.exactness.Readers.{IsReader, Spelling, bind_some, both_complete, both_sound, chosen, found, found-injective, mapped_sound}

pub byte_reader : IsReader SpellsByte byte_at
byte_reader = record {
  sound = byte_sound;
  complete = λ text rest byte spelt. rw spelt refl;
}
  where
    byte_sound : (bytes rest : List ℕ) (byte : ℕ) → byte_at bytes ≡ Some (byte, rest)
        → Reads SpellsByte bytes byte rest
    byte_sound [] rest byte e = absurd cc
    byte_sound (first ∷ bytes) rest byte e =
        let same = found-injective first byte bytes rest e in
        record {
          text = first ∷ [];
          spelt = ap (λ (b : ℕ). b ∷ []) same.0;
          parts = ap (λ (z : List ℕ). first ∷ z) same.1;
        }

module _ {A V : Type 0} {Inner : Spelling A} {Spells : Spelling V} {read : Reading A} where
  -- What is read and mapped to another value.
  pub mapped_reader : (into : A → V) → IsReader Inner read
      → ((text : List ℕ) (a : A) → Inner text a → Spells text (into a))
      → ((text : List ℕ) (v : V) → Spells text v → (a : A) × Inner text a × (into a ≡ v))
      → IsReader Spells (mapped_at into read)
  mapped_reader into reader spelt back = record {
    sound = λ bytes rest v e.
        let (a, reads, same) = mapped_sound into reader bytes rest v e in
        record {
          text = reads.text;
          spelt = subst (λ (x : V). Spells reads.text x) same (spelt reads.text a reads.spelt);
          parts = reads.parts;
        };
    complete = λ text rest v s.
        let (a, inner, same) = back text v s in
        rw (reader.complete text rest a inner, same) refl;
  }

-- Two values in turn.
pub pair_reader : {A B : Type 0} {First : Spelling A} {Second : Spelling B} {read : Reading A} {next : Reading B}
    → IsReader First read → IsReader Second next → IsReader (SpellsPair First Second) (pair_at read next)
pair_reader {A} {B} {First} {Second} reader reader_next = record {
  sound = λ bytes rest pair e.
      let (a, b, reads, same) = both_sound (λ (a : A) (b : B). (a, b)) reader reader_next bytes rest pair e in
      subst (λ (p : A × B). Reads (SpellsPair First Second) bytes p rest) same reads;
  complete =
      λ text rest pair spelt. both_complete (λ (a : A) (b : B). (a, b)) reader reader_next text rest pair.0 pair.1 spelt;
}

-- ---- what is read after a number at the start has this encoding

-- for any value of the number
pub record SoundCases {V : Type 0} (Front : Spelling ℕ) (Spells : Spelling V) (read : Cases V) : Type 0 where
  pub sound : (code : ℕ) (front bytes rest : List ℕ) (v : V) → Front front code
      → read code bytes ≡ Some (v, rest) → Reads Spells (front ++ bytes) v rest

-- for this value of the number
pub record SoundCase {V : Type 0} (Front : Spelling ℕ) (Spells : Spelling V) (expected : ℕ) (read : Reading V) : Type 0 where
  pub sound : (front bytes rest : List ℕ) (v : V) → Front front expected → read bytes ≡ Some (v, rest)
      → Reads Spells (front ++ bytes) v rest

module _ {V : Type 0} {Front : Spelling ℕ} {Spells : Spelling V} where
  pub no_case_sound : SoundCases Front Spells no_case
  no_case_sound = record { sound = λ code front bytes rest v f e. absurd cc }

  pub case_sound : {expected : ℕ} {read : Reading V} {others : Cases V} → SoundCase Front Spells expected read
      → SoundCases Front Spells others → SoundCases Front Spells (case_at expected read others)
  case_sound {expected} {read} {others} here there = record {
    sound = λ code front bytes rest v f e.
        elim (chosen (eqb code expected) (read bytes) (others code bytes) (found v rest) e) [
          | inl is ↦ here.sound front bytes rest v (subst (λ (n : ℕ). Front front n) (eqb-true code expected is.0) f) is.1
          | inr other ↦ there.sound code front bytes rest v f other.1
        ];
  }

  pub up_to_sound : (last : ℕ) {cases others : Cases V} → SoundCases Front Spells cases
      → SoundCases Front Spells others → SoundCases Front Spells (up_to last cases others)
  up_to_sound last {cases} {others} here there = record {
    sound = λ code front bytes rest v f e.
        elim (chosen (leb code last) (cases code bytes) (others code bytes) (found v rest) e) [
          | inl is ↦ here.sound code front bytes rest v f is.1
          | inr other ↦ there.sound code front bytes rest v f other.1
        ];
  }

  pub bare_sound : {expected : ℕ} {v : V} → ((front : List ℕ) → Front front expected → Spells front v)
      → SoundCase Front Spells expected (bare_at v)
  bare_sound {expected} {v} spelt = record {
    sound = λ front bytes rest w f e.
        let same = found-injective v w bytes rest e in
        record {
          text = front;
          spelt = subst (λ (x : V). Spells front x) same.0 (spelt front f);
          parts = ap (λ (z : List ℕ). front ++ z) same.1;
        };
  }

  pub behind_sound : {A : Type 0} {Inner : Spelling A} {read : Reading A} {expected : ℕ} (into : A → V)
      → IsReader Inner read
      → ((front text : List ℕ) (a : A) → Front front expected → Inner text a → Spells (front ++ text) (into a))
      → SoundCase Front Spells expected (mapped_at into read)
  behind_sound into reader spelt = record {
    sound = λ front bytes rest v f e.
        let (a, reads, same) = mapped_sound into reader bytes rest v e in
        record {
          text = front ++ reads.text;
          spelt =
              subst (λ (x : V). Spells (front ++ reads.text) x) same (spelt front reads.text a f reads.spelt);
          parts = ap (λ (z : List ℕ). front ++ z) reads.parts ∙ sym (append_assoc front reads.text rest);
        };
  }

  pub mapped_case_sound : {A : Type 0} {Inner : Spelling A} {cases : Cases A} (into : A → V)
      → SoundCases Front Inner cases → ((text : List ℕ) (a : A) → Inner text a → Spells text (into a))
      → SoundCases Front Spells (mapped_case into cases)
  mapped_case_sound {A} {Inner} {cases} into here spelt = record {
    sound = λ code front bytes rest v f e.
        let a = bind_some (cases code bytes) (λ (a : A × List ℕ). found (into a.0) a.1) (v, rest) e in
        let same = found-injective (into a.0.0) v a.0.1 rest a.2 in
        let reads = here.sound code front bytes a.0.1 a.0.0 f a.1 in
        record {
          text = reads.text;
          spelt = subst (λ (x : V). Spells reads.text x) same.0 (spelt reads.text a.0.0 reads.spelt);
          parts = reads.parts ∙ ap (λ (z : List ℕ). reads.text ++ z) same.1;
        };
  }

-- a tag, and what follows it
pub tag_sound : {A V : Type 0} {Inner : Spelling A} {Spells : Spelling V} {read : Reading A} (code : ℕ) (into : A → V)
    → IsReader Inner read → ((text : List ℕ) (a : A) → SpellsTagged code Inner text a → Spells text (into a))
    → SoundCase SpellsByte Spells code (mapped_at into read)
tag_sound code into reader spelt =
    behind_sound into reader
    (λ front text a f inner. spelt (front ++ text) a (text, ap (λ (z : List ℕ). z ++ text) f, inner))

-- ---- what has this encoding is read after its number

-- the text begins with a number, after which the value is read
pub record IsFront {V : Type 0} (Front : Spelling ℕ) (read : Cases V) (text rest : List ℕ) (v : V) : Type 0 where
  pub code : ℕ
  pub front : List ℕ
  pub inside : List ℕ
  pub chooses : Front front code
  pub parts : text ≡ front ++ inside
  pub reads : read code (inside ++ rest) ≡ Some (v, rest)

abbrev pub CompleteCases : {V : Type 0} → Spelling ℕ → Spelling V → Cases V → Type 0
CompleteCases {V} Front Spells read =
    (text rest : List ℕ) (v : V) → Spells text v → IsFront Front read text rest v

-- the text begins with a byte
pub at_byte : {V : Type 0} {read : Cases V} {text rest : List ℕ} {v : V} (code : ℕ) (inside : List ℕ)
    → text ≡ code ∷ inside → read code (inside ++ rest) ≡ Some (v, rest) → IsFront SpellsByte read text rest v
at_byte code inside parts reads =
    record { code = code; front = code ∷ []; inside = inside; chooses = refl; parts = parts; reads = reads }

pub choice_reader : {V : Type 0} {Front : Spelling ℕ} {Spells : Spelling V} {read_front : Reading ℕ} {read : Cases V}
    → IsReader Front read_front → SoundCases Front Spells read → CompleteCases Front Spells read
    → IsReader Spells (chosen_at read_front read)
choice_reader {V} {Front} {Spells} {read_front} {read} front_reader sound_cases complete_cases = record {
  sound = λ bytes rest v e.
      let code = bind_some (read_front bytes) (λ (code : ℕ × List ℕ). read code.0 code.1) (v, rest) e in
      let front = front_reader.sound bytes code.0.1 code.0.0 code.1 in
      subst (λ (z : List ℕ). Reads Spells z v rest) (sym front.parts)
      (sound_cases.sound code.0.0 front.text code.0.1 rest v front.spelt code.2);
  complete = λ text rest v spelt.
      let is = complete_cases text rest v spelt in
      let regrouped : text ++ rest ≡ is.front ++ (is.inside ++ rest) =
      ap (λ (z : List ℕ). z ++ rest) is.parts ∙ append_assoc is.front is.inside rest in
      ap (chosen_at read_front read) regrouped
      ∙ rw (front_reader.complete is.front (is.inside ++ rest) is.code is.chooses) is.reads;
}

-- the text begins with an encoded number
pub at_number : {V : Type 0} {read : Cases V} {text rest : List ℕ} {v : V} (code : ℕ) (front inside : List ℕ)
    → SpellsUnsigned 32 front code → text ≡ front ++ inside → read code (inside ++ rest) ≡ Some (v, rest)
    → IsFront (SpellsUnsigned 32) read text rest v
at_number code front inside chooses parts reads =
    record { code = code; front = front; inside = inside; chooses = chooses; parts = parts; reads = reads }
