-- A reading function and the encoding that it reads: it is sound and complete.
use Rattle.std.proofs.Common.{Bool, List, [], ap, append_assoc, cond, drop, false, inl, inr, refl, subst, sym, true, ℕ, ◌++◌, ◌∙◌, ◌∷◌, ◌≡◌, ◌⊎◌}
use Rattle.std.specs.Prelude.{None, Option, Some}
use Rattle.std.proofs.lemmas.Bool.{eqb-true}
use Rattle.std.proofs.lemmas.List.{append-nil}
use Rattle.meaning.specs.binary.Conventions.{NoFront, Reads, SpellsBoth, SpellsPair, SpellsTagged}
use Rattle.core_types.specs.reading.Conventions.{Reading, ◌>>=◌}
use Rattle.core_types.specs.reading.Values.{begins_with}

-- The relation of bytes to the value that they encode.
abbrev pub Spelling : Type 0 → Type 1
Spelling V = List ℕ → V → Type 0

-- Sound: what is read has this encoding. Complete: what has this encoding is read, whatever follows.
pub record IsReader {V : Type 0} (Spells : Spelling V) (read : Reading V) : Type 0 where
  pub sound : (bytes rest : List ℕ) (v : V) → read bytes ≡ Some (v, rest) → Reads Spells bytes v rest
  pub complete : (text rest : List ℕ) (v : V) → Spells text v → read (text ++ rest) ≡ Some (v, rest)

abbrev pub found : {A B : Type 0} → A → B → Option (A × B)
found a b = Some (a, b)

pub found-injective : {A B : Type 0} (a c : A) (b d : B) → found a b ≡ found c d → (a ≡ c) × (b ≡ d)
found-injective {A} {B} a c b d e =
    let same : ◌≡◌ {A = A × B} (a, b) (c, d) = cc in
    (ap (λ (p : A × B). p.0) same, ap (λ (p : A × B). p.1) same)

pub bind_some : {A B : Type 0} (read : Option A) (next : A → Option B) (y : B) → (read >>= next) ≡ Some y
    → (x : A) × (read ≡ Some x) × (next x ≡ Some y)
bind_some (Some x) next y e = (x, refl, e)
bind_some None next y e = absurd cc

-- The branch that a test selected.
pub chosen : {A : Type 0} (b : Bool) (x y z : A) → cond b x y ≡ z
    → ((b ≡ true) × (x ≡ z)) ⊎ ((b ≡ false) × (y ≡ z))
chosen true x y z e = inl (refl, e)
chosen false x y z e = inr (refl, e)

pub if_some : {A : Type 0} (b : Bool) (x y : A) → cond b (Some x) None ≡ Some y → (b ≡ true) × (x ≡ y)
if_some true x y e = (refl, cc)
if_some false x y e = absurd cc

pub if_found : {A : Type 0} (b : Bool) (read : Option A) (y : A) → cond b read None ≡ Some y
    → (b ≡ true) × (read ≡ Some y)
if_found true read y e = (refl, e)
if_found false read y e = absurd cc

pub if_bind : {A B : Type 0} (b : Bool) (read : Option A) (next : A → Option B) (y : B)
    → cond b (read >>= next) None ≡ Some y → (b ≡ true) × ((x : A) × (read ≡ Some x) × (next x ≡ Some y))
if_bind true read next y e = (refl, bind_some read next y e)
if_bind false read next y e = absurd cc

pub unless_some : {A : Type 0} (b : Bool) (x y : A) → cond b None (Some x) ≡ Some y → (b ≡ false) × (x ≡ y)
unless_some true x y e = absurd cc
unless_some false x y e = (refl, cc)

module _ {V : Type 0} {Spells : Spelling V} {read : Reading V} where
  pub read_some : (bytes rest : List ℕ) (v : V) → IsReader Spells read → Reads Spells bytes v rest
      → read bytes ≡ Some (v, rest)
  read_some bytes rest v reader reads = ap read reads.parts ∙ reader.complete reads.text rest v reads.spelt

  pub read_none : (bytes : List ℕ) → IsReader Spells read → NoFront Spells bytes → read bytes ≡ None
  read_none bytes reader none = by_case (read bytes) refl
    where
      by_case : (answer : Option (V × List ℕ)) → read bytes ≡ answer → answer ≡ None
      by_case None e = refl
      by_case (Some (v, rest)) e = let reads = reader.sound bytes rest v e in absurd (none reads.text rest v reads.parts reads.spelt)

-- The same for all of the bytes.
pub record IsWholeReader {V : Type 0} (Spells : Spelling V) (read : Reading V) : Type 0 where
  pub sound : (bytes : List ℕ) (v : V) → read bytes ≡ Some (v, []) → Spells bytes v
  pub complete : (bytes : List ℕ) (v : V) → Spells bytes v → read bytes ≡ Some (v, [])

pub whole_reader : {V : Type 0} (Spells : Spelling V) (read : Reading V) → IsReader Spells read
    → IsWholeReader Spells read
whole_reader {V} Spells read reader = record {
  sound = λ bytes v e.
      let reads = reader.sound bytes [] v e in
      subst (λ (text : List ℕ). Spells text v) (sym (reads.parts ∙ append-nil reads.text)) reads.spelt;
  complete = λ bytes v spelt. ap read (sym (append-nil bytes)) ∙ reader.complete bytes [] v spelt;
}

-- What is read and mapped to another value.
pub mapped_sound : {V W : Type 0} {Spells : Spelling V} {read : Reading V} (into : V → W) → IsReader Spells read
    → (bytes rest : List ℕ) (w : W) → (read bytes >>= λ v. found (into v.0) v.1) ≡ Some (w, rest)
    → (v : V) × Reads Spells bytes v rest × (into v ≡ w)
mapped_sound {Spells = Spells} {read = read} into reader bytes rest w e =
    let value = bind_some (read bytes) (λ v. found (into v.0) v.1) (w, rest) e in
    let same = found-injective (into value.0.0) w value.0.1 rest value.2 in
    (value.0.0, subst (λ (after : List ℕ). Reads Spells bytes value.0.0 after) same.1 (reader.sound bytes value.0.1 value.0.0 value.1), same.0)

reads_both : {A B : Type 0} {First : Spelling A} {Second : Spelling B} {bytes between rest : List ℕ} {a : A} {b : B}
    → Reads First bytes a between → Reads Second between b rest
    → Reads (SpellsPair First Second) bytes (a, b) rest
reads_both {rest = rest} front back = record {
  text = front.text ++ back.text;
  spelt = (front.text, back.text, refl, front.spelt, back.spelt);
  parts =
      front.parts ∙ ap (λ (z : List ℕ). front.text ++ z) back.parts
      ∙ sym (append_assoc front.text back.text rest);
}

module _ {A B : Type 0} {First : Spelling A} {Second : Spelling B} {read : Reading A} {next : Reading B} where
  pub both_sound : {W : Type 0} (joined : A → B → W) → IsReader First read → IsReader Second next
      → (bytes rest : List ℕ) (w : W)
      → (read bytes >>= λ a. next a.1 >>= λ b. found (joined a.0 b.0) b.1) ≡ Some (w, rest)
      → (a : A) × (b : B) × Reads (SpellsPair First Second) bytes (a, b) rest × (joined a b ≡ w)
  both_sound joined reader reader_next bytes rest w e =
      let first = bind_some (read bytes) (λ a. next a.1 >>= λ b. found (joined a.0 b.0) b.1) (w, rest) e in
      let second = bind_some (next first.0.1) (λ b. found (joined first.0.0 b.0) b.1) (w, rest) first.2 in
      let same = found-injective (joined first.0.0 second.0.0) w second.0.1 rest second.2 in
      let front = reader.sound bytes first.0.1 first.0.0 first.1 in
      let back = reader_next.sound first.0.1 second.0.1 second.0.0 second.1 in
      (first.0.0, second.0.0, reads_both front (subst (λ (after : List ℕ). Reads Second first.0.1 second.0.0 after) same.1 back), same.0)

  pub both_complete : {W : Type 0} (joined : A → B → W) → IsReader First read → IsReader Second next
      → (text rest : List ℕ) (a : A) (b : B) → SpellsBoth First Second text a b
      → (read (text ++ rest) >>= λ a. next a.1 >>= λ b. found (joined a.0 b.0) b.1) ≡ Some (joined a b, rest)
  both_complete {W} joined reader reader_next text rest a b (first, second, parts, spelt, spelt_next) =
      let regrouped : text ++ rest ≡ first ++ (second ++ rest) =
      ap (λ (z : List ℕ). z ++ rest) parts ∙ append_assoc first second rest in
      let on : A × List ℕ → Option (W × List ℕ) = λ a. next a.1 >>= λ b. found (joined a.0 b.0) b.1 in
      ap (λ (z : List ℕ). read z >>= on) regrouped
      ∙ rw (reader.complete first (second ++ rest) a spelt, reader_next.complete second rest b spelt_next) refl

-- ---- what follows from what was read

-- the same text, as another encoding
pub reads_as : {V W : Type 0} {Spells : Spelling V} {Others : Spelling W} {bytes rest : List ℕ} {v : V} {w : W}
    → Reads Spells bytes v rest → ((text : List ℕ) → Spells text v → Others text w) → Reads Others bytes w rest
reads_as reads so = record { text = reads.text; spelt = so reads.text reads.spelt; parts = reads.parts }

pub tagged : {V : Type 0} {Spells : Spelling V} {bytes inside rest : List ℕ} {v : V} (tag : ℕ)
    → bytes ≡ tag ∷ inside → Reads Spells inside v rest → Reads (SpellsTagged tag Spells) bytes v rest
tagged tag begun reads =
    record {
      text = tag ∷ reads.text;
      spelt = (reads.text, refl, reads.spelt);
      parts = begun ∙ ap (λ (z : List ℕ). tag ∷ z) reads.parts;
    }

pub begins : (byte : ℕ) (bytes : List ℕ) → begins_with byte bytes ≡ true → bytes ≡ byte ∷ drop 1 bytes
begins byte [] e = absurd cc
begins byte (first ∷ bytes) e = ap (λ (b : ℕ). b ∷ bytes) (eqb-true first byte e)
