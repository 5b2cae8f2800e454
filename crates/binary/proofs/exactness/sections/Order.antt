-- Sections in their order: the sections from one on, combined from that section and those after it.
use Rattle.std.proofs.Common.{Bool, List, [], ap, cond, drop, eqb, false, inl, inr, length, refl, subst, sym, true, ℕ, ◌++◌, ◌∙◌, ◌∷◌, ◌≡◌, ◌⊎◌}
use Rattle.std.specs.Prelude.{None, Option, Some}
use Rattle.std.proofs.lemmas.Bool.{eq-eqb, eqb-true}
use Rattle.std.proofs.lemmas.List.{append-nil, nil_from_length}
use Rattle.core_types.specs.declared.module.Func.{Func}
use Rattle.meaning.specs.binary.Conventions.{SpellsTagged}
use Rattle.meaning.specs.binary.Modules.{HasValue, HasVector, IsCustomSections, SpellsCode, ◌▷◌}
use Rattle.meaning.specs.binary.Values.{SpellsSized, SpellsVector}
use Rattle.core_types.specs.reading.Conventions.{Reading, mapped_at, ◌>>=◌}
use Rattle.binary.specs.Modules.{then_at}
use Rattle.binary.specs.Expressions.{expression_at}
use Rattle.binary.specs.Sections.{after_customs, end_at, functions_at, section_at}
use Rattle.core_types.specs.reading.Values.{begins_with, vector_at}
use Rattle.binary.specs.Values.{sized_at}
use Rattle.binary.proofs.exactness.Choices.{mapped_reader}
use Rattle.binary.proofs.exactness.Readers.{IsReader, Spelling, begins, bind_some, chosen, found, found-injective, if_some, tagged, whole_reader}
use Rattle.binary.proofs.exactness.Values.{sized_reader, vector_reader}
use Rattle.binary.proofs.exactness.sections.Code.{SpellsFunctionsOf, functions_reader, type_indices}
use Rattle.binary.proofs.exactness.sections.Custom.{after_customs-append, after_customs_skips, after_customs_stays}

-- Whether the number is one of these.
abbrev pub is_among : List ℕ → ℕ → Bool
is_among [] n = false
is_among (id ∷ ids) n = cond (eqb id n) true (is_among ids n)

not_among : (id n : ℕ) (ids : List ℕ) → is_among (id ∷ ids) n ≡ false
    → (eqb id n ≡ false) × (is_among ids n ≡ false)
not_among id n ids e = by_case (eqb id n) refl e
  where
    by_case : (b : Bool) → eqb id n ≡ b → cond b true (is_among ids n) ≡ false
        → (eqb id n ≡ false) × (is_among ids n ≡ false)
    by_case true same e = absurd cc
    by_case false same e = (same, e)

-- After custom sections comes a section with one of these ids, or nothing.
pub record BeginsAmong (ids bytes : List ℕ) : Type 0 where
  pub rest : List ℕ
  pub skips : after_customs bytes ≡ Some (tt, rest)
  pub none : (other : ℕ) → is_among ids other ≡ false → begins_with other rest ≡ false

-- The sections from one on: how they are encoded, the relation between their values, and a reader that is sound and complete. It reads
-- the same from other bytes that differ in custom sections only.
pub record SectionsReader (ids : List ℕ) (W : Type 0) : Type 1 where
  pub Spells : W → List ℕ → Type 0
  pub Agrees : W → Type 0
  pub read : Reading W
  pub sound : (bytes rest : List ℕ) (w : W) → read bytes ≡ Some (w, rest) → Spells w bytes × Agrees w
  pub complete : (bytes other : List ℕ) (w : W) → Spells w bytes → Agrees w
      → after_customs other ≡ after_customs bytes → read other ≡ Some (w, [])
  pub starts : (bytes : List ℕ) (w : W) → Spells w bytes → Agrees w → BeginsAmong ids bytes

-- ---- the end of the module

skips_all : (bytes : List ℕ) → IsCustomSections bytes → after_customs bytes ≡ Some (tt, [])
skips_all bytes customs =
    ap after_customs (sym (append-nil bytes)) ∙ after_customs-append bytes [] customs
    ∙ after_customs_stays [] refl

pub end_sound : (bytes rest : List ℕ) (nothing : Unit {0}) → end_at bytes ≡ Some (nothing, rest)
    → IsCustomSections bytes × Unit {0}
unfolding end_at
end_sound bytes rest nothing e =
    let customs =
    bind_some (after_customs bytes) (λ customs. cond (eqb (length customs.1) 0) (found tt customs.1) None)
    (nothing, rest) e in
    let ends = if_some (eqb (length customs.0.1) 0) (tt, customs.0.1) (nothing, rest) customs.2 in
    let skips = after_customs_skips bytes customs.0.1 customs.1 in
    let empty = nil_from_length customs.0.1 (eqb-true _ _ ends.0) in
    let whole : bytes ≡ skips.customs =
    skips.parts ∙ ap (λ (z : List ℕ). skips.customs ++ z) empty ∙ append-nil skips.customs in
    (subst IsCustomSections (sym whole) skips.spelt, tt)

pub end_complete : (bytes other : List ℕ) (nothing : Unit {0}) → IsCustomSections bytes → Unit {0}
    → after_customs other ≡ after_customs bytes → end_at other ≡ Some (nothing, [])
unfolding end_at
end_complete bytes other nothing customs agrees same = rw (same ∙ skips_all bytes customs) refl

pub end_starts : (bytes : List ℕ) (nothing : Unit {0}) → IsCustomSections bytes → Unit {0}
    → BeginsAmong [] bytes
end_starts bytes nothing customs agrees =
    record { rest = []; skips = skips_all bytes customs; none = λ other apart. refl }

abbrev pub end_of_module : SectionsReader [] (Unit {0})
end_of_module = record {
  Spells = λ nothing. IsCustomSections;
  Agrees = λ nothing. Unit {0};
  read = end_at;
  sound = end_sound;
  complete = end_complete;
  starts = end_starts;
}

-- ---- one section

-- The section exists, or its absence gives the value.
abbrev pub SpellsOptional : {V : Type 0} → ℕ → (List ℕ → V → Type 0) → Option V → V → List ℕ → Type 0
SpellsOptional {V} id Content absent v section =
    SpellsTagged id (SpellsSized Content) section v ⊎ ((section ≡ []) × (absent ≡ Some v))

-- A section is encoded, and its value fits, if its content has this encoding or its absence gives the value.
pub record IsSection {V : Type 0} (id : ℕ) (Spells : V → List ℕ → Type 0) (Fits : V → Type 0) (read : Reading V)
    (absent : Option V) : Type 1 where
  pub Content : List ℕ → V → Type 0
  pub reader : IsReader Content read
  pub into : (v : V) (section : List ℕ) → SpellsOptional id Content absent v section → Spells v section × Fits v
  pub from : (v : V) (section : List ℕ) → Spells v section → Fits v → SpellsOptional id Content absent v section

module _ {V : Type 0} (id : ℕ) (Content : Spelling V) (read : Reading V) (absent : Option V)
    (reader : IsReader Content read) where
  content_reader : IsReader (SpellsSized Content) (sized_at read)
  content_reader = sized_reader Content read (whole_reader Content read reader)

  record SkipsAndReads (bytes rest : List ℕ) (v : V) : Type 0 where
    customs : List ℕ
    section : List ℕ
    parts : bytes ≡ customs ++ (section ++ rest)
    spelt : IsCustomSections customs
    optional : SpellsOptional id Content absent v section

  -- what `section_at` does after custom sections
  abbrev behind_customs : Unit {0} × List ℕ → Option (V × List ℕ)
  behind_customs customs =
      cond (begins_with id customs.1) (sized_at read (drop 1 customs.1)) (absent >>= λ v. found v customs.1)

  section_sound : (bytes rest : List ℕ) (v : V) → section_at id read absent bytes ≡ Some (v, rest)
      → SkipsAndReads bytes rest v
  unfolding section_at
  section_sound bytes rest v e =
      let customs = bind_some (after_customs bytes) behind_customs (v, rest) e in
      let skips = after_customs_skips bytes customs.0.1 customs.1 in
      let missing_reads = absent >>= λ v. found v customs.0.1 in
      elim (chosen (begins_with id customs.0.1) (sized_at read (drop 1 customs.0.1)) missing_reads (found v rest) customs.2) [
        | inl present ↦
            let reads =
            tagged id (begins id customs.0.1 present.0)
            (content_reader.sound (drop 1 customs.0.1) rest v present.1) in
            record {
              customs = skips.customs;
              section = reads.text;
              parts = skips.parts ∙ ap (λ (z : List ℕ). skips.customs ++ z) reads.parts;
              spelt = skips.spelt;
              optional = inl reads.spelt;
            }
        | inr missing ↦
            let value = bind_some absent (λ (v : V). found v customs.0.1) (v, rest) missing.1 in
            let same = found-injective value.0 v customs.0.1 rest value.2 in
            record {
              customs = skips.customs;
              section = [];
              parts = skips.parts ∙ ap (λ (z : List ℕ). skips.customs ++ z) same.1;
              spelt = skips.spelt;
              optional = inr (refl, value.1 ∙ ap Some same.0);
            }
      ]

  section_at-customs : (bytes other : List ℕ) → after_customs other ≡ after_customs bytes
      → section_at id read absent other ≡ section_at id read absent bytes
  unfolding section_at
  section_at-customs bytes other same = rw same refl

  record ReadsSection (ids bytes rest : List ℕ) (v : V) : Type 0 where
    after : List ℕ
    reads : section_at id read absent bytes ≡ Some (v, after)
    same : after_customs after ≡ after_customs rest
    starts : BeginsAmong (id ∷ ids) bytes

  section_complete : (ids : List ℕ) → eqb id 0 ≡ false → is_among ids id ≡ false
      → (customs section rest : List ℕ) (v : V) → IsCustomSections customs
      → SpellsOptional id Content absent v section → BeginsAmong ids rest
      → ReadsSection ids (customs ++ (section ++ rest)) rest v
  unfolding section_at
  section_complete ids not_zero apart customs section rest v spelt (inl (content, parts, inside)) behind =
      let bytes : List ℕ = id ∷ (content ++ rest) in
      let regrouped : section ++ rest ≡ bytes = ap (λ (z : List ℕ). z ++ rest) parts in
      let skips : after_customs (customs ++ (section ++ rest)) ≡ Some (tt, bytes) =
      after_customs-append customs (section ++ rest) spelt ∙ ap after_customs regrouped ∙ after_customs_stays bytes not_zero in record {
        after = rest;
        reads = rw (skips, eq-eqb id id refl) (content_reader.complete content rest v inside);
        same = refl;
        starts = record { rest = bytes; skips = skips; none = λ other none. (not_among id other ids none).0 };
      }
  section_complete ids not_zero apart customs section rest v spelt (inr (nothing, absent_is)) behind =
      let skips : after_customs (customs ++ (section ++ rest)) ≡ Some (tt, behind.rest) =
      after_customs-append customs (section ++ rest) spelt
      ∙ ap (λ (z : List ℕ). after_customs (z ++ rest)) nothing ∙ behind.skips in
      let stops = (after_customs_skips rest behind.rest behind.skips).stops in record {
        after = behind.rest;
        reads = rw (skips, behind.none id apart, absent_is) refl;
        same = after_customs_stays behind.rest stops ∙ sym behind.skips;
        starts =
            record { rest = behind.rest; skips = skips; none = λ other none. behind.none other (not_among id other ids none).1 };
      }

-- ---- a section, and those after it

module _ {V W : Type 0} {id : ℕ} {ids : List ℕ} {Spells : V → List ℕ → Type 0} {Fits : V → Type 0} {read : Reading V}
    {absent : Option V} (section : IsSection id Spells Fits read absent) (not_zero : eqb id 0 ≡ false)
    (apart : is_among ids id ≡ false) (next : V → SectionsReader ids W) where
  abbrev SpellsBefore : V × W → List ℕ → Type 0
  SpellsBefore w = Spells w.0 ▷ (next w.0).Spells w.1

  abbrev AgreesBefore : V × W → Type 0
  AgreesBefore w = Fits w.0 × (next w.0).Agrees w.1

  abbrev read_before : Reading (V × W)
  read_before = then_at (section_at id read absent) (λ v. (next v).read)

  pub before_sound : (bytes rest : List ℕ) (w : V × W) → read_before bytes ≡ Some (w, rest)
      → SpellsBefore w bytes × AgreesBefore w
  before_sound bytes rest w e =
      let here =
      bind_some (section_at id read absent bytes) (λ a. (next a.0).read a.1 >>= λ b. found (a.0, b.0) b.1)
      (w, rest) e in
      let behind =
      bind_some ((next here.0.0).read here.0.1) (λ b. found (here.0.0, b.0) b.1) (w, rest) here.2 in
      let same = found-injective (here.0.0, behind.0.0) w behind.0.1 rest behind.2 in
      let reads = section_sound id section.Content read absent section.reader bytes here.0.1 here.0.0 here.1 in
      let (spelt, fits) = section.into here.0.0 reads.section reads.optional in
      let (follows, agrees) = (next here.0.0).sound here.0.1 behind.0.1 behind.0.0 behind.1 in
      subst (λ (w : V × W). SpellsBefore w bytes × AgreesBefore w) same.0
      ((reads.customs, reads.section, here.0.1, reads.parts, reads.spelt, spelt, follows), (fits, agrees))

  before_reads : (customs here rest : List ℕ) (w : V × W) → IsCustomSections customs → Spells w.0 here
      → (next w.0).Spells w.1 rest → AgreesBefore w
      → ReadsSection id section.Content read absent section.reader ids (customs ++ (here ++ rest)) rest w.0
  before_reads customs here rest w spelt has follows (fits, agrees) =
      section_complete id section.Content read absent section.reader ids not_zero apart customs here rest w.0 spelt
      (section.from w.0 here has fits) ((next w.0).starts rest w.1 follows agrees)

  pub before_complete : (bytes other : List ℕ) (w : V × W) → SpellsBefore w bytes → AgreesBefore w
      → after_customs other ≡ after_customs bytes → read_before other ≡ Some (w, [])
  before_complete bytes other w (customs, here, rest, parts, spelt, has, follows) (fits, agrees) same =
      let reads = before_reads customs here rest w spelt has follows (fits, agrees) in
      let first : section_at id read absent other ≡ Some (w.0, reads.after) =
      section_at-customs id section.Content read absent section.reader (customs ++ (here ++ rest)) other
      (same ∙ ap after_customs parts) ∙ reads.reads in
      ap (λ (s : Option (V × List ℕ)). s >>= λ a. (next a.0).read a.1 >>= λ b. found (a.0, b.0) b.1) first
      ∙ rw ((next w.0).complete rest reads.after w.1 follows agrees reads.same) refl

  pub before_starts : (bytes : List ℕ) (w : V × W) → SpellsBefore w bytes → AgreesBefore w
      → BeginsAmong (id ∷ ids) bytes
  before_starts bytes w (customs, here, rest, parts, spelt, has, follows) agrees =
      subst (BeginsAmong (id ∷ ids)) (sym parts)
      (before_reads customs here rest w spelt has follows agrees).starts

  abbrev pub section_before : SectionsReader (id ∷ ids) (V × W)
  section_before = record {
    Spells = SpellsBefore;
    Agrees = AgreesBefore;
    read = read_before;
    sound = before_sound;
    complete = before_complete;
    starts = before_starts;
  }

-- ---- the same sections, with their values in another shape

module _ {W X : Type 0} {ids : List ℕ} (into : W → X) (parts : X → W) (parts_into : (w : W) → parts (into w) ≡ w)
    (into_parts : (x : X) → into (parts x) ≡ x) (s : SectionsReader ids W) where
  pub mapped_sections_sound : (bytes rest : List ℕ) (x : X) → mapped_at into s.read bytes ≡ Some (x, rest)
      → s.Spells (parts x) bytes × s.Agrees (parts x)
  mapped_sections_sound bytes rest x e =
      let w = bind_some (s.read bytes) (λ w. found (into w.0) w.1) (x, rest) e in
      let same = found-injective (into w.0.0) x w.0.1 rest w.2 in
      let here : parts x ≡ w.0.0 = ap parts (sym same.0) ∙ parts_into w.0.0 in
      subst (λ (w : W). s.Spells w bytes × s.Agrees w) (sym here) (s.sound bytes w.0.1 w.0.0 w.1)

  pub mapped_sections_complete : (bytes other : List ℕ) (x : X) → s.Spells (parts x) bytes → s.Agrees (parts x)
      → after_customs other ≡ after_customs bytes → mapped_at into s.read other ≡ Some (x, [])
  mapped_sections_complete bytes other x spelt agrees same =
      rw (s.complete bytes other (parts x) spelt agrees same) (ap (λ (y : X). found y []) (into_parts x))

  pub mapped_sections_start : (bytes : List ℕ) (x : X) → s.Spells (parts x) bytes → s.Agrees (parts x) → BeginsAmong ids bytes
  mapped_sections_start bytes x spelt agrees = s.starts bytes (parts x) spelt agrees

  abbrev pub mapped_sections : SectionsReader ids X
  mapped_sections = record {
    Spells = λ x. s.Spells (parts x);
    Agrees = λ x. s.Agrees (parts x);
    read = mapped_at into s.read;
    sound = mapped_sections_sound;
    complete = mapped_sections_complete;
    starts = mapped_sections_start;
  }

-- ---- the kinds of sections

-- A section with a vector.
module _ {V : Type 0} {Spells : Spelling V} {read : Reading V} (id : ℕ) (reader : IsReader Spells read) where
  pub vector_into : (values : List V) (section : List ℕ)
      → SpellsOptional id (SpellsVector Spells) (Some []) values section
      → HasVector id Spells values section × Unit {0}
  vector_into values section (inl present) = (inl present, tt)
  vector_into values section (inr (empty, e)) = let same : values ≡ [] = cc in (inr (empty, same), tt)

  pub vector_from : (values : List V) (section : List ℕ) → HasVector id Spells values section → Unit {0}
      → SpellsOptional id (SpellsVector Spells) (Some []) values section
  vector_from values section (inl present) nothing = inl present
  vector_from values section (inr (empty, e)) nothing = inr (empty, ap Some (sym e))

  abbrev pub vector_section : IsSection id (HasVector id Spells) (λ values. Unit {0}) (vector_at read) (Some [])
  vector_section =
      record {
        Content = SpellsVector Spells;
        reader = vector_reader Spells read reader;
        into = vector_into;
        from = vector_from;
      }

-- A section with a value.
module _ {V : Type 0} {Spells : Spelling V} {read : Reading V} (id : ℕ) (reader : IsReader Spells read) where
  abbrev SpellsSome : List ℕ → Option V → Type 0
  SpellsSome bytes None = ⊥
  SpellsSome bytes (Some v) = Spells bytes v

  pub some_reader : IsReader SpellsSome (mapped_at Some read)
  some_reader = mapped_reader Some reader (λ text v spelt. spelt) back
    where
      back : (text : List ℕ) (value : Option V) → SpellsSome text value
          → (v : V) × Spells text v × (Some v ≡ value)
      back text None spelt = absurd spelt
      back text (Some v) spelt = (v, spelt, refl)

  pub value_into : (value : Option V) (section : List ℕ)
      → SpellsOptional id SpellsSome (Some None) value section → HasValue id Spells value section × Unit {0}
  value_into None section (inl (content, tag, (size, inside, parts, counted, spelt))) = absurd spelt
  value_into None section (inr (empty, e)) = (empty, tt)
  value_into (Some v) section (inl (content, tag, (size, inside, parts, counted, spelt))) =
      ((content, tag, (size, inside, parts, counted, spelt)), tt)
  value_into (Some v) section (inr (empty, e)) = absurd cc

  pub value_from : (value : Option V) (section : List ℕ) → HasValue id Spells value section → Unit {0}
      → SpellsOptional id SpellsSome (Some None) value section
  value_from None section empty nothing = inr (empty, refl)
  value_from (Some v) section (content, tag, (size, inside, parts, counted, spelt)) nothing =
      inl (content, tag, (size, inside, parts, counted, spelt))

  abbrev pub value_section : IsSection id (HasValue id Spells) (λ value. Unit {0}) (mapped_at Some read) (Some None)
  value_section = record { Content = SpellsSome; reader = some_reader; into = value_into; from = value_from }

-- The code section, whose functions have types of these indices.
module _ (types : List ℕ) where
  abbrev no_code : Option (List Func)
  no_code = cond (eqb (length types) 0) (Some []) None

  none_without_code : (funcs : List Func) → no_code ≡ Some funcs → (types ≡ []) × (funcs ≡ [])
  none_without_code funcs e =
      let empty = if_some (eqb (length types) 0) [] funcs e in
      (nil_from_length types (eqb-true _ _ empty.0), sym empty.1)

  pub code_into : (funcs : List Func) (section : List ℕ)
      → SpellsOptional 10 (SpellsFunctionsOf types) no_code funcs section
      → HasVector 10 SpellsCode funcs section × (type_indices funcs ≡ types)
  code_into funcs section (inl (content, tag, (size, inside, parts, counted, (vector, indices)))) =
      (inl (content, tag, (size, inside, parts, counted, vector)), indices)
  code_into funcs section (inr (empty, e)) =
      let nothing = none_without_code funcs e in
      (inr (empty, nothing.1), ap type_indices nothing.1 ∙ sym nothing.0)

  pub code_from : (funcs : List Func) (section : List ℕ) → HasVector 10 SpellsCode funcs section
      → type_indices funcs ≡ types → SpellsOptional 10 (SpellsFunctionsOf types) no_code funcs section
  code_from funcs section (inl (content, tag, (size, inside, parts, counted, vector))) indices =
      inl (content, tag, (size, inside, parts, counted, (vector, indices)))
  code_from funcs section (inr (empty, e)) indices =
      let nothing : types ≡ [] = sym indices ∙ ap type_indices e in
      inr (empty, rw (nothing, e) refl)

  abbrev pub code_section : IsSection 10 (HasVector 10 SpellsCode) (λ funcs. type_indices funcs ≡ types)
      (functions_at expression_at types) no_code
  code_section =
      record {
        Content = SpellsFunctionsOf types;
        reader = functions_reader types;
        into = code_into;
        from = code_from;
      }
