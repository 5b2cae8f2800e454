-- Bytes, vectors, sized parts and names are read as they are encoded.
use Rattle.std.proofs.Common.{List, [], ap, append_assoc, arith, cond, drop, eqb, false, length, length-append, length-take, ltb, refl, subst, suc, sym, take, zero, ℕ, ◌++◌, ◌∙◌, ◌∷◌, ◌≡◌, ◌≤◌}
use Rattle.std.specs.Prelude.{None, Option, Some}
use Rattle.std.proofs.lemmas.Bool.{eq-eqb, eqb-true, le-ltb, ltb-false}
use Rattle.std.proofs.lemmas.List.{append-nil, drop_at, nil_from_length, take-append-drop, take_at}
use Rattle.std.proofs.lemmas.Str.{IsUtf8-from_is_utf8, is_utf8-from_IsUtf8}
use Rattle.std.specs.Str.{is_utf8}
use Rattle.meaning.specs.binary.Conventions.{Reads, SpellsEach}
use Rattle.meaning.specs.binary.Instructions.{SpellsExactly}
use Rattle.meaning.specs.binary.Values.{SpellsByte, SpellsIndex, SpellsName, SpellsSized, SpellsUnsigned, SpellsVector}
use Rattle.core_types.specs.reading.Conventions.{Reading, ◌>>=◌}
use Rattle.core_types.specs.reading.Values.{begins_with, each_at, expected_at, index_at, unsigned_at, vector_at}
use Rattle.binary.specs.Values.{name_at, part_at, sized_at}
use Rattle.binary.proofs.exactness.Integers.{unsigned_reader}
use Rattle.binary.proofs.exactness.Readers.{IsReader, IsWholeReader, Spelling, begins, bind_some, found, found-injective, if_found, if_some, unless_some}

-- ---- a count, and that many values

module _ {V : Type 0} (Spells : Spelling V) (read : Reading V) (reader : IsReader Spells read) where
  -- what is read after other values
  record ReadsMore (front : List V) (bytes : List ℕ) (values : List V) (count : ℕ) (rest : List ℕ) : Type 0 where
    more : List V
    reads : Reads (SpellsEach Spells) bytes more rest
    all : values ≡ front ++ more
    counted : length more ≡ count

  each_sound : (count : ℕ) (front values : List V) (bytes rest : List ℕ)
      → each_at read count front bytes ≡ Some (values, rest) → ReadsMore front bytes values count rest
  unfolding each_at
  each_sound zero front values bytes rest e =
      let same = found-injective front values bytes rest e in
      record {
        more = [];
        reads = record { text = []; spelt = refl; parts = same.1 };
        all = sym same.0 ∙ sym (append-nil front);
        counted = refl;
      }
  each_sound (suc count) front values bytes rest e =
      let first =
      bind_some (read bytes) (λ value. each_at read count (front ++ value.0 ∷ []) value.1) (values, rest) e in
      let head = reader.sound bytes first.0.1 first.0.0 first.1 in
      let others = each_sound count (front ++ first.0.0 ∷ []) values first.0.1 rest first.2 in record {
        more = first.0.0 ∷ others.more;
        reads = record {
          text = head.text ++ others.reads.text;
          spelt = (head.text, others.reads.text, refl, head.spelt, others.reads.spelt);
          parts =
              head.parts ∙ ap (λ (z : List ℕ). head.text ++ z) others.reads.parts
              ∙ sym (append_assoc head.text others.reads.text rest);
        };
        all = others.all ∙ append_assoc front (first.0.0 ∷ []) others.more;
        counted = ap suc others.counted;
      }

  each_complete : (text rest : List ℕ) (front values : List V) → SpellsEach Spells text values
      → each_at read (length values) front (text ++ rest) ≡ Some (front ++ values, rest)
  unfolding each_at
  each_complete text rest front [] e =
      rw e (ap (λ (values : List V). found values rest) (sym (append-nil front)))
  each_complete text rest front (value ∷ values) (first, others, parts, spelt, more) =
      let regrouped : text ++ rest ≡ first ++ (others ++ rest) =
      ap (λ (z : List ℕ). z ++ rest) parts ∙ append_assoc first others rest in
      ap (each_at read (suc (length values)) front) regrouped
      ∙ rw (reader.complete first (others ++ rest) value spelt)
      (each_complete others rest (front ++ value ∷ []) values more)
      ∙ ap (λ (all : List V). found all rest) (append_assoc front (value ∷ []) values)

  pub vector_reader : IsReader (SpellsVector Spells) (vector_at read)
  unfolding vector_at
  vector_reader = record {
    sound = λ bytes rest values e.
        let count =
        bind_some (unsigned_at 32 bytes) (λ count. each_at read count.0 [] count.1) (values, rest) e in
        let first = (unsigned_reader 32).sound bytes count.0.1 count.0.0 count.1 in
        let others = each_sound count.0.0 [] values count.0.1 rest count.2 in
        let counted : count.0.0 ≡ length values = sym others.counted ∙ ap length (sym others.all) in record {
          text = first.text ++ others.reads.text;
          spelt = (
            first.text,
            others.reads.text,
            refl,
            subst (λ (n : ℕ). SpellsUnsigned 32 first.text n) counted first.spelt,
            subst (λ (vs : List V). SpellsEach Spells others.reads.text vs) (sym others.all) others.reads.spelt,
          );
          parts =
              first.parts ∙ ap (λ (z : List ℕ). first.text ++ z) others.reads.parts
              ∙ sym (append_assoc first.text others.reads.text rest);
        };
    complete = λ text rest values spelt.
        let regrouped : text ++ rest ≡ spelt.0 ++ (spelt.1 ++ rest) =
        ap (λ (z : List ℕ). z ++ rest) spelt.2 ∙ append_assoc spelt.0 spelt.1 rest in
        ap (λ (z : List ℕ). unsigned_at 32 z >>= λ count. each_at read count.0 [] count.1) regrouped
        ∙ rw ((unsigned_reader 32).complete spelt.0 (spelt.1 ++ rest) (length values) spelt.3)
        (each_complete spelt.1 rest [] values spelt.4);
  }

-- ---- a size, and that many bytes

abbrev pub SpellsPart : List ℕ → List ℕ → Type 0
SpellsPart bytes content = (size : List ℕ) × (bytes ≡ size ++ content) × SpellsUnsigned 32 size (length content)

-- what `part_at` does after the size
abbrev set_apart : ℕ × List ℕ → Option (List ℕ × List ℕ)
set_apart size = cond (ltb (length size.1) size.0) None (found (take size.0 size.1) (drop size.0 size.1))

part_sound : (bytes rest content : List ℕ) → part_at bytes ≡ Some (content, rest)
    → Reads SpellsPart bytes content rest
unfolding part_at
part_sound bytes rest content e =
    let size = bind_some (unsigned_at 32 bytes) set_apart (content, rest) e in
    let within = unless_some (ltb (length size.0.1) size.0.0) _ _ size.2 in
    let same =
    found-injective (take size.0.0 size.0.1) content (drop size.0.0 size.0.1) rest (ap Some within.1) in
    let first = (unsigned_reader 32).sound bytes size.0.1 size.0.0 size.1 in
    let long : size.0.0 ≤ length size.0.1 = ltb-false _ _ within.0 in
    let counted : size.0.0 ≡ length content = omega (arith, length-take size.0.0 size.0.1, ap length same.0) in
    let parts : size.0.1 ≡ content ++ rest =
    sym (take-append-drop size.0.0 size.0.1) ∙ ap (λ (z : List ℕ). z ++ drop size.0.0 size.0.1) same.0
    ∙ ap (λ (z : List ℕ). content ++ z) same.1 in
    record {
      text = first.text ++ content;
      spelt = (first.text, refl, subst (λ (n : ℕ). SpellsUnsigned 32 first.text n) counted first.spelt);
      parts =
          first.parts ∙ ap (λ (z : List ℕ). first.text ++ z) parts ∙ sym (append_assoc first.text content rest);
    }

part_complete : (text rest content : List ℕ) → SpellsPart text content
    → part_at (text ++ rest) ≡ Some (content, rest)
unfolding part_at
part_complete text rest content (size, parts, spelt) =
    let regrouped : text ++ rest ≡ size ++ (content ++ rest) =
    ap (λ (z : List ℕ). z ++ rest) parts ∙ append_assoc size content rest in
    let long : ltb (length (content ++ rest)) (length content) ≡ false =
    le-ltb _ _ (omega (arith, length-append content rest)) in
    ap (λ (z : List ℕ). unsigned_at 32 z >>= set_apart) regrouped
    ∙ rw (
      (unsigned_reader 32).complete size (content ++ rest) (length content) spelt,
      long,
      take_at content rest (length content) refl,
      drop_at content rest (length content) refl,
    ) refl

pub part_reader : IsReader SpellsPart part_at
part_reader = record { sound = part_sound; complete = part_complete }

-- ---- sized content

module _ {V : Type 0} (Spells : Spelling V) (read : Reading V) (reader : IsWholeReader Spells read) where
  -- what `sized_at` does after the part
  content_of : List ℕ × List ℕ → Option (V × List ℕ)
  content_of part = read part.0 >>= λ content. cond (eqb (length content.1) 0) (found content.0 part.1) None

  sized_sound : (bytes rest : List ℕ) (v : V) → sized_at read bytes ≡ Some (v, rest)
      → Reads (SpellsSized Spells) bytes v rest
  unfolding sized_at content_of
  sized_sound bytes rest v e =
      let part = bind_some (part_at bytes) content_of (v, rest) e in
      let content =
      bind_some (read part.0.0) (λ content. cond (eqb (length content.1) 0) (found content.0 part.0.1) None)
      (v, rest) part.2 in
      let whole = if_some (eqb (length content.0.1) 0) _ _ content.2 in
      let same = found-injective content.0.0 v part.0.1 rest (ap Some whole.1) in
      let nothing : content.0.1 ≡ [] = nil_from_length content.0.1 (eqb-true (length content.0.1) 0 whole.0) in
      let outer = part_reader.sound bytes part.0.1 part.0.0 part.1 in
      let inner =
      reader.sound part.0.0 v
      (content.1 ∙ ap (λ (z : List ℕ). found content.0.0 z) nothing ∙ ap (λ (w : V). found w []) same.0) in
      record {
        text = outer.text;
        spelt = (outer.spelt.0, part.0.0, outer.spelt.1, outer.spelt.2, inner);
        parts = outer.parts ∙ ap (λ (z : List ℕ). outer.text ++ z) same.1;
      }

  sized_complete : (text rest : List ℕ) (v : V) → SpellsSized Spells text v
      → sized_at read (text ++ rest) ≡ Some (v, rest)
  unfolding sized_at
  sized_complete text rest v (size, content, parts, spelt, inner) =
      rw (part_reader.complete text rest content (size, parts, spelt), reader.complete content v inner) refl

  pub sized_reader : IsReader (SpellsSized Spells) (sized_at read)
  sized_reader = record { sound = sized_sound; complete = sized_complete }

-- ---- names

pub bytes_of_each : (bytes name : List ℕ) → SpellsEach SpellsByte bytes name → bytes ≡ name
bytes_of_each bytes [] e = e
bytes_of_each bytes (byte ∷ name) (first, others, parts, spelt, more) =
    parts ∙ ap (λ (z : List ℕ). z ++ others) spelt
    ∙ ap (λ (z : List ℕ). byte ∷ z) (bytes_of_each others name more)

pub each_byte : (name : List ℕ) → SpellsEach SpellsByte name name
each_byte [] = refl
each_byte (byte ∷ name) = (byte ∷ [], name, refl, refl, each_byte name)

pub name_reader : IsReader SpellsName name_at
unfolding name_at
name_reader = record {
  sound = λ bytes rest name e.
      let part =
      bind_some (part_at bytes) (λ part. cond (is_utf8 part.0) (found part.0 part.1) None) (name, rest) e in
      let text = if_some (is_utf8 part.0.0) _ _ part.2 in
      let same = found-injective part.0.0 name part.0.1 rest (ap Some text.1) in
      let outer = part_reader.sound bytes part.0.1 part.0.0 part.1 in
      let spelt : SpellsName outer.text part.0.0 =
      ((outer.spelt.0, part.0.0, outer.spelt.1, outer.spelt.2, each_byte part.0.0), IsUtf8-from_is_utf8 part.0.0 text.0) in
      record {
        text = outer.text;
        spelt = subst (λ (n : List ℕ). SpellsName outer.text n) same.0 spelt;
        parts = outer.parts ∙ ap (λ (z : List ℕ). outer.text ++ z) same.1;
      };
  complete = λ text rest name spelt.
      let vector = spelt.0 in
      let part : SpellsPart text name =
      (vector.0, vector.2 ∙ ap (λ (z : List ℕ). vector.0 ++ z) (bytes_of_each vector.1 name vector.4), vector.3) in
      rw (part_reader.complete text rest name part, is_utf8-from_IsUtf8 name spelt.1) refl;
}

-- ---- expected bytes

expected_sound : (expected bytes rest : List ℕ) (nothing : Unit {0})
    → expected_at expected bytes ≡ Some (nothing, rest) → Reads (SpellsExactly expected) bytes nothing rest
unfolding expected_at
expected_sound [] bytes rest nothing e =
    record { text = []; spelt = refl; parts = (found-injective tt nothing bytes rest e).1 }
expected_sound (byte ∷ expected) bytes rest nothing e =
    let begun = if_found (begins_with byte bytes) (expected_at expected (drop 1 bytes)) (nothing, rest) e in
    let others = expected_sound expected (drop 1 bytes) rest nothing begun.1 in
    record {
      text = byte ∷ others.text;
      spelt = ap (λ (z : List ℕ). byte ∷ z) others.spelt;
      parts = begins byte bytes begun.0 ∙ ap (λ (z : List ℕ). byte ∷ z) others.parts;
    }

expected_complete : (expected rest : List ℕ) → expected_at expected (expected ++ rest) ≡ Some (tt, rest)
unfolding expected_at
expected_complete [] rest = refl
expected_complete (byte ∷ expected) rest = rw (eq-eqb byte byte refl) (expected_complete expected rest)

pub expected_reader : (expected : List ℕ) → IsReader (SpellsExactly expected) (expected_at expected)
expected_reader expected =
    record {
      sound = λ bytes rest nothing e. expected_sound expected bytes rest nothing e;
      complete =
          λ text rest nothing e. ap (λ (z : List ℕ). expected_at expected (z ++ rest)) e ∙ expected_complete expected rest;
    }

pub index_reader : IsReader SpellsIndex index_at
index_reader = unsigned_reader 32
