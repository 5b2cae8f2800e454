-- Custom sections are skipped as they are encoded.
use Rattle.std.proofs.Common.{Bool, List, [], ap, append_assoc, arith, drop, false, inl, inr, length, length-append, refl, suc, sym, true, zero, ℕ, ◌++◌, ◌<◌, ◌∙◌, ◌∷◌, ◌≡◌, ◌≤◌}
use Rattle.std.specs.Prelude.{None, Option, Some}
use Rattle.std.proofs.lemmas.List.{nil_from_length}
use Rattle.meaning.specs.binary.Conventions.{Reads, SpellsEach}
use Rattle.meaning.specs.binary.Modules.{IsCustomSections, SpellsCustom, SpellsSection}
use Rattle.meaning.specs.binary.Values.{SpellsSized}
use Rattle.core_types.specs.reading.Conventions.{◌>>=◌}
use Rattle.binary.specs.Sections.{after_customs, custom_at, customs_at}
use Rattle.core_types.specs.reading.Values.{begins_with}
use Rattle.binary.specs.Values.{name_at, part_at}
use Rattle.binary.proofs.exactness.Readers.{begins, bind_some, chosen, found, found-injective, tagged}
use Rattle.binary.proofs.exactness.Values.{name_reader, part_reader}

-- ---- one custom section

pub custom_sound : (bytes rest : List ℕ) → custom_at bytes ≡ Some (tt, rest)
    → (name : List ℕ) × Reads (SpellsSized SpellsCustom) bytes name rest
unfolding custom_at
custom_sound bytes rest e =
    let part = bind_some (part_at bytes) (λ part. name_at part.0 >>= λ name. found tt part.1) (tt, rest) e in
    let name = bind_some (name_at part.0.0) (λ name. found tt part.0.1) (tt, rest) part.2 in
    let same = found-injective tt tt part.0.1 rest name.2 in
    let outer = part_reader.sound bytes part.0.1 part.0.0 part.1 in
    let inner = name_reader.sound part.0.0 name.0.1 name.0.0 name.1 in (
      name.0.0,
      record {
        text = outer.text;
        spelt =
            (outer.spelt.0, part.0.0, outer.spelt.1, outer.spelt.2, (inner.text, name.0.1, inner.parts, inner.spelt));
        parts = outer.parts ∙ ap (λ (z : List ℕ). outer.text ++ z) same.1;
      },
    )

custom_complete : (text rest name : List ℕ) → SpellsSized SpellsCustom text name
    → custom_at (text ++ rest) ≡ Some (tt, rest)
unfolding custom_at
custom_complete text rest name (size, content, parts, counted, (front, unread, inside, spelt)) =
    let read : name_at content ≡ Some (name, unread) =
    ap name_at inside ∙ name_reader.complete front unread name spelt in
    rw (part_reader.complete text rest content (size, parts, counted), read) refl

pub custom_shorter : (bytes after : List ℕ) → custom_at (drop 1 bytes) ≡ Some (tt, after)
    → begins_with 0 bytes ≡ true → length after < length bytes
custom_shorter bytes after e begun =
    let (name, reads) = custom_sound (drop 1 bytes) after e in
    omega (arith, ap length (begins 0 bytes begun), ap length reads.parts, length-append reads.text after)

-- ---- custom sections in a row

-- the front of the bytes is custom sections, and the rest doesn't begin with one
pub record SkipsCustoms (bytes rest : List ℕ) : Type 0 where
  pub customs : List ℕ
  pub spelt : IsCustomSections customs
  pub parts : bytes ≡ customs ++ rest
  pub stops : begins_with 0 rest ≡ false

skips_one : (bytes after rest : List ℕ) → begins_with 0 bytes ≡ true
    → custom_at (drop 1 bytes) ≡ Some (tt, after) → SkipsCustoms after rest → SkipsCustoms bytes rest
skips_one bytes after rest begun e others =
    let (name, reads) = custom_sound (drop 1 bytes) after e in
    let first = tagged 0 (begins 0 bytes begun) reads in record {
      customs = first.text ++ others.customs;
      spelt = (name ∷ others.spelt.0, (first.text, others.customs, refl, first.spelt, others.spelt.1));
      parts =
          first.parts ∙ ap (λ (z : List ℕ). first.text ++ z) others.parts
          ∙ sym (append_assoc first.text others.customs rest);
      stops = others.stops;
    }

customs_at_skips : (steps : ℕ) (bytes rest : List ℕ) → length bytes ≤ steps
    → customs_at steps bytes ≡ Some (tt, rest) → SkipsCustoms bytes rest
unfolding customs_at
customs_at_skips zero bytes rest enough e =
    let same = found-injective tt tt bytes rest e in
    let empty = nil_from_length bytes (omega arith) in
    record { customs = []; spelt = ([], refl); parts = same.1; stops = ap (begins_with 0) (sym same.1 ∙ empty) }
customs_at_skips (suc steps) bytes rest enough e =
    elim (chosen (begins_with 0 bytes) (custom_at (drop 1 bytes) >>= λ custom. customs_at steps custom.1) (found tt bytes) (found tt rest) e) [
      | inl first ↦
          let custom =
          bind_some (custom_at (drop 1 bytes)) (λ custom. customs_at steps custom.1) (tt, rest) first.1 in
          let shorter = custom_shorter bytes custom.0.1 custom.1 first.0 in
          skips_one bytes custom.0.1 rest first.0 custom.1
          (customs_at_skips steps custom.0.1 rest (omega arith) custom.2)
      | inr last ↦
          let same = found-injective tt tt bytes rest last.1 in
          record {
            customs = [];
            spelt = ([], refl);
            parts = same.1;
            stops = ap (begins_with 0) (sym same.1) ∙ last.0;
          }
    ]

pub after_customs_skips : (bytes rest : List ℕ) → after_customs bytes ≡ Some (tt, rest)
    → SkipsCustoms bytes rest
unfolding after_customs
after_customs_skips bytes rest e = customs_at_skips (length bytes) bytes rest (omega arith) e

-- Any two sufficient numbers of steps give the same result.
customs_at-steps : (n m : ℕ) (bytes : List ℕ) → length bytes ≤ n → length bytes ≤ m
    → customs_at n bytes ≡ customs_at m bytes
unfolding customs_at
customs_at-steps zero zero bytes le_n le_m = refl
customs_at-steps zero (suc m) bytes le_n le_m = rw (nil_from_length bytes (omega arith)) refl
customs_at-steps (suc n) zero bytes le_n le_m = rw (nil_from_length bytes (omega arith)) refl
customs_at-steps (suc n) (suc m) bytes le_n le_m =
    by_test (begins_with 0 bytes) refl (λ after shorter. customs_at-steps n m after (omega arith) (omega arith))
  where
    by_answer : (answer : Option (Unit {0} × List ℕ)) → custom_at (drop 1 bytes) ≡ answer
        → begins_with 0 bytes ≡ true
        → ((after : List ℕ) → length after < length bytes → customs_at n after ≡ customs_at m after)
        → (answer >>= λ custom. customs_at n custom.1) ≡ (answer >>= λ custom. customs_at m custom.1)
    by_answer None e begun same = refl
    by_answer (Some (u, after)) e begun same = same after (custom_shorter bytes after e begun)

    by_test : (b : Bool) → begins_with 0 bytes ≡ b
        → ((after : List ℕ) → length after < length bytes → customs_at n after ≡ customs_at m after)
        → customs_at (suc n) bytes ≡ customs_at (suc m) bytes
    by_test false e same = rw e refl
    by_test true e same = rw e (by_answer (custom_at (drop 1 bytes)) refl e same)

-- Custom sections at the start of the bytes change nothing.
pub after_customs-append : (customs rest : List ℕ) → IsCustomSections customs
    → after_customs (customs ++ rest) ≡ after_customs rest
unfolding after_customs customs_at
after_customs-append customs rest (names, spelt) = go customs names spelt
  where
    go : (customs : List ℕ) (names : List (List ℕ)) → SpellsEach (SpellsSection 0 SpellsCustom) customs names
        → after_customs (customs ++ rest) ≡ after_customs rest
    go customs [] e = rw e refl
    go customs (name ∷ names) (first, others, parts, (content, tag, sized), more) =
        let regrouped : customs ++ rest ≡ 0 ∷ (content ++ (others ++ rest)) =
        ap (λ (z : List ℕ). z ++ rest) (parts ∙ ap (λ (z : List ℕ). z ++ others) tag)
        ∙ ap (λ (z : List ℕ). 0 ∷ z) (append_assoc content others rest) in
        let after : List ℕ = others ++ rest in
        let enough : length after ≤ length (content ++ after) = omega (arith, length-append content after) in
        ap after_customs regrouped
        ∙ rw (custom_complete content after name sized)
        (customs_at-steps (length (content ++ after)) (length after) after enough (omega arith))
        ∙ go others names more

-- What doesn't begin with a custom section is left as it is.
pub after_customs_stays : (bytes : List ℕ) → begins_with 0 bytes ≡ false
    → after_customs bytes ≡ Some (tt, bytes)
unfolding after_customs customs_at
after_customs_stays bytes e = go (length bytes)
  where
    go : (steps : ℕ) → customs_at steps bytes ≡ Some (tt, bytes)
    go zero = refl
    go (suc steps) = rw e refl
