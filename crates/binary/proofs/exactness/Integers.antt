-- Integers are read as they are encoded.
use Rattle.std.proofs.Common.{List, [], ap, arith, cond, inl, inr, leb, ltb, negsuc, pos, refl, subst, sym, ℕ, ℤ, ◌*ℤ◌, ◌*◌, ◌++◌, ◌+ℤ◌, ◌+◌, ◌-◌, ◌<◌, ◌^◌, ◌∷◌, ◌≡◌, ◌≤◌}
use Rattle.std.specs.Prelude.{None, Some}
use Rattle.std.proofs.lemmas.Bool.{le-leb, le-ltb, leb-true, lt-ltb, ltb-false, ltb-true}
use Rattle.std.proofs.lemmas.Int.{ints}
use Rattle.meaning.specs.binary.Conventions.{Reads}
use Rattle.meaning.specs.binary.Values.{EndsSigned, SpellsSigned, SpellsUnsigned}
use Rattle.leb.proofs.SignedLaws.{last_reads as last_signed, more_reads as more_signed}
use Rattle.leb.proofs.UnsignedLaws.{last_reads as last_unsigned, more_reads as more_unsigned}
use Rattle.core_types.specs.reading.Values.{last_byte_at, signed_at, unsigned_at}
use Rattle.binary.proofs.exactness.Readers.{IsReader, chosen, found, found-injective, if_bind, if_some}

unsigned_sound : (bits : ℕ) (bytes rest : List ℕ) (n : ℕ) → unsigned_at bits bytes ≡ Some (n, rest)
    → Reads (SpellsUnsigned bits) bytes n rest
unfolding unsigned_at
unsigned_sound bits [] rest n e = absurd cc
unsigned_sound bits (byte ∷ bytes) rest n e =
    elim (chosen (ltb byte 128) (cond (ltb byte (2 ^ bits)) (found byte bytes) None) _ (found n rest) e) [
      | inl last ↦
          let within = if_some (ltb byte (2 ^ bits)) _ _ last.1 in
          let same = found-injective byte n bytes rest (ap Some within.1) in
          subst (λ (m : ℕ). Reads (SpellsUnsigned bits) (byte ∷ bytes) m rest) same.0
          (subst (λ (after : List ℕ). Reads (SpellsUnsigned bits) (byte ∷ bytes) byte after) same.1 (last_unsigned bits byte bytes (ltb-true _ _ last.0) (ltb-true _ _ within.0)))
      | inr more ↦
          let wide =
          if_bind (ltb 7 bits) (unsigned_at (bits - 7) bytes)
          (λ rest. found (128 * rest.0 + (byte - 128)) rest.1) (n, rest) more.1 in
          let same = found-injective _ n wide.1.0.1 rest wide.1.2 in
          let large : 128 ≤ byte = ltb-false _ _ more.0 in
          let read = unsigned_sound (bits - 7) bytes wide.1.0.1 wide.1.0.0 wide.1.1 in
          more_unsigned bits byte wide.1.0.0 n bytes rest large (ltb-true _ _ wide.0)
          (subst (λ (after : List ℕ). Reads (SpellsUnsigned (bits - 7)) bytes wide.1.0.0 after) same.1 read)
          (omega (arith, same.0))
    ]

unsigned_complete : (bits : ℕ) (text rest : List ℕ) (n : ℕ) → SpellsUnsigned bits text n
    → unsigned_at bits (text ++ rest) ≡ Some (n, rest)
unfolding unsigned_at
unsigned_complete bits [] rest n spelt = absurd spelt
unsigned_complete bits (byte ∷ []) rest n (last, within, value) =
    rw (lt-ltb byte (2 ^ 7) last, lt-ltb byte (2 ^ bits) within, value) refl
unsigned_complete bits (byte ∷ next ∷ text) rest n (more, wide, (high, spelt, value)) =
    let same : 128 * high + (byte - 128) ≡ n = omega arith in
    rw
    (le-ltb byte (2 ^ 7) more, lt-ltb 7 bits wide, unsigned_complete (bits - 7) (next ∷ text) rest high spelt, same) refl

pub unsigned_reader : (bits : ℕ) → IsReader (SpellsUnsigned bits) (unsigned_at bits)
unsigned_reader bits = record { sound = unsigned_sound bits; complete = unsigned_complete bits }

last_byte_sound : (bits byte : ℕ) (bytes rest : List ℕ) (z : ℤ) → byte < 2 ^ 7
    → last_byte_at bits byte bytes ≡ Some (z, rest) → EndsSigned bits byte z × (bytes ≡ rest)
last_byte_sound bits byte bytes rest z last e =
    let low = cond (ltb byte (2 ^ (bits - 1))) (found (pos byte) bytes) None in
    let high = cond (leb 128 (byte + 2 ^ (bits - 1))) (found (negsuc (127 - byte)) bytes) None in
    elim (chosen (ltb byte 64) low high (found z rest) e) [
      | inl low ↦
          let within = if_some (ltb byte (2 ^ (bits - 1))) _ _ low.1 in
          let same = found-injective (pos byte) z bytes rest (ap Some within.1) in
          (inl (ltb-true _ _ low.0, ltb-true _ _ within.0, sym same.0), same.1)
      | inr high ↦
          let within = if_some (leb 128 (byte + 2 ^ (bits - 1))) _ _ high.1 in
          let same = found-injective (negsuc (127 - byte)) z bytes rest (ap Some within.1) in
          (inr (ltb-false _ _ high.0, last, leb-true _ _ within.0, omega (arith, ints, same.0)), same.1)
    ]

signed_sound : (bits : ℕ) (bytes rest : List ℕ) (z : ℤ) → signed_at bits bytes ≡ Some (z, rest)
    → Reads (SpellsSigned bits) bytes z rest
unfolding signed_at
signed_sound bits [] rest z e = absurd cc
signed_sound bits (byte ∷ bytes) rest z e =
    elim (chosen (ltb byte 128) (last_byte_at bits byte bytes) _ (found z rest) e) [
      | inl last ↦
          let ends = last_byte_sound bits byte bytes rest z (ltb-true _ _ last.0) last.1 in
          subst (λ (after : List ℕ). Reads (SpellsSigned bits) (byte ∷ bytes) z after) ends.1
          (last_signed bits byte z bytes ends.0)
      | inr more ↦
          let wide =
          if_bind (ltb 7 bits) (signed_at (bits - 7) bytes)
          (λ rest. found ((pos 128 *ℤ rest.0) +ℤ pos (byte - 128)) rest.1) (z, rest) more.1 in
          let same = found-injective _ z wide.1.0.1 rest wide.1.2 in
          let large : 128 ≤ byte = ltb-false _ _ more.0 in
          let read = signed_sound (bits - 7) bytes wide.1.0.1 wide.1.0.0 wide.1.1 in
          more_signed bits byte wide.1.0.0 z bytes rest large (ltb-true _ _ wide.0)
          (subst (λ (after : List ℕ). Reads (SpellsSigned (bits - 7)) bytes wide.1.0.0 after) same.1 read)
          (omega (arith, ints, same.0))
    ]

signed_complete : (bits : ℕ) (text rest : List ℕ) (z : ℤ) → SpellsSigned bits text z
    → signed_at bits (text ++ rest) ≡ Some (z, rest)
unfolding signed_at
signed_complete bits [] rest z spelt = absurd spelt
signed_complete bits (byte ∷ []) rest z (inl (low, within, value)) =
    let last : byte < 2 ^ 7 = omega arith in
    rw (lt-ltb byte (2 ^ 7) last, lt-ltb byte (2 ^ 6) low, lt-ltb byte (2 ^ (bits - 1)) within, value) refl
signed_complete bits (byte ∷ []) rest z (inr (high, last, within, value)) =
    let same : negsuc (127 - byte) ≡ z = omega (arith, ints) in
    rw (lt-ltb byte (2 ^ 7) last, le-ltb byte (2 ^ 6) high, le-leb (2 ^ 7) (byte + 2 ^ (bits - 1)) within, same) refl
signed_complete bits (byte ∷ next ∷ text) rest z (more, wide, (high, spelt, value)) =
    let same : (pos 128 *ℤ high) +ℤ pos (byte - 128) ≡ z = omega (arith, ints) in
    rw
    (le-ltb byte (2 ^ 7) more, lt-ltb 7 bits wide, signed_complete (bits - 7) (next ∷ text) rest high spelt, same) refl

pub signed_reader : (bits : ℕ) → IsReader (SpellsSigned bits) (signed_at bits)
signed_reader bits = record { sound = signed_sound bits; complete = signed_complete bits }
