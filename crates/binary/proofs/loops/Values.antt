-- Reading a vector and expected bytes, as a loop does.
use Rattle.std.proofs.Common.{List, [], ap, arith, drop, false, get_or, length, refl, suc, sym, true, ℕ, ◌++◌, ◌+◌, ◌-◌, ◌<◌, ◌∙◌, ◌∷◌, ◌≡◌, ◌≤◌}
use Rattle.std.specs.Prelude.{None, Option, Some, ◌≢◌}
use Rattle.std.proofs.Math.ListN.{drop_of_length-le}
use Rattle.std.proofs.lemmas.List.{drop_more}
use Rattle.core_types.specs.reading.Conventions.{Reading, ◌>>=◌}
use Rattle.binary.specs.Errors.{OnRefused}
use Rattle.core_types.specs.reading.Values.{begins_with, byte_at, each_at, expected_at}
use Rattle.binary.specs.Values.{first_byte}
use Rattle.binary.specs.declared.errors.DecodeError.{DecodeError}
use Rattle.binary.proofs.Refusals.{OnRefused-map}

module _ {V : Type 0} (read : Reading V) (values : List V) (count i : ℕ) (bytes : List ℕ) (total : Option (List V × List ℕ)) (so_far : each_at read (count - i) values bytes ≡ total) where
  pub each_continues : (v : V) (after : List ℕ) → i < count → read bytes ≡ Some (v, after)
      → each_at read (count - (i + 1)) (values ++ v ∷ []) after ≡ total
  unfolding each_at
  each_continues v after more read_is =
      let left : count - i ≡ suc (count - (i + 1)) = omega arith in
      let turn : each_at read (count - i) values bytes ≡ each_at read (count - (i + 1)) (values ++ v ∷ []) after =
      rw (left, read_is) refl in
      sym turn ∙ so_far

  pub each_fails : (error : DecodeError) → i < count → OnRefused error (read bytes ≡ None)
      → OnRefused error (total ≡ None)
  unfolding each_at
  each_fails error more refused =
      let left : count - i ≡ suc (count - (i + 1)) = omega arith in
      OnRefused-map error (read bytes ≡ None) (total ≡ None) (λ none.
      let turn : each_at read (count - i) values bytes ≡ None = rw (left, none) refl in
      sym so_far ∙ turn) refused

  pub each_ends : count ≤ i → total ≡ Some (values, bytes)
  unfolding each_at
  each_ends over =
      let left : count - i ≡ 0 = omega arith in
      let turn : each_at read (count - i) values bytes ≡ Some (values, bytes) = rw left refl in
      sym so_far ∙ turn

-- ---- bytes that are expected

module _ (expected : List ℕ) (i : ℕ) (bytes : List ℕ) (total : Option (Unit {0} × List ℕ)) (so_far : expected_at (drop i expected) bytes ≡ total) where
  pub expected_continues : i < length expected → begins_with (get_or expected i 0) bytes ≡ true
      → expected_at (drop (i + 1) expected) (drop 1 bytes) ≡ total
  unfolding expected_at
  expected_continues more accepted =
      let turn : expected_at (drop i expected) bytes ≡ expected_at (drop (i + 1) expected) (drop 1 bytes) =
      rw (drop_more expected i 0 more, accepted) refl in
      sym turn ∙ so_far

  pub expected_fails : i < length expected → begins_with (get_or expected i 0) bytes ≡ false → total ≡ None
  unfolding expected_at
  expected_fails more refused =
      let turn : expected_at (drop i expected) bytes ≡ None = rw (drop_more expected i 0 more, refused) refl in
      sym so_far ∙ turn

  pub expected_ends : length expected ≤ i → total ≡ Some (tt, bytes)
  unfolding expected_at
  expected_ends over =
      let turn : expected_at (drop i expected) bytes ≡ Some (tt, bytes) =
      rw (drop_of_length-le expected over) refl in
      sym so_far ∙ turn

-- ---- the next byte

pub first_is_read : (bytes : List ℕ) (byte : ℕ) → first_byte bytes ≡ Some byte → byte_at bytes ≡ Some (byte, drop 1 bytes)
first_is_read [] byte is = absurd cc
first_is_read (first ∷ bytes) byte is = ap (λ (found : Option ℕ). found >>= λ (b : ℕ). Some (b, bytes)) is

pub some_bytes : (bytes : List ℕ) (byte : ℕ) → first_byte bytes ≡ Some byte → 0 < length bytes
some_bytes [] byte is = absurd cc
some_bytes (first ∷ bytes) byte is = omega arith

pub any_bytes : (bytes : List ℕ) → first_byte bytes ≢ None → 0 < length bytes
any_bytes [] not = absurd (not refl)
any_bytes (first ∷ bytes) not = omega arith
