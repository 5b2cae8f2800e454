-- Skipping custom sections, as a loop does.
use Rattle.std.proofs.Common.{List, arith, drop, false, length, refl, suc, sym, true, zero, ℕ, ◌<◌, ◌∙◌, ◌≡◌, ◌≤◌}
use Rattle.std.specs.Prelude.{None, Some}
use Rattle.std.proofs.lemmas.List.{nil_from_length}
use Rattle.binary.specs.Errors.{OnRefused}
use Rattle.binary.specs.Sections.{after_customs, custom_at, customs_at}
use Rattle.core_types.specs.reading.Values.{begins_with}
use Rattle.binary.specs.declared.errors.DecodeError.{DecodeError}
use Rattle.binary.proofs.Refusals.{OnRefused-map}
use Rattle.binary.proofs.exactness.Readers.{begins}

-- Custom sections are being skipped: the remaining steps suffice, and lead to the bytes after all of them.
pub record IsSkippingCustoms (whole rest : List ℕ) : Type 0 where
  pub steps : ℕ
  pub enough : length rest ≤ steps
  pub so_far : customs_at steps rest ≡ after_customs whole

pub customs_begins : (whole : List ℕ) → IsSkippingCustoms whole whole
unfolding after_customs
customs_begins whole = record { steps = length whole; enough = omega arith; so_far = refl }

module _ (whole bytes : List ℕ) (skipping : IsSkippingCustoms whole bytes) where
  pub customs_continues : (after : List ℕ) → length after < length bytes → begins_with 0 bytes ≡ true
      → custom_at (drop 1 bytes) ≡ Some (tt, after) → IsSkippingCustoms whole after
  unfolding customs_at
  customs_continues after shorter begins read_is = step skipping.steps skipping.enough skipping.so_far
    where
      step : (steps : ℕ) → length bytes ≤ steps → customs_at steps bytes ≡ after_customs whole
          → IsSkippingCustoms whole after
      step zero enough so_far = absurd (omega arith)
      step (suc steps) enough so_far =
          let turn : customs_at (suc steps) bytes ≡ customs_at steps after = rw (begins, read_is) refl in
          record { steps = steps; enough = omega arith; so_far = sym turn ∙ so_far }

  none_skipped : (steps : ℕ) → length bytes ≤ steps → begins_with 0 bytes ≡ true
      → custom_at (drop 1 bytes) ≡ None → customs_at steps bytes ≡ None
  unfolding customs_at
  none_skipped zero enough begins none = let empty = nil_from_length bytes (omega arith) in absurd (let e = rw empty at begins in cc)
  none_skipped (suc steps) enough begins none = rw (begins, none) refl

  pub customs_fails : (error : DecodeError) → begins_with 0 bytes ≡ true
      → OnRefused error (custom_at (drop 1 bytes) ≡ None) → OnRefused error (after_customs whole ≡ None)
  customs_fails error begins refused =
      OnRefused-map error (custom_at (drop 1 bytes) ≡ None) (after_customs whole ≡ None)
      (λ none. sym skipping.so_far ∙ none_skipped skipping.steps skipping.enough begins none) refused

  nothing_skipped : (steps : ℕ) → begins_with 0 bytes ≡ false → customs_at steps bytes ≡ Some (tt, bytes)
  unfolding customs_at
  nothing_skipped zero goes = refl
  nothing_skipped (suc steps) goes = rw goes refl

  pub customs_ends : begins_with 0 bytes ≡ false → after_customs whole ≡ Some (tt, bytes)
  customs_ends goes = sym skipping.so_far ∙ nothing_skipped skipping.steps goes
