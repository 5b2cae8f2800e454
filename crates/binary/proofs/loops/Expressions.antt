-- Reading an expression, as a loop does.
use Rattle.std.proofs.Common.{List, [], ap, arith, length, length-append, refl, suc, sym, take, zero, ℕ, ◌++◌, ◌-◌, ◌<◌, ◌∙◌, ◌∷◌, ◌≡◌, ◌≤◌}
use Rattle.std.specs.Prelude.{None, Some}
use Rattle.std.proofs.Math.Seq.{take-append_seam}
use Rattle.core_types.specs.declared.op.Op.{Op}
use Rattle.core_types.specs.reading.Bodies.{operations_in}
use Rattle.binary.specs.Errors.{OnRefused}
use Rattle.binary.specs.Values.{first_byte}
use Rattle.binary.specs.Expressions.{IsReadingExpression, expression_at, next_bodies, ops_at}
use Rattle.core_types.specs.reading.Instructions.{op_at}
use Rattle.binary.specs.declared.errors.DecodeError.{DecodeError}
use Rattle.binary.specs.declared.expressions.Flow.TheVariants.{Continues, Ended, Misplaced}
use Rattle.binary.specs.declared.expressions.OpenBody.{OpenBody}
use Rattle.binary.proofs.Refusals.{OnRefused-map}
use Rattle.binary.proofs.exactness.Expressions.{ops_sound}
use Rattle.binary.proofs.loops.Bodies.{encoded_is_read}

pub expression_begins : (whole : List ℕ) → IsReadingExpression whole whole [] []
unfolding expression_at
expression_begins whole = record { steps = length whole; enough = omega arith; so_far = refl }

module _ (whole bytes : List ℕ) (open_bodies : List OpenBody) (ops : List Op) (inside : IsReadingExpression whole bytes open_bodies ops) where
  module _ (op : Op) (after : List ℕ) (shorter : length after < length bytes) (read_is : op_at bytes ≡ Some (op, after)) (new : List OpenBody) where
    pub expression_continues : next_bodies open_bodies op ≡ (Continues, new)
        → IsReadingExpression whole after new (ops ++ op ∷ [])
    unfolding ops_at
    expression_continues passed = step inside.steps inside.enough inside.so_far
      where
        step : (steps : ℕ) → length bytes ≤ steps → ops_at steps open_bodies ops bytes ≡ expression_at whole
            → IsReadingExpression whole after new (ops ++ op ∷ [])
        step zero enough so_far = absurd (omega arith)
        step (suc steps) enough so_far =
            let turn : ops_at (suc steps) open_bodies ops bytes ≡ ops_at steps new (ops ++ op ∷ []) after =
            rw (read_is, passed) refl in
            record { steps = steps; enough = omega arith; so_far = sym turn ∙ so_far }

    pub expression_ends : next_bodies open_bodies op ≡ (Ended, new) → expression_at whole ≡ Some (ops, after)
    unfolding ops_at
    expression_ends passed = sym inside.so_far ∙ step inside.steps inside.enough
      where
        step : (steps : ℕ) → length bytes ≤ steps → ops_at steps open_bodies ops bytes ≡ Some (ops, after)
        step zero enough = absurd (omega arith)
        step (suc steps) enough = rw (read_is, passed) refl

    pub expression_misplaced : next_bodies open_bodies op ≡ (Misplaced, new) → expression_at whole ≡ None
    unfolding ops_at
    expression_misplaced passed = sym inside.so_far ∙ step inside.steps
      where
        step : (steps : ℕ) → ops_at steps open_bodies ops bytes ≡ None
        step zero = refl
        step (suc steps) = rw (read_is, passed) refl

  none_inside : (steps : ℕ) → op_at bytes ≡ None → ops_at steps open_bodies ops bytes ≡ None
  unfolding ops_at
  none_inside zero none = refl
  none_inside (suc steps) none = rw none refl

  pub expression_fails : (error : DecodeError) → OnRefused error (op_at bytes ≡ None)
      → OnRefused error (expression_at whole ≡ None)
  expression_fails error refused =
      OnRefused-map error (op_at bytes ≡ None) (expression_at whole ≡ None)
      (λ none. sym inside.so_far ∙ none_inside inside.steps none) refused

-- Nothing is read of no bytes.
pub no_first : (bytes : List ℕ) → first_byte bytes ≡ None → op_at bytes ≡ None
unfolding op_at
no_first [] none = refl
no_first (byte ∷ bytes) none = absurd cc

-- The bytes of an expression before its last end are its operations, one after the other.
pub record HasBody (bytes rest : List ℕ) (ops : List Op) : Type 0 where
  pub text : List ℕ
  pub parts : bytes ≡ text ++ (0x0B ∷ rest)
  pub encoded : operations_in text ≡ Some ops

pub expression_has_body : (bytes rest : List ℕ) (ops : List Op) → expression_at bytes ≡ Some (ops, rest) → HasBody bytes rest ops
unfolding expression_at
expression_has_body bytes rest ops e =
    let read = ops_sound (length bytes) [] [] ops bytes rest e in
    record {
      text = read.text;
      parts = read.parts;
      encoded = encoded_is_read read.text read.more read.spelt ∙ ap (λ (z : List Op). Some z) (sym read.all);
    }

-- They are read.
pub body_is_read : (bytes rest text : List ℕ) (ops : List Op) → expression_at bytes ≡ Some (ops, rest)
    → text ≡ take (length bytes - length rest - 1) bytes → operations_in text ≡ Some ops
body_is_read bytes rest text ops e is =
    let has = expression_has_body bytes rest ops e in
    let long : length bytes - length rest - 1 ≡ length has.text =
    omega (arith, ap length has.parts, length-append has.text (0x0B ∷ rest)) in
    let same : take (length bytes - length rest - 1) bytes ≡ has.text =
    ap (λ (n : ℕ). take n bytes) long ∙ ap (λ (z : List ℕ). take (length has.text) z) has.parts ∙ take-append_seam has.text (0x0B ∷ rest) in
    rw (is ∙ same) has.encoded

-- More bytes were read than one.
pub body_is_shorter : (bytes rest : List ℕ) (ops : List Op) → expression_at bytes ≡ Some (ops, rest) → suc (length rest) ≤ length bytes
body_is_shorter bytes rest ops e =
    let has = expression_has_body bytes rest ops e in
    omega (arith, ap length has.parts, length-append has.text (0x0B ∷ rest))
