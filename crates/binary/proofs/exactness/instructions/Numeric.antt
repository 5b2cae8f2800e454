-- Numeric instructions without an immediate are read as they are spelled.
use Rattle.std.proofs.Common.{List, [], ap, arith, drop, inl, inr, length, refl, subst, suc, sym, zero, ℕ, ◌++◌, ◌+◌, ◌-◌, ◌<◌, ◌∙◌, ◌∷◌, ◌≡◌, ◌≤◌, ◌⊎◌}
use Rattle.std.specs.Prelude.{None, Option, Some, replicate, slice_get}
use Rattle.std.proofs.lemmas.Bool.{le-leb, lt-leb}
use Rattle.std.proofs.lemmas.Option.{slice_get_within}
use Rattle.core_types.specs.declared.op.Conversion.TheVariants.{I32WrapI64, I64Extend32S, I64ExtendI32S, I64ExtendI32U}
use Rattle.core_types.specs.declared.op.NumericOp.{NumericOp}
use Rattle.core_types.specs.declared.op.NumericOp.TheVariants.{Binary, Compare, Convert, Eqz, Unary}
use Rattle.core_types.specs.declared.op.Op.TheVariants.{Plain}
use Rattle.core_types.specs.declared.op.PlainOp.TheVariants.{Numeric}
use Rattle.core_types.specs.declared.op.Width.TheVariants.{W32, W64}
use Rattle.core_types.specs.Opcodes.{binary_ops, bit_counts, comparisons, sign_extensions}
use Rattle.meaning.specs.binary.Instructions.{IsInRow, IsOpcode, SpellsNumeric}
use Rattle.meaning.specs.binary.Values.{SpellsByte}
use Rattle.core_types.specs.reading.Instructions.{group_at, numeric_at, numeric_of, numeric_row, numerics, operation_at}
use Rattle.binary.proofs.exactness.Choices.{IsFront, SoundCases, at_byte}
use Rattle.binary.proofs.exactness.Readers.{bind_some, found, found-injective}
use Rattle.binary.proofs.exactness.instructions.Opcodes.{group_reached}
use Rattle.binary.proofs.exactness.instructions.Rows.{in_row_complete, in_row_sound}

-- ---- what is read by an opcode is spelled by it

-- In a row of opcodes from the first on, each instruction is spelled by its opcode.
record AreSpelled (first : ℕ) (row : List (Option NumericOp)) : Type 0 where
  spelled : (code : ℕ) (op : NumericOp) → IsOpcode first row op code → SpellsNumeric (code ∷ []) op

-- an item of two lists, one after the other, is one of either
in_either : {X : Type 0} (front back : List X) (place : ℕ) (x : X) → slice_get (front ++ back) place ≡ Some x
    → (slice_get front place ≡ Some x)
    ⊎ ((index : ℕ) × (slice_get back index ≡ Some x) × (place ≡ length front + index))
in_either [] back place x e = inr (place, e, omega arith)
in_either (y ∷ front) back zero x e = inl e
in_either (y ∷ front) back (suc place) x e =
    elim (in_either front back place x e) [
      | inl there ↦ inl there
      | inr here ↦ inr (here.0, here.1, omega arith)
    ]

infixl 10 ◌then◌
◌then◌ : {first : ℕ} {front back : List (Option NumericOp)} → AreSpelled first front
    → AreSpelled (first + length front) back → AreSpelled first (front ++ back)
◌then◌ {first} {front} {back} there here = record {
  spelled = λ code op (place, e, is).
      elim (in_either front back place (Some op) e) [
        | inl in_front ↦ there.spelled code op (place, in_front, is)
        | inr (index, in_back, at) ↦ here.spelled code op (index, in_back, omega arith)
      ];
}

one_spelled : (code : ℕ) (op : NumericOp) → SpellsNumeric (code ∷ []) op → AreSpelled code (Some op ∷ [])
one_spelled code op spelt = record { spelled = go }
  where
    go : (other : ℕ) (v : NumericOp) → IsOpcode code (Some op ∷ []) v other → SpellsNumeric (other ∷ []) v
    go other v (zero, e, is) =
        let same : op ≡ v = cc in
        let here : code ≡ other = omega arith in
        subst (λ (n : ℕ). SpellsNumeric (n ∷ []) v) here
        (subst (λ (o : NumericOp). SpellsNumeric (code ∷ []) o) same spelt)
    go other v (suc place, e, is) = absurd cc

none_spelled : (first count : ℕ) → AreSpelled first (replicate count None)
none_spelled first count = record { spelled = λ code op (place, e, is). absurd (nothing count place op e) }
  where
    nothing : (count place : ℕ) (op : NumericOp) → slice_get (replicate count None) place ≡ Some (Some op) → ⊥
    nothing zero place op e = cc
    nothing (suc count) zero op e = cc
    nothing (suc count) (suc place) op e = nothing count place op e

row_spelled : {X : Type 0} (first : ℕ) (into : X → NumericOp) (row : List X)
    → ((x : X) (bytes : List ℕ) → IsInRow first row x bytes → SpellsNumeric bytes (into x))
    → AreSpelled first (numeric_row into row)
row_spelled {X} first into row spelt = record {
  spelled = λ code op (place, e, is).
      let (x, found, same) = operator row place op e in
      subst (λ (v : NumericOp). SpellsNumeric (code ∷ []) v) same
      (spelt x (code ∷ []) (place, found, ap (λ (n : ℕ). n ∷ []) is));
}
  where
    operator : (row : List X) (place : ℕ) (op : NumericOp) → slice_get (numeric_row into row) place ≡ Some (Some op)
        → (x : X) × (slice_get row place ≡ Some x) × (into x ≡ op)
    operator [] place op e = absurd cc
    operator (x ∷ row) zero op e = (x, refl, cc)
    operator (x ∷ row) (suc place) op e = operator row place op e

numerics_spelled : AreSpelled 0x45 numerics
unfolding numerics
numerics_spelled =
    one_spelled 0x45 (Eqz W32) refl
    then row_spelled 0x46 (Compare W32) comparisons (λ x bytes is. is)
    then one_spelled 0x50 (Eqz W64) refl
    then row_spelled 0x51 (Compare W64) comparisons (λ x bytes is. is)
    then none_spelled 0x5B 12
    then row_spelled 0x67 (Unary W32) bit_counts (λ x bytes is. inl is)
    then row_spelled 0x6A (Binary W32) binary_ops (λ x bytes is. is)
    then row_spelled 0x79 (Unary W64) bit_counts (λ x bytes is. inl is)
    then row_spelled 0x7C (Binary W64) binary_ops (λ x bytes is. is)
    then none_spelled 0x8B 28
    then one_spelled 0xA7 (Convert I32WrapI64) refl
    then none_spelled 0xA8 4
    then one_spelled 0xAC (Convert I64ExtendI32S) refl
    then one_spelled 0xAD (Convert I64ExtendI32U) refl
    then none_spelled 0xAE 18
    then row_spelled 0xC0 (Unary W32) sign_extensions (λ x bytes is. inr is)
    then row_spelled 0xC2 (Unary W64) sign_extensions (λ x bytes is. inr is)
    then one_spelled 0xC4 (Convert I64Extend32S) refl

opcode_sound : (code : ℕ) (op : NumericOp) → numeric_of code ≡ Some op → SpellsNumeric (code ∷ []) op
unfolding numeric_of
opcode_sound code op e = numerics_spelled.spelled code op (in_row_sound 0x45 numerics code op e)

pub numeric_sound : SoundCases SpellsByte SpellsNumeric numeric_at
numeric_sound = record {
  sound = λ code front bytes rest op f e.
      let here = bind_some (numeric_of code) (λ (op : NumericOp). found op bytes) (op, rest) e in
      let same = found-injective here.0 op bytes rest here.2 in
      record {
        text = front;
        spelt =
            subst (λ (o : NumericOp). SpellsNumeric front o) same.0
            (subst (λ (z : List ℕ). SpellsNumeric z here.0) (sym f) (opcode_sound code here.0 here.1));
        parts = ap (λ (z : List ℕ). front ++ z) same.1;
      };
}

-- ---- what has this encoding is read

at_code : (text rest : List ℕ) (op : NumericOp) (code : ℕ) → 0x45 ≤ code → code ≤ 0xC4 → text ≡ code ∷ []
    → numeric_of code ≡ Some op → IsFront SpellsByte operation_at text rest (Plain (Numeric op))
unfolding group_at
at_code text rest op code low high parts reads =
    at_byte code [] parts (group_reached code rest (omega arith) (inr (omega arith, omega arith))
    ∙ rw (
      lt-leb code 0x13 (omega arith),
      lt-leb code 0x1B (omega arith),
      lt-leb code 0x24 (omega arith),
      lt-leb code 0x27 (omega arith),
      lt-leb code 0x40 (omega arith),
      le-leb code 0xC4 high,
      reads,
    ) refl)

-- an item of a list from an offset on
from_offset : {X : Type 0} (list : List X) (offset index place : ℕ) (x : X) → index ≡ offset + place
    → slice_get (drop offset list) place ≡ Some x → slice_get list index ≡ Some x
from_offset list zero index place x is e = let same : index ≡ place = omega arith in rw same e
from_offset [] (suc offset) index place x is e = absurd cc
from_offset (y ∷ list) (suc offset) zero place x is e = absurd (omega arith)
from_offset (y ∷ list) (suc offset) (suc index) place x is e = from_offset list offset index place x (omega arith) e

-- an instruction of a row that is a part of all numeric instructions
in_row_read : {X : Type 0} (first : ℕ) (into : X → NumericOp) (row : List X)
    → drop (first - 0x45) numerics ≡ numeric_row into row ++ drop (first - 0x45 + length row) numerics
    → 0x45 ≤ first → first + length row ≤ 0xC5 → (text rest : List ℕ) (x : X) → IsInRow first row x text
    → IsFront SpellsByte operation_at text rest (Plain (Numeric (into x)))
unfolding numeric_of
in_row_read {X} first into row part low high text rest x (place, e, parts) =
    let within : place < length row = slice_get_within row place x e in
    let there : slice_get (drop (first - 0x45) numerics) place ≡ Some (Some (into x)) = rw part (operator row _ place x e) in
    let opcode : IsOpcode 0x45 numerics (into x) (first + place) =
    (first - 0x45 + place, from_offset numerics (first - 0x45) _ place _ refl there, omega arith) in
    at_code text rest (into x) (first + place) (omega arith) (omega arith) parts
    (in_row_complete 0x45 numerics (first + place) (into x) opcode)
  where
    operator : (row : List X) (others : List (Option NumericOp)) (place : ℕ) (x : X) → slice_get row place ≡ Some x
        → slice_get (numeric_row into row ++ others) place ≡ Some (Some (into x))
    operator [] others place x e = absurd cc
    operator (y ∷ row) others zero x e = cc
    operator (y ∷ row) others (suc place) x e = operator row others place x e

pub numeric_complete : (text rest : List ℕ) (op : NumericOp) → SpellsNumeric text op
    → IsFront SpellsByte operation_at text rest (Plain (Numeric op))
unfolding numeric_of numerics
numeric_complete text rest (Eqz W32) parts = at_code text rest _ 0x45 (omega arith) (omega arith) parts refl
numeric_complete text rest (Eqz W64) parts = at_code text rest _ 0x50 (omega arith) (omega arith) parts refl
numeric_complete text rest (Compare W32 op) is =
    in_row_read 0x46 (Compare W32) comparisons refl (omega arith) (omega arith) text rest op is
numeric_complete text rest (Compare W64 op) is =
    in_row_read 0x51 (Compare W64) comparisons refl (omega arith) (omega arith) text rest op is
numeric_complete text rest (Unary W32 op) (inl is) =
    in_row_read 0x67 (Unary W32) bit_counts refl (omega arith) (omega arith) text rest op is
numeric_complete text rest (Unary W32 op) (inr is) =
    in_row_read 0xC0 (Unary W32) sign_extensions refl (omega arith) (omega arith) text rest op is
numeric_complete text rest (Unary W64 op) (inl is) =
    in_row_read 0x79 (Unary W64) bit_counts refl (omega arith) (omega arith) text rest op is
numeric_complete text rest (Unary W64 op) (inr is) =
    in_row_read 0xC2 (Unary W64) sign_extensions refl (omega arith) (omega arith) text rest op is
numeric_complete text rest (Binary W32 op) is =
    in_row_read 0x6A (Binary W32) binary_ops refl (omega arith) (omega arith) text rest op is
numeric_complete text rest (Binary W64 op) is =
    in_row_read 0x7C (Binary W64) binary_ops refl (omega arith) (omega arith) text rest op is
numeric_complete text rest (Convert I32WrapI64) parts =
    at_code text rest _ 0xA7 (omega arith) (omega arith) parts refl
numeric_complete text rest (Convert I64ExtendI32S) parts =
    at_code text rest _ 0xAC (omega arith) (omega arith) parts refl
numeric_complete text rest (Convert I64ExtendI32U) parts =
    at_code text rest _ 0xAD (omega arith) (omega arith) parts refl
numeric_complete text rest (Convert I64Extend32S) parts =
    at_code text rest _ 0xC4 (omega arith) (omega arith) parts refl
