-- The operations of a body, one after the other.
use Rattle.std.proofs.Common.{Bool, List, [], ap, arith, false, length, length-append, refl, suc, sym, zero, ℕ, ◌<◌, ◌∙◌, ◌∷◌, ◌≡◌, ◌≤◌, ◌||◌}
use Rattle.std.specs.Prelude.{Err, None, Ok, Option, Result, Some, option_map}
use Rattle.core_types.specs.Expressions.{mark_op}
use Rattle.core_types.specs.declared.lent_op.Mark.{Mark}
use Rattle.core_types.specs.declared.lent_op.Mark.TheVariants.{Block, Else, End, If, Loop}
use Rattle.core_types.specs.declared.op.Op.{Op}
use Rattle.core_types.specs.reading.Bodies.{each_op_at, operations_in, operations_of}
use Rattle.core_types.specs.reading.Conventions.{◌>>=◌}
use Rattle.core_types.specs.reading.Instructions.{op_at}
use Rattle.meaning.specs.binary.Modules.{names_data}
use Rattle.binary.specs.Bodies.{Passes, PassesNext}
use Rattle.binary.specs.Conventions.{GivesSeen}
use Rattle.binary.specs.Errors.{OnRefused}
use Rattle.binary.specs.Values.{first_byte}
use Rattle.binary.specs.declared.errors.DecodeError.{DecodeError}
use Rattle.binary.proofs.Refusals.{OnRefused-map}
use Rattle.binary.proofs.exactness.Expressions.{SpellsOps}
use Rattle.binary.proofs.exactness.instructions.Operations.{op_has_bytes, op_reader, op_shorter}
use Rattle.binary.proofs.loops.DataNames.{or_none}
use Rattle.binary.proofs.loops.Values.{some_bytes}

each_complete : (steps : ℕ) (bytes : List ℕ) (ops : List Op) → SpellsOps bytes ops → length bytes ≤ steps → each_op_at steps bytes ≡ Some ops
unfolding each_op_at
each_complete zero bytes [] e enough = rw e refl
each_complete (suc steps) bytes [] e enough = rw e refl
each_complete steps [] (op ∷ ops) (first, others, parts, here, rest) enough =
    absurd (omega (arith, op_has_bytes first op here, ap length parts, length-append first others))
each_complete zero (byte ∷ bytes) (op ∷ ops) spelt enough = absurd (omega arith)
each_complete (suc steps) (byte ∷ bytes) (op ∷ ops) (first, others, parts, here, rest) enough =
    let read : op_at (byte ∷ bytes) ≡ Some (op, others) = ap op_at parts ∙ op_reader.complete first others op here in
    let less : length others ≤ steps =
    omega (arith, op_has_bytes first op here, ap length parts, length-append first others, enough) in
    rw (read, each_complete steps others ops rest less) refl

-- What is encoded, operation by operation, is read.
pub encoded_is_read : (bytes : List ℕ) (ops : List Op) → SpellsOps bytes ops → operations_in bytes ≡ Some ops
unfolding operations_in
encoded_is_read bytes ops spelt = each_complete (length bytes) bytes ops spelt (omega arith)

-- More steps than bytes do not matter.
same_steps : (n m : ℕ) (bytes : List ℕ) → length bytes ≤ n → length bytes ≤ m → each_op_at n bytes ≡ each_op_at m bytes
unfolding each_op_at
same_steps zero zero [] a b = refl
same_steps zero (suc m) [] a b = refl
same_steps (suc n) zero [] a b = refl
same_steps (suc n) (suc m) [] a b = refl
same_steps zero m (byte ∷ bytes) a b = absurd (omega arith)
same_steps (suc n) zero (byte ∷ bytes) a b = absurd (omega arith)
same_steps (suc n) (suc m) (byte ∷ bytes) a b =
    go (op_at (byte ∷ bytes)) refl (λ op after e.
    let shorter = op_shorter (byte ∷ bytes) after op e in
    same_steps n m after (omega (arith, shorter, a)) (omega (arith, shorter, b)))
  where
    go : (read : Option (Op × List ℕ)) → op_at (byte ∷ bytes) ≡ read
        → ((op : Op) (after : List ℕ) → op_at (byte ∷ bytes) ≡ Some (op, after) → each_op_at n after ≡ each_op_at m after)
        → each_op_at (suc n) (byte ∷ bytes) ≡ each_op_at (suc m) (byte ∷ bytes)
    go None e others = rw e refl
    go (Some (op, after)) e others = rw (e, others op after e) refl

-- The operations are the first one and the others, if there are others.
pub next_is_first : (bytes after : List ℕ) (op : Op) → op_at bytes ≡ Some (op, after)
    → operations_in bytes ≡ option_map (λ (ops : List Op). op ∷ ops) (operations_in after)
unfolding operations_in each_op_at
next_is_first [] after op read = absurd (omega (arith, op_shorter [] after op read))
next_is_first (byte ∷ bytes) after op read =
    let shorter = op_shorter (byte ∷ bytes) after op read in
    let others = same_steps (length bytes) (length after) after (omega (arith, shorter)) (omega arith) in
    rw (read, others) (by_case (each_op_at (length after) after))
  where
    by_case : (others : Option (List Op)) → (others >>= λ (ops : List Op). Some (op ∷ ops)) ≡ option_map (λ (ops : List Op). op ∷ ops) others
    by_case None = refl
    by_case (Some ops) = refl

-- Without a first operation there are none.
none_is_first : (bytes : List ℕ) → 0 < length bytes → op_at bytes ≡ None → operations_in bytes ≡ None
unfolding operations_in each_op_at
none_is_first [] more none = absurd (omega arith)
none_is_first (byte ∷ bytes) more none = rw none refl

-- What the bytes encode.
pub operations_are : (bytes : List ℕ) (ops : List Op) → operations_in bytes ≡ Some ops → operations_of bytes ≡ ops
unfolding operations_of
operations_are bytes ops is = rw is refl

-- An operation that is read is passed.
pub first_passes : (bytes after : List ℕ) (op : Op) (before now : Bool) → op_at bytes ≡ Some (op, after) → now ≡ (before || names_data op)
    → Passes (bytes, before) op (after, now)
first_passes bytes after op before now read noted =
    record { shorter = op_shorter bytes after op read; operations = next_is_first bytes after op read; names_data = noted }

-- If none is, none is encoded.
pub refused_first : (bytes : List ℕ) (error : DecodeError) → 0 < length bytes → OnRefused error (op_at bytes ≡ None)
    → OnRefused error (operations_in bytes ≡ None)
refused_first bytes error more refused = OnRefused-map error (op_at bytes ≡ None) (operations_in bytes ≡ None) (none_is_first bytes more) refused

-- The same, if the operation names no data segment.
pub unnamed_passes : {X : Type 0} (view : X → Op) → ((x : X) → names_data (view x) ≡ false) → (result : Result X DecodeError) (bytes after : List ℕ) (byte : ℕ)
    (named : Bool) → first_byte bytes ≡ Some byte → GivesSeen view result after (op_at bytes) → PassesNext view result (bytes, named) (after, named)
unnamed_passes view none (Ok x) bytes after byte named first read =
    first_passes bytes after (view x) named named read (sym (ap (λ (b : Bool). named || b) (none x) ∙ or_none named))
unnamed_passes view none (Err error) bytes after byte named first refused = refused_first bytes error (some_bytes bytes byte first) refused

pub marks_name_none : (mark : Mark) → names_data (mark_op mark) ≡ false
marks_name_none (Block type) = refl
marks_name_none (Loop type) = refl
marks_name_none (If type) = refl
marks_name_none Else = refl
marks_name_none End = refl

-- If no bytes are left, no operations are.
pub none_left : (bytes : List ℕ) → first_byte bytes ≡ None → operations_in bytes ≡ Some []
unfolding operations_in each_op_at
none_left [] none = refl
none_left (byte ∷ bytes) none = absurd cc
