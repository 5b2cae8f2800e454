-- Types and values have their numbers, which fit.
use Rattle.std.proofs.Common.{◌≡◌, ℕ, ◌<◌, ◌^◌, List, ◌++◌, length, ◌∙◌, refl, sym, arith, append_assoc, length-append}
use Rattle.core_types.specs.declared.outcome.Val.{Val}
use Rattle.core_types.specs.declared.types.ValType.{ValType}
use Rattle.core_types.specs.declared.types.ValType.TheVariants.{I32, I64, FuncRef, ExternRef}
use Rattle.meaning.specs.execution.Values.{type_of}
use Rattle.cells.specs.Cells.{IsCellOf, cell_of}
use Rattle.messages.specs.Numbers.{number_bytes}
use Rattle.std.specs.Prelude.{flat_map}
use Rattle.messages.specs.Types.{number_of, type_bytes, types_bytes}
use Rattle.messages.specs.Values.{value_bytes}
use Rattle.messages.proofs.Spellings.{length-number_bytes, same_behind, same_number}

-- The number of a type is a number.
pub number_of-fits : (ty : ValType) → number_of ty < 2 ^ 64
number_of-fits I32 = omega arith
number_of-fits I64 = omega arith
number_of-fits FuncRef = omega arith
number_of-fits ExternRef = omega arith

-- Each type has a different number.
pub number_of-injective : (s t : ValType) → number_of s ≡ number_of t → s ≡ t
number_of-injective I32 I32 e = refl
number_of-injective I64 I64 e = refl
number_of-injective FuncRef FuncRef e = refl
number_of-injective ExternRef ExternRef e = refl
number_of-injective _ _ e = absurd (omega (arith, e))

-- A cell is a number.
pub cell-fits : (ty : ValType) (n : ℕ) → IsCellOf ty n → n < 2 ^ 64
cell-fits I32 n h = omega (arith, h)
cell-fits I64 n h = h
cell-fits FuncRef n h = omega (arith, h)
cell-fits ExternRef n h = omega (arith, h)

pub length-value_bytes : (v : Val) → length (value_bytes v) ≡ 16
length-value_bytes v =
    omega (arith, length-append (type_bytes (type_of v)) (number_bytes (cell_of v)), length-number_bytes (number_of (type_of v)), length-number_bytes (cell_of v))

-- Bytes that begin with a value begin with its type, followed by its cell.
pub value_in_parts : (v : Val) (rest bytes : List ℕ) → value_bytes v ++ rest ≡ bytes → type_bytes (type_of v) ++ (number_bytes (cell_of v) ++ rest) ≡ bytes
value_in_parts v rest bytes e = sym (append_assoc (type_bytes (type_of v)) (number_bytes (cell_of v)) rest) ∙ e

-- If bytes begin with types, the bytes after the types are determined.
pub same_behind_types : (ss ts : List ValType) (us vs : List ℕ) → length ss < 2 ^ 64 → length ts < 2 ^ 64 → types_bytes ss ++ us ≡ types_bytes ts ++ vs → us ≡ vs
same_behind_types ss ts us vs h k e =
    let left = flat_map type_bytes ss in
    let right = flat_map type_bytes ts in
    let whole = sym (append_assoc (number_bytes (length ss)) left us) ∙ e ∙ append_assoc (number_bytes (length ts)) right vs in
    let same = same_number (length ss) (length ts) (left ++ us) (right ++ vs) h k whole in
    same_behind type_bytes 8 (λ ty. length-number_bytes (number_of ty)) ss ts us vs same.0 same.1
