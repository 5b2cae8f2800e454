-- Values (Execution, Runtime Structure, Values).
use Rattle.std.specs.Prelude.{ℕ, ◌<◌, ◌^◌, Option, Some, None}
use Rattle.core_types.specs.declared.outcome.Val.{Val}
use Rattle.core_types.specs.declared.outcome.Val.TheVariants.{I32, I64, FuncRef, ExternRef}
use Rattle.core_types.specs.declared.types.RefType.{RefType}
use Rattle.core_types.specs.declared.types.ValType.{ValType}
use Rattle.core_types.specs.declared.types.ValType.TheVariants as ty
use Rattle.meaning.specs.validation.Types.{reference_type}

-- The type of a value.
abbrev pub type_of : Val → ValType
type_of (I32 n) = ty.I32
type_of (I64 n) = ty.I64
type_of (FuncRef a) = ty.FuncRef
type_of (ExternRef x) = ty.ExternRef

-- The value that a local has at first: zero or null.
abbrev pub default_of : ValType → Val
default_of ty.I32 = I32 0
default_of ty.I64 = I64 0
default_of ty.FuncRef = FuncRef None
default_of ty.ExternRef = ExternRef None

-- The null of a type of references.
abbrev pub null_of : RefType → Val
null_of t = default_of (reference_type t)

-- Null, or a number of the host, which has 32 bits (Reference Values; the width is this project's own).
abbrev pub IsExternalNumber : Option ℕ → Type 0
IsExternalNumber None = Unit {0}
IsExternalNumber (Some n) = n < 2 ^ 32

-- The number of a value has its width. The address of a function is not bounded.
abbrev pub FitsWidth : Val → Type 0
FitsWidth (I32 n) = n < 2 ^ 32
FitsWidth (I64 n) = n < 2 ^ 64
FitsWidth (FuncRef a) = Unit {0}
FitsWidth (ExternRef x) = IsExternalNumber x
