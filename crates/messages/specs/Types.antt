-- Types in messages. Their encoding is specific to this project.
use Rattle.std.specs.Prelude.{ℕ, List, ◌++◌, length, flat_map}
use Rattle.core_types.specs.declared.types.ValType.{ValType}
use Rattle.core_types.specs.declared.types.ValType.TheVariants.{I32, I64, FuncRef, ExternRef}
use Rattle.messages.specs.Numbers.{number_bytes}

-- The number of a type is the byte that encodes it in a module (Binary Format, Types, Value Types).
abbrev pub number_of : ValType → ℕ
number_of I32 = 0x7F
number_of I64 = 0x7E
number_of FuncRef = 0x70
number_of ExternRef = 0x6F

abbrev pub type_bytes : ValType → List ℕ
type_bytes t = number_bytes (number_of t)

-- Types follow their count.
abbrev pub types_bytes : List ValType → List ℕ
types_bytes ts = number_bytes (length ts) ++ flat_map type_bytes ts
