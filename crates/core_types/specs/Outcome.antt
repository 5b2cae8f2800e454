-- What is stated of the end of a run.
use Rattle.std.specs.Prelude.{ℕ, List, codes}
use Rattle.core_types.specs.declared.outcome.Trap.{Trap}
use Rattle.core_types.specs.declared.outcome.Trap.TheVariants.{Unreachable, DivideByZero, IntegerOverflow, MemoryBounds, TableBounds, UndefinedElement, UninitializedElement, IndirectType, Host}

-- The name of a trap in scripts.
abbrev pub trap_text : Trap → List ℕ
trap_text Unreachable = codes "unreachable"
trap_text DivideByZero = codes "integer divide by zero"
trap_text IntegerOverflow = codes "integer overflow"
trap_text MemoryBounds = codes "out of bounds memory access"
trap_text TableBounds = codes "out of bounds table access"
trap_text UndefinedElement = codes "undefined element"
trap_text UninitializedElement = codes "uninitialized element"
trap_text IndirectType = codes "indirect call type mismatch"
trap_text (Host code) = codes "host trap"
