-- Which errors state that there is no typing.
use Rattle.std.specs.Prelude.{◌≡◌}
use Rattle.binary.specs.declared.errors.DecodeError.{DecodeError}
use Rattle.binary.specs.declared.errors.DecodeError.TheVariants as decode
use Rattle.validator.specs.declared.errors.Fault.TheVariants.{Invalid, OutOfMemory}
use Rattle.validator.specs.declared.errors.Fault.{Fault}

-- If the fault is Invalid, and not out of memory, this holds.
abbrev pub OnInvalid : Type 0 → Fault → Type 0
OnInvalid p fault = fault ≡ Invalid → p

-- Bytes that encode no operation are not valid.
abbrev pub fault_of : DecodeError → Fault
fault_of (decode.Malformed offset) = Invalid
fault_of (decode.Unsupported offset) = Invalid
fault_of decode.Limit = Invalid
fault_of decode.OutOfMemory = OutOfMemory
