-- Verdicts on bytes.
use Rattle.std.specs.Prelude.{ℕ, List}
use Rattle.binary.specs.declared.errors.DecodeError.{DecodeError}
use Rattle.binary.specs.declared.errors.DecodeError.TheVariants as decode
use Rattle.core_types.specs.declared.module.Module.{Module}
use Rattle.meaning.specs.embedding.Machine.{IsDecoded}
use Rattle.meaning.specs.validation.Modules.{IsValid}
use Rattle.validator.specs.declared.errors.ValidateError.{ValidateError}
use Rattle.validator.specs.declared.errors.ValidateError.TheVariants as validate
use Rattle.module_info.specs.declared.descriptions.Verdict.{Verdict}
use Rattle.module_info.specs.declared.descriptions.Verdict.TheVariants.{Valid, Refused, OutOfMemory}

-- The bytes encode a valid module, or none.
abbrev pub IsFound : List ℕ → Verdict → Type 0
IsFound bytes Valid = (m : Module) × IsDecoded bytes m × IsValid m
IsFound bytes Refused = (m : Module) → IsDecoded bytes m → IsValid m → ⊥
IsFound bytes OutOfMemory = Unit {0}

-- The verdict on a decoded module.
abbrev pub IsFoundOf : Module → Verdict → Type 0
IsFoundOf m Valid = IsValid m
IsFoundOf m Refused = IsValid m → ⊥
IsFoundOf m OutOfMemory = Unit {0}

-- The verdicts for errors.
abbrev pub decode_verdict : DecodeError → Verdict
decode_verdict (decode.Malformed offset) = Refused
decode_verdict (decode.Unsupported offset) = Refused
decode_verdict decode.Limit = Refused
decode_verdict decode.OutOfMemory = OutOfMemory

abbrev pub validate_verdict : ValidateError → Verdict
validate_verdict (validate.Invalid place) = Refused
validate_verdict validate.OutOfMemory = OutOfMemory
