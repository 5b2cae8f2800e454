-- Verdicts on bytes.
use Rattle.std.proofs.Common.{◌≡◌, ℕ, List, Result, Ok, Err, IfOk}
use Rattle.core_types.specs.declared.module.Module.{Module}
use Rattle.meaning.specs.binary.Modules.{SpellsModule}
use Rattle.meaning.specs.embedding.Machine.{IsDecoded}
use Rattle.binary.specs.Errors.{IsNoModule, OnRefused}
use Rattle.binary.specs.declared.errors.DecodeError.{DecodeError}
use Rattle.binary.specs.declared.errors.DecodeError.TheVariants as decode
use Rattle.module_info.specs.Verdicts.{IsFound, IsFoundOf, decode_verdict}
use Rattle.module_info.specs.declared.descriptions.Verdict.{Verdict}
use Rattle.module_info.specs.declared.descriptions.Verdict.TheVariants.{Valid, Refused, OutOfMemory}

-- The verdict on the module that the bytes encode is the verdict on the bytes.
found-of : (bytes : List ℕ) (m : Module) (verdict : Verdict) → ((a b : Module) → SpellsModule bytes a → SpellsModule bytes b → a ≡ b) → IsDecoded bytes m → IsFoundOf m verdict → IsFound bytes verdict
found-of bytes m Valid one decoded valid = (m, decoded, valid)
found-of bytes m Refused one decoded invalid = λ other spelt valid. invalid (rw (one m other decoded.spelt spelt.spelt) valid)
found-of bytes m OutOfMemory one decoded found = tt

pub all-found-of : {E : Type 0} (bytes : List ℕ) (m : Module) (r : Result Verdict E)
    → ((a b : Module) → SpellsModule bytes a → SpellsModule bytes b → a ≡ b) → IsDecoded bytes m → IfOk r (λ verdict. IsFoundOf m verdict)
    → IfOk r (λ verdict. IsFound bytes verdict)
all-found-of bytes m (Ok verdict) one decoded found = found-of bytes m verdict one decoded found
all-found-of bytes m (Err error) one decoded found = tt

-- Bytes that are refused encode no module.
none-found : (bytes : List ℕ) (error : DecodeError) → OnRefused error (IsNoModule bytes) → IsFound bytes (decode_verdict error)
none-found bytes (decode.Malformed offset) none = λ m decoded valid. none m decoded.spelt decoded.small
none-found bytes (decode.Unsupported offset) none = λ m decoded valid. none m decoded.spelt decoded.small
none-found bytes decode.Limit none = λ m decoded valid. none m decoded.spelt decoded.small
none-found bytes decode.OutOfMemory none = tt

pub all-none-found : {E : Type 0} (bytes : List ℕ) (error : DecodeError) (r : Result Verdict E) → OnRefused error (IsNoModule bytes)
    → IfOk r (λ verdict. verdict ≡ decode_verdict error) → IfOk r (λ verdict. IsFound bytes verdict)
all-none-found bytes error (Ok verdict) none is = rw is (none-found bytes error none)
all-none-found bytes error (Err fault) none is = tt
