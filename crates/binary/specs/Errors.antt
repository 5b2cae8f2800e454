-- What an error states.
use Rattle.std.specs.Prelude.{ℕ, List, Result, Ok, Err}
use Rattle.core_types.specs.declared.module.Module.{Module}
use Rattle.meaning.specs.binary.Limits.{IsWithinLimits}
use Rattle.meaning.specs.binary.Modules.{SpellsModule}
use Rattle.binary.specs.declared.errors.DecodeError.{DecodeError}
use Rattle.binary.specs.declared.errors.DecodeError.TheVariants.{Malformed, Unsupported, Limit, OutOfMemory}

-- The fact, unless memory ran out.
abbrev pub OnRefused : DecodeError → Type 0 → Type 0
OnRefused (Malformed offset) fact = fact
OnRefused (Unsupported offset) fact = fact
OnRefused Limit fact = fact
OnRefused OutOfMemory fact = Unit {0}

abbrev pub IfRefused : {V : Type 0} → Result V DecodeError → Type 0 → Type 0
IfRefused (Ok v) fact = Unit {0}
IfRefused (Err error) fact = OnRefused error fact

-- The bytes encode no module that is within the limits.
abbrev pub IsNoModule : List ℕ → Type 0
IsNoModule bytes = (m : Module) → SpellsModule bytes m → IsWithinLimits bytes m → ⊥
