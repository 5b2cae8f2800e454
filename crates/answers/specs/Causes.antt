-- Why an order is refused, and where, as numbers.
use Rattle.std.specs.Prelude.{ℕ}
use Rattle.meaning.specs.embedding.Refusals.{fault_number as creation_number, number_of}
use Rattle.embed.specs.Definitions.{fault_in}
use Rattle.embed.specs.Replies.{refusal_of}
use Rattle.embed.specs.declared.refusals.Refusal.{Refusal}
use Rattle.embed.specs.declared.refusals.Refusal.TheVariants.{Malformed, Unsupported, Invalid, UnknownImport, IncompatibleImport}
use Rattle.scripts.specs.Faults.{fault_number as script_number}
use Rattle.scripts.specs.declared.faults.ScriptFault.{ScriptFault}
use Rattle.scripts.specs.declared.faults.ScriptFault.TheVariants.{BadCommand, MissingFile}
use Rattle.validator.specs.declared.errors.Place.TheVariants as place
use Rattle.answers.specs.declared.causes.Cause.{Cause}
use Rattle.answers.specs.declared.causes.Cause.TheVariants.{Command, Creation, Script, Setup}
use Rattle.answers.specs.declared.causes.Where.{Where}

-- The number of the refusal.
abbrev pub cause_number : Cause → ℕ
cause_number (Command refusal) = number_of (refusal_of refusal)
cause_number (Creation fault) = creation_number (fault_in fault)
cause_number (Script fault) = script_number fault
cause_number Setup = 64

-- The place of a kind and an index.
abbrev pub at : (kind index : ℕ) → Where
at kind index = record { kind = kind; index = index }

-- The place of the fault of a command: none, a byte, an import, a section or a function.
abbrev pub place_of_refusal : Refusal → Where
place_of_refusal (Malformed offset) = at 1 offset
place_of_refusal (Unsupported offset) = at 1 offset
place_of_refusal (UnknownImport index) = at 2 index
place_of_refusal (IncompatibleImport index) = at 2 index
place_of_refusal (Invalid (place.Section id)) = at 3 id
place_of_refusal (Invalid (place.Func index)) = at 4 index
place_of_refusal refusal = at 0 0

-- The place of the fault of a script: none, or a command.
abbrev pub place_of_fault : ScriptFault → Where
place_of_fault (BadCommand index) = at 5 index
place_of_fault (MissingFile index) = at 5 index
place_of_fault fault = at 0 0

abbrev pub place_of : Cause → Where
place_of (Command refusal) = place_of_refusal refusal
place_of (Creation fault) = at 0 0
place_of (Script fault) = place_of_fault fault
place_of Setup = at 0 0
