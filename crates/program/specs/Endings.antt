-- How the program ends.
use Rattle.std.specs.Prelude.{◌≡◌, ℕ, List, Option, Result, Ok, Err}
use Rattle.std.specs.declared.io.ErrorKind.{ErrorKind}
use Rattle.std.specs.declared.io.ErrorKind.TheVariants as kind
use Rattle.embed.specs.declared.refusals.Refusal.TheVariants.{OutOfMemory}
use Rattle.program.specs.Lines.{end_lines, fault_line}
use Rattle.program.specs.Outputs.{Prints, printed_status}
use Rattle.program.specs.Statuses.{end_status, fault_status}
use Rattle.program.specs.declared.output.Output.{Output}
use Rattle.subcommands.specs.declared.faults.Fault.{Fault}
use Rattle.subcommands.specs.declared.faults.Fault.TheVariants.{Usage, Refused}
use Rattle.subcommands.specs.declared.performing.End.{End}

-- The fault if there are no arguments: memory ran out, or one of them is not text.
abbrev pub words_fault : ErrorKind → Fault
words_fault kind.OutOfMemory = Refused OutOfMemory
words_fault _ = Usage

-- The program's lines and its exit status report how it ended. The lines are on standard output, or on standard error for a fault.
abbrev pub IsToldBy : {W E : Type 0} → (W → Option (List ℕ)) → (E → Option (List ℕ))
    → Result End Fault → (out out' : Output W) → (err err' : Output E) → (status : ℕ) → Type 0
IsToldBy contents_out contents_err (Ok done) out out' err err' status =
    Prints contents_out out out' (end_lines done)
    × (status ≡ printed_status out' (end_status done)) × (err' ≡ err)
IsToldBy contents_out contents_err (Err why) out out' err err' status =
    Prints contents_err err err' (fault_line why) × (status ≡ fault_status why) × (out' ≡ out)
