-- The lines that the program prints.
use Rattle.std.specs.Prelude.{ℕ, List, [], ◌∷◌, ◌++◌, Option, Some, None, codes, flat_map, string_bytes}
use Rattle.std.specs.Fmt.{decimal}
use Rattle.core_types.specs.Outcome.{trap_text}
use Rattle.core_types.specs.declared.outcome.Exhaustion.{Exhaustion}
use Rattle.core_types.specs.declared.outcome.Exhaustion.TheVariants as limit
use Rattle.core_types.specs.declared.outcome.Val.{Val}
use Rattle.core_types.specs.declared.outcome.Val.TheVariants.{I32, I64, FuncRef, ExternRef}
use Rattle.embed.specs.Replies.{refusal_of}
use Rattle.exec.specs.declared.outcome.Outcome.{Outcome}
use Rattle.exec.specs.declared.outcome.Outcome.TheVariants.{Values, Trap, Exhausted}
use Rattle.meaning.specs.embedding.Commands as machine
use Rattle.scripts.specs.declared.faults.ScriptFault.{ScriptFault}
use Rattle.scripts.specs.declared.faults.ScriptFault.TheVariants as script
use Rattle.scripts.specs.declared.report.Report.{Report}
use Rattle.subcommands.specs.declared.faults.Fault.{Fault}
use Rattle.subcommands.specs.declared.faults.Fault.TheVariants as fault
use Rattle.subcommands.specs.declared.performing.CallEnd.{CallEnd}
use Rattle.subcommands.specs.declared.performing.End.{End}
use Rattle.subcommands.specs.declared.performing.End.TheVariants as end

-- A line: its text, followed by a line feed.
abbrev pub line : (text : List ℕ) → List ℕ
line text = text ++ 10 ∷ []

-- ---- calls

abbrev pub reference_text : Option ℕ → List ℕ
reference_text None = codes "null"
reference_text (Some number) = decimal number

-- The type and the number of a value. A reference may be null.
abbrev pub value_line : Val → List ℕ
value_line (I32 number) = codes "i32 " ++ line (decimal number)
value_line (I64 number) = codes "i64 " ++ line (decimal number)
value_line (FuncRef reference) = codes "funcref " ++ line (reference_text reference)
value_line (ExternRef reference) = codes "externref " ++ line (reference_text reference)

abbrev pub exhaustion_text : Exhaustion → List ℕ
exhaustion_text limit.Fuel = codes "fuel"
exhaustion_text limit.Depth = codes "depth"
exhaustion_text limit.Memory = codes "memory"

-- A line for each value, or one line for the trap or the exhaustion.
abbrev pub outcome_lines : Outcome → List ℕ
outcome_lines (Values values) = flat_map value_line values
outcome_lines (Trap trap) = codes "trap: " ++ line (trap_text trap)
outcome_lines (Exhausted what) = codes "exhausted: " ++ line (exhaustion_text what)

abbrev pub fuel_line : (left : ℕ) → List ℕ
fuel_line left = codes "fuel left " ++ line (decimal left)

-- How a call ended, and the fuel left.
abbrev pub call_lines : CallEnd → List ℕ
call_lines call = outcome_lines call.outcome ++ fuel_line call.fuel_left

-- ---- scripts

abbrev pub failure_line : (number : ℕ) → List ℕ
failure_line number = codes "line " ++ (decimal number ++ line (codes ": failed"))

abbrev pub counts_line : (passed failed skipped : ℕ) → List ℕ
counts_line passed failed skipped = codes "passed " ++ (decimal passed ++ (codes " failed " ++
    (decimal failed ++ (codes " skipped " ++ line (decimal skipped)))))

-- The line numbers of the commands that failed, and how many passed, failed and were skipped.
abbrev pub report_lines : Report → List ℕ
report_lines report = flat_map failure_line report.failures.items
    ++ counts_line report.passed report.failed report.skipped

-- ---- results of the program

abbrev pub valid_line : List ℕ
valid_line = line (codes "valid")

abbrev pub end_lines : End → List ℕ
end_lines (end.Ran report) = report_lines report
end_lines (end.Called call) = call_lines call
end_lines end.Valid = valid_line

-- The number and the name of a refusal.
abbrev pub refusal_text : machine.Refusal → List ℕ
refusal_text machine.Malformed = codes "refused 1 Malformed"
refusal_text machine.Unsupported = codes "refused 2 Unsupported"
refusal_text machine.Limit = codes "refused 3 Limit"
refusal_text machine.Invalid = codes "refused 4 Invalid"
refusal_text machine.UnknownModule = codes "refused 5 UnknownModule"
refusal_text machine.UnknownImport = codes "refused 6 UnknownImport"
refusal_text machine.IncompatibleImport = codes "refused 7 IncompatibleImport"
refusal_text machine.UnknownInstance = codes "refused 8 UnknownInstance"
refusal_text machine.UnknownExport = codes "refused 9 UnknownExport"
refusal_text machine.WrongKind = codes "refused 10 WrongKind"
refusal_text machine.BadArguments = codes "refused 11 BadArguments"
refusal_text machine.NameTaken = codes "refused 12 NameTaken"
refusal_text machine.OutOfMemory = codes "refused 13 OutOfMemory"

-- Why a script was not run, with the index of the command at fault.
abbrev pub script_fault_line : ScriptFault → List ℕ
script_fault_line script.NotJson = line (codes "refused 15 NotJson")
script_fault_line (script.BadCommand index) =
    codes "refused 16 BadCommand(" ++ (decimal index ++ line (codes ")"))
script_fault_line (script.MissingFile index) =
    codes "refused 17 MissingFile(" ++ (decimal index ++ line (codes ")"))
script_fault_line script.OutOfMemory = line (refusal_text machine.OutOfMemory)

abbrev pub fault_line : Fault → List ℕ
fault_line fault.Usage = line (codes "usage")
fault_line (fault.CannotRead path) = codes "cannot read " ++ line path.now
fault_line (fault.CannotReadNamed path) = codes "cannot read " ++ line (string_bytes path)
fault_line (fault.Script why) = script_fault_line why
fault_line (fault.Refused why) = line (refusal_text (refusal_of why))
fault_line fault.HostNameTaken = line (refusal_text machine.NameTaken)
fault_line fault.HostFuncRef = line (codes "refused 14 HostFuncRef")
fault_line fault.BadArguments = line (codes "bad arguments")
