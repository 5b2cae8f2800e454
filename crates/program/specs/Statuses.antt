-- The exit statuses of the program.
use Rattle.std.specs.Prelude.{ℕ, zero, suc, Ok}
use Rattle.meaning.specs.embedding.Commands as machine
use Rattle.meaning.specs.execution.Runs.{Ending, OutOfDepth, OutOfFuel, OutOfMemory, WithTrap, WithValues}
use Rattle.embed.specs.Replies.{call_reply, refusal_of}
use Rattle.subcommands.specs.declared.faults.Fault.{Fault}
use Rattle.subcommands.specs.declared.faults.Fault.TheVariants as fault
use Rattle.subcommands.specs.declared.performing.End.{End}
use Rattle.subcommands.specs.declared.performing.End.TheVariants as end
use Rattle.scripts.specs.declared.faults.ScriptFault.{ScriptFault}
use Rattle.scripts.specs.declared.faults.ScriptFault.TheVariants as script

-- The exit status of a call, which ended with values, with a trap, or out of fuel, depth or memory.
abbrev pub ending_status : Ending → ℕ
ending_status (WithValues values) = 0
ending_status (WithTrap trap) = 1
ending_status OutOfFuel = 6
ending_status OutOfDepth = 6
ending_status OutOfMemory = 6

-- The exit status of a refused command: 2 if its export or its arguments do not fit, 6 if memory ran out, and 5 otherwise.
abbrev pub refusal_status : machine.Refusal → ℕ
refusal_status machine.UnknownExport = 2
refusal_status machine.WrongKind = 2
refusal_status machine.BadArguments = 2
refusal_status machine.OutOfMemory = 6
refusal_status why = 5

-- The exit status of a reply.
abbrev pub reply_status : machine.Reply → ℕ
reply_status (machine.Ended ending) = ending_status ending
reply_status (machine.Refused why) = refusal_status why
reply_status reply = 0

-- The exit status of a script with this number of failed commands.
abbrev pub script_status : (failed : ℕ) → ℕ
script_status zero = 0
script_status (suc failed) = 1

-- The exit status if the program did what was requested.
abbrev pub end_status : End → ℕ
end_status (end.Ran report) = script_status report.failed
end_status (end.Called call) = reply_status (call_reply (Ok call.outcome))
end_status end.Valid = 0

-- The exit status if a script was not run to its end. It does not have the form of a command file, a file is missing, or memory ran out.
abbrev pub script_fault_status : ScriptFault → ℕ
script_fault_status script.NotJson = 4
script_fault_status (script.BadCommand command) = 4
script_fault_status (script.MissingFile command) = 3
script_fault_status script.OutOfMemory = 6

-- The exit status if the program did not do what was requested.
abbrev pub fault_status : Fault → ℕ
fault_status fault.Usage = 2
fault_status (fault.CannotRead path) = 3
fault_status (fault.CannotReadNamed path) = 3
fault_status (fault.Script why) = script_fault_status why
fault_status (fault.Refused why) = refusal_status (refusal_of why)
fault_status fault.HostNameTaken = 5
fault_status fault.HostFuncRef = 5
fault_status fault.BadArguments = 2
