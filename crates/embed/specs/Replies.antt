-- What commands and replies mean to the embedding machine.
use Rattle.std.specs.Prelude.{[], ◌∷◌, Result, Ok, Err, Vec, string_bytes}
use Rattle.std.specs.declared.alloc.Global.{Global}
use Rattle.core_types.specs.declared.outcome.Val.{Val}
use Rattle.meaning.specs.embedding.Commands as machine
use Rattle.meaning.specs.execution.Runs.{WithValues, WithTrap}
use Rattle.exec.specs.Endings.{ending_of, exhausted_ending}
use Rattle.exec.specs.declared.outcome.Outcome.{Outcome}
use Rattle.embed.specs.declared.commands.Command.{Command}
use Rattle.embed.specs.declared.commands.Command.TheVariants.{Load, Link, Register, Call, GetGlobal, SetFuel}
use Rattle.embed.specs.declared.commands.Reply.{Reply}
use Rattle.embed.specs.declared.commands.Reply.TheVariants.{Loaded, Linked, Done, Values, Trap, Exhausted, Refused}
use Rattle.embed.specs.declared.link_outcome.LinkOutcome.{LinkOutcome}
use Rattle.embed.specs.declared.link_outcome.LinkOutcome.TheVariants as link
use Rattle.embed.specs.declared.numbers.ModuleNumber.{ModuleNumber}
use Rattle.embed.specs.declared.refusals.Refusal.{Refusal}
use Rattle.embed.specs.declared.refusals.Refusal.TheVariants.{Malformed, Unsupported, Limit, Invalid, UnknownModule, UnknownImport, IncompatibleImport}
use Rattle.embed.specs.declared.refusals.Refusal.TheVariants.{UnknownInstance, UnknownExport, WrongKind, BadArguments, NameTaken, OutOfMemory}

abbrev pub command_of : Command → machine.Command
command_of (Load bytes) = machine.Load bytes.items
command_of (Link number) = machine.Link number
command_of (Register number name) = machine.Register number (string_bytes name)
command_of (Call number name arguments) = machine.Call number (string_bytes name) arguments.items
command_of (GetGlobal number name) = machine.GetGlobal number (string_bytes name)
command_of (SetFuel fuel) = machine.SetFuel fuel

abbrev pub refusal_of : Refusal → machine.Refusal
refusal_of (Malformed offset) = machine.Malformed
refusal_of (Unsupported offset) = machine.Unsupported
refusal_of Limit = machine.Limit
refusal_of (Invalid place) = machine.Invalid
refusal_of UnknownModule = machine.UnknownModule
refusal_of (UnknownImport index) = machine.UnknownImport
refusal_of (IncompatibleImport index) = machine.IncompatibleImport
refusal_of UnknownInstance = machine.UnknownInstance
refusal_of UnknownExport = machine.UnknownExport
refusal_of WrongKind = machine.WrongKind
refusal_of BadArguments = machine.BadArguments
refusal_of NameTaken = machine.NameTaken
refusal_of OutOfMemory = machine.OutOfMemory

abbrev pub reply_of : Reply → machine.Reply
reply_of (Loaded number) = machine.Loaded number
reply_of (Linked number) = machine.Linked number
reply_of Done = machine.Done
reply_of (Values values) = machine.Ended (WithValues values.items)
reply_of (Trap trap) = machine.Ended (WithTrap trap)
reply_of (Exhausted what) = machine.Ended (exhausted_ending what)
reply_of (Refused refusal) = machine.Refused (refusal_of refusal)

-- The result of each call, as the reply to its command.
abbrev pub load_reply : Result ModuleNumber Refusal → machine.Reply
load_reply (Ok number) = machine.Loaded number.0
load_reply (Err refusal) = machine.Refused (refusal_of refusal)

abbrev pub link_outcome_reply : LinkOutcome → machine.Reply
link_outcome_reply (link.Linked number) = machine.Linked number.0
link_outcome_reply (link.Trap trap) = machine.Ended (WithTrap trap)
link_outcome_reply (link.Exhausted what) = machine.Ended (exhausted_ending what)

abbrev pub link_reply : Result LinkOutcome Refusal → machine.Reply
link_reply (Ok outcome) = link_outcome_reply outcome
link_reply (Err refusal) = machine.Refused (refusal_of refusal)

abbrev pub register_reply : Result (Unit {0}) Refusal → machine.Reply
register_reply (Ok done) = machine.Done
register_reply (Err refusal) = machine.Refused (refusal_of refusal)

abbrev pub call_reply : Result Outcome Refusal → machine.Reply
call_reply (Ok outcome) = machine.Ended (ending_of outcome)
call_reply (Err refusal) = machine.Refused (refusal_of refusal)

abbrev pub global_reply : Result Val Refusal → machine.Reply
global_reply (Ok value) = machine.Ended (WithValues (value ∷ []))
global_reply (Err refusal) = machine.Refused (refusal_of refusal)

abbrev pub values_reply : Result (Vec Val Global) Refusal → machine.Reply
values_reply (Ok values) = machine.Ended (WithValues values.items)
values_reply (Err refusal) = machine.Refused (refusal_of refusal)

-- What was found, or why nothing was.
abbrev pub found_or_refusal : {T : Type 0} → Result T Refusal → Result T machine.Refusal
found_or_refusal (Ok found) = Ok found
found_or_refusal (Err refusal) = Err (refusal_of refusal)
