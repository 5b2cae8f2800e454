-- How messages encode the answers of a server. The encoding is specific to this project.
use Rattle.std.specs.Prelude.{ℕ, List, [], ◌++◌, flat_map, string_bytes}
use Rattle.core_types.specs.declared.outcome.Exhaustion.{Exhaustion}
use Rattle.core_types.specs.declared.outcome.Exhaustion.TheVariants.{Fuel, Depth, Memory}
use Rattle.core_types.specs.declared.outcome.Trap.{Trap as Trapped}
use Rattle.core_types.specs.declared.outcome.Trap.TheVariants.{Unreachable, DivideByZero, IntegerOverflow, MemoryBounds, TableBounds, UndefinedElement, UninitializedElement, IndirectType, Host}
use Rattle.embed.specs.declared.commands.Reply.{Reply}
use Rattle.embed.specs.declared.commands.Reply.TheVariants as reply
use Rattle.messages.specs.Numbers.{number_bytes}
use Rattle.messages.specs.Values.{value_bytes, values_bytes}
use Rattle.scripts.specs.declared.report.Report.{Report}
use Rattle.answers.specs.Causes.{cause_number, place_of}
use Rattle.answers.specs.Exports.{exports_bytes, imports_bytes}
use Rattle.answers.specs.declared.answer.Answer.{Answer}
use Rattle.answers.specs.declared.answer.Answer.TheVariants.{Done, Applied, Global, FuelLeft, QuotaLeft, Exports, Imports, Ran, Text, Refused, NotSpelt, NotNow}
use Rattle.answers.specs.declared.causes.Cause.{Cause}
use Rattle.answers.specs.declared.causes.Cause.TheVariants.{Command}

abbrev pub trap_number : Trapped → ℕ
trap_number Unreachable = 1
trap_number DivideByZero = 2
trap_number IntegerOverflow = 3
trap_number MemoryBounds = 4
trap_number TableBounds = 5
trap_number UndefinedElement = 6
trap_number UninitializedElement = 7
trap_number IndirectType = 8
trap_number (Host code) = 9

-- The code of a host function's trap.
abbrev pub trap_code : Trapped → ℕ
trap_code (Host code) = code
trap_code trap = 0

abbrev pub exhaustion_number : Exhaustion → ℕ
exhaustion_number Fuel = 1
exhaustion_number Depth = 2
exhaustion_number Memory = 3

-- The kind of the message for a reply of an embedding.
abbrev pub reply_kind : Reply → ℕ
reply_kind reply.Done = 0
reply_kind (reply.Loaded number) = 1
reply_kind (reply.Linked number) = 1
reply_kind (reply.Values values) = 2
reply_kind (reply.Trap trap) = 3
reply_kind (reply.Exhausted what) = 4
reply_kind (reply.Refused refusal) = 5

abbrev pub kind_of : Answer → ℕ
kind_of Done = 0
kind_of (Applied reply) = reply_kind reply
kind_of (Global value) = 2
kind_of (FuelLeft fuel) = 1
kind_of (QuotaLeft bytes) = 1
kind_of (Refused cause) = 5
kind_of (Exports exports) = 6
kind_of (Ran report) = 7
kind_of NotSpelt = 8
kind_of NotNow = 9
kind_of (Imports imports) = 12
kind_of (Text text) = 13

-- The number, the kind of place and the place of a refusal.
abbrev pub cause_numbers : Cause → List ℕ
cause_numbers cause = number_bytes (cause_number cause)
    ++ (number_bytes (place_of cause).kind ++ number_bytes (place_of cause).index)

-- These numbers, and a description.
abbrev pub cause_bytes : Cause → (words : List ℕ) → List ℕ
cause_bytes cause words = cause_numbers cause ++ words

abbrev pub report_bytes : Report → List ℕ
report_bytes report = number_bytes report.passed
    ++ (number_bytes report.failed ++ (number_bytes report.skipped
    ++ flat_map number_bytes report.failures.items))

-- The fields of the message for a reply of an embedding. A refusal has a description.
abbrev pub reply_fields : Reply → (words : List ℕ) → List ℕ
reply_fields reply.Done words = []
reply_fields (reply.Loaded number) words = number_bytes number
reply_fields (reply.Linked number) words = number_bytes number
reply_fields (reply.Values values) words = values_bytes values.items
reply_fields (reply.Trap trap) words =
    number_bytes (trap_number trap) ++ number_bytes (trap_code trap)
reply_fields (reply.Exhausted what) words = number_bytes (exhaustion_number what)
reply_fields (reply.Refused refusal) words = cause_bytes (Command refusal) words

abbrev pub fields_of : Answer → (words : List ℕ) → List ℕ
fields_of Done words = []
fields_of (Applied reply) words = reply_fields reply words
fields_of (Global value) words = value_bytes value
fields_of (FuelLeft fuel) words = number_bytes fuel
fields_of (QuotaLeft bytes) words = number_bytes bytes
fields_of (Refused cause) words = cause_bytes cause words
fields_of (Exports exports) words = exports_bytes exports
fields_of (Imports imports) words = imports_bytes imports
fields_of (Ran report) words = report_bytes report
fields_of (Text text) words = string_bytes text
fields_of NotSpelt words = []
fields_of NotNow words = []
