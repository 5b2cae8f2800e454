-- The numbers by which refusals are named, which are this project's own.
use Rattle.std.specs.Prelude.{ℕ}
use Rattle.meaning.specs.embedding.Commands.{Refusal, Malformed, Unsupported, Limit, Invalid, UnknownModule, UnknownImport, IncompatibleImport, UnknownInstance}
use Rattle.meaning.specs.embedding.Commands.{UnknownExport, WrongKind, BadArguments, NameTaken, OutOfMemory}
use Rattle.meaning.specs.embedding.Creation as creation

abbrev pub number_of : Refusal → ℕ
number_of Malformed = 1
number_of Unsupported = 2
number_of Limit = 3
number_of Invalid = 4
number_of UnknownModule = 5
number_of UnknownImport = 6
number_of IncompatibleImport = 7
number_of UnknownInstance = 8
number_of UnknownExport = 9
number_of WrongKind = 10
number_of BadArguments = 11
number_of NameTaken = 12
number_of OutOfMemory = 13

-- The number of the fault in the definition of a host function.
abbrev pub fault_number : creation.Fault → ℕ
fault_number creation.HostFuncRef = 14
fault_number creation.NameTaken = number_of NameTaken
fault_number creation.OutOfMemory = number_of OutOfMemory
