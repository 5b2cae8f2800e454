-- Requests to a client that executes host functions. Their format is this project's own.
use Rattle.std.specs.Prelude.{ℕ, List, ◌++◌}
use Rattle.core_types.specs.declared.outcome.Val.{Val}
use Rattle.messages.specs.Messages.{message_bytes}
use Rattle.messages.specs.Numbers.{number_bytes}
use Rattle.messages.specs.Values.{values_bytes}

-- A request has the number of the host function, the number of bytes that it borrows, and the arguments.
abbrev pub request_bytes : ℕ → ℕ → List Val → List ℕ
request_bytes number lent arguments =
    message_bytes 10 (number_bytes number ++ number_bytes lent ++ values_bytes arguments)
