-- Messages. Their encoding is specific to this project.
use Rattle.std.specs.Prelude.{ℕ, List, ◌++◌, length}
use Rattle.messages.specs.Numbers.{number_bytes}

-- The head of a message: the number of bytes of its fields, and its kind.
abbrev pub head_bytes : ℕ → ℕ → List ℕ
head_bytes size kind = number_bytes size ++ number_bytes kind

abbrev pub message_bytes : ℕ → List ℕ → List ℕ
message_bytes kind fields = head_bytes (length fields) kind ++ fields
