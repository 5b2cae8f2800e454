-- Values in messages. Their encoding is specific to this project.
use Rattle.std.specs.Prelude.{ℕ, List, ◌++◌, flat_map}
use Rattle.core_types.specs.declared.outcome.Val.{Val}
use Rattle.meaning.specs.execution.Values.{type_of}
use Rattle.cells.specs.Cells.{IsCellOf, cell_of}
use Rattle.messages.specs.Numbers.{number_bytes}
use Rattle.messages.specs.Types.{type_bytes}

-- A value is its type and its cell.
abbrev pub value_bytes : Val → List ℕ
value_bytes v = type_bytes (type_of v) ++ number_bytes (cell_of v)

-- Values are in a row.
abbrev pub values_bytes : List Val → List ℕ
values_bytes vs = flat_map value_bytes vs

-- The number of a value has the width of its type.
abbrev pub HasItsWidth : Val → Type 0
HasItsWidth v = IsCellOf (type_of v) (cell_of v)
