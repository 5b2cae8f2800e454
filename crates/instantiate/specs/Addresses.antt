-- Addresses by kind.
use Rattle.std.specs.Prelude.{ℕ, Option}
use Rattle.core_types.specs.declared.outcome.Extern.{Extern}
use Rattle.meaning.specs.execution.Modules.{function_address, global_address, memory_address, table_address}
use Rattle.instantiate.specs.declared.addresses.Kind.{Kind}
use Rattle.instantiate.specs.declared.addresses.Kind.TheVariants.{Func, Table, Memory, Global}

-- The address of an external value, if it is of this kind.
abbrev pub address_as : Kind → Extern → Option ℕ
address_as Func value = function_address value
address_as Table value = table_address value
address_as Memory value = memory_address value
address_as Global value = global_address value
