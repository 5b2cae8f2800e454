-- The limits on the types and functions of a module.
use Rattle.std.specs.Prelude.{All}
use Rattle.core_types.specs.declared.module.Module.{Module}
use Rattle.meaning.specs.binary.Limits.{HasFewLocals, IsSmallType}

abbrev pub HasSmallParts : Module → Type 0
HasSmallParts m = All IsSmallType m.types × All (HasFewLocals m.types) m.funcs
