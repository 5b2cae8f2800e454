-- The types that a function's body refers to, as they are in the code.
use Rattle.std.specs.Prelude.{map}
use Rattle.meaning.specs.validation.Modules.{type_at}
use Rattle.sidetable.specs.Counts.{Signatures}
use Rattle.sidetable.specs.declared.counts.ModuleTypes.{ModuleTypes}

abbrev pub signatures_of : ModuleTypes → Signatures
signatures_of s = record {
  types = s.types.now;
  functions = map (type_at s.types.now) s.functions.now;
}
