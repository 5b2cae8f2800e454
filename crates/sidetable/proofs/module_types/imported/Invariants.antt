use Rattle.std.proofs.Common.{◌≡◌, take}
use Rattle.meaning.specs.validation.Modules.{imported_functions}
use Rattle.sidetable.proofs.module_types.imported.Given as goal

abbrev pub invariant-loop-import : goal.invariant-loop-import
invariant-loop-import l =
    l.functions.items ≡ imported_functions (take l.import-index l.imports)
