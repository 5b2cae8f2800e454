use Rattle.std.proofs.Common.{◌≡◌, ◌++◌, flat_map, take}
use Rattle.answers.specs.Exports.{import_bytes}
use Rattle.answers.proofs.exports.push_all_imports.Given as goal

abbrev pub invariant-loop-import : goal.invariant-loop-import
invariant-loop-import l =
    l.out.items ≡ l.initial.out.items ++ flat_map import_bytes (take l.import-index l.imports)
