use Rattle.std.proofs.Common.{◌≡◌, ◌++◌, flat_map, take}
use Rattle.answers.specs.Exports.{export_bytes}
use Rattle.answers.proofs.exports.push_all.Given as goal

abbrev pub invariant-loop-export : goal.invariant-loop-export
invariant-loop-export l =
    l.out.items ≡ l.initial.out.items ++ flat_map export_bytes (take l.export-index l.exports)
