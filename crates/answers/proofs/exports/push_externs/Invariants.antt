use Rattle.std.proofs.Common.{◌≡◌, ◌++◌, flat_map, take}
use Rattle.answers.specs.Exports.{extern_bytes}
use Rattle.answers.proofs.exports.push_externs.Given as goal

abbrev pub invariant-loop-ty : goal.invariant-loop-ty
invariant-loop-ty l =
    l.out.items ≡ l.initial.out.items ++ flat_map extern_bytes (take l.ty-index l.types)
