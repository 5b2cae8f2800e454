use Rattle.std.proofs.Common.{◌≡◌, map, take}
use Rattle.meaning.specs.execution.Values.{type_of}
use Rattle.hostfunc.proofs.types.have_types.Given as goal

abbrev pub invariant-loop-i : goal.invariant-loop-i
invariant-loop-i l = map type_of (take l.i l.values) ≡ take l.i l.types
