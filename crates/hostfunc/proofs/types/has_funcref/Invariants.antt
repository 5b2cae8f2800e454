use Rattle.std.proofs.Common.{◌≡◌, drop}
use Rattle.meaning.specs.embedding.Creation.{has_funcref}
use Rattle.hostfunc.proofs.types.has_funcref.Given as goal

abbrev pub invariant-loop-ty : goal.invariant-loop-ty
invariant-loop-ty l = has_funcref l.types ≡ has_funcref (drop l.ty-index l.types)
