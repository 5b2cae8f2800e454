use Rattle.std.proofs.Common.{◌≡◌, [], drop, ◌||◌}
use Rattle.std.specs.List.{list_any}
use Rattle.core_types.specs.declared.module.Func.{Func}
use Rattle.binary.specs.Sections.{codes_at}
use Rattle.binary.proofs.sections.code.read_codes.Given as goal

-- the rest of the reading gives what the whole reading gives
abbrev pub invariant-loop-ty : goal.invariant-loop-ty
invariant-loop-ty g l =
    (codes_at g.R.ReadBody.reads (drop l.ty-index l.types) l.funcs.items l.reader ≡ codes_at g.R.ReadBody.reads l.types [] l.fn.reader)
    × (g.R.ReadBody.noted l.bodies ≡ (g.R.ReadBody.noted l.fn.bodies || list_any (λ (f : Func). g.R.ReadBody.notes f.body) l.funcs.items))
