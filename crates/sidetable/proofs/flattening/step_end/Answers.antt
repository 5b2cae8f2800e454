use Rattle.std.proofs.Common.{◌≡◌, arith, length, refl}
use Rattle.sidetable.specs.Signatures.{signatures_of}
use Rattle.sidetable.proofs.Ending.{end-passes}
use Rattle.sidetable.proofs.flattening.step_end.Goals as goal

pub returns : goal.returns
returns c =
    let end : c.in_ok-number.field-0 ≡ length c.args.f.now.operations.items = omega (arith, c.in_ok-number.ensures, c.len.ensures) in
    end-passes (signatures_of c.args.s.now) c.args.outermost c.args.f.now _ c.in-Some.level c.in_ok-number.field-0 c.in-Some.ensures refl
    c.in_ok-set.ensures end c.complete_level.ensures
