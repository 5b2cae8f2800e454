use Rattle.std.proofs.Common.{arith, length, sym, ◌<◌, ◌∙◌}
use Rattle.std.proofs.lemmas.List.{length-set}
use Rattle.validator.proofs.LocalTypes.{HasFirst-next}
use Rattle.validator.proofs.local_types.LocalTypes.new.Goals as goal

pub loop-count-preserved : goal.loop-count-preserved
loop-count-preserved c =
    let (few, most, long, has) = c.loop-count.invariant in
    let within : c.loop-count.count < length c.loop-count.first = omega (arith, c.loop-count-test.true, most, long) in
    (omega (arith, c.loop-count-test.true), most, length-set c.loop-count.first c.loop-count.count c.in-Some.ty ∙ long, HasFirst-next _ _ _ _ has within (sym c.in-Some.ensures))
