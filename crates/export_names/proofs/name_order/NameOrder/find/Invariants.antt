use Rattle.std.proofs.Common.{◌-◌}
use Rattle.export_names.proofs.Halving.{LiesBetween}
use Rattle.export_names.proofs.name_order.NameOrder.find.Given as goal

abbrev pub invariant-loop-low : goal.invariant-loop-low
invariant-loop-low l = LiesBetween l.exports l.self l.name l.low l.high

abbrev pub decreases-loop-low : goal.decreases-loop-low
decreases-loop-low l = l.high - l.low
