use Rattle.std.proofs.Common.{◌-◌, ◌≡◌, ◌≤◌, ◌++◌, length}
use Rattle.validator.specs.LocalTypes.{HasFirst}
use Rattle.validator.proofs.local_types.LocalTypes.new.Given as goal

abbrev pub invariant-loop-count : goal.invariant-loop-count
invariant-loop-count l = (l.count ≤ l.most) × (l.most ≤ 32) × (length l.first ≡ 32) × HasFirst (l.params ++ l.locals) l.count l.first

abbrev pub decreases-loop-count : goal.decreases-loop-count
decreases-loop-count l = l.most - l.count
