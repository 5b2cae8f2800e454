use Rattle.std.proofs.Common.{length}
use Rattle.binary.specs.Expressions.{IsReadingExpression}
use Rattle.binary.proofs.expressions.read_expression.Given as goal

abbrev pub invariant-loop-ops : goal.invariant-loop-ops
invariant-loop-ops l = IsReadingExpression l.fn.reader l.reader l.bodies l.ops

abbrev pub decreases-loop-ops : goal.decreases-loop-ops
decreases-loop-ops l = length l.reader
