use Rattle.std.proofs.Common.{List, length, ◌≡◌, ◌||◌}
use Rattle.std.specs.List.{list_any}
use Rattle.core_types.specs.declared.op.Op.{Op}
use Rattle.meaning.specs.binary.Modules.{names_data}
use Rattle.binary.specs.Expressions.{IsReadingExpression}
use Rattle.binary.proofs.expressions.skip_expression.Given as goal

abbrev pub invariant-loop-code : goal.invariant-loop-code
invariant-loop-code l =
    (ops : List Op) × IsReadingExpression l.fn.reader l.here l.bodies ops
    × (l.data_named ≡ (l.fn.data_named || list_any names_data ops))

abbrev pub decreases-loop-code : goal.decreases-loop-code
decreases-loop-code l = length l.here
