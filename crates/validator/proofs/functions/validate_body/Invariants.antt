use Rattle.std.proofs.Common.{List, [], length, ℕ, ◌++◌, ◌≡◌}
use Rattle.std.specs.Prelude.{None, Some}
use Rattle.core_types.specs.declared.op.Op.{Op}
use Rattle.core_types.specs.reading.Bodies.{operations_in}
use Rattle.binary.specs.Values.{first_byte}
use Rattle.validator.specs.Completeness.{IsRestTyped}
use Rattle.validator.specs.Soundness.{IsReadTyped}
use Rattle.validator.proofs.BodyReading.{ReadsBody}
use Rattle.validator.proofs.Visiting.{LeadsOn}
use Rattle.validator.proofs.functions.validate_body.Given as goal

abbrev pub invariant-loop-next : goal.invariant-loop-next
invariant-loop-next g l =
    (read : List Op) × ReadsBody l.body read l.reader
    × IsReadTyped l.context l.stacks read
    × ((ops : List Op) → l.body ≡ read ++ ops → IsRestTyped l.context l.body l.stacks ops)
    × g.V.Visitor.IsReady l.visitor
    × ((ops : List Op) → LeadsOn g.V.Visitor.Visits l.fn.visitor (read ++ ops) l.visitor ops)
    × (l.next ≡ first_byte l.reader.0) × (l.next ≡ None → operations_in l.reader.0 ≡ Some [])

abbrev pub decreases-loop-next : goal.decreases-loop-next
decreases-loop-next g l = length l.reader.0
