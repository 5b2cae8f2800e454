use Rattle.std.proofs.Common.{sym, ◌∙◌}
use Rattle.binary.proofs.loops.Bodies.{none_left}
use Rattle.binary.proofs.bodies.BodyReader.opcode.Goals as goal

pub returns-clause-none : goal.returns-clause-none
returns-clause-none c = λ none. rw (← c.self.view_is) (none_left c.self.inside.reader (sym c.peek.ensures ∙ none))
