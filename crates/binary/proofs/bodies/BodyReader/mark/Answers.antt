use Rattle.binary.proofs.loops.Bodies.{marks_name_none, unnamed_passes}
use Rattle.binary.proofs.bodies.BodyReader.mark.Goals as goal

pub returns : goal.returns
returns c =
    rw (← c.self.view_is) (unnamed_passes _ marks_name_none c.read_mark.result _ _ c.args.code _ (rw (← c.self.view_is) at c.requires.opcode) c.read_mark.ensures)
