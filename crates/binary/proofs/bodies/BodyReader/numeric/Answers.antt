use Rattle.std.proofs.Common.{refl}
use Rattle.core_types.specs.declared.op.Op.TheVariants as flat
use Rattle.core_types.specs.declared.op.PlainOp.TheVariants as plain
use Rattle.core_types.specs.declared.op.NumericOp.{NumericOp}
use Rattle.binary.proofs.loops.Bodies.{unnamed_passes}
use Rattle.binary.proofs.bodies.BodyReader.numeric.Goals as goal

pub returns : goal.returns
returns c = rw (← c.self.view_is)
    (unnamed_passes (λ (x : NumericOp). flat.Plain (plain.Numeric x)) (λ x. refl) c.read_numeric_op.result _ _ c.args.code _ (rw (← c.self.view_is) at c.requires.opcode) c.read_numeric_op.ensures)
