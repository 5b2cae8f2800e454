use Rattle.std.proofs.Common.{refl}
use Rattle.core_types.specs.declared.op.Op.TheVariants as flat
use Rattle.core_types.specs.declared.op.PlainOp.TheVariants as plain
use Rattle.core_types.specs.declared.op.VariableOp.{VariableOp}
use Rattle.binary.proofs.loops.Bodies.{unnamed_passes}
use Rattle.binary.proofs.bodies.BodyReader.variable.Goals as goal

pub returns : goal.returns
returns c = rw (← c.self.view_is)
    (unnamed_passes (λ (x : VariableOp). flat.Plain (plain.Variable x)) (λ x. refl) c.read_variable_op.result _ _ c.args.code _ (rw (← c.self.view_is) at c.requires.opcode) c.read_variable_op.ensures)
