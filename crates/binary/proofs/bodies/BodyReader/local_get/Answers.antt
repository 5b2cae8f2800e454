use Rattle.std.proofs.Common.{refl, ℕ}
use Rattle.core_types.specs.declared.op.Op.TheVariants as flat
use Rattle.core_types.specs.declared.op.PlainOp.TheVariants as plain
use Rattle.core_types.specs.declared.op.VariableOp.TheVariants.{LocalGet}
use Rattle.binary.proofs.loops.Bodies.{unnamed_passes}
use Rattle.binary.proofs.bodies.BodyReader.local_get.Goals as goal

pub returns : goal.returns
returns c = rw (← c.self.view_is)
    (unnamed_passes (λ (x : ℕ). flat.Plain (plain.Variable (LocalGet x))) (λ x. refl) c.read_local_get_op.result _ _ 0x20 _ (rw (← c.self.view_is) at c.requires) c.read_local_get_op.ensures)
