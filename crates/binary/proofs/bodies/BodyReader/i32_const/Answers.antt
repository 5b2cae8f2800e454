use Rattle.std.proofs.Common.{refl, ℕ}
use Rattle.core_types.specs.declared.op.Op.TheVariants as flat
use Rattle.core_types.specs.declared.op.PlainOp.TheVariants as plain
use Rattle.binary.proofs.loops.Bodies.{unnamed_passes}
use Rattle.binary.proofs.bodies.BodyReader.i32_const.Goals as goal

pub returns : goal.returns
returns c = rw (← c.self.view_is)
    (unnamed_passes (λ (x : ℕ). flat.Plain (plain.I32Const x)) (λ x. refl) c.read_i32_const_op.result _ _ 0x41 _ (rw (← c.self.view_is) at c.requires) c.read_i32_const_op.ensures)
