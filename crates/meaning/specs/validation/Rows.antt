-- Worked rows of typing: bodies that are typed or not.
use Rattle.core_types.specs.declared.op.PlainOp.TheVariants.{Control, I64Const, Numeric, Parametric}
use Rattle.core_types.specs.declared.op.NumericOp.TheVariants.{Binary}
use Rattle.core_types.specs.declared.op.Width.TheVariants.{W32}
use Rattle.core_types.specs.declared.op.BinaryOp.TheVariants.{Add}
use Rattle.core_types.specs.declared.op.ControlOp.TheVariants.{Unreachable}
use Rattle.core_types.specs.declared.op.ParametricOp.TheVariants.{DropOperand}
use Rattle.meaning.specs.structure.Bodies.{Body, Empty, Then}

-- A sum of two operands that the body does not push. The sum is dropped.
abbrev pub sum_dropped : Body
sum_dropped = Then (Numeric (Binary W32 Add)) (Then (Parametric DropOperand) Empty)

abbrev pub sum_of_any : Body
sum_of_any = Then (Control Unreachable) sum_dropped

abbrev pub sum_of_a_long : Body
sum_of_a_long = Then (Control Unreachable) (Then (I64Const 0) sum_dropped)
