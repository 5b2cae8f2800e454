-- Reading the operations of a body.
use Rattle.std.specs.Prelude.{List, ℕ, None, Option, Some, [], ◌∷◌, length, suc, zero}
use Rattle.core_types.specs.declared.op.Op.{Op}
use Rattle.core_types.specs.declared.op.Op.TheVariants.{Else}
use Rattle.core_types.specs.reading.Conventions.{◌>>=◌}
use Rattle.core_types.specs.reading.Instructions.{op_at}

-- The operations up to the end of the bytes, in a limited number of steps.
unfoldable pub each_op_at : ℕ → List ℕ → Option (List Op)
each_op_at steps [] = Some []
each_op_at zero (byte ∷ bytes) = None
each_op_at (suc steps) (byte ∷ bytes) = do
  op ← op_at (byte ∷ bytes)
  ops ← each_op_at steps op.1
  Some (op.0 ∷ ops)

-- The operations that these bytes encode, if they do. Each operation takes at least one byte.
unfoldable pub operations_in : List ℕ → Option (List Op)
operations_in bytes = each_op_at (length bytes) bytes

-- An else without an if, which no body contains.
abbrev pub stray_else : List Op
stray_else = Else ∷ []

abbrev pub or_stray_else : Option (List Op) → List Op
or_stray_else None = stray_else
or_stray_else (Some ops) = ops

-- The operations that these bytes encode. Bytes that encode none are seen as an else without an if, which no type accepts.
unfoldable pub operations_of : List ℕ → List Op
operations_of bytes = or_stray_else (operations_in bytes)
