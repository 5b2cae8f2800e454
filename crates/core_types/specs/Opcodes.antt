-- Opcodes: the instructions of consecutive opcodes, in their order (Binary Format, Instructions).
use Rattle.std.specs.Prelude.{List, [], ◌∷◌, Option, Some, None}
use Rattle.core_types.specs.declared.op.BinaryOp.{BinaryOp}
use Rattle.core_types.specs.declared.op.BinaryOp.TheVariants.{Add, Sub, Mul, DivS, DivU, RemS, RemU, And, Or, Xor, Shl, ShrS, ShrU, Rotl, Rotr}
use Rattle.core_types.specs.declared.op.Comparison.{Comparison}
use Rattle.core_types.specs.declared.op.Comparison.TheVariants.{Eq, Ne, LtS, LtU, GtS, GtU, LeS, LeU, GeS, GeU}
use Rattle.core_types.specs.declared.op.LoadOp.{LoadOp}
use Rattle.core_types.specs.declared.op.LoadOp.TheVariants as load
use Rattle.core_types.specs.declared.op.Sign.TheVariants.{Signed, Unsigned}
use Rattle.core_types.specs.declared.op.StoreOp.{StoreOp}
use Rattle.core_types.specs.declared.op.StoreOp.TheVariants as store
use Rattle.core_types.specs.declared.op.UnaryOp.{UnaryOp}
use Rattle.core_types.specs.declared.op.UnaryOp.TheVariants.{Clz, Ctz, Popcnt, Extend8S, Extend16S}
use Rattle.core_types.specs.declared.op.Width.TheVariants.{W32, W64}

-- The loads by opcode, from 28 on. If there is none, the opcode is an instruction on floating-point numbers.
abbrev pub loads : List (Option LoadOp)
loads =
    Some (load.Whole W32) ∷ Some (load.Whole W64) ∷ None ∷ None
    ∷ Some (load.Bits8 W32 Signed) ∷ Some (load.Bits8 W32 Unsigned) ∷
    Some (load.Bits16 W32 Signed) ∷ Some (load.Bits16 W32 Unsigned)
    ∷ Some (load.Bits8 W64 Signed) ∷ Some (load.Bits8 W64 Unsigned) ∷
    Some (load.Bits16 W64 Signed) ∷ Some (load.Bits16 W64 Unsigned)
    ∷ Some (load.Bits32 Signed) ∷ Some (load.Bits32 Unsigned) ∷ []

-- The stores by opcode, from 36 on, in the same way.
abbrev pub stores : List (Option StoreOp)
stores =
    Some (store.Whole W32) ∷ Some (store.Whole W64) ∷ None ∷ None
    ∷ Some (store.Bits8 W32) ∷ Some (store.Bits16 W32) ∷ Some (store.Bits8 W64) ∷
    Some (store.Bits16 W64) ∷ Some store.Bits32 ∷ []

-- Numeric instructions without an immediate, by opcode from 45 on: first the tests and comparisons of each width.
abbrev pub comparisons : List Comparison
comparisons = Eq ∷ Ne ∷ LtS ∷ LtU ∷ GtS ∷ GtU ∷ LeS ∷ LeU ∷ GeS ∷ GeU ∷ []

abbrev pub bit_counts : List UnaryOp
bit_counts = Clz ∷ Ctz ∷ Popcnt ∷ []

abbrev pub binary_ops : List BinaryOp
binary_ops = Add ∷ Sub ∷ Mul ∷ DivS ∷ DivU ∷ RemS ∷ RemU ∷ And ∷ Or ∷ Xor ∷ Shl ∷ ShrS ∷ ShrU ∷
    Rotl ∷ Rotr ∷ []

abbrev pub sign_extensions : List UnaryOp
sign_extensions = Extend8S ∷ Extend16S ∷ []
