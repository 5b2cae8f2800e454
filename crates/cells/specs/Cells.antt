-- Cells: values without their types (Execution, Runtime Structure, Values).
use Rattle.std.specs.Prelude.{ℕ, zero, suc, ◌<◌, ◌≤◌, ◌^◌, List, [], ◌∷◌, Option, Some, None, Result, Ok, Err}
use Rattle.core_types.specs.declared.outcome.Trap.{Trap}
use Rattle.core_types.specs.declared.outcome.Val.{Val}
use Rattle.core_types.specs.declared.outcome.Val.TheVariants.{I32, I64, FuncRef, ExternRef}
use Rattle.core_types.specs.declared.types.ValType.{ValType}
use Rattle.core_types.specs.declared.types.ValType.TheVariants as ty

-- Null is zero, and the reference n is n + 1.
abbrev pub reference_cell : Option ℕ → ℕ
reference_cell None = 0
reference_cell (Some n) = suc n

-- The cell of a value.
abbrev pub cell_of : Val → ℕ
cell_of (I32 n) = n
cell_of (I64 n) = n
cell_of (FuncRef a) = reference_cell a
cell_of (ExternRef x) = reference_cell x

-- The reference that a cell represents.
abbrev pub reference_of : ℕ → Option ℕ
reference_of zero = None
reference_of (suc n) = Some n

-- A cell, read at a type.
abbrev pub value_of : ValType → ℕ → Val
value_of ty.I32 n = I32 n
value_of ty.I64 n = I64 n
value_of ty.FuncRef n = FuncRef (reference_of n)
value_of ty.ExternRef n = ExternRef (reference_of n)

-- A result's cell, read at a type, or its trap.
abbrev pub value_of_result : ValType → Result ℕ Trap → Result Val Trap
value_of_result t (Ok n) = Ok (value_of t n)
value_of_result t (Err trap) = Err trap

-- The cell is that of a value of the type, whose number has its width.
abbrev pub IsCellOf : ValType → ℕ → Type 0
IsCellOf ty.I32 n = n < 2 ^ 32
IsCellOf ty.I64 n = n < 2 ^ 64
IsCellOf ty.FuncRef n = n ≤ 2 ^ 32
IsCellOf ty.ExternRef n = n ≤ 2 ^ 32

-- The same one by one.
abbrev pub AreCellsOf : List ValType → List ℕ → Type 0
AreCellsOf [] [] = Unit {0}
AreCellsOf [] (n ∷ ns) = ⊥
AreCellsOf (t ∷ ts) [] = ⊥
AreCellsOf (t ∷ ts) (n ∷ ns) = IsCellOf t n × AreCellsOf ts ns

-- Cells, read at their types.
abbrev pub values_of : List ValType → List ℕ → List Val
values_of [] ns = []
values_of (t ∷ ts) [] = []
values_of (t ∷ ts) (n ∷ ns) = value_of t n ∷ values_of ts ns
