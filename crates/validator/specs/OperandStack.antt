-- The entries that the operands of a body are kept in.
use denote.Ref.{Bor}
use Rattle.std.specs.Prelude.{◌≡◌, ℕ, zero, suc, List, [], ◌∷◌, ◌++◌, ◌+◌, ◌<◌, ◌≤◌, ◌^◌, All, length, map}
use Rattle.core_types.specs.declared.types.OperandType.{OperandType}
use Rattle.core_types.specs.declared.types.ValType.{ValType}
use Rattle.core_types.specs.declared.types.ValType.TheVariants.{ExternRef, FuncRef, I32, I64}
use Rattle.meaning.specs.validation.Instructions.{known}
use Rattle.validator.specs.declared.entries.Entry.{Entry}
use Rattle.core_types.specs.declared.types.OperandType.TheVariants as operand
use Rattle.validator.specs.declared.entries.Entry.TheVariants.{Known, Unknown, Run}

-- The lists of types that references lead to.
abbrev pub types_of : List (Bor (List ValType)) → List (List ValType)
types_of runs = map (λ (run : Bor (List ValType)). run.now) runs

-- The entry of one operand.
abbrev pub one : OperandType → Entry
one (operand.Known t) = Known t
one operand.Unknown = Unknown

-- An entry as a number, and back.
abbrev pub code_of : Entry → ℕ
code_of (Known I32) = 0
code_of (Known I64) = 1
code_of (Known FuncRef) = 2
code_of (Known ExternRef) = 3
code_of Unknown = 4
code_of Run = 5

abbrev pub entry_of : ℕ → Entry
entry_of zero = Known I32
entry_of (suc zero) = Known I64
entry_of (suc (suc zero)) = Known FuncRef
entry_of (suc (suc (suc zero))) = Known ExternRef
entry_of (suc (suc (suc (suc zero)))) = Unknown
entry_of (suc (suc (suc (suc (suc n))))) = Run

-- The operands of entries, whose runs have these types.
abbrev pub operands_in : List Entry → List (List ValType) → List OperandType
operands_in [] runs = []
operands_in (Known t ∷ entries) runs = operand.Known t ∷ operands_in entries runs
operands_in (Unknown ∷ entries) runs = operand.Unknown ∷ operands_in entries runs
operands_in (Run ∷ entries) [] = operands_in entries []
operands_in (Run ∷ entries) (run ∷ runs) = known run ++ operands_in entries runs

-- The number of runs among entries.
abbrev pub runs_in : List Entry → ℕ
runs_in [] = 0
runs_in (Known t ∷ entries) = runs_in entries
runs_in (Unknown ∷ entries) = runs_in entries
runs_in (Run ∷ entries) = 1 + runs_in entries

-- The number of types of all runs.
abbrev pub types_in : List (List ValType) → ℕ
types_in [] = 0
types_in (run ∷ runs) = length run + types_in runs

-- The entries have these runs, none of which is empty, and there are that many more operands than entries.
pub record AreEntries (entries : List Entry) (runs : List (List ValType)) (more : ℕ) : Type 0 where
  pub each : runs_in entries ≡ length runs
  pub some : All (λ (run : List ValType). 0 < length run) runs
  pub types : types_in runs ≡ length runs + more
  pub few : more ≤ 2 ^ 62

-- The topmost entry is a run.
abbrev pub IsRunOnTop : List Entry → Type 0
IsRunOnTop entries = (below : List Entry) × (entries ≡ below ++ Run ∷ [])

-- The entries of operands of these types, one each.
abbrev pub each_of : List ValType → List Entry
each_of types = map Known types

-- The topmost operands have these types.
abbrev pub EndIn : List OperandType → List ValType → Type 0
EndIn operands types = (rest : List OperandType) × (operands ≡ rest ++ known types)

-- The same above a height.
abbrev pub EndsWith : (height : ℕ) → List OperandType → List ValType → Type 0
EndsWith height operands types = (rest : List OperandType) × (operands ≡ rest ++ known types)
    × (height ≤ length rest)

-- The last entries are operands of these types, one each.
abbrev pub EndEach : List Entry → List ValType → Type 0
EndEach entries types = (below : List Entry) × (entries ≡ below ++ each_of types)
