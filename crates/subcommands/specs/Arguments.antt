-- Arguments of a function, from the command line.
use Rattle.std.specs.Prelude.{◌≡◌, ℕ, List, Some, None, codes}
use Rattle.std.specs.Borrow.{Bor}
use Rattle.std.specs.List.{AllZip}
use Rattle.command_line.specs.Numbers.{Writes}
use Rattle.core_types.specs.declared.outcome.Val.{Val}
use Rattle.core_types.specs.declared.outcome.Val.TheVariants.{I32, I64, FuncRef, ExternRef}

-- A text represents this value: its number, or null. No text represents a reference to a function other than null.
abbrev pub IsArgument : (word : List ℕ) → Val → Type 0
IsArgument word (I32 number) = Writes word number
IsArgument word (I64 number) = Writes word number
IsArgument word (FuncRef None) = word ≡ codes "null"
IsArgument word (FuncRef (Some address)) = ⊥
IsArgument word (ExternRef None) = word ≡ codes "null"
IsArgument word (ExternRef (Some number)) = Writes word number

abbrev pub AreArguments : (words : List (Bor (List ℕ))) → List Val → Type 0
AreArguments words values = AllZip (λ (word : Bor (List ℕ)) value. IsArgument word.now value) words values
