-- Numbers on the command line.
use Rattle.std.specs.Prelude.{◌≡◌, ℕ, List, Option, Some, None, IsSomeAnd}
use Rattle.std.specs.Str.Parse.{IsNumeral, digits_value}
use Rattle.command_line.specs.Depths.{IsDepth}

-- A text of one or more decimal digits represents this number.
abbrev pub Writes : (text : List ℕ) → (n : ℕ) → Type 0
Writes text n = IsNumeral 10 text × (n ≡ digits_value 10 text)

-- The number of an option is the one that its text represents, or none without the option.
abbrev pub IsNumberOf : (text : Option (List ℕ)) → (given : Option ℕ) → Type 0
IsNumberOf None given = given ≡ None
IsNumberOf (Some text) given = IsSomeAnd given (Writes text)

-- The fuel is the number of the option, or 1,000,000,000 without it.
abbrev pub IsFuel : (text : Option (List ℕ)) → (fuel : ℕ) → Type 0
IsFuel None fuel = fuel ≡ 1_000_000_000
IsFuel (Some text) fuel = Writes text fuel

-- The depth bound is the number of the option, which is in range, or 1,024 without it.
abbrev pub IsBound : (text : Option (List ℕ)) → (depth : ℕ) → Type 0
IsBound None depth = depth ≡ 1024
IsBound (Some text) depth = Writes text depth × IsDepth depth
