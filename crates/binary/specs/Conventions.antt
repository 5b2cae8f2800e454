-- Reading functions, and ways to combine them.
use Rattle.std.specs.Prelude.{Err, List, None, Ok, Option, Result, Some, ℕ, ◌≡◌}
use Rattle.binary.specs.Errors.{OnRefused}
use Rattle.binary.specs.declared.errors.DecodeError.{DecodeError}

-- A reader returns the value and leaves the rest, or refuses if there is no value, unless it runs out of memory.
abbrev pub Gives : {V : Type 0} → Result V DecodeError → List ℕ → Option (V × List ℕ) → Type 0
Gives (Ok v) rest read = read ≡ Some (v, rest)
Gives (Err error) rest read = OnRefused error (read ≡ None)

-- The same, if the value is seen by a view.
abbrev pub GivesSeen : {X V : Type 0}
    → (X → V) → Result X DecodeError → List ℕ → Option (V × List ℕ) → Type 0
GivesSeen view (Ok x) rest read = read ≡ Some (view x, rest)
GivesSeen view (Err error) rest read = OnRefused error (read ≡ None)

-- The same, if there is a value. If there is none, nothing was read.
abbrev pub GivesIfSome : {V : Type 0}
    → Result (Option V) DecodeError → (bytes rest : List ℕ) → Option (V × List ℕ) → Type 0
GivesIfSome (Ok (Some v)) bytes rest read = read ≡ Some (v, rest)
GivesIfSome (Ok None) bytes rest read = rest ≡ bytes
GivesIfSome (Err error) bytes rest read = OnRefused error (read ≡ None)
