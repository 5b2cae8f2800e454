-- The text that is written about bytes.
use Rattle.std.specs.Prelude.{◌≡◌, ℕ, List, [], Bool, true, false, Option, codes, nat_eq}
use Rattle.std.specs.Io.KnownBytes.{Appends}
use Rattle.std.specs.List.{starts_with}
use Rattle.module_info.specs.declared.descriptions.Verdict.{Verdict}
use Rattle.module_info.specs.declared.descriptions.Verdict.TheVariants.{Valid, Refused, OutOfMemory}

-- A text begins with the word for a valid module.
abbrev pub says_valid : (text : List ℕ) → Bool
says_valid text = starts_with nat_eq text (codes "valid")

-- The text begins with `valid` for a valid module, and for nothing else. It is empty if memory ran out.
abbrev pub IsTextOf : (text : List ℕ) → Verdict → Type 0
IsTextOf text Valid = says_valid text ≡ true
IsTextOf text Refused = says_valid text ≡ false
IsTextOf text OutOfMemory = text ≡ []

-- Such a text is written. What is written is unspecified if the contents of the writer are unknown.
abbrev pub Tells : (old new : Option (List ℕ)) → Verdict → Type 0
Tells old new verdict = (text : List ℕ) × IsTextOf text verdict × Appends old new text
