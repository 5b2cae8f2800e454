-- Texts that are written.
use Rattle.std.proofs.Common.{◌≡◌, ◌∙◌, ◌++◌, ℕ, List, [], Option, Some, None, IfSome, false, refl, ap, sym, append-nil, append_assoc}
use Rattle.std.specs.Prelude.{IsSomeAnd}
use Rattle.std.specs.Io.KnownBytes.{Appends}
use Rattle.module_info.specs.Lines.{Tells, says_valid}
use Rattle.module_info.specs.declared.descriptions.Verdict.TheVariants.{Refused, OutOfMemory}

-- One text is written after another.
pub appends-then : (a b c : Option (List ℕ)) (xs ys : List ℕ) → Appends a b xs → Appends b c ys → Appends a c (xs ++ ys)
appends-then None b c xs ys first second = tt
appends-then (Some x) None c xs ys first second = absurd first
appends-then (Some x) (Some y) None xs ys first second = absurd second
appends-then (Some x) (Some y) (Some z) xs ys first second = second ∙ ap (λ t. t ++ ys) first ∙ append_assoc x xs ys

appends-nothing : (a : Option (List ℕ)) → Appends a a []
appends-nothing None = tt
appends-nothing (Some x) = sym (append-nil x)

-- Nothing is written if memory ran out.
pub nothing-told : (a : Option (List ℕ)) → Tells a a OutOfMemory
nothing-told a = ([], refl, appends-nothing a)

-- A refusal is written.
pub refusal-told : (o : Option (List ℕ)) (a b : Option (List ℕ)) → IsSomeAnd o (λ text. says_valid text ≡ false) → IfSome o (Appends a b) → Tells a b Refused
refusal-told None a b known appends = absurd known
refusal-told (Some text) a b known appends = (text, known, appends)
