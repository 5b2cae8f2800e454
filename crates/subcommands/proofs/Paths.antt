-- Paths that are split at their last slash.
use Rattle.std.proofs.Common.{◌≡◌, ◌∙◌, ◌++◌, ℕ, List, ◌∷◌, None, ap, sym, take, drop, take-append-drop, arith}
use Rattle.std.specs.Str.Pattern.{RFindsChar, SplitsAroundMatch}
use Rattle.std.proofs.lemmas.Str.Pattern.{NoCharPasses-char, drop_at_char}
use Rattle.subcommands.specs.Files.{IsBeside, in_folder, in_no_folder}

-- The path has no slash to split at.
pub uncut : (path name beside : List ℕ) → RFindsChar 47 path None → beside ≡ name → IsBeside path name beside
uncut path name beside none is = in_no_folder (λ i inside. NoCharPasses-char 47 path i none (omega arith) inside) is

-- The path is split at its last slash.
pub cut : (path name beside folder rest : List ℕ) → SplitsAroundMatch (RFindsChar 47) path folder rest → beside ≡ folder ++ (47 ∷ name) → IsBeside path name beside
cut path name beside folder rest (i, j, (none, at), front, back, order, width, remains) is =
    in_folder folder rest
    (sym (take-append-drop i path) ∙ ap (λ t. take i path ++ t) (drop_at_char 47 path i j at (omega arith)) ∙ ap (λ t. t ++ (47 ∷ drop j path)) (sym front) ∙ ap (λ t. folder ++ (47 ∷ t)) (sym back))
    (λ k inside. NoCharPasses-char 47 rest k (rw back none) (omega arith) inside)
    is
