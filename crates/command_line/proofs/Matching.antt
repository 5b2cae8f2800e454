-- Values that are found in matches.
use Rattle.std.proofs.Common.{◌≡◌, ◌∙◌, sym, refl, map, List, Option, Some, None, ℕ}
use Rattle.std.specs.Prelude.{IfSome, option_map, unwrap_or}
use Rattle.std.specs.Borrow.{Bor}
use Rattle.clap.proofs.WalkLemmas.{first_value-rows, raw_values-rows}
use Rattle.clap.specs.Words.{Row, Text, all_of, first_of, first_value, matched_of, raw_values, rows_of, subcommand_name_of, subcommand_rows_of}
use Rattle.clap.specs.declared.parser.matches.ArgMatches.{ArgMatches}
use Rattle.clap.specs.declared.parser.matches.ArgMatches.TheViews.{out-ArgMatches}
use Rattle.clap.specs.declared.parser.matches.Found.{Found}
use Rattle.command_line.specs.Depths.{IsDepth}
use Rattle.command_line.specs.Numbers.{IsBound, IsFuel, IsNumberOf}

-- The value of the argument with this name.
pub word-found : (f : Found) (name : Text) (word : Option (Bor Text)) → option_map (λ s. s.now) word ≡ first_value f name
    → first_of name (rows_of f) ≡ option_map (λ s. s.now) word
word-found f name word found = sym (found ∙ first_value-rows f name)

-- All values of the argument with this name.
pub words-found : (f : Found) (name : Text) (words : Option (Bor (List (Bor Text)))) → option_map (λ s. map (λ v. v.now) s.now) words ≡ option_map raw_values (matched_of f name)
    → all_of name (rows_of f) ≡ option_map (λ s. map (λ v. v.now) s.now) words
words-found f name words found = sym (found ∙ raw_values-rows f name)

some-injective : {X : Type 0} {x y : X} → Some x ≡ Some y → x ≡ y
some-injective same = cc

pairs : {X A B : Type 0} (o : Option X) (f : X → A) (g : X → B) (a : A) (b : B) → option_map f o ≡ Some a
    → option_map (λ (p : A × B). p.1) (option_map {U = A × B} (λ x. (f x, g x)) o) ≡ Some b → option_map {U = A × B} (λ x. (f x, g x)) o ≡ Some (a, b)
pairs None f g a b first second = cc
pairs (Some x) f g a b first second = cc

-- The subcommand that was given, with its matches.
pub entered : (m : ArgMatches) (name : Text) (rows : List Row) → subcommand_name_of m ≡ Some name
    → option_map (λ p. p.1) (subcommand_rows_of m) ≡ Some rows → subcommand_rows_of m ≡ Some (name, rows)
entered m name rows named found = pairs (out-ArgMatches m).subcommand _ _ name rows named found

-- The fuel that the number of an option sets.
pub fuel-given : (text : Option Text) (given : Option ℕ) → IsNumberOf text given → IsFuel text (unwrap_or given 1_000_000_000)
fuel-given None given none = rw none refl
fuel-given (Some text) None number = absurd number
fuel-given (Some text) (Some n) number = number

-- The depth bound that the number of an option sets.
pub depth-given : (text : Option Text) (given : Option ℕ) (depth : ℕ) → IsNumberOf text given → (given ≡ None → Some depth ≡ Some 1024)
    → IfSome given (λ n. (depth ≡ n) × IsDepth n) → IsBound text depth
depth-given None given depth none default named = some-injective (default none)
depth-given (Some text) None depth number default named = absurd number
depth-given (Some text) (Some n) depth number default named = ((number.0, named.0 ∙ number.1), rw named.0 named.1)
